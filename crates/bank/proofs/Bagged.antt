-- The commands of several banks together: where a ticket can be, one command more or less, and how many they are.
use Rattle.std.proofs.Common.{◌≡◌, ℕ, zero, suc, ◌-◌, ◌%◌, ◌<◌, ◌≤◌, Bool, true, false, ◌||◌, eqb, List, [], ◌∷◌, ◌++◌, map, length, get_or, set, Some, Ok, Err, sym, refl, ap, ◌∙◌, subst, ⊎_elim, arith, lt-ltb, ne_eqb}
use borrow.Author.Tests.{clash}
use Rattle.std.proofs.lemmas.List.{length-append, length-map, get_or-set_same, get_or-set_other, map_push}
use Rattle.std.proofs.lemmas.Bool.{cases_eq, or_from}
use Rattle.card.specs.declared.Command.{Command}
use Rattle.card.specs.declared.CardFault.TheVariants.{HeldAlready}
use Rattle.card.specs.Commands.{among, More}
use Rattle.card.proofs.Bags.{among-append, Plus, here, plus_end, plus_before, plus_after, more_plus}
use Rattle.ring.specs.Rings.{head_of, tail_of}
use Rattle.bank.proofs.Picks.{oldest_ready, seen_some}
use Rattle.bank.specs.Jobs.{Job, fresh, commands_in, commands_all, lowered, ready}
use Rattle.bank.specs.Rules.{Placed, put_in, first_ready, answer_of, submit_rule}

-- what every bank card keeps
pub record Sound (banks : List (List Job)) (count : ℕ) : Type 0 where
  pub four : length banks ≡ 4
  pub counted : count ≡ length (commands_all banks)
  pub placed : Placed banks

-- a ticket that is in no bank is not among all
among_nowhere : (t : ℕ) (banks : List (List Job)) → ((k : ℕ) → among t (commands_in (get_or banks k [])) ≡ false) → among t (commands_all banks) ≡ false
among_nowhere t [] no_bank = refl
among_nowhere t (jobs ∷ banks) no_bank = among-append t (commands_in jobs) (commands_all banks) ∙ or_from (among t (commands_in jobs)) (among t (commands_all banks)) (no_bank 0) (among_nowhere t banks (λ k. no_bank (suc k)))

or_false_end : (a b : Bool) → b ≡ false → (a || b) ≡ a
or_false_end true b h = refl
or_false_end false b h = h

-- a ticket that can be in one bank only is among all where it is in that bank
pub among_only : (t : ℕ) (banks : List (List Job)) (b : ℕ) → b < length banks → ((k : ℕ) → (k ≡ b → ⊥) → among t (commands_in (get_or banks k [])) ≡ false) → among t (commands_all banks) ≡ among t (commands_in (get_or banks b []))
among_only t [] b h others = absurd (omega arith)
among_only t (jobs ∷ banks) zero h others = among-append t (commands_in jobs) (commands_all banks) ∙ or_false_end (among t (commands_in jobs)) (among t (commands_all banks)) (among_nowhere t banks (λ k. others (suc k) (λ e. omega arith)))
among_only t (jobs ∷ banks) (suc b) h others = among-append t (commands_in jobs) (commands_all banks) ∙ ap (λ v. v || among t (commands_all banks)) (others 0 (λ e. omega arith)) ∙ among_only t banks b (omega arith) (λ k d. others (suc k) (λ e. d (omega arith)))

pub among_placed : (t : ℕ) (banks : List (List Job)) → length banks ≡ 4 → Placed banks → among t (commands_all banks) ≡ among t (commands_in (get_or banks (t % 4) []))
among_placed t banks four placed = among_only t banks (t % 4) (omega arith) (λ k d. placed k t (λ e. d (sym e)))

-- one command more in a bank is one more among all
pub plus_at : (c : Command) (banks : List (List Job)) (b : ℕ) (jobs : List Job) → b < length banks → Plus c (commands_in (get_or banks b [])) (commands_in jobs) → Plus c (commands_all banks) (commands_all (set banks b jobs))
plus_at c [] b jobs h p = absurd (omega arith)
plus_at c (x ∷ banks) zero jobs h p = plus_after (commands_all banks) p
plus_at c (x ∷ banks) (suc b) jobs h p = plus_before (commands_in x) (plus_at c banks b jobs (omega arith) p)

-- one command less in a bank is one less among all
pub minus_at : (c : Command) (banks : List (List Job)) (b : ℕ) (jobs : List Job) → b < length banks → Plus c (commands_in jobs) (commands_in (get_or banks b [])) → Plus c (commands_all (set banks b jobs)) (commands_all banks)
minus_at c [] b jobs h p = absurd (omega arith)
minus_at c (x ∷ banks) zero jobs h p = plus_after (commands_all banks) p
minus_at c (x ∷ banks) (suc b) jobs h p = plus_before (commands_in x) (minus_at c banks b jobs (omega arith) p)

-- a bank has no more commands than all
pub bank_le : (banks : List (List Job)) (b : ℕ) → length (get_or banks b []) ≤ length (commands_all banks)
bank_le [] b = omega arith
bank_le (x ∷ banks) zero = let n = length-append (commands_in x) (commands_all banks) in let m = length-map x (λ (j : Job). j.command) in omega arith
bank_le (x ∷ banks) (suc b) = let n = length-append (commands_in x) (commands_all banks) in let m = bank_le banks b in omega arith

-- Putting a command in.

pub more_put : (banks : List (List Job)) (b : ℕ) (c : Command) → b < length banks → More c (commands_all banks) (commands_all (put_in banks b (fresh c)))
more_put banks b c h =
    let jobs = get_or banks b [] in
    more_plus (plus_at c banks b (jobs ++ fresh c ∷ []) h (subst (λ cs. Plus c (commands_in jobs) cs) (sym (map_push (λ (j : Job). j.command) jobs (fresh c))) (plus_end c (commands_in jobs))))

pub placed_put : (banks : List (List Job)) (c : Command) → length banks ≡ 4 → Placed banks → Placed (put_in banks (c.ticket % 4) (fresh c))
placed_put banks c four placed k u other =
    let b = c.ticket % 4 in
    let jobs = get_or banks b [] in
    ⊎_elim
    (λ (e : k ≡ b).
    let at : get_or (put_in banks b (fresh c)) k [] ≡ jobs ++ fresh c ∷ [] = ap (λ i. get_or (put_in banks b (fresh c)) i []) e ∙ get_or-set_same banks b (jobs ++ fresh c ∷ []) [] (omega arith) in
    let apart : eqb c.ticket u ≡ false = ne_eqb c.ticket u (λ s. other (sym (ap (λ v. v % 4) s) ∙ sym e)) in
    let old : among u (commands_in jobs) ≡ false = placed b u (λ s. other (s ∙ sym e)) in
    ap (λ js. among u (commands_in js)) at ∙ ap (among u) (map_push (λ (j : Job). j.command) jobs (fresh c)) ∙ among-append u (commands_in jobs) (c ∷ []) ∙ or_from (among u (commands_in jobs)) (eqb c.ticket u || false) old (or_from (eqb c.ticket u) false apart refl))
    (λ (d : k ≡ b → ⊥). ap (λ js. among u (commands_in js)) (get_or-set_other banks b k (jobs ++ fresh c ∷ []) [] d) ∙ placed k u other)
    (cases_eq k b)

-- Lowering.

commands_lowered : (jobs : List Job) → commands_in (lowered jobs) ≡ commands_in jobs
commands_lowered [] = refl
commands_lowered (j ∷ jobs) = refl

pub all_lowered : (banks : List (List Job)) → commands_all (map lowered banks) ≡ commands_all banks
all_lowered [] = refl
all_lowered (jobs ∷ banks) = rw (commands_lowered jobs, all_lowered banks)

at_lowered : (banks : List (List Job)) (k : ℕ) → get_or (map lowered banks) k [] ≡ lowered (get_or banks k [])
at_lowered [] k = refl
at_lowered (jobs ∷ banks) zero = refl
at_lowered (jobs ∷ banks) (suc k) = at_lowered banks k

pub placed_lowered : (banks : List (List Job)) → Placed banks → Placed (map lowered banks)
placed_lowered banks placed k u other = ap (λ js. among u (commands_in js)) (at_lowered banks k) ∙ ap (among u) (commands_lowered (get_or banks k [])) ∙ placed k u other

-- Taking the oldest command of a bank out.

-- the oldest job of the bank that is found, and what it leaves
pub record Taken (banks : List (List Job)) (f : ℕ) : Type 0 where
  pub oldest : Job
  pub below : f < length banks
  pub answers : answer_of (head_of (get_or banks f [])) ≡ Some (oldest.command.ticket, 0)
  pub more : More oldest.command (commands_all (set banks f (tail_of (get_or banks f [])))) (commands_all banks)

pub taken : (banks : List (List Job)) (f : ℕ) → Some f ≡ first_ready 0 banks → Taken banks f
taken banks f is =
    let found = seen_some banks f is in
    let whole : f - 0 ≡ f = omega arith in
    let jobs = get_or banks f [] in
    let some = oldest_ready jobs (ap (λ i. ready (get_or banks i [])) (sym whole) ∙ found.is_ready) in
    let below : f < length banks = omega (arith, found.below) in
    record {
      oldest = some.0;
      below = below;
      answers = ap (λ js. answer_of (head_of js)) some.1;
      more = more_plus (minus_at some.0.command banks f (tail_of jobs) below (subst (λ js. Plus some.0.command (commands_in (tail_of jobs)) (commands_in js)) (sym some.1) here));
    }

among_tail : (u : ℕ) (jobs : List Job) → among u (commands_in jobs) ≡ false → among u (commands_in (tail_of jobs)) ≡ false
among_tail u [] h = h
among_tail u (j ∷ jobs) h = rest (eqb j.command.ticket u) (among u (commands_in jobs)) h
  where
    rest : (a b : Bool) → (a || b) ≡ false → b ≡ false
    rest true b e = absurd (clash (sym e))
    rest false b e = e

pub placed_taken : (banks : List (List Job)) (f : ℕ) → f < length banks → Placed banks → Placed (set banks f (tail_of (get_or banks f [])))
placed_taken banks f below placed k u other =
    let jobs = get_or banks f [] in
    ⊎_elim
    (λ (e : k ≡ f). ap (λ i. among u (commands_in (get_or (set banks f (tail_of jobs)) i []))) e ∙ ap (λ js. among u (commands_in js)) (get_or-set_same banks f (tail_of jobs) [] below) ∙ among_tail u jobs (placed f u (λ s. other (s ∙ sym e))))
    (λ (d : k ≡ f → ⊥). ap (λ js. among u (commands_in js)) (get_or-set_other banks f k (tail_of jobs) [] d) ∙ placed k u other)
    (cases_eq k f)

-- What the rules come to, by what is known of the tests.

pub submit_held : (banks : List (List Job)) (c : Command) → length (commands_all banks) < 32 → among c.ticket (commands_all banks) ≡ true → submit_rule banks c ≡ (Err HeldAlready, banks)
submit_held banks c room held = rw (lt-ltb (length (commands_all banks)) 32 room, held)

pub submit_put : (banks : List (List Job)) (c : Command) → length (commands_all banks) < 32 → among c.ticket (commands_all banks) ≡ false → submit_rule banks c ≡ (Ok tt, put_in banks (c.ticket % 4) (fresh c))
submit_put banks c room new = rw (lt-ltb (length (commands_all banks)) 32 room, new)
