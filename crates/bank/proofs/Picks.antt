-- The first bank that is ready, against its words.
use Rattle.std.proofs.Common.{◌≡◌, ℕ, zero, suc, ◌+◌, ◌-◌, ◌<◌, ◌≤◌, Bool, true, false, cond, List, [], ◌∷◌, map, length, get_or, set, Some, None, Option, sym, refl, ap, ◌∙◌, subst, arith, eqb-true}
use borrow.Author.Tests.{clash, eqb-false}
use Rattle.std.proofs.lemmas.List.{get_or-set_same, get_or-set_other}
use Rattle.std.specs.List.{position_from}
use Rattle.ring.specs.Rings.{head_of, tail_of}
use Rattle.bank.specs.Jobs.{Job, lowered, ready}
use Rattle.bank.specs.Rules.{answer_of, first_ready, take_from}
use Rattle.bank.specs.Laws.{Waits, Answered, Laws}

-- the first that is ready, as the library counts it
pub positioned : (b : ℕ) (banks : List (List Job)) → position_from ready b banks ≡ first_ready b banks
positioned b [] = refl
positioned b (jobs ∷ banks) = ap (cond (ready jobs) (Some b)) (positioned (b + 1) banks)

waits : (jobs : List Job) → ready jobs ≡ false → Waits jobs
waits [] h = tt
waits (j ∷ jobs) h = let some = eqb-false j.left 0 h in omega arith

-- counted from i, the bank that is found is ready, and those below it wait
pub record Found (i : ℕ) (banks : List (List Job)) (f : ℕ) : Type 0 where
  pub from : i ≤ f
  pub below : f < i + length banks
  pub is_ready : ready (get_or banks (f - i) []) ≡ true
  pub waiting : (k : ℕ) → k < f - i → Waits (get_or banks k [])

abbrev Seen : ℕ → List (List Job) → Option ℕ → Type 0
Seen i banks None = (b : ℕ) → Waits (get_or banks b [])
Seen i banks (Some f) = Found i banks f

waits_next : (jobs : List Job) (banks : List (List Job)) (n : ℕ) → Waits jobs → ((k : ℕ) → k < n → Waits (get_or banks k [])) → (k : ℕ) → k < suc n → Waits (get_or (jobs ∷ banks) k [])
waits_next jobs banks n w all zero h = w
waits_next jobs banks n w all (suc k) h = all k (omega arith)

all_wait : (jobs : List Job) (banks : List (List Job)) → Waits jobs → ((b : ℕ) → Waits (get_or banks b [])) → (b : ℕ) → Waits (get_or (jobs ∷ banks) b [])
all_wait jobs banks w all zero = w
all_wait jobs banks w all (suc b) = all b

seen_next : (i : ℕ) (jobs : List Job) (banks : List (List Job)) (r : Option ℕ) → Waits jobs → Seen (i + 1) banks r → Seen i (jobs ∷ banks) r
seen_next i jobs banks None w s = all_wait jobs banks w s
seen_next i jobs banks (Some f) w s =
    let back : f - i ≡ suc (f - (i + 1)) = omega (arith, s.from) in
    record {
      from = omega (arith, s.from);
      below = omega (arith, s.below);
      is_ready = ap (λ n. ready (get_or (jobs ∷ banks) n [])) back ∙ s.is_ready;
      waiting = λ k h. waits_next jobs banks (f - (i + 1)) w s.waiting k (omega arith);
    }

seen_one : (i : ℕ) (jobs : List Job) (banks : List (List Job)) (v : Bool) → ready jobs ≡ v → Seen (i + 1) banks (first_ready (i + 1) banks) → Seen i (jobs ∷ banks) (cond v (Some i) (first_ready (i + 1) banks))
seen_one i jobs banks true told rest =
    let z : i - i ≡ 0 = omega arith in
    record { from = omega arith; below = omega arith; is_ready = ap (λ n. ready (get_or (jobs ∷ banks) n [])) z ∙ told; waiting = λ k h. absurd (omega arith) }
seen_one i jobs banks false told rest = seen_next i jobs banks (first_ready (i + 1) banks) (waits jobs told) rest

seen : (i : ℕ) (banks : List (List Job)) → Seen i banks (first_ready i banks)
seen i [] = λ b. tt
seen i (jobs ∷ banks) = seen_one i jobs banks (ready jobs) refl (seen (i + 1) banks)

pub seen_some : (banks : List (List Job)) (f : ℕ) → Some f ≡ first_ready 0 banks → Found 0 banks f
seen_some banks f is = subst (Seen 0 banks) (sym is) (seen 0 banks)

-- a bank that is ready has an oldest job, with no work left
pub oldest_ready : (jobs : List Job) → ready jobs ≡ true → (j : Job) × (jobs ≡ j ∷ tail_of jobs) × (j.left ≡ 0)
oldest_ready [] h = absurd (clash h)
oldest_ready (j ∷ jobs) h = (j, refl, eqb-true j.left 0 h)

answered : (banks : List (List Job)) (r : Option ℕ) → Seen 0 banks r → Answered banks (take_from banks r).0 (take_from banks r).1
answered banks None s = (s, refl)
answered banks (Some f) s =
    let whole : f - 0 ≡ f = omega arith in
    let jobs = get_or banks f [] in
    let first = oldest_ready jobs (ap (λ n. ready (get_or banks n [])) (sym whole) ∙ s.is_ready) in
    let below : f < length banks = omega (arith, s.below) in
    let rest = get_or-set_same banks f (tail_of jobs) [] below in
    let answer : answer_of (head_of jobs) ≡ Some (first.0.command.ticket, 0) = ap (λ js. answer_of (head_of js)) first.1 in
    subst (λ a. Answered banks a (set banks f (tail_of jobs))) (sym answer) (f, first.0, first.2, refl, record { bank = first.1 ∙ ap (λ js. first.0 ∷ js) (sym rest); others = λ k d. get_or-set_other banks f k (tail_of jobs) [] d }, λ k h. s.waiting k (omega arith))

pub laws : Laws
laws = record { answers = λ banks. answered (map lowered banks) (first_ready 0 (map lowered banks)) (seen 0 (map lowered banks)); rounds = λ n. omega arith }
