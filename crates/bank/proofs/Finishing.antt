-- One finish of a bank card: the banks are lowered, and a job may be taken out.
use Rattle.std.proofs.Common.{◌≡◌, ℕ, ◌-◌, ◌≤◌, List, [], map, length, get_or, set, Some, None, Option, sym, ap, ◌∙◌, subst, arith, length-set}
use Rattle.std.proofs.lemmas.List.{get_or_default, length-map}
use Rattle.card.specs.Commands.{More, Same, Finished}
use Rattle.card.proofs.Bags.{more_length, same_refl}
use Rattle.ring.specs.Rings.{head_of, tail_of}
use Rattle.bank.specs.Jobs.{Job, commands_all, lowered}
use Rattle.bank.specs.Rules.{Placed, answer_of, first_ready, take_from, finish_rule}
use Rattle.bank.proofs.Bagged.{Sound, Taken, taken, all_lowered, placed_lowered, placed_taken}

-- what is promised of a finish that answers r and leaves the banks `after`
pub record Finishes (banks : List (List Job)) (r : Option (ℕ × ℕ)) (after : List (List Job)) : Type 0 where
  pub one : Finished (commands_all banks) r (commands_all after)
  pub answer : r ≡ (finish_rule banks).0
  pub left : after ≡ (finish_rule banks).1

pub sound_lowered : (banks low : List (List Job)) (count : ℕ) → Sound banks count → low ≡ map lowered banks → Sound low count
sound_lowered banks low count s is =
    record {
      four = ap length is ∙ length-map banks lowered ∙ s.four;
      counted = s.counted ∙ sym (ap (λ bs. length (commands_all bs)) is ∙ ap length (all_lowered banks));
      placed = subst Placed (sym is) (placed_lowered banks s.placed);
    }

-- no bank is ready
pub finds_none : (banks low : List (List Job)) → low ≡ map lowered banks → None ≡ first_ready 0 low → Finishes banks None low
finds_none banks low is none =
    let rule = ap (λ l. take_from l (first_ready 0 l)) (sym is) ∙ ap (take_from low) (sym none) in
    let same = subst (λ cs. Same (commands_all banks) cs) (sym (ap commands_all is ∙ all_lowered banks)) (same_refl (commands_all banks)) in
    record { one = same; answer = sym (ap (λ p. p.0) rule); left = sym (ap (λ p. p.1) rule) }

pub some_counted : (low : List (List Job)) (count f : ℕ) → Sound low count → Some f ≡ first_ready 0 low → 1 ≤ count
some_counted low count f s is =
    let t = taken low f is in
    omega (arith, s.counted, more_length t.oldest.command (commands_all (set low f (tail_of (get_or low f [])))) (commands_all low) t.more)

sound_taken : (low : List (List Job)) (count f : ℕ) → Sound low count → Taken low f → Sound (set low f (tail_of (get_or low f []))) (count - 1)
sound_taken low count f s t =
    let rest = set low f (tail_of (get_or low f [])) in
    let fewer = more_length t.oldest.command (commands_all rest) (commands_all low) t.more in
    record {
      four = simp length-set s.four;
      counted = omega (arith, s.counted, fewer);
      placed = placed_taken low f t.below s.placed;
    }

-- bank f is ready, and answers r and has `jobs` left
pub finds_one : (banks low : List (List Job)) (count f : ℕ) (d : List Job) (r : Option (ℕ × ℕ)) (jobs : List Job) → low ≡ map lowered banks → Sound low count → Some f ≡ first_ready 0 low → r ≡ answer_of (head_of (get_or low f d)) → jobs ≡ tail_of (get_or low f d) → Finishes banks r (set low f jobs) × Sound (set low f jobs) (count - 1)
finds_one banks low count f d r jobs is s some answers rest =
    let t = taken low f some in
    let here = get_or_default low f d [] t.below in
    let answer : r ≡ answer_of (head_of (get_or low f [])) = answers ∙ ap (λ js. answer_of (head_of js)) here in
    let left : jobs ≡ tail_of (get_or low f []) = rest ∙ ap tail_of here in
    let c = t.oldest.command in
    let after = set low f (tail_of (get_or low f [])) in
    let rule = ap (λ l. take_from l (first_ready 0 l)) (sym is) ∙ ap (take_from low) (sym some) in
    let gone : More c (commands_all after) (commands_all banks) = subst (λ cs. More c (commands_all after) cs) (ap commands_all is ∙ all_lowered banks) t.more in
    let one = subst (λ a. Finished (commands_all banks) a (commands_all after)) (sym (answer ∙ t.answers)) (c.sectors, gone) in
    subst (λ js. Finishes banks r (set low f js) × Sound (set low f js) (count - 1)) (sym left)
    (record { one = one; answer = answer ∙ sym (ap (λ p. p.0) rule); left = sym (ap (λ p. p.1) rule) }, sound_taken low count f s t)
