-- Virtual time is the least start tag. Assumes nothing.
use Rattle.std.proofs.Common.{◌≡◌, ℕ, ◌<◌, ◌≤◌, List, [], ◌∷◌, ◌++◌, map, length, sym, refl, ◌∙◌, subst, ⊎_elim, arith}
use Rattle.std.specs.List.{ContainsAt as Has, flat_map, AllByRecursion}
use Rattle.std.proofs.ByRecursion.{has_append_right}
use Rattle.std.proofs.lemmas.List.{map-append}
use Rattle.std.proofs.lemmas.Bool.{cases_lt}
use Rattle.shares.specs.Events as share
use Rattle.lanes.specs.Lanes.{starts, least}
use Rattle.lanes.specs.declared.records.Request.{Request}
use Rattle.books.specs.Views.{state_of}
use Rattle.laws.specs.Steps.{request_of, waiting_of, TimeIsLeast}
use Rattle.laws.proofs.Clocks.{least_under, all_over}
use Rattle.laws.proofs.Sent.{books_fair_lem}

no_lead_lem : (ls : List (List Request)) (v : ℕ) → length (waiting_of ls) ≡ 0 → least v (starts ls) ≡ v
no_lead_lem [] v e = refl
no_lead_lem ([] ∷ ls) v e = no_lead_lem ls v e
no_lead_lem ((r ∷ rs) ∷ ls) v e = absurd (omega (arith, e))

attained : (v : ℕ) (ls : List (List Request)) → 0 < length (waiting_of ls) → (q : share.Request) × Has (waiting_of ls) q × (q.start ≡ least v (starts ls))
attained v [] h = absurd (omega (arith, h))
attained v ([] ∷ ls) h = attained v ls h
attained v ((r ∷ rs) ∷ ls) h =
    ⊎_elim
    (λ (later : least r.start (starts ls) < r.start).
    ⊎_elim
    (λ (some : 0 < length (waiting_of ls)).
    let p = attained r.start ls some in
    let all : map request_of (r ∷ rs) ++ waiting_of ls ≡ waiting_of ((r ∷ rs) ∷ ls) = sym (map-append request_of (r ∷ rs) (flat_map (λ w. w) ls)) in
    (p.0, subst (λ qs. Has qs p.0) all (has_append_right (map request_of (r ∷ rs)) (waiting_of ls) p.0 p.1), p.2 ∙ omega (arith, later)))
    (λ (none : length (waiting_of ls) ≤ 0). absurd (omega (arith, later, no_lead_lem ls r.start (omega (arith, none)))))
    (cases_lt 0 (length (waiting_of ls))))
    (λ (first : r.start ≤ least r.start (starts ls)). (request_of r, (0, omega arith, λ d. refl), omega (arith, first)))
    (cases_lt (least r.start (starts ls)) r.start)

pub time_is_least_lem : TimeIsLeast
time_is_least_lem b =
    let s = state_of b in
    record {
      least = all_over s.time s.lanes (subst (λ v. AllByRecursion (λ n. v ≤ n) (starts s.lanes)) b.sound.timely (least_under s.time (starts s.lanes))) (books_fair_lem b).3;
      attained = λ some. let p = attained s.time s.lanes some in (p.0, p.1, p.2 ∙ b.sound.timely);
    }
