-- The leads after one of them changes, from the heap's answers. Assumes nothing.
use Rattle.std.proofs.Common.{◌≡◌, ℕ, ◌+◌, ◌<◌, Bool, true, false, eqb, List, ◌∷◌, length, get_or, Some, None, sum_by, Option, sym, ap, ◌∙◌, arith}
use Rattle.std.specs.List.{position}
use Rattle.std.specs.Option.{option_to_list}
use Rattle.std.proofs.lemmas.List.Quantifiers.{position-Some}
use Rattle.std.proofs.lemmas.List.Sorted.{sum_by-IsPermutation}
use Rattle.std.proofs.lemmas.List.Sums.{get_or-le-sum_by, sum_by-cons}
use Rattle.std.proofs.lemmas.Bool.{eqb-true}
use Rattle.heap.specs.Fixed.{Enters, Leaves, Swaps}
use Rattle.lanes.specs.Leads.{Updates}
use Rattle.lanes.specs.Records.{lane_is, no_lead}
use Rattle.lanes.specs.declared.records.Lead.{Lead}
use Rattle.lanes.proofs.Removed.{absent}

-- r is what a search for the lead of the lane found
module _ (lane : ℕ) (xs ys : List Lead) (r : Option ℕ) (new : Option Lead) (place : r ≡ position (λ (x : Lead). eqb x.lane lane) xs) where
  abbrev is_lane : Lead → Bool
  is_lane x = eqb x.lane lane

  pub entered : (x : Lead) (b : Bool) → r ≡ None → new ≡ Some x → (sum_by (lane_is lane) xs ≡ 0 → length xs < 8) → Enters 8 xs x b ys → Updates lane new xs ys
  entered x true n e room h = (None, absent is_lane xs (sym place ∙ n), λ g. omega (arith, sum_by-IsPermutation g (x ∷ xs) ys h.1, sum_by-cons g x xs, ap (λ o. sum_by g (option_to_list o)) e))
  entered x false n e room h = absurd (omega (arith, room (absent is_lane xs (sym place ∙ n)), h.0))

  pub stayed : r ≡ None → new ≡ None → ys ≡ xs → Updates lane new xs ys
  stayed n e s = (None, absent is_lane xs (sym place ∙ n), λ g. omega (arith, ap (sum_by g) s, ap (λ o. sum_by g (option_to_list o)) e))

  pub replaced : (at : ℕ) (x : Lead) (q : Option Lead) → r ≡ Some at → new ≡ Some x → Swaps xs at x q ys → Updates lane new xs ys
  replaced at x q n e h =
      let found = position-Some is_lane xs at no_lead (sym place ∙ n) in
      (Some (get_or xs at no_lead), (eqb-true _ lane found.1, λ g. get_or-le-sum_by g xs at no_lead found.0), λ g. go q h found.0 g)
    where
      go : (q : Option Lead) → Swaps xs at x q ys → at < length xs → (g : Lead → ℕ) → sum_by g ys + sum_by g (option_to_list (Some (get_or xs at no_lead))) ≡ sum_by g xs + sum_by g (option_to_list new)
      go None t l g = absurd (omega (arith, l, t.0))
      go (Some y) t l g = omega (arith, sum_by-IsPermutation g (x ∷ xs) (y ∷ ys) t.2, sum_by-cons g x xs, sum_by-cons g y ys, ap g (t.0 no_lead), ap (λ o. sum_by g (option_to_list o)) e)

  pub removed : (upto : Lead → Lead → Bool) (at : ℕ) (q : Option Lead) → r ≡ Some at → new ≡ None → Leaves upto xs at q ys → Updates lane new xs ys
  removed upto at q n e h =
      let found = position-Some is_lane xs at no_lead (sym place ∙ n) in
      (Some (get_or xs at no_lead), (eqb-true _ lane found.1, λ g. get_or-le-sum_by g xs at no_lead found.0), λ g. go q h found.0 g)
    where
      go : (q : Option Lead) → Leaves upto xs at q ys → at < length xs → (g : Lead → ℕ) → sum_by g ys + sum_by g (option_to_list (Some (get_or xs at no_lead))) ≡ sum_by g xs + sum_by g (option_to_list new)
      go None t l g = absurd (omega (arith, l, t.0))
      go (Some y) t l g = omega (arith, sum_by-IsPermutation g xs (y ∷ ys) t.2, sum_by-cons g y ys, ap g (t.0 no_lead), ap (λ o. sum_by g (option_to_list o)) e)
