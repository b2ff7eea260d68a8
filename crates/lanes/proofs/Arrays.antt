-- What a lane of the eight has, and what a change of one leaves. Assumes nothing.
use Rattle.std.proofs.Common.{◌≡◌, ℕ, zero, suc, ◌<◌, Bool, true, false, cond, List, [], ◌∷◌, replicate, length, get_or, set, Some, None, Option, sym, refl, ap, ◌∙◌, arith}
use Rattle.std.proofs.lemmas.List.{get_or-map, map-set, set-get_or}
use Rattle.heap.specs.Sorting.{insert, Pops}
use Rattle.lanes.specs.Records.{by_start}
use Rattle.lanes.specs.Waits.{waits, lanes_in, PopsAt}
use Rattle.lanes.specs.declared.lane.Lane.{Lane}
use Rattle.lanes.specs.declared.records.Request.{Request}

pub lane_at_lem : (ls : List Lane) (i : ℕ) (d : Lane) → i < length ls → get_or (lanes_in ls) i [] ≡ waits (get_or ls i d)
lane_at_lem ls i d l = get_or-map waits ls i d [] l

pub lane_set : (ls : List Lane) (i : ℕ) (l : Lane) (w : List Request) → waits l ≡ w → lanes_in (set ls i l) ≡ set (lanes_in ls) i w
lane_set ls i l w e = map-set waits ls i l ∙ ap (set (lanes_in ls) i) e

pub pushes_at : (ls : List Lane) (i : ℕ) (d l : Lane) (x : Request) (r : Bool) → i < length ls → waits l ≡ cond r (insert by_start x (waits (get_or ls i d))) (waits (get_or ls i d)) → lanes_in (set ls i l) ≡ cond r (set (lanes_in ls) i (insert by_start x (get_or (lanes_in ls) i []))) (lanes_in ls)
pushes_at ls i d l x true b h = lane_set ls i l (insert by_start x (get_or (lanes_in ls) i [])) (h ∙ ap (insert by_start x) (sym (lane_at_lem ls i d b)))
pushes_at ls i d l x false b h = lane_set ls i l (get_or (lanes_in ls) i []) (h ∙ sym (lane_at_lem ls i d b)) ∙ set-get_or (lanes_in ls) i []

pub pops_at : (ls : List Lane) (i : ℕ) (d l : Lane) (r : Option Request) → i < length ls → Pops (waits (get_or ls i d)) r (waits l) → PopsAt i (lanes_in ls) r (lanes_in (set ls i l))
pops_at ls i d l None b h = (lane_at_lem ls i d b ∙ h.0, lane_set ls i l (get_or (lanes_in ls) i []) (h.1 ∙ sym (lane_at_lem ls i d b ∙ h.0)) ∙ set-get_or (lanes_in ls) i [])
pops_at ls i d l (Some x) b h = (waits l, lane_at_lem ls i d b ∙ h, lane_set ls i l (waits l) refl)

-- eight lanes in which nothing waits
pub none_wait : (n : ℕ) (ls : List Lane) → length ls ≡ n → ((i : ℕ) (d : Lane) → i < n → waits (get_or ls i d) ≡ []) → lanes_in ls ≡ replicate n []
none_wait zero [] e h = refl
none_wait zero (l ∷ ls) e h = absurd (omega (arith, e))
none_wait (suc n) [] e h = absurd (omega (arith, e))
none_wait (suc n) (l ∷ ls) e h = λ k. h 0 l (omega arith) k ∷ none_wait n ls (omega (arith, e)) (λ i d b. h (suc i) d (omega (arith, b))) k
