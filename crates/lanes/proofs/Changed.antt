-- The leads of the lanes after one lane changes. Assumes nothing.
use Rattle.std.proofs.Common.{◌≡◌, ℕ, zero, suc, ◌+◌, ◌<◌, ◌≤◌, true, false, cond, eqb, ltb, List, [], ◌∷◌, length, get_or, set, Some, None, sum_by, Option, sym, refl, ap, ◌∙◌, subst, ⊎_elim, arith}
use Rattle.std.specs.Option.{option_to_list}
use Rattle.std.proofs.lemmas.List.{length-append, length-map, length-set}
use Rattle.std.proofs.lemmas.List.Sums.{sum_by-cons, sum_by-append}
use Rattle.std.proofs.lemmas.Bool.{and_parts, both_ways, cases_eq, cond_both, cond-false, cond-true, eq-eqb, eqb-true, ltb-false, ltb-true, ne_eqb, or_cases, or_left}
use Rattle.heap.specs.Sorting.{head_of, insert, upto}
use Rattle.lanes.specs.Leads.{OldLead, Updates}
use Rattle.lanes.specs.Records.{by_start, lane_is}
use Rattle.lanes.specs.Waits.{goes_first, lanes_in, lead_at, leads_from, Tied, waits}
use Rattle.lanes.specs.declared.lane.Lane.{Lane}
use Rattle.lanes.specs.declared.records.Lead.{Lead}
use Rattle.lanes.specs.declared.records.Request.{Request}
use Rattle.lanes.proofs.Gathers.{count_length}

-- lane k + i changes
from_set : (g : Lead → ℕ) (k i : ℕ) (ls : List (List Request)) (w : List Request) → i < length ls → sum_by g (leads_from k (set ls i w)) + sum_by g (lead_at (k + i) (get_or ls i [])) ≡ sum_by g (leads_from k ls) + sum_by g (lead_at (k + i) w)
from_set g k i [] w l = absurd (omega (arith, l))
from_set g k zero (v ∷ ls) w l =
    let here : k + zero ≡ k = omega arith in
    omega (arith, sum_by-append g (lead_at k w) (leads_from (suc k) ls), sum_by-append g (lead_at k v) (leads_from (suc k) ls), ap (λ j. sum_by g (lead_at j v)) here, ap (λ j. sum_by g (lead_at j w)) here)
from_set g k (suc i) (v ∷ ls) w l =
    let on : k + suc i ≡ suc k + i = omega arith in
    omega (arith, from_set g (suc k) i ls w (omega (arith, l)), sum_by-append g (lead_at k v) (leads_from (suc k) (set ls i w)), sum_by-append g (lead_at k v) (leads_from (suc k) ls), ap (λ j. sum_by g (lead_at j (get_or ls i []))) on, ap (λ j. sum_by g (lead_at j w)) on)

-- what counts leads of lane k + i only
module _ (g : Lead → ℕ) where
  none_at : (j : ℕ) (w : List Request) → ((l : Lead) → l.lane ≡ j → g l ≡ 0) → sum_by g (lead_at j w) ≡ 0
  none_at j [] z = refl
  none_at j (r ∷ rs) z = omega (arith, sum_by-cons g (record { start = r.start; lane = j }) [], z (record { start = r.start; lane = j }) refl)

  none_from : (k t : ℕ) (ls : List (List Request)) → t < k → ((l : Lead) → (l.lane ≡ t → ⊥) → g l ≡ 0) → sum_by g (leads_from k ls) ≡ 0
  none_from k t [] b z = refl
  none_from k t (w ∷ ls) b z = omega (arith, sum_by-append g (lead_at k w) (leads_from (suc k) ls), none_at k w (λ l e. z l (λ f. omega (arith, e, f, b))), none_from (suc k) t ls (omega (arith, b)) z)

  only_at : (k i : ℕ) (ls : List (List Request)) → ((l : Lead) → (l.lane ≡ k + i → ⊥) → g l ≡ 0) → sum_by g (leads_from k ls) ≡ sum_by g (lead_at (k + i) (get_or ls i []))
  only_at k i [] z = refl
  only_at k zero (w ∷ ls) z =
      omega (arith, sum_by-append g (lead_at k w) (leads_from (suc k) ls), none_from (suc k) (k + zero) ls (omega arith) z, ap (λ j. sum_by g (lead_at j w)) {x = k + zero} {y = k} (omega arith))
  only_at k (suc i) (w ∷ ls) z =
      let on : k + suc i ≡ suc k + i = omega arith in
      omega (arith, sum_by-append g (lead_at k w) (leads_from (suc k) ls), none_at k w (λ l e. z l (λ f. omega (arith, e, f))), only_at (suc k) i ls (λ l f. z l (λ e. f (e ∙ on))), ap (λ j. sum_by g (lead_at j (get_or ls i []))) on)

lane_only : (i : ℕ) (l : Lead) → (l.lane ≡ i → ⊥) → lane_is i l ≡ 0
lane_only i l n = cond-false {A = ℕ} (eqb l.lane i) 1 0 (ne_eqb l.lane i n)

lane_one : (i : ℕ) (l : Lead) → l.lane ≡ i → lane_is i l ≡ 1
lane_one i l e = cond-true {A = ℕ} (eqb l.lane i) 1 0 (eq-eqb l.lane i e)

-- 1 for a lead of lane i whose start is not s
astray : ℕ → ℕ → Lead → ℕ
astray i s l = cond (eqb l.lane i) (cond (eqb l.start s) 0 1) 0

-- the old lead that was found is that of the lane
old_is : (held : List Lead) (ls : List (List Request)) (i : ℕ) (old : Option Lead) → Tied held ls → OldLead i held old → option_to_list old ≡ lead_at i (get_or ls i [])
unfolding astray
old_is held ls i old t h = go (get_or ls i []) old h (λ g z. t g ∙ only_at g 0 i ls (λ l n. z l (λ e. n (e ∙ at))) ∙ ap (λ j. sum_by g (lead_at j (get_or ls i []))) (sym at))
  where
    at : i ≡ 0 + i
    at = omega arith

    go : (w : List Request) (old : Option Lead) → OldLead i held old → ((g : Lead → ℕ) → ((l : Lead) → (l.lane ≡ i → ⊥) → g l ≡ 0) → sum_by g held ≡ sum_by g (lead_at i w)) → option_to_list old ≡ lead_at i w
    go [] None h s = refl
    go [] (Some y) h s = absurd (omega (arith, s (lane_is i) (lane_only i), h.1 (lane_is i), lane_one i y h.0))
    go (r ∷ rs) None h s = absurd (omega (arith, s (lane_is i) (lane_only i), h, sum_by-cons (lane_is i) (record { start = r.start; lane = i }) [], lane_one i (record { start = r.start; lane = i }) refl))
    go (r ∷ rs) (Some y) h s =
        let z : Lead = record { start = r.start; lane = i } in
        let none : astray i r.start z ≡ 0 = cond-true {A = ℕ} (eqb i i) _ 0 (eq-eqb i i refl) ∙ cond-true {A = ℕ} (eqb r.start r.start) 0 1 (eq-eqb r.start r.start refl) in
        let only = s (astray i r.start) (λ l n. cond-false {A = ℕ} (eqb l.lane i) _ 0 (ne_eqb l.lane i n)) in
        let start : y.start ≡ r.start = ⊎_elim (λ e. e)
        (λ n. absurd (omega (arith, only, h.1 (astray i r.start), sum_by-cons (astray i r.start) z [], none, cond-true {A = ℕ} (eqb y.lane i) (cond (eqb y.start r.start) 0 1) 0 (eq-eqb y.lane i h.0), cond-false {A = ℕ} (eqb y.start r.start) 0 1 (ne_eqb y.start r.start n))))
        (cases_eq y.start r.start) in
        λ j. record { start = start j; lane = h.0 j } ∷ []

-- a lane changes, and the leads with it
pub tied_update : (held held' : List Lead) (ls : List (List Request)) (i : ℕ) (w : List Request) (new : Option Lead) → i < length ls → Tied held ls → Updates i new held held' → option_to_list new ≡ lead_at i w → Tied held' (set ls i w)
tied_update held held' ls i w new l t u e g =
    let at : i ≡ 0 + i = omega arith in
    let changed : sum_by g (leads_from 0 (set ls i w)) + sum_by g (lead_at i (get_or ls i [])) ≡ sum_by g (leads_from 0 ls) + sum_by g (lead_at i w) = subst (λ j. sum_by g (leads_from 0 (set ls i w)) + sum_by g (lead_at j (get_or ls i [])) ≡ sum_by g (leads_from 0 ls) + sum_by g (lead_at j w)) (sym at) (from_set g 0 i ls w l) in
    omega (arith, changed, t g, u.2 g, ap (sum_by g) e, ap (sum_by g) (old_is held ls i u.0 t u.1))

-- a lane changes, and its lead stays
pub tied_same : (held : List Lead) (ls : List (List Request)) (i : ℕ) (w : List Request) → i < length ls → Tied held ls → lead_at i (get_or ls i []) ≡ lead_at i w → Tied held (set ls i w)
tied_same held ls i w l t e g =
    let at : i ≡ 0 + i = omega arith in
    let changed : sum_by g (leads_from 0 (set ls i w)) + sum_by g (lead_at i (get_or ls i [])) ≡ sum_by g (leads_from 0 ls) + sum_by g (lead_at i w) = subst (λ j. sum_by g (leads_from 0 (set ls i w)) + sum_by g (lead_at j (get_or ls i [])) ≡ sum_by g (leads_from 0 ls) + sum_by g (lead_at j w)) (sym at) (from_set g 0 i ls w l) in
    omega (arith, changed, t g, ap (sum_by g) e)

-- fewer leads than lanes, where a lane has none
length_at : (j : ℕ) (w : List Request) → length (lead_at j w) ≤ 1
length_at j [] = omega arith
length_at j (r ∷ rs) = omega arith

length_from : (k : ℕ) (ls : List (List Request)) → length (leads_from k ls) ≤ length ls
length_from k [] = omega arith
length_from k (w ∷ ls) = omega (arith, length-append (lead_at k w) (leads_from (suc k) ls), length_at k w, length_from (suc k) ls)

fewer : (k i : ℕ) (ls : List (List Request)) → i < length ls → get_or ls i [] ≡ [] → length (leads_from k ls) < length ls
fewer k i [] l e = absurd (omega (arith, l))
fewer k zero (w ∷ ls) l e = omega (arith, length-append (lead_at k w) (leads_from (suc k) ls), ap (λ v. length (lead_at k v)) e, length_from (suc k) ls)
fewer k (suc i) (w ∷ ls) l e = omega (arith, length-append (lead_at k w) (leads_from (suc k) ls), length_at k w, fewer (suc k) i ls (omega (arith, l)) e)

-- a lane that has no lead among the leads held leaves room for it
pub tied_room : (held : List Lead) (ls : List (List Request)) (i : ℕ) → i < length ls → Tied held ls → sum_by (lane_is i) held ≡ 0 → length held < length ls
tied_room held ls i l t z = omega (arith, sym (count_length held) ∙ t (λ _. 1) ∙ count_length (leads_from 0 ls), fewer 0 i ls l (empty (get_or ls i []) (old_is held ls i None t z)))
  where
    empty : (w : List Request) → [] ≡ lead_at i w → w ≡ []
    empty [] e = refl
    empty (r ∷ rs) e = absurd (omega (arith, ap length e))

-- ---- a push and a pop

lead_head : (i : ℕ) (w : List Request) → lead_at i (option_to_list (head_of w)) ≡ lead_at i w
lead_head i [] = refl
lead_head i (r ∷ rs) = refl

-- x starts first, and is the lead
pub lead_new : (i : ℕ) (x : Request) (w : List Request) → true ≡ goes_first x.start (head_of w) → record { start = x.start; lane = i } ∷ [] ≡ lead_at i (insert by_start x w)
lead_new i x [] e = refl
lead_new i x (y ∷ ys) e = sym (ap (lead_at i) (cond-true (upto (by_start x) (by_start y)) (x ∷ y ∷ ys) (y ∷ insert by_start x ys) (or_left (ltb x.start y.start) _ (sym e))))

-- x does not start first, and the lead's start tag stays
pub lead_stays : (i : ℕ) (x : Request) (w : List Request) → false ≡ goes_first x.start (head_of w) → lead_at i w ≡ lead_at i (insert by_start x w)
lead_stays i x [] e = absurd (both_ways true (sym e) refl)
lead_stays i x (y ∷ ys) e = cond_both (upto (by_start x) (by_start y)) (x ∷ y ∷ ys) (y ∷ insert by_start x ys) (λ v. lead_at i (y ∷ ys) ≡ lead_at i v)
    (λ u. let low : x.start ≤ y.start = ⊎_elim (λ l. omega (arith, ltb-true x.start y.start l)) (λ k. omega (arith, eqb-true x.start y.start (and_parts _ _ k).0)) (or_cases (ltb x.start y.start) _ u) in
    let same : y.start ≡ x.start = omega (arith, low, ltb-false x.start y.start (sym e)) in λ j. record { start = same j; lane = i } ∷ [])
    (λ _. refl)

-- what the eight lanes keep, as their ghost fields say
abbrev pub Kept : List Lane → List Lead → Type 0
Kept ls held = (length ls ≡ 8) × Tied held (lanes_in ls)

as_long : (ls ls' : List Lane) (i : ℕ) (w : List Request) → length ls ≡ 8 → lanes_in ls' ≡ set (lanes_in ls) i w → length ls' ≡ 8
as_long ls ls' i w e s = omega (arith, length-map ls waits, length-map ls' waits, ap length s, length-set (lanes_in ls) i w)

module _ (ls : List Lane) (held : List Lead) (eight : length ls ≡ 8) (tied : Tied held (lanes_in ls)) (i : ℕ) (there : i < 8) where
  inside : i < length (lanes_in ls)
  inside = omega (arith, length-map ls waits)

  -- room for the lead of a lane that has none
  pub keeps_room : sum_by (lane_is i) held ≡ 0 → length held < 8
  keeps_room z = omega (arith, tied_room held (lanes_in ls) i inside tied z, length-map ls waits)

  pub keeps_refused : (ls' : List Lane) → lanes_in ls' ≡ lanes_in ls → Kept ls' held
  keeps_refused ls' s = (omega (arith, length-map ls waits, length-map ls' waits, ap length s), subst (Tied held) (sym s) tied)

  pub keeps_push : (ls' : List Lane) (held' : List Lead) (x : Request) (first : Option Request) (new : Option Lead) → lanes_in ls' ≡ set (lanes_in ls) i (insert by_start x (get_or (lanes_in ls) i [])) → first ≡ head_of (get_or (lanes_in ls) i []) → true ≡ goes_first x.start first → option_to_list new ≡ record { start = x.start; lane = i } ∷ [] → Updates i new held held' → Kept ls' held'
  keeps_push ls' held' x first new s f t e u =
      let w = insert by_start x (get_or (lanes_in ls) i []) in
      (as_long ls ls' i w eight s, subst (Tied held') (sym s) (tied_update held held' (lanes_in ls) i w new inside tied u (e ∙ lead_new i x (get_or (lanes_in ls) i []) (t ∙ ap (goes_first x.start) f))))

  pub keeps_behind : (ls' : List Lane) (x : Request) (first : Option Request) → lanes_in ls' ≡ set (lanes_in ls) i (insert by_start x (get_or (lanes_in ls) i [])) → first ≡ head_of (get_or (lanes_in ls) i []) → false ≡ goes_first x.start first → Kept ls' held
  keeps_behind ls' x first s f t =
      let w = insert by_start x (get_or (lanes_in ls) i []) in
      (as_long ls ls' i w eight s, subst (Tied held) (sym s) (tied_same held (lanes_in ls) i w inside tied (lead_stays i x (get_or (lanes_in ls) i []) (t ∙ ap (goes_first x.start) f))))

  pub keeps_pop : (ls' : List Lane) (held' : List Lead) (rest : List Request) (next : Option Request) (new : Option Lead) → lanes_in ls' ≡ set (lanes_in ls) i rest → next ≡ head_of rest → option_to_list new ≡ lead_at i (option_to_list next) → Updates i new held held' → Kept ls' held'
  keeps_pop ls' held' rest next new s f e u =
      (as_long ls ls' i rest eight s, subst (Tied held') (sym s) (tied_update held held' (lanes_in ls) i rest new inside tied u (e ∙ ap (λ o. lead_at i (option_to_list o)) f ∙ lead_head i rest)))
