-- The nearest ready lane by its bits is the first of the ready lanes in order. Assumes nothing.
use Rattle.std.proofs.Common.{◌≡◌, ℕ, zero, suc, ◌+◌, ◌*◌, ◌/◌, ◌%◌, ◌^◌, ◌<◌, ◌≤◌, min, Bool, true, false, cond, ◌&&◌, ◌||◌, eqb, ltb, ◌⊎◌, List, [], ◌∷◌, length, get_or, Some, None, sum_by, filter, sym, refl, ap, ◌∙◌, subst, inl, inr, ⊎_elim, w8, arith}
use lib.Bits.{bit_or}
use Rattle.std.specs.List.{AllByRecursion}
use Rattle.std.proofs.lemmas.List.Sums.{sum_by-cons}
use Rattle.std.proofs.lemmas.Bool.{cases_Bool, cases_lt, cases_eq, cond-true, cond-false, cond_both, both_ways, or_left, or_right, and_from, lt-ltb, eq-eqb, eqb-true, le-leb}
use Rattle.heap.specs.Sorting.{upto, sorted}
use Rattle.heap.proofs.Sorting.{First, Ordered, upto_either, upto_alike, Ordered-sorted, AllByRecursion-sorted, sum_by-sorted, length-sorted, none_before}
use Rattle.near.specs.Lanes.{distance, table, In, Nearest}
use Rattle.std.specs.Int.{bit_at}
use Rattle.std.proofs.lemmas.Nat.Bits.{bit_at-zero, bit_at_set_same, bit_at_set_other}
use Rattle.lanes.specs.Lanes.{head_of, starts, least}
use Rattle.books.specs.Model.{State, lane_at, time_of, ready, ready_with, ready_lanes, eight}
use Rattle.lanes.specs.declared.records.Request.{Request}

pub all_kept : (p : ℕ → Bool) (P : ℕ → Type 0) (xs : List ℕ) → AllByRecursion (λ x. p x ≡ true → P x) xs → AllByRecursion P (filter p xs)
all_kept p P [] h = tt
all_kept p P (x ∷ xs) h = cond_both (p x) (x ∷ filter p xs) (filter p xs) (AllByRecursion P) (λ t. (h.0 t, all_kept p P xs h.1)) (λ _. all_kept p P xs h.1)

none_kept : (p : ℕ → Bool) (xs : List ℕ) → AllByRecursion (λ x. p x ≡ false) xs → filter p xs ≡ []
none_kept p [] h = refl
none_kept p (x ∷ xs) h = cond-false (p x) _ _ h.0 ∙ none_kept p xs h.1

kept_le : (g : ℕ → ℕ) (p : ℕ → Bool) (xs : List ℕ) (i d : ℕ) → i < length xs → p (get_or xs i d) ≡ true → g (get_or xs i d) ≤ sum_by g (filter p xs)
kept_le g p [] i d l t = absurd (omega (arith, l))
kept_le g p (x ∷ xs) zero d l t = omega (arith, ap (sum_by g) (cond-true (p x) (x ∷ filter p xs) (filter p xs) t), sum_by-cons g x (filter p xs))
kept_le g p (x ∷ xs) (suc i) d l t =
    let rest = kept_le g p xs i d (omega (arith, l)) t in
    cond_both (p x) (x ∷ filter p xs) (filter p xs) (λ w. g (get_or xs i d) ≤ sum_by g w) (λ _. omega (arith, rest, sum_by-cons g x (filter p xs))) (λ _. rest)

itself : (k : ℕ) → k < 8 → get_or eight k 0 ≡ k
itself zero l = refl
itself (suc zero) l = refl
itself (suc (suc zero)) l = refl
itself (suc (suc (suc zero))) l = refl
itself (suc (suc (suc (suc zero)))) l = refl
itself (suc (suc (suc (suc (suc zero))))) l = refl
itself (suc (suc (suc (suc (suc (suc zero)))))) l = refl
itself (suc (suc (suc (suc (suc (suc (suc zero))))))) l = refl
itself (suc (suc (suc (suc (suc (suc (suc (suc k)))))))) l = absurd (omega (arith, l))

pub each : (P : ℕ → Type 0) → ((k : ℕ) → k < 8 → P k) → AllByRecursion P eight
each P h = (h 0 (omega arith), (h 1 (omega arith), (h 2 (omega arith), (h 3 (omega arith), (h 4 (omega arith), (h 5 (omega arith), (h 6 (omega arith), (h 7 (omega arith), tt))))))))

module _ (by : ℕ → List ℕ) (tell : (x y : ℕ) → by x ≡ by y → x ≡ y) where
  head_is : (k : ℕ) (w : List ℕ) → Ordered by w → AllByRecursion (First by k) w → ((g : ℕ → ℕ) → g k ≤ sum_by g w) → head_of w ≡ Some k
  head_is k [] o a h = absurd (omega (arith, h (λ _. 1)))
  head_is k (y ∷ ys) o a h =
      let g : ℕ → ℕ = λ z. cond (upto (by y) (by z)) 0 1 in
      let self : upto (by y) (by y) ≡ true = ⊎_elim (λ t. t) (λ n. upto_either (by y) (by y) n) (cases_Bool (upto (by y) (by y))) in
      let back : upto (by y) (by k) ≡ true = ⊎_elim (λ t. t) (λ f. absurd (omega (arith, h g, none_before by y (y ∷ ys) (self, o.0), cond-false {A = ℕ} (upto (by y) (by k)) 0 1 f))) (cases_Bool (upto (by y) (by k))) in
      ap Some (tell y k (upto_alike (by y) (by k) back a.0))

  first_kept : (p : ℕ → Bool) (k : ℕ) → k < 8 → p k ≡ true → ((j : ℕ) → j < 8 → p j ≡ true → First by k j) → head_of (sorted by (filter p eight)) ≡ Some k
  first_kept p k l t h =
      head_is k (sorted by (filter p eight)) (Ordered-sorted by (filter p eight)) (AllByRecursion-sorted by (First by k) (filter p eight) (all_kept p (First by k) eight (each (λ j. p j ≡ true → First by k j) h)))
      (λ g. omega (arith, sum_by-sorted by g (filter p eight), kept_le g p eight k 0 l (ap p (itself k l) ∙ t), ap g (itself k l)))

-- what the bits say
abbrev Bits : State → ℕ → Type 0
Bits s bits = (k : ℕ) → k < 8 → eqb (bits / 2 ^ k % 2) 1 ≡ ready s k

near_upto : (d e k j : ℕ) → d ≤ e → (j < k → d < e) → upto (d ∷ k ∷ []) (e ∷ j ∷ []) ≡ true
near_upto d e k j le first =
    ⊎_elim
    (λ l. or_left (ltb d e) (eqb d e && (ltb k j || (eqb k j && true))) (lt-ltb d e l))
    (λ g. or_right (ltb d e) (eqb d e && (ltb k j || (eqb k j && true))) (and_from (eqb d e) (ltb k j || (eqb k j && true)) (eq-eqb d e (omega (arith, le, g))) (⊎_elim
    (λ l. or_left (ltb k j) (eqb k j && true) (lt-ltb k j l))
    (λ m. or_right (ltb k j) (eqb k j && true) (and_from (eqb k j) true (eq-eqb k j (⊎_elim (λ b. absurd (omega (arith, first b, g))) (λ b. omega (arith, b, m)) (cases_lt j k))) refl))
    (cases_lt k j))))
    (cases_lt d e)

pub nearest_first : (s : State) (l bits k : ℕ) → Bits s bits → Nearest (get_or table l []) bits k → head_of (ready_lanes s l) ≡ Some k
nearest_first s l bits k b n =
    first_kept (λ j. distance l j ∷ j ∷ []) (λ x y e. ap (λ w. get_or w 1 0) e) (ready s) k n.within
    (sym (b k n.within) ∙ eq-eqb (bits / 2 ^ k % 2) 1 n.ready_k)
    (λ j m r. let i : In bits j = eqb-true (bits / 2 ^ j % 2) 1 (b j m ∙ r) in near_upto (distance l k) (distance l j) k j (n.none_nearer j m i) (λ c. n.first j c i))

pub none_ready : (s : State) (l bits : ℕ) → Bits s bits → bits ≡ 0 → ready_lanes s l ≡ []
none_ready s l bits b z =
    let no : (k : ℕ) → k < 8 → eqb (0 / 2 ^ k % 2) 1 ≡ false → ready s k ≡ false = λ k m e. sym (b k m) ∙ ap (λ v. eqb (v / 2 ^ k % 2) 1) z ∙ e in
    ap (sorted (λ k. distance l k ∷ k ∷ [])) (none_kept (ready s) eight
    (no 0 (omega arith) refl, (no 1 (omega arith) refl, (no 2 (omega arith) refl, (no 3 (omega arith) refl, (no 4 (omega arith) refl, (no 5 (omega arith) refl, (no 6 (omega arith) refl, (no 7 (omega arith) refl, tt)))))))))

-- a lane that is ready has a lead
pub ready_leads : (s : State) (k : ℕ) → ready s k ≡ true → None ≡ head_of (lane_at s k) → ⊥
ready_leads s k t e = go (lane_at s k) t e
  where
    go : (w : List Request) → ready_with s w ≡ true → None ≡ head_of w → ⊥
    go [] t e = both_ways false refl t
    go (x ∷ xs) t e = let z : ◌≡◌ {A = ℕ} 0 1 = cc in omega arith

-- ---- the bits one by one

-- the bits below n are those of the ready lanes, and no other is set
pub record Seen (s : State) (n bits : ℕ) : Type 0 where
  pub same : (k : ℕ) → k < n → eqb (bit_at bits k) 1 ≡ ready s k
  pub clear : (k : ℕ) → n ≤ k → k < 8 → bit_at bits k ≡ 0

pub seen_none : (s : State) → Seen s 0 0
seen_none s = record { same = λ k l. absurd (omega (arith, l)); clear = λ k g l. bit_at-zero k }

pub seen_more : (s : State) (n bits : ℕ) → n < 8 → ready s n ≡ true → Seen s n bits → Seen s (n + 1) (bit_or bits (1 * 2 ^ n % 256))
seen_more s n bits few t h =
    record {
      same = λ k l. ⊎_elim
          (λ (e : k ≡ n). ap (λ i. eqb (bit_at (bit_or bits (1 * 2 ^ n % 256)) i) 1) e ∙ eq-eqb _ 1 (bit_at_set_same w8 bits n few) ∙ sym t ∙ ap (ready s) (sym e))
          (λ ne. ap (λ v. eqb v 1) (bit_at_set_other w8 bits n few k ne) ∙ h.same k (omega (arith, l, ne)))
          (cases_eq k n);
      clear = λ k g l. bit_at_set_other w8 bits n few k (λ e. absurd (omega (arith, g, e))) ∙ h.clear k (omega (arith, g)) l;
    }

pub seen_pass : (s : State) (n bits : ℕ) → n < 8 → ready s n ≡ false → Seen s n bits → Seen s (n + 1) bits
seen_pass s n bits few f h =
    record {
      same = λ k l. ⊎_elim
          (λ (e : k ≡ n). ap (λ i. eqb (bit_at bits i) 1) e ∙ ap (λ v. eqb v 1) (h.clear n (omega arith) few) ∙ sym f ∙ ap (ready s) (sym e))
          (λ ne. h.same k (omega (arith, l, ne)))
          (cases_eq k n);
      clear = λ k g l. h.clear k (omega (arith, g)) l;
    }

-- ---- where anything waits, some lane is ready

-- the lead of lane k starts by t
By : ℕ → List Request → Type 0
By t [] = ⊥
By t (r ∷ rest) = r.start ≤ t

-- some lead has the least start tag
least_lane : (v : ℕ) (ls : List (List Request)) → 0 < length (starts ls) → (k : ℕ) × (k < length ls) × By (least v (starts ls)) (get_or ls k [])
unfolding By
least_lane v [] h = absurd (omega (arith, h))
least_lane v ([] ∷ ls) h = let p = least_lane v ls h in (suc p.0, omega (arith, p.1), p.2)
least_lane v ((r ∷ rs) ∷ ls) h = ⊎_elim
    (λ few. (0, omega arith, one (starts ls) few))
    (λ many. let p = least_lane r.start ls many in ⊎_elim
    (λ le. (0, omega arith, omega (arith, le)))
    (λ gt. (suc p.0, omega (arith, p.1), subst (λ t. By t (get_or ls p.0 [])) (omega (arith, gt)) p.2))
    (cases_le r.start (least r.start (starts ls))))
    (cases_lt_one (length (starts ls)))
  where
    one : (ns : List ℕ) → length ns ≡ 0 → r.start ≤ min r.start (least r.start ns)
    one [] e = omega arith
    one (n ∷ ns) e = absurd (omega (arith, e))

    cases_le : (a b : ℕ) → (a ≤ b) ⊎ (b < a)
    cases_le a b = ⊎_elim (λ l. inr l) (λ l. inl l) (cases_lt b a)

    cases_lt_one : (n : ℕ) → (n ≡ 0) ⊎ (0 < n)
    cases_lt_one n = ⊎_elim (λ l. inl (omega (arith, l))) (λ l. inr (omega (arith, l))) (cases_lt n 1)

by_ready : (s : State) (w : List Request) → By s.time w → ready_with s w ≡ true
unfolding By
by_ready s [] h = absurd h
by_ready s (r ∷ rest) h = le-leb r.start (s.time + s.sheet.threshold) (omega (arith, h))

pub some_ready : (s : State) (l : ℕ) → length s.lanes ≡ 8 → time_of s s.lanes ≡ s.time → 0 < length (starts s.lanes) → 0 < length (ready_lanes s l)
some_ready s l shaped timely some =
    let p = least_lane s.time s.lanes some in
    let k8 : p.0 < 8 = omega (arith, p.1, shaped) in
    let is : ready s p.0 ≡ true = by_ready s (lane_at s p.0) (subst (λ t. By t (lane_at s p.0)) timely p.2) in
    let ones = kept_le (λ _. 1) (ready s) eight p.0 0 k8 (ap (ready s) (itself p.0 k8) ∙ is) in
    omega (arith, ones, length-sorted (λ k. distance l k ∷ k ∷ []) (filter (ready s) eight), counted (filter (ready s) eight))
  where
    counted : (ks : List ℕ) → sum_by (λ _. 1) ks ≡ length ks
    counted [] = refl
    counted (j ∷ js) = omega (arith, sum_by-cons (λ _. 1) j js, counted js)
