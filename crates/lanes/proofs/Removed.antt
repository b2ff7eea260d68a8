-- A search by a number, and what a request that goes into the card or comes out of it leaves. Assumes nothing.
use Rattle.std.proofs.Common.{◌≡◌, ℕ, zero, suc, ◌+◌, ◌<◌, ◌≤◌, Bool, true, false, cond, eqb, ltb, not, List, [], ◌∷◌, ◌++◌, length, get_or, take, set, Some, None, Option, is_some, sum_by, sym, refl, ap, ◌∙◌, ⊎_elim, arith}
use Rattle.std.specs.List.{position, position_or_len}
use Rattle.std.proofs.lemmas.List.{get_or-take, length-take, length-take-le, take_more_set, take-set}
use Rattle.std.proofs.lemmas.List.Sorted.{IsPermutation-to_front}
use Rattle.std.proofs.lemmas.List.Sums.{sum_by-cons, sum_by_more, sum_by-set}
use Rattle.std.proofs.lemmas.Bool.{both_ways, cases_eq, cases_lt, cond-true, cond-false, eq-eqb, lt-ltb}
use Rattle.heap.specs.Sorting.{insert, sorted}
use Rattle.heap.proofs.Sorting.{length-sorted, Ordered-sorted, same_ordered, sorted-IsPermutation, sum_by-sorted}
use Rattle.lanes.specs.Records.{by_ticket, ticket_is}
use Rattle.lanes.specs.Table.{Removes}
use Rattle.lanes.specs.declared.records.Request.{Request}
use Rattle.lanes.proofs.Held.{told_by_ticket}

module _ {X : Type 0} (p : X → Bool) where
  all_passed : (xs : List X) → length xs ≤ position_or_len p xs → sum_by (λ x. cond (p x) 1 0) xs ≡ 0
  all_passed [] l = refl
  all_passed (x ∷ xs) l = go (p x) refl (all_passed xs)
    where
      go : (b : Bool) → p x ≡ b → (length xs ≤ position_or_len p xs → sum_by (λ x. cond (p x) 1 0) xs ≡ 0) → sum_by (λ x. cond (p x) 1 0) (x ∷ xs) ≡ 0
      go true e rest = absurd (omega (arith, l, ap (λ b. cond (not b) (1 + position_or_len p xs) 0) e))
      go false e rest = omega (arith, sum_by-cons (λ x. cond (p x) 1 0) x xs, cond-false {A = ℕ} (p x) 1 0 e, rest (omega (arith, l, ap (λ b. cond (not b) (1 + position_or_len p xs) 0) e)))

  -- where a search finds none, there is none
  pub absent : (xs : List X) → position p xs ≡ None → sum_by (λ x. cond (p x) 1 0) xs ≡ 0
  absent xs e = ⊎_elim
      (λ l. absurd (both_ways _ (ap is_some e) (ap is_some (cond-true {A = Option ℕ} (ltb (position_or_len p xs) (length xs)) (Some (position_or_len p xs)) None (lt-ltb _ _ l)))))
      (λ l. all_passed xs l)
      (cases_lt (position_or_len p xs) (length xs))

-- as many are in order as are held
pub length_held : (xs : List Request) (n : ℕ) → length xs ≡ 32 → n ≤ 32 → length (sorted by_ticket (take n xs)) ≡ n
length_held xs n e l = omega (arith, length-sorted by_ticket (take n xs), length-take n xs)

pub stored : (xs : List Request) (n : ℕ) (x : Request) → n < length xs → sorted by_ticket (take (n + 1) (set xs n x)) ≡ insert by_ticket x (sorted by_ticket (take n xs))
stored xs n x l =
    ap (sorted by_ticket) (take_more_set xs n x l)
    ∙ sym (sorted-IsPermutation by_ticket told_by_ticket (take n xs ++ x ∷ []) (x ∷ take n xs) (IsPermutation-to_front (take n xs) x))

take-set_under : (m : ℕ) (xs : List Request) (i : ℕ) (a : Request) → i < m → take m (set xs i a) ≡ set (take m xs) i a
take-set_under zero xs i a l = absurd (omega (arith, l))
take-set_under (suc m) [] i a l = refl
take-set_under (suc m) (x ∷ xs) zero a l = refl
take-set_under (suc m) (x ∷ xs) (suc i) a l = ap (λ ys. x ∷ ys) (take-set_under m xs i a (omega (arith, l)))

-- the last in the place of the one at i
filled : (g : Request → ℕ) (xs : List Request) (n m i : ℕ) (d : Request) → n ≡ m + 1 → n ≤ length xs → i < n → sum_by g (take n xs) ≡ g (get_or xs i d) + sum_by g (take m (set xs i (get_or xs m d)))
filled g xs n m i d e l b =
    let y = get_or xs m d in
    let whole : sum_by g (take n xs) ≡ sum_by g (take m xs) + g y = ap (λ k. sum_by g (take k xs)) e ∙ sum_by_more g xs m d (omega arith) in
    ⊎_elim
    (λ (same : i ≡ m). omega (arith, whole, ap (λ k. g (get_or xs k d)) same, ap (sum_by g) (ap (λ k. take m (set xs k y)) same ∙ take-set xs m y)))
    (λ other. omega (arith, whole, ap (sum_by g) (take-set_under m xs i y (omega (arith, other))), sum_by-set g (take m xs) i y d (omega (arith, other, length-take-le m xs (omega arith))), ap g (get_or-take m xs i d (omega (arith, other)))))
    (cases_eq i m)

pub removes : (xs : List Request) (n m i t : ℕ) (d : Request) → n ≡ m + 1 → n ≤ length xs → i < n → (get_or xs i d).ticket ≡ t → Removes t (sorted by_ticket (take n xs)) (Some (get_or xs i d)) (sorted by_ticket (take m (set xs i (get_or xs m d))))
removes xs n m i t d e l b s =
    let x = get_or xs i d in
    let rest = take m (set xs i (get_or xs m d)) in
    let all : (g : Request → ℕ) → sum_by g (take n xs) ≡ g x + sum_by g rest = λ g. filled g xs n m i d e l b in (
      s,
      same_ordered by_ticket told_by_ticket (sorted by_ticket (take n xs)) (sorted by_ticket (x ∷ rest)) (Ordered-sorted by_ticket (take n xs)) (Ordered-sorted by_ticket (x ∷ rest))
          (λ g. omega (arith, sum_by-sorted by_ticket g (take n xs), all g, sum_by-sorted by_ticket g (x ∷ rest), sum_by-cons g x rest)),
      λ one. omega (arith, one, sum_by-sorted by_ticket (ticket_is t) (take n xs), sum_by-sorted by_ticket (ticket_is t) rest, all (ticket_is t), cond-true {A = ℕ} (eqb x.ticket t) 1 0 (eq-eqb x.ticket t s)),
    )
