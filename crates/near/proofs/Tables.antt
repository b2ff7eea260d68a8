-- A test that is computed over the whole table, and what it says of each entry. Assumes nothing.
use Rattle.std.proofs.Common.{◌≡◌, ℕ, zero, suc, ◌<◌, Bool, true, ◌&&◌, eqb, sym, refl, subst, ⊎_elim, arith}
use Rattle.std.proofs.lemmas.Bool.{and_parts, eqb-true, cases_eq}
use Rattle.near.specs.Lanes.{distance, apart, Distances}

-- each number below n passes
below : ℕ → (ℕ → Bool) → Bool
below zero p = true
below (suc n) p = p n && below n p

below_at : (n : ℕ) (p : ℕ → Bool) (k : ℕ) → below n p ≡ true → k < n → p k ≡ true
unfolding below
below_at zero p k t l = absurd (omega (arith, l))
below_at (suc n) p k t l =
    let parts = and_parts (p n) (below n p) t in
    ⊎_elim (λ (e : k ≡ n). subst (λ j. p j ≡ true) (sym e) parts.0) (λ ne. below_at n p k parts.1 (omega (arith, l, ne))) (cases_eq k n)

right : below 8 (λ l. below 8 (λ k. eqb (distance l k) (apart l k))) ≡ true
unfolding below
right = refl

pub distances : Distances
distances l k a b = eqb-true (distance l k) (apart l k) (below_at 8 (λ j. eqb (distance l j) (apart l j)) k (below_at 8 (λ i. below 8 (λ j. eqb (distance i j) (apart i j))) l right a) b)
