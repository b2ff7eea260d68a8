-- A byte by its bits, and the ready lanes by theirs. Assumes nothing.
use Rattle.std.proofs.Common.{◌≡◌, ℕ, ◌+◌, ◌*◌, ◌/◌, ◌%◌, ◌^◌, ◌<◌, Bool, true, false, cond, eqb, List, [], ◌∷◌, length, filter, refl, arith}
use Rattle.std.proofs.lemmas.Bool.{eqb-true, eqb-false, cond_both, cond-true, cond-false}
use Rattle.near.specs.Lanes.{members}
use Rattle.books.specs.Model.{State, ready, eight, ready_bits, ready_rule}

-- a bit, by the test that it is 1
bit_is : (m : ℕ) (b : Bool) → m < 2 → eqb m 1 ≡ b → m ≡ cond b 1 0
bit_is m true l e = eqb-true m 1 e
bit_is m false l e = omega (arith, l, eqb-false m 1 e)

scaled : (w : ℕ) (b : Bool) → cond b w 0 ≡ cond b 1 0 * w
scaled w true = omega arith
scaled w false = omega arith

whole : (n : ℕ) → n < 256 → n ≡ n / 1 % 2 + (n / 2 % 2 * 2 + (n / 4 % 2 * 4 + (n / 8 % 2 * 8 + (n / 16 % 2 * 16 + (n / 32 % 2 * 32 + (n / 64 % 2 * 64 + n / 128 % 2 * 128))))))
whole n l = omega arith

ones : (ℕ → Bool) → List ℕ → ℕ
ones p [] = 0
ones p (k ∷ ks) = cond (p k) 1 0 + ones p ks

counted : (p : ℕ → Bool) (ks : List ℕ) → length (filter p ks) ≡ ones p ks
unfolding ones
counted p [] = refl
counted p (k ∷ ks) = cond_both (p k) (k ∷ filter p ks) (filter p ks) (λ w. length w ≡ cond (p k) 1 0 + ones p ks) (λ t. omega (arith, counted p ks, cond-true {A = ℕ} (p k) 1 0 t)) (λ f. omega (arith, counted p ks, cond-false {A = ℕ} (p k) 1 0 f))

pub ready_bits_lem : (s : State) (n m : ℕ) → n < 256 → ((k : ℕ) → k < 8 → eqb (n / 2 ^ k % 2) 1 ≡ ready s k) → m ≡ members n 8 → ◌≡◌ {A = ℕ × ℕ} (n, m) (ready_rule s)
unfolding ones
ready_bits_lem s n m l bits number =
    let e₀ = bit_is (n / 1 % 2) (ready s 0) (omega arith) (bits 0 (omega arith)) in
    let e₁ = bit_is (n / 2 % 2) (ready s 1) (omega arith) (bits 1 (omega arith)) in
    let e₂ = bit_is (n / 4 % 2) (ready s 2) (omega arith) (bits 2 (omega arith)) in
    let e₃ = bit_is (n / 8 % 2) (ready s 3) (omega arith) (bits 3 (omega arith)) in
    let e₄ = bit_is (n / 16 % 2) (ready s 4) (omega arith) (bits 4 (omega arith)) in
    let e₅ = bit_is (n / 32 % 2) (ready s 5) (omega arith) (bits 5 (omega arith)) in
    let e₆ = bit_is (n / 64 % 2) (ready s 6) (omega arith) (bits 6 (omega arith)) in
    let e₇ = bit_is (n / 128 % 2) (ready s 7) (omega arith) (bits 7 (omega arith)) in
    let value : n ≡ ready_bits s eight = omega (arith, whole n l, e₀, e₁, e₂, e₃, e₄, e₅, e₆, e₇, scaled 1 (ready s 0), scaled 2 (ready s 1), scaled 4 (ready s 2), scaled 8 (ready s 3), scaled 16 (ready s 4), scaled 32 (ready s 5), scaled 64 (ready s 6), scaled 128 (ready s 7)) in
    let count : m ≡ length (filter (ready s) eight) = omega (arith, number, counted (ready s) eight, e₀, e₁, e₂, e₃, e₄, e₅, e₆, e₇) in
    λ i. (value i, count i)
