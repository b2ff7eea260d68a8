-- The laws of the charge. `omega` takes a product of two variables as an unknown, so each product comes with its own law.
use Rattle.std.proofs.Common.{◌≡◌, ℕ, ◌+◌, ◌*◌, ◌/◌, ◌%◌, ◌<◌, ◌≤◌, min, ap, ⊎_elim, mul-le-mul_right, suc-mul, add-mul, mul-le-mul_left, div-add-mod', mul-one, arith}
use Rattle.std.proofs.lemmas.Nat.{mod_below}
use Rattle.std.proofs.lemmas.Bool.{cases_lt}
use Rattle.charge.specs.Charge.{rounded_up, charge_of, RoundsUp, Laws}

-- the rounded quotient times the divisor lies between n and n + d
between : (n d : ℕ) → 1 ≤ d → (n ≤ rounded_up n d * d) × (rounded_up n d * d < n + d)
unfolding rounded_up
between n d h =
    let e = div-add-mod' n d in
    let m = mod_below n d h in
    let a = add-mul (n / d) (min 1 (n % d)) d in
    ⊎_elim
    (λ z.
    let k : min 1 (n % d) ≡ 0 = omega arith in
    let t = ap (λ x. x * d) k in
    (omega arith, omega arith))
    (λ p.
    let k : min 1 (n % d) ≡ 1 = omega arith in
    let t = ap (λ x. x * d) k in
    (omega arith, omega arith))
    (cases_lt (n % d) 1)

-- what lies so is the least that reaches n
least_from : (n d r : ℕ) → r * d < n + d → (s : ℕ) → n ≤ s * d → r ≤ s
least_from n d r below s h = ⊎_elim (λ k. absurd (omega (arith, mul-le-mul_right d k, suc-mul s d))) (λ k. k) (cases_lt s r)

up : (n d : ℕ) → 1 ≤ d → RoundsUp n d (rounded_up n d)
up n d h = let b = between n d h in record { reaches = b.0; least = least_from n d (rounded_up n d) b.1 }

-- what is rounded up from more is no less
mono : (m n d r s : ℕ) → m ≤ n → RoundsUp m d r → RoundsUp n d s → r ≤ s
mono m n d r s h u v = u.least s (omega (arith, v.reaches))

some : (n d r : ℕ) → 1 ≤ n → RoundsUp n d r → 1 ≤ r
some n d r h u = ⊎_elim (λ k. let z : r ≡ 0 = omega arith in absurd (omega (arith, u.reaches, ap (λ x. x * d) z))) (λ k. k) (cases_lt r 1)

-- the quotient is no more than what is divided
most : (n d r : ℕ) → 1 ≤ d → RoundsUp n d r → r ≤ n
most n d r h u = u.least n (omega (arith, mul-le-mul_left n h, mul-one n))

pub laws : Laws
unfolding charge_of
laws =
    record {
      rounds = λ sectors weight h. up (840 * sectors) weight h;
      only = λ n d r s u v. omega (arith, u.least s v.reaches, v.least r u.reaches);
      positive = λ sectors weight s h. some (840 * sectors) weight _ (omega arith) (up (840 * sectors) weight h);
      never_falls = λ a b weight h l. mono (840 * a) (840 * b) weight _ _ (omega arith) (up (840 * a) weight h) (up (840 * b) weight h);
      largest = λ sectors weight l h. omega (arith, most (840 * sectors) weight _ h (up (840 * sectors) weight h));
    }
