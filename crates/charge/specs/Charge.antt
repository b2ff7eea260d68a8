-- The charge of a request: 840 times its length, divided by its flow's weight and rounded up. The laws below are what
-- the rest of the scheduler uses; nothing else looks at how the charge is rounded.
use Rattle.std.specs.Prelude.{◌≡◌, ℕ, ◌+◌, ◌*◌, ◌/◌, ◌%◌, ◌≤◌, min, Bool, true, cond, ◌&&◌, List, [], ◌∷◌, Some, None, Option, ◌==◌, nat_le}

-- n / d, rounded up to a whole number
unfoldable pub rounded_up : ℕ → ℕ → ℕ
rounded_up n d = n / d + min 1 (n % d)

-- the charge of a request of so many sectors, for a flow of this weight
unfoldable pub charge_of : ℕ → ℕ → ℕ
charge_of sectors weight = rounded_up (840 * sectors) weight

-- n is one of low, .., high
abbrev pub within : ℕ → ℕ → ℕ → Bool
within low high n = nat_le low n && nat_le n high

-- the charge, where a request can have that length and a flow that weight
abbrev pub charge_for : ℕ → ℕ → Option ℕ
charge_for sectors weight = cond (within 1 2048 sectors && within 1 100 weight) (Some (charge_of sectors weight)) None

-- r is the least whole number that is not below n / d
pub record RoundsUp (n d r : ℕ) : Type 0 where
  pub reaches : n ≤ r * d
  pub least : (s : ℕ) → n ≤ s * d → r ≤ s

pub record Laws : Type 0 where
  -- a charge is 840 times the length over the weight, rounded up, and this determines it
  pub rounds : (sectors weight : ℕ) → 1 ≤ weight → RoundsUp (840 * sectors) weight (charge_of sectors weight)
  pub only : (n d r s : ℕ) → RoundsUp n d r → RoundsUp n d s → r ≡ s
  -- every request costs something
  pub positive : (sectors weight : ℕ) → 1 ≤ sectors → 1 ≤ weight → 1 ≤ charge_of sectors weight
  -- a longer request costs no less, so the longest has the largest charge
  pub never_falls : (a b weight : ℕ) → 1 ≤ weight → a ≤ b → charge_of a weight ≤ charge_of b weight
  -- no request costs more than the longest one at weight 1
  pub largest : (sectors weight : ℕ) → sectors ≤ 2048 → 1 ≤ weight → charge_of sectors weight ≤ 1720320

-- a worked example: a length, a weight and the charge
abbrev pub Example : Type 0
Example = ℕ × ℕ × ℕ

abbrev pub all_right : List Example → Bool
all_right [] = true
all_right (e ∷ es) = charge_of e.0 e.1 == e.2 && all_right es

abbrev pub examples : List Example
examples =
    (1, 1, 840) ∷ (1, 7, 120) ∷ (1, 9, 94) ∷ (1, 11, 77) ∷ (1, 16, 53) ∷ (3, 16, 158) ∷ (5, 50, 84) ∷ (5, 100, 42) ∷ (64, 50, 1076) ∷ (64, 100, 538) ∷ (1, 100, 9)
    ∷ (2048, 1, 1720320) ∷ (2048, 99, 17377) ∷ (2048, 100, 17204) ∷ []
