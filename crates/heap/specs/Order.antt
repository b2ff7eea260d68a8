-- What an order of records is.
use Rattle.std.specs.Prelude.{◌≡◌, Bool, true, false}
use Rattle.std.specs.Ordering.{is_le}
use Rattle.std.specs.declared.cmp.Ordering.{Ordering}

-- whether x is at or before y, by what compares them
abbrev pub upto_by : {X : Type 0} → (X → X → Ordering) → X → X → Bool
upto_by cmp x y = is_le (cmp x y)

-- `upto` is a total order, in which records that are each at or before the other are alike
pub record IsOrder {X : Type 0} (upto : X → X → Bool) (Alike : X → X → Type 0) : Type 0 where
  -- of two records one is at or before the other
  pub total : (x y : X) → upto x y ≡ false → upto y x ≡ true
  -- both ways only where they are alike
  pub antisymmetric : (x y : X) → upto x y ≡ true → upto y x ≡ true → Alike x y
  -- the relation chains
  pub transitive : (x y z : X) → upto x y ≡ true → upto y z ≡ true → upto x z ≡ true
