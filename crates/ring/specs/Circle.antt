-- A list that lies in a circle of places.
use Rattle.std.specs.Prelude.{ℕ, ◌-◌, cond, List, ◌++◌, take, drop, nat_lt}

-- place i of n places in a circle, where i may have gone round once
abbrev pub wrap : ℕ → ℕ → ℕ
wrap n i = cond (nat_lt i n) i (i - n)

-- what lies at k places from place i on, round the end
abbrev pub window : {X : Type 0} → ℕ → ℕ → List X → List X
window i k places = take k (drop i places ++ take i places)
