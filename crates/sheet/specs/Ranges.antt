-- The ranges of a share sheet's numbers.
use Rattle.std.specs.Prelude.{ℕ, Bool, true, ◌&&◌, List, [], ◌∷◌}
use Rattle.charge.specs.Charge.{within}
use Rattle.sheet.specs.declared.flow.Flow.{Flow}

-- a weight is 1 to 100, and a flow's longest request has 1 to 2048 sectors
abbrev pub flow_fits : Flow → Bool
flow_fits f = within 1 100 f.weight && within 1 2048 f.longest

-- a lane has room for 1 to 32 waiting requests
abbrev pub lane_fits : ℕ → Bool
lane_fits k = within 1 32 k

-- every element passes the test
abbrev pub all_of : {A : Type 0} → (A → Bool) → List A → Bool
all_of p [] = true
all_of p (x ∷ xs) = p x && all_of p xs
