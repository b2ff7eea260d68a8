-- What taking a command out of a ring does to a list of commands.
use Rattle.std.specs.Prelude.{List, [], ◌∷◌, Some, None, Option}

-- the first of a list
abbrev pub head_of : {X : Type 0} → List X → Option X
head_of [] = None
head_of (x ∷ xs) = Some x

-- all but the first of a list
abbrev pub tail_of : {X : Type 0} → List X → List X
tail_of [] = []
tail_of (x ∷ xs) = xs
