-- The line feeds of a text, counted. Assumes nothing.
use Rattle.std.proofs.Common.{◌≡◌, ◌≤◌, ℕ, ◌==◌, cond, List, [], ◌∷◌, length, refl, arith}
use Rattle.std.proofs.lemmas.Grind.{common_steps}
use Rattle.std.proofs.lemmas.List.Recursion.{is_sum_by}
use Rattle.std.specs.List.{sum_by}
use Rattle.script.specs.Scripts.{feeds_in}

-- what a byte adds
abbrev pub feed : ℕ → ℕ
feed b = cond (b == 10) 1 0

pub feeds_summed : (xs : List ℕ) → feeds_in xs ≡ sum_by feed xs
feeds_summed = is_sum_by feeds_in feed refl (λ b xs. grind (arith, common_steps))

pub few_feeds : (xs : List ℕ) → feeds_in xs ≤ length xs
few_feeds [] = omega arith
few_feeds (b ∷ xs) = grind (arith, common_steps, few_feeds xs)
