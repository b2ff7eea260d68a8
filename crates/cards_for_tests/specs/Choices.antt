-- What the cards for tests choose when they are asked to finish.
use Rattle.std.specs.Prelude.{◌≡◌, ℕ, zero, suc, ◌%◌, List, [], ◌∷◌, ◌++◌, Some, None, Option}
use Rattle.card.specs.declared.Command.{Command}

-- a late card with `left` answers of nothing to go: one of them, or what the card below does, and then a new pause
abbrev pub Late : {C : Type 0} → (C → Option (ℕ × ℕ) → C → Type 0) → ℕ → ℕ → C → Option (ℕ × ℕ) → C → ℕ → Type 0
Late finishes zero pause card r after left = finishes card r after × (left ≡ pause)
Late finishes (suc n) pause card r after left = (r ≡ None) × (after ≡ card) × (left ≡ n)

-- of commands oldest first, the newest goes, and its ticket's lowest byte is the status
abbrev pub Newest : List Command → Option (ℕ × ℕ) → List Command → Type 0
Newest before None after = (before ≡ []) × (after ≡ [])
Newest before (Some done) after = (n : ℕ) × (before ≡ after ++ record { ticket = done.0; sectors = n } ∷ []) × (done.1 ≡ done.0 % 256)
