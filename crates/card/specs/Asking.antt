-- Asking a card to finish, again and again.
use Rattle.std.specs.Prelude.{ℕ, ◌+◌, cond, is_some, Option}

-- from the first card on, n calls of finish one after another answered k tickets
pub data Asked {C : Type 0} (finishes : C → Option (ℕ × ℕ) → C → Type 0) (first : C) : ℕ → ℕ → C → Type 0 where
  start : Asked finishes first 0 0 first
  again : {n k : ℕ} {card : C} (r : Option (ℕ × ℕ)) (after : C) → Asked finishes first n k card → finishes card r after → Asked finishes first (n + 1) (k + cond (is_some r) 1 0) after
