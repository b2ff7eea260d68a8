-- The letters of a sheet's lines.
use Rattle.std.specs.Prelude.{◌≡◌, ℕ, Result, MatchResult}
use Rattle.reader.specs.declared.draft.Section.{Section}
use Rattle.reader.specs.declared.fault.Refusal.{Refusal}
use Rattle.reader.specs.declared.fault.Refusal.TheVariants.{Form}
use Rattle.reader.specs.Lines.{letter_of}

-- r is the section whose first line has that letter, or a refusal of the form where there is none
abbrev pub HeadsSection : ℕ → Result Section Refusal → Type 0
HeadsSection letter r = MatchResult r (λ s. letter ≡ letter_of s) (λ why. (why ≡ Form) × ((s : Section) → letter ≡ letter_of s → ⊥))
