-- What a refusal's number and line say of a text, without the reader's steps.
use Rattle.std.specs.Prelude.{◌≡◌, ℕ, zero, suc, ◌-◌, ◌<◌, ◌≤◌, cond, ◌⊎◌, List, [], ◌∷◌, ◌++◌, length, Err, ◌==◌}
use Rattle.sheet.specs.Sheets.{Content}
use Rattle.reader.specs.declared.fault.Refusal.{Refusal}
use Rattle.reader.specs.declared.fault.Refusal.TheVariants.{TooLong, Form, Range, Extra, Order}
use Rattle.reader.specs.declared.fault.SheetFault.{SheetFault}
use Rattle.reader.specs.Format.{fault, read_sheet}
use Rattle.reader.specs.Grammar.{Text, head_line}

-- the first k lines, each with its line feed; all that there is, where there are fewer
abbrev pub first_lines : ℕ → List ℕ → List ℕ
first_lines zero bytes = []
first_lines (suc k) [] = []
first_lines (suc k) (b ∷ bs) = b ∷ first_lines (cond (b == 10) k (suc k)) bs

-- some accepted text begins so
abbrev pub CanBecome : List ℕ → Type 0
CanBecome front = (s : Content) × (rest : List ℕ) × Text s (front ++ rest)

-- the last two lines are `P 2` and `T t`: a second parameter is due, and neither D nor T may follow T
abbrev pub Stuck : List ℕ → Type 0
Stuck front = (early : List ℕ) × (t : ℕ) × (front ≡ early ++ (head_line 80 2 ++ 10 ∷ (head_line 84 t ++ 10 ∷ []))) × CanBecome (early ++ (head_line 80 2 ++ 10 ∷ []))

-- a text that is refused at one of its lines, or where a line is missing or one too many
pub record AtLine (bytes : List ℕ) (f : SheetFault) : Type 0 where
  pub short : length bytes ≤ 256
  pub first : 1 ≤ f.line
  pub last : f.line ≤ 30
  -- number and line depend only on the lines up to and including that one, for texts that are not too long
  pub same : (other : List ℕ) → length other ≤ 256 → first_lines f.line bytes ≡ first_lines f.line other → read_sheet other ≡ Err f
  -- so no sheet's text has these lines
  pub lost : (other : List ℕ) → first_lines f.line bytes ≡ first_lines f.line other → (s : Content) → Text s other → ⊥

-- a line itself is refused, for its form, its ranges or its letter's order
abbrev pub OfALine : Refusal → Type 0
OfALine why = (why ≡ Form) ⊎ ((why ≡ Range) ⊎ (why ≡ Order))

pub record Broken (bytes : List ℕ) (f : SheetFault) : Type 0 where
  pub why : OfALine f.refusal
  pub at : AtLine bytes f
  -- the lines before it could still have become a sheet, unless they end in `P 2` and `T t`
  pub before : CanBecome (first_lines (f.line - 1) bytes) ⊎ Stuck (first_lines (f.line - 1) bytes)

pub record Longer (bytes : List ℕ) (f : SheetFault) : Type 0 where
  pub why : f.refusal ≡ Extra
  pub at : AtLine bytes f
  -- the lines before it are a sheet's text
  pub whole : (s : Content) × Text s (first_lines (f.line - 1) bytes)
  -- and any further byte is one too many
  pub any : (b : ℕ) (bs : List ℕ) → length (first_lines (f.line - 1) bytes ++ b ∷ bs) ≤ 256 → read_sheet (first_lines (f.line - 1) bytes ++ b ∷ bs) ≡ Err f

-- too long, a refused line, or more than a sheet
abbrev pub Account : List ℕ → SheetFault → Type 0
Account bytes f = ((f ≡ fault TooLong 0) × (256 < length bytes)) ⊎ (Broken bytes f ⊎ Longer bytes f)
