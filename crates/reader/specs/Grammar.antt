-- The texts of a sheet.
use Rattle.std.specs.Prelude.{◌≡◌, ℕ, ◌≤◌, List, [], ◌∷◌, ◌++◌, length, decimal}
use Rattle.sheet.specs.declared.flow.Flow.{Flow}
use Rattle.sheet.specs.Sheets.{Content, Fits}

-- `X n`: a letter, a space and a number, in decimal with no leading zero
abbrev pub head_line : ℕ → ℕ → List ℕ
head_line letter n = letter ∷ 32 ∷ decimal n

-- `w m`
abbrev pub flow_line : Flow → List ℕ
flow_line f = decimal f.weight ++ 32 ∷ decimal f.longest

-- `D d` or `T t`: a parameter is its letter with its value
abbrev pub param_line : ℕ × ℕ → List ℕ
param_line p = head_line p.0 p.1

-- lines, each ended by a line feed
abbrev pub lines_of : {A : Type 0} → (A → List ℕ) → List A → List ℕ
lines_of w [] = []
lines_of w (x ∷ xs) = w x ++ 10 ∷ lines_of w xs

-- a section: its letter and its count, then its lines
abbrev pub section_of : {A : Type 0} → ℕ → (A → List ℕ) → List A → List ℕ
section_of letter w xs = head_line letter (length xs) ++ 10 ∷ lines_of w xs

-- the three sections F, L and P
abbrev pub sheet_text : List Flow → List ℕ → List (ℕ × ℕ) → List ℕ
sheet_text flows lanes params = section_of 70 flow_line flows ++ (section_of 76 decimal lanes ++ section_of 80 param_line params)

-- the parameters that stand for D and T: D before T, and a `D` of 1 and a `T` of 0 may be left out
pub data Stands : List (ℕ × ℕ) → ℕ → ℕ → Type 0 where
  neither : Stands [] 1 0
  just_d : {d : ℕ} → Stands ((68, d) ∷ []) d 0
  just_t : {t : ℕ} → Stands ((84, t) ∷ []) 1 t
  both : {d t : ℕ} → Stands ((68, d) ∷ (84, t) ∷ []) d t

-- the bytes are a text of the sheet s
pub record Text (s : Content) (bytes : List ℕ) : Type 0 where
  pub params : List (ℕ × ℕ)
  pub stands : Stands params s.slots s.threshold
  pub spelled : bytes ≡ sheet_text s.flows s.lanes params
  pub short : length bytes ≤ 256
  pub fits : Fits s

-- the bytes are a text of the sheet s, and of no other
pub record TextOnlyOf (s : Content) (bytes : List ℕ) : Type 0 where
  pub is : Text s bytes
  pub only : (other : Content) → Text other bytes → other ≡ s

-- the bytes are some sheet's text
abbrev pub IsText : List ℕ → Type 0
IsText bytes = (s : Content) × Text s bytes

-- the bytes are no sheet's text
abbrev pub NoText : List ℕ → Type 0
NoText bytes = (s : Content) → Text s bytes → ⊥

pub record GrammarLaws : Type 0 where
  -- every sheet whose counts and numbers are in range has a text, for each way to give its parameters
  pub each : (s : Content) (params : List (ℕ × ℕ)) → Fits s → Stands params s.slots s.threshold → Text s (sheet_text s.flows s.lanes params)
  -- no bytes are the texts of two sheets
  pub one : (bytes : List ℕ) (s u : Content) → Text s bytes → Text u bytes → s ≡ u
  -- the longest text has 199 bytes
  pub longest : (bytes : List ℕ) (s : Content) → Text s bytes → length bytes ≤ 199
