-- What one line of a share sheet says.
use Rattle.std.specs.Prelude.{ℕ, ◌+◌, ◌-◌, ◌*◌, Bool, true, false, cond, not, ◌&&◌, List, [], ◌∷◌, length, take, drop, Some, None, Ok, Err, Option, Result, ◌==◌, nat_le, nat_lt, slice_index}
use Rattle.std.specs.Option.{option_map, option_zip}
use Rattle.sheet.specs.Sheets.{Content, with_flow, with_lane, with_slots, with_threshold}
use Rattle.reader.specs.declared.draft.Parameter.{Parameter}
use Rattle.reader.specs.declared.draft.Parameter.TheVariants.{Slots, Threshold}
use Rattle.reader.specs.declared.draft.Section.{Section}
use Rattle.reader.specs.declared.draft.Section.TheVariants.{Flows, Lanes, Params}
use Rattle.reader.specs.declared.fault.Refusal.{Refusal}
use Rattle.reader.specs.declared.fault.Refusal.TheVariants.{Form, Range, Order}

-- how many bytes stand before the first b: all, where there is none
abbrev pub before : ℕ → List ℕ → ℕ
before b [] = 0
before b (x ∷ xs) = cond (x == b) 0 (before b xs + 1)

-- the bytes before the first b, and those after it
abbrev pub cut_at : ℕ → List ℕ → Option (List ℕ × List ℕ)
cut_at b xs = cond (nat_lt (before b xs) (length xs)) (Some (take (before b xs) xs, drop (before b xs + 1) xs)) None

abbrev pub is_digit : ℕ → Bool
is_digit b = nat_le 48 b && nat_le b 57

-- the value of the decimal digits, after those that make n
abbrev pub digits_from : ℕ → List ℕ → Option ℕ
digits_from n [] = Some n
digits_from n (b ∷ bs) = cond (is_digit b) (digits_from (n * 10 + (b - 48)) bs) None

-- the same, as long as it stays below a limit
abbrev pub value_below : ℕ → ℕ → List ℕ → Option ℕ
value_below limit n [] = Some n
value_below limit n (b ∷ bs) = cond (is_digit b && nat_lt (n * 10 + (b - 48)) limit) (value_below limit (n * 10 + (b - 48)) bs) None

-- a number has 1 to 10 digits
abbrev pub sized : List ℕ → Bool
sized ds = nat_le 1 (length ds) && nat_le (length ds) 10

-- and no leading zero, except 0 itself
abbrev pub padded : List ℕ → Bool
padded ds = nat_lt 1 (length ds) && slice_index ds 0 == 48

abbrev pub number_of : List ℕ → Option ℕ
number_of ds = cond (sized ds && not (padded ds)) (digits_from 0 ds) None

-- `w m`: two numbers with a space between them
abbrev pub pair_of : List ℕ → Option (ℕ × ℕ)
pair_of l = elim (cut_at 32 l) [ None ↦ None | Some p ↦ option_zip (number_of p.0) (number_of p.1) ]

-- `X n`: a byte, a space and a number
abbrev pub lettered_of : List ℕ → Option (ℕ × ℕ)
lettered_of [] = None
lettered_of (x ∷ []) = None
lettered_of (x ∷ y ∷ ds) = cond (y == 32) (option_map (λ n. (x, n)) (number_of ds)) None

-- the letter of a section's first line: F, L, P
abbrev pub letter_of : Section → ℕ
letter_of Flows = 70
letter_of Lanes = 76
letter_of Params = 80

-- how many lines may follow it
abbrev pub most_of : Section → ℕ
most_of Flows = 16
most_of Lanes = 8
most_of Params = 2

-- a section's first line: its letter, and how many lines follow
abbrev pub count_of : Section → List ℕ → Result ℕ Refusal
count_of due l = elim (lettered_of l) [ None ↦ Err Form | Some p ↦ cond (p.0 == letter_of due) (cond (nat_le p.1 (most_of due)) (Ok p.1) (Err Range)) (Err Form) ]

-- what the lines so far say, and the last parameter among them
pub record Progress : Type 0 where
  pub sheet : Content
  pub last : Option Parameter

-- the sheet with a line's numbers, or out of range
abbrev pub ranged : Option Content → Option Parameter → Result Progress Refusal
ranged None q = Err Range
ranged (Some s) q = Ok (record { sheet = s; last = q })

-- the parameter that a letter stands for: D or T
abbrev pub parameter_of : ℕ → Option Parameter
parameter_of b = cond (b == 68) (Some Slots) (cond (b == 84) (Some Threshold) None)

-- the last parameter, if any, comes before this one in the order D, T
abbrev pub earlier : Option Parameter → Parameter → Bool
earlier None q = true
earlier (Some Slots) Slots = false
earlier (Some Slots) Threshold = true
earlier (Some Threshold) Slots = false
earlier (Some Threshold) Threshold = false

-- the sheet with another value of a parameter
abbrev pub with_param : Parameter → Content → ℕ → Option Content
with_param Slots = with_slots
with_param Threshold = with_threshold

-- a section's further line, added to what the lines before it say: first its form, then its letter's order, then its ranges
abbrev pub line_into : Section → Progress → List ℕ → Result Progress Refusal
line_into Flows g l = elim (pair_of l) [ None ↦ Err Form | Some p ↦ ranged (with_flow g.sheet p.0 p.1) g.last ]
line_into Lanes g l = elim (number_of l) [ None ↦ Err Form | Some k ↦ ranged (with_lane g.sheet k) g.last ]
line_into Params g l =
    elim (lettered_of l) [
      | None ↦ Err Form
      | Some p ↦ elim (parameter_of p.0) [ None ↦ Err Form | Some q ↦ cond (earlier g.last q) (ranged (with_param q g.sheet p.1) (Some q)) (Err Order) ]
    ]
