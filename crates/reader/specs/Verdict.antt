-- The verdict on a sheet, as a line of text and as a number.
use Rattle.std.specs.Prelude.{ℕ, ◌+◌, ◌*◌, List, ◌++◌, length, Ok, Err, codes, decimal, Result}
use Rattle.sheet.specs.Sheets.{Content}
use Rattle.reader.specs.declared.fault.Refusal.{Refusal}
use Rattle.reader.specs.declared.fault.Refusal.TheVariants.{TooLong, Form, Range, Extra, Order}
use Rattle.reader.specs.declared.fault.SheetFault.{SheetFault}

-- the number by which users know a refusal
abbrev pub refusal_number : Refusal → ℕ
refusal_number TooLong = 1
refusal_number Form = 2
refusal_number Range = 3
refusal_number Extra = 4
refusal_number Order = 5

-- `refused` with the refusal and its line
abbrev pub fault_text : SheetFault → List ℕ
fault_text f = codes "refused " ++ (decimal (refusal_number f.refusal) ++ (codes " " ++ decimal f.line))

-- `accepted` with the number of flows, that of lanes, D and T, or `refused` with the refusal and its line; and a line feed
abbrev pub line_for : Result Content SheetFault → List ℕ
line_for (Ok s) =
    codes "accepted " ++ (decimal (length s.flows) ++ (codes " " ++ (decimal (length s.lanes) ++ (codes " " ++ (decimal s.slots ++ (codes " " ++ (decimal s.threshold ++ codes "\n")))))))
line_for (Err f) = codes "refused " ++ (decimal (refusal_number f.refusal) ++ (codes " " ++ (decimal f.line ++ codes "\n")))

-- 0 for an accepted sheet, else the refusal times 1000, and its line
abbrev pub number_for : Result Content SheetFault → ℕ
number_for (Ok s) = 0
number_for (Err f) = refusal_number f.refusal * 1000 + f.line
