-- The first 257 bytes decide what is read, and what is printed of it.
use Rattle.std.proofs.Common.{◌≡◌, ℕ, ◌<◌, ltb, List, ◌++◌, length, take, codes, decimal, append_assoc, IfOk, Ok, Err, Result, sym, ap, ◌∙◌, ⊎_elim, arith}
use Rattle.std.proofs.lemmas.List.{take_all, length-take-le}
use Rattle.std.proofs.lemmas.Bool.{cases_lt, cond-true, lt-ltb}
use Rattle.reader.specs.declared.fault.Refusal.TheVariants.{TooLong}
use Rattle.reader.specs.Format.{read_sheet, sheet_from, fault}
use Rattle.reader.specs.declared.fault.SheetFault.{SheetFault}
use Rattle.reader.specs.Verdict.{fault_text, line_for, refusal_number}

pub too_long : (bytes : List ℕ) → 256 < length bytes → read_sheet bytes ≡ Err (fault TooLong 0)
too_long bytes h = cond-true (ltb 256 (length bytes)) _ (sheet_from bytes 1) (lt-ltb _ _ h)

pub front_decides : (bytes input : List ℕ) → take 257 input ≡ bytes → read_sheet bytes ≡ read_sheet input
front_decides bytes input e =
    ⊎_elim (λ h. too_long bytes (omega (arith, ap length e, length-take-le 257 input (omega arith))) ∙ sym (too_long input (omega arith))) (λ h. ap read_sheet (sym e ∙ take_all 257 input h))
    (cases_lt 257 (length input))

-- what is said of the front is said of the whole
pub said_of_all : {X Y : Type 0} (text : X → List ℕ) (r : Result X Y) (bytes : List ℕ) → IfOk r (λ s. text s ≡ line_for (read_sheet bytes)) → IfOk r (λ s. (input : List ℕ) → take 257 input ≡ bytes → text s ≡ line_for (read_sheet input))
said_of_all text (Ok s) bytes h = λ input e. h ∙ ap line_for (front_decides bytes input e)
said_of_all text (Err y) bytes h = tt

-- the line of a refusal is its text with a line feed
pub fault_line : (f : SheetFault) → fault_text f ++ codes "\n" ≡ line_for (Err f)
fault_line f =
    append_assoc (codes "refused ") (decimal (refusal_number f.refusal) ++ (codes " " ++ decimal f.line)) (codes "\n")
    ∙ ap (λ l. codes "refused " ++ l) (append_assoc (decimal (refusal_number f.refusal)) (codes " " ++ decimal f.line) (codes "\n") ∙ ap (λ l. decimal (refusal_number f.refusal) ++ l) (append_assoc (codes " ") (decimal f.line) (codes "\n")))
