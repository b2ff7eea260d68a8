-- The answer 0 is for just the texts of sheets.
use Rattle.std.proofs.Common.{◌≡◌, ℕ, ◌≤◌, eqb, List, Ok, Err, Decides, Result, sym, refl, subst, arith}
use Rattle.std.proofs.lemmas.Bool.{eqb-true}
use Rattle.sheet.specs.Sheets.{Content}
use Rattle.reader.specs.declared.fault.Refusal.{Refusal}
use Rattle.reader.specs.declared.fault.Refusal.TheVariants.{TooLong, Form, Range, Extra, Order}
use Rattle.reader.specs.declared.fault.SheetFault.{SheetFault}
use Rattle.reader.specs.Format.{read_sheet}
use Rattle.reader.specs.Grammar.{IsText}
use Rattle.reader.specs.Verdict.{number_for, refusal_number}
use Rattle.reader.proofs.Texts.{text_writes, no_text}

numbered : (why : Refusal) → 1 ≤ refusal_number why
numbered TooLong = omega arith
numbered Form = omega arith
numbered Range = omega arith
numbered Extra = omega arith
numbered Order = omega arith

zero_reads : (bytes : List ℕ) (r : Result Content SheetFault) → read_sheet bytes ≡ r → Decides (eqb (number_for r) 0) (IsText bytes)
zero_reads bytes (Ok s) e = (λ z. (s, text_writes bytes s e), λ t. refl)
zero_reads bytes (Err f) e = (λ z. absurd (omega (arith, eqb-true _ _ z, numbered f.refusal)), λ t. absurd (no_text bytes f e t.0 t.1))

pub zero_tells : (bytes : List ℕ) (n : ℕ) → n ≡ number_for (read_sheet bytes) → Decides (eqb n 0) (IsText bytes)
zero_tells bytes n e = subst (λ m. Decides (eqb m 0) (IsText bytes)) (sym e) (zero_reads bytes (read_sheet bytes) refl)
