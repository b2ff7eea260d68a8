-- The turns of a loop over a section's lines.
use Rattle.std.proofs.Common.{◌≡◌, ℕ, suc, ◌+◌, ◌-◌, ◌<◌, List, length, drop, Ok, Err, Result, ap, ◌∙◌, arith}
use Rattle.std.proofs.lemmas.List.{at_drop_more}
use Rattle.reader.specs.declared.draft.Section.TheVariants.{Flows, Lanes, Params}
use Rattle.reader.specs.declared.fault.Refusal.{Refusal}
use Rattle.reader.specs.declared.fault.Refusal.TheVariants.{Extra}
use Rattle.reader.specs.declared.fault.SheetFault.{SheetFault}
use Rattle.reader.specs.Format.{Read, and_then, line_as, lines_into, section, start, sheet_from, ended, fault}
use Rattle.reader.specs.Lines.{Progress}

module _ {S : Type 0} (form : S → List ℕ → Result S Refusal) (so : S) (n i : ℕ) (bytes : List ℕ) (k : ℕ) where
  onward : Read S → Result (Read S) SheetFault
  onward x = lines_into form x.got (n - (i + 1)) x.rest x.next

  one_line : i < n → lines_into form so (n - i) bytes k ≡ and_then (line_as (form so) bytes k) onward
  unfolding onward
  one_line h = let s : n - i ≡ suc (n - (i + 1)) = omega arith in ap (λ m. lines_into form so m bytes k) s

  pub lines_more : i < n → (x : Read S) → line_as (form so) bytes k ≡ Ok x → lines_into form so (n - i) bytes k ≡ lines_into form x.got (n - (i + 1)) x.rest x.next
  unfolding onward
  lines_more h x e = one_line h ∙ ap (λ r. and_then r onward) e

-- three sections that are read
pub whole : (bytes : List ℕ) (k : ℕ) (f l p : Read Progress) → section Flows start bytes k ≡ Ok f → section Lanes f.got f.rest f.next ≡ Ok l → section Params l.got l.rest l.next ≡ Ok p → sheet_from bytes k ≡ ended p.got.sheet p.rest p.next
whole bytes k f l p e g h = simp (e, g, h)

pub ended_late : {A : Type 0} (x : A) (bytes : List ℕ) (at k : ℕ) → at < length bytes → ended x (drop at bytes) k ≡ Err (fault Extra k)
ended_late x bytes at k h = at_drop_more (λ r. ended x r k) bytes at 0 h
