-- How many lines and bytes a sheet has, and which refusals its lines have.
use Rattle.std.proofs.Common.{◌≡◌, ℕ, zero, suc, ◌+◌, ◌*◌, ◌^◌, ◌<◌, ◌≤◌, Bool, true, false, cond, eqb, leb, List, [], ◌∷◌, ◌++◌, length, IfErr, Some, None, Ok, Err, decimal, Option, Result, refl, inl, inr, suc-mul, arith, MatchResult}
use Rattle.std.proofs.lemmas.Fmt.{length-decimal-le}
use Rattle.std.proofs.lemmas.List.{length-append}
use Rattle.std.proofs.lemmas.Bool.{and_parts, leb-true}
use Rattle.charge.specs.Charge.{within}
use Rattle.sheet.specs.declared.flow.Flow.{Flow}
use Rattle.sheet.specs.Ranges.{flow_fits, lane_fits, all_of}
use Rattle.sheet.specs.Sheets.{Content, Fits, with_flow, with_lane}
use Rattle.reader.specs.declared.draft.Parameter.{Parameter}
use Rattle.reader.specs.declared.draft.Section.{Section}
use Rattle.reader.specs.declared.draft.Section.TheVariants.{Flows, Lanes, Params}
use Rattle.reader.specs.declared.fault.Refusal.{Refusal}
use Rattle.reader.specs.declared.fault.Refusal.TheVariants.{Form, Range, Order}
use Rattle.reader.specs.declared.fault.SheetFault.{SheetFault}
use Rattle.reader.specs.Account.{OfALine}
use Rattle.reader.specs.Format.{Read, fault, and_then, line_ends, line_as, lines_into, section, start, sections}
use Rattle.reader.specs.Grammar.{head_line, flow_line, param_line, lines_of, section_of, sheet_text, Stands, neither, just_d, just_t, both, Text}
use Rattle.reader.specs.Lines.{Progress, cut_at, letter_of, most_of, lettered_of, number_of, pair_of, parameter_of, earlier, with_param, ranged, count_of, line_into}
use Rattle.reader.proofs.Forms.{count_writes}
use Rattle.reader.proofs.Texts.{line_ok}

-- a line is refused for its form, its ranges or its order
abbrev Kind : {A : Type 0} → Result A Refusal → Type 0
Kind r = IfErr r OfALine

kind_some : {A B : Type 0} (o : Option A) (d : Refusal) (f : A → Result B Refusal) → OfALine d → ((x : A) → Kind (f x)) → Kind {A = B} (elim o [ None ↦ Err d | Some x ↦ f x ])
kind_some None d f h k = h
kind_some (Some x) d f h k = k x

kind_cond : {A : Type 0} (b : Bool) (r s : Result A Refusal) → Kind r → Kind s → Kind (cond b r s)
kind_cond true r s h k = h
kind_cond false r s h k = k

kind_ranged : (o : Option Content) (q : Option Parameter) → Kind (ranged o q)
kind_ranged None q = inr (inl refl)
kind_ranged (Some s) q = tt

kind_count : (due : Section) (l : List ℕ) → Kind (count_of due l)
kind_count due l =
    kind_some (lettered_of l) Form _ (inl refl) (λ p.
    kind_cond (eqb p.0 (letter_of due)) (cond (leb p.1 (most_of due)) (Ok p.1) (Err Range)) (Err Form) (kind_cond (leb p.1 (most_of due)) (Ok p.1) (Err Range) tt (inr (inl refl))) (inl refl))

kind_line : (due : Section) (g : Progress) (l : List ℕ) → Kind (line_into due g l)
kind_line Flows g l = kind_some (pair_of l) Form _ (inl refl) (λ p. kind_ranged (with_flow g.sheet p.0 p.1) g.last)
kind_line Lanes g l = kind_some (number_of l) Form _ (inl refl) (λ k. kind_ranged (with_lane g.sheet k) g.last)
kind_line Params g l =
    kind_some (lettered_of l) Form _ (inl refl) (λ p. kind_some (parameter_of p.0) Form _ (inl refl) (λ q.
    kind_cond (earlier g.last q) (ranged (with_param q g.sheet p.1) (Some q)) (Err Order) (kind_ranged (with_param q g.sheet p.1) (Some q)) (inr (inr refl))))

-- what was read ends before line m, or is refused there for a line's sake
abbrev pub Sane : {A : Type 0} → Result (Read A) SheetFault → ℕ → Type 0
Sane r m = MatchResult r (λ x. x.next ≤ m) (λ f. (f.line < m) × OfALine f.refusal)

sane_then : {A B : Type 0} (r : Result (Read A) SheetFault) (g : Read A → Result (Read B) SheetFault) (a m : ℕ) → Sane r a → a ≤ m → ((x : Read A) → r ≡ Ok x → x.next ≤ a → Sane (g x) m) → Sane (and_then r g) m
sane_then (Ok x) g a m h l k = k x refl h
sane_then (Err f) g a m h l k = (omega (arith, h.0), h.1)

sane_ends : {A : Type 0} (r : Result A Refusal) (rest : List ℕ) (k : ℕ) → Kind r → Sane (line_ends r rest k) (k + 1)
sane_ends (Ok v) rest k h = omega arith
sane_ends (Err why) rest k h = (omega arith, h)

sane_cut : {A : Type 0} (form : List ℕ → Result A Refusal) → ((l : List ℕ) → Kind (form l)) → (o : Option (List ℕ × List ℕ)) (k : ℕ) → Sane {A = A} (elim o [ None ↦ Err (fault Form k) | Some p ↦ line_ends (form p.0) p.1 k ]) (k + 1)
sane_cut form h None k = (omega arith, inl refl)
sane_cut form h (Some p) k = sane_ends (form p.0) p.1 k (h p.0)

pub sane_count : (due : Section) (bytes : List ℕ) (k : ℕ) → Sane (line_as (count_of due) bytes k) (k + 1)
sane_count due bytes k = sane_cut (count_of due) (kind_count due) (cut_at 10 bytes) k

pub sane_line : (due : Section) (so : Progress) (bytes : List ℕ) (k : ℕ) → Sane (line_as (line_into due so) bytes k) (k + 1)
sane_line due so bytes k = sane_cut (line_into due so) (kind_line due so) (cut_at 10 bytes) k

sane_lines : (due : Section) (so : Progress) (n : ℕ) (bytes : List ℕ) (k m : ℕ) → k + n ≤ m → Sane (lines_into (line_into due) so n bytes k) m
sane_lines due so zero bytes k m h = omega arith
sane_lines due so (suc n) bytes k m h = sane_then (line_as (line_into due so) bytes k) _ (k + 1) m (sane_line due so bytes k) (omega arith) (λ x e l. sane_lines due x.got n x.rest x.next m (omega arith))

pub sane_section : (due : Section) (so : Progress) (bytes : List ℕ) (k m : ℕ) → k + 1 + most_of due ≤ m → Sane (section due so bytes k) m
sane_section due so bytes k m h =
    sane_then (line_as (count_of due) bytes k) _ (k + 1) m (sane_count due bytes k) (omega arith)
    (λ x e l. let t = line_ok (count_of due) bytes k x e in sane_lines due so x.got x.rest x.next m (omega (arith, (count_writes due t.0 x.got t.2).1)))

pub sane_sections : (bytes : List ℕ) → Sane (sections bytes 1) 30
sane_sections bytes =
    sane_then (section Flows start bytes 1) _ 18 30 (sane_section Flows start bytes 1 18 (omega arith)) (omega arith) (λ f e h.
    sane_then (section Lanes f.got f.rest f.next) _ 27 30 (sane_section Lanes f.got f.rest f.next 27 (omega arith)) (omega arith) (λ l d k.
    sane_section Params l.got l.rest l.next 30 (omega arith)))

-- lines of fewer than c bytes
lines_size : {A : Type 0} (w : A → List ℕ) (p : A → Bool) (c : ℕ) → ((v : A) → p v ≡ true → length (w v) < c) → (xs : List A) → all_of p xs ≡ true → length (lines_of w xs) ≤ length xs * c
lines_size w p c small [] h = omega arith
lines_size w p c small (x ∷ xs) h =
    let t = and_parts (p x) (all_of p xs) h in
    omega (arith, small x t.0, lines_size w p c small xs t.1, suc-mul (length xs) c, length-append (w x) (10 ∷ lines_of w xs))

flow_size : (f : Flow) → flow_fits f ≡ true → length (flow_line f) < 9
flow_size f h =
    let t = and_parts (within 1 100 f.weight) (within 1 2048 f.longest) h in
    let w = leb-true _ _ (and_parts (leb 1 f.weight) (leb f.weight 100) t.0).1 in
    let m = leb-true _ _ (and_parts (leb 1 f.longest) (leb f.longest 2048) t.1).1 in
    omega (arith, length-append (decimal f.weight) (32 ∷ decimal f.longest), length-decimal-le 3 f.weight (omega arith) (omega arith) (omega arith), length-decimal-le 4 f.longest (omega arith) (omega arith) (omega arith))

lane_size : (k : ℕ) → lane_fits k ≡ true → length (decimal k) < 3
lane_size k h = let l = leb-true _ _ (and_parts (leb 1 k) (leb k 32) h).1 in omega (arith, length-decimal-le 2 k (omega arith) (omega arith) (omega arith))

section_size : {A : Type 0} (letter : ℕ) (w : A → List ℕ) (xs : List A) (k : ℕ) → 0 < k → length xs < 10 ^ k → length xs < 2 ^ 64 → length (section_of letter w xs) ≤ 3 + k + length (lines_of w xs)
section_size letter w xs k some h wide = omega (arith, length-append (head_line letter (length xs)) (10 ∷ lines_of w xs), length-decimal-le k (length xs) some h wide)

param_size : (c n k : ℕ) → 0 < k → n < 10 ^ k → n < 2 ^ 64 → (rest : List ℕ) → length (head_line c n ++ 10 ∷ rest) ≤ 3 + k + length rest
param_size c n k some h wide rest = omega (arith, length-append (head_line c n) (10 ∷ rest), length-decimal-le k n some h wide)

params_size : (ps : List (ℕ × ℕ)) (d t : ℕ) → Stands ps d t → d ≤ 32 → t ≤ 1000000000 → length (section_of 80 param_line ps) ≤ 22
params_size ps d t neither few soon = omega (arith, section_size 80 param_line [] 1 (omega arith) (omega arith) (omega arith))
params_size ps d t just_d few soon = omega (arith, section_size 80 param_line ((68, d) ∷ []) 1 (omega arith) (omega arith) (omega arith), param_size 68 d 2 (omega arith) (omega arith) (omega arith) [])
params_size ps d t just_t few soon = omega (arith, section_size 80 param_line ((84, t) ∷ []) 1 (omega arith) (omega arith) (omega arith), param_size 84 t 10 (omega arith) (omega arith) (omega arith) [])
params_size ps d t both few soon =
    omega (arith, section_size 80 param_line ((68, d) ∷ (84, t) ∷ []) 1 (omega arith) (omega arith) (omega arith), param_size 68 d 2 (omega arith) (omega arith) (omega arith) (lines_of param_line ((84, t) ∷ [])), param_size 84 t 10 (omega arith) (omega arith) (omega arith) [])

-- the longest text of a sheet has 199 bytes
pub text_size : (s : Content) (ps : List (ℕ × ℕ)) → Fits s → Stands ps s.slots s.threshold → length (sheet_text s.flows s.lanes ps) ≤ 199
text_size s ps fit stands =
    let few = fit.few_flows in
    let less = fit.few_lanes in
    omega (
      arith,
      length-append (section_of 70 flow_line s.flows) (section_of 76 decimal s.lanes ++ section_of 80 param_line ps),
      length-append (section_of 76 decimal s.lanes) (section_of 80 param_line ps),
      section_size 70 flow_line s.flows 2 (omega arith) (omega arith) (omega arith),
      section_size 76 decimal s.lanes 1 (omega arith) (omega arith) (omega arith),
      lines_size flow_line flow_fits 9 flow_size s.flows fit.flows_fit,
      lines_size decimal lane_fits 3 lane_size s.lanes fit.lanes_fit,
      params_size ps s.slots s.threshold stands fit.few_slots fit.near,
    )

-- so every sheet has a text for each way to give its parameters
pub text_of : (s : Content) (ps : List (ℕ × ℕ)) → Fits s → Stands ps s.slots s.threshold → Text s (sheet_text s.flows s.lanes ps)
text_of s ps fit stands = record { params = ps; stands = stands; spelled = refl; short = omega (arith, text_size s ps fit stands); fits = fit }
