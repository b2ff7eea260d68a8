-- What a refusal's number and line say of a text.
use Rattle.std.proofs.Common.{◌≡◌, ℕ, zero, suc, ◌+◌, ◌-◌, ◌<◌, ◌≤◌, Bool, true, false, cond, ltb, ◌⊎◌, List, [], ◌∷◌, ◌++◌, length, replicate, IfErr, Ok, Err, decimal, Result, sym, refl, ap, ◌∙◌, subst, inl, inr, ⊎_elim, append_assoc, append-nil, arith, MatchResult}
use Rattle.std.proofs.lemmas.List.{append_cancel_left, append_cancel_right, length-append, length-replicate}
use Rattle.std.proofs.lemmas.Result.{MatchResult-at_err, MatchResult-at_ok}
use Rattle.std.proofs.lemmas.Bool.{and_parts, and_from, cond-false, le-ltb, ltb-true, ltb-false}
use Rattle.sheet.specs.declared.flow.Flow.{Flow}
use Rattle.sheet.specs.Ranges.{flow_fits, lane_fits, all_of}
use Rattle.sheet.specs.declared.shape.Sheet.{Sheet}
use Rattle.sheet.specs.Sheets.{Content, content_of}
use Rattle.reader.specs.Views.{Reads}
use Rattle.reader.specs.declared.draft.Section.{Section}
use Rattle.reader.specs.declared.draft.Section.TheVariants.{Flows, Lanes, Params}
use Rattle.reader.specs.declared.fault.Refusal.TheVariants.{TooLong, Extra}
use Rattle.reader.specs.declared.fault.SheetFault.{SheetFault}
use Rattle.reader.specs.Account.{first_lines, CanBecome, Stuck, AtLine, OfALine, Broken, Longer, Account}
use Rattle.reader.specs.Format.{Read, fault, and_then, line_as, lines_into, section, start, sections, ended, sheet_from, read_sheet}
use Rattle.reader.specs.Grammar.{head_line, flow_line, param_line, lines_of, section_of, sheet_text, Stands, neither, just_d, both, Text, TextOnlyOf, NoText}
use Rattle.reader.specs.Lines.{Progress, letter_of, most_of, count_of, line_into}
use Rattle.reader.proofs.Forms.{count_writes}
use Rattle.reader.proofs.Locals.{and_then_cases, local_line, local_lines, local_section, local_sections, used_lines, local_then}
use Rattle.reader.proofs.Sizes.{Sane, sane_count, sane_line, sane_sections, text_of}
use Rattle.reader.proofs.Texts.{line_ok, Adding, flows_add, lanes_add, section_writes, param_writes, sections_write, text_reads, text_writes, no_text, one_sheet}

-- a reader that fails at once has read no line
at_once : {A : Type 0} (r : Result (Read A) SheetFault) (k : ℕ) → Sane r (k + 1) → (f : SheetFault) → r ≡ Err f → k ≤ f.line → (bytes : List ℕ) → first_lines (f.line - k) bytes ≡ []
at_once r k s f e late bytes =
    let here = (MatchResult-at_err (λ (x : Read _). x.next ≤ k + 1) (λ (g : SheetFault). (g.line < k + 1) × OfALine g.refusal) f e s).0 in
    let z : f.line - k ≡ 0 = omega arith in
    ap (λ n. first_lines n bytes) z

all_append : {A : Type 0} (p : A → Bool) (xs ys : List A) → all_of p xs ≡ true → all_of p ys ≡ true → all_of p (xs ++ ys) ≡ true
all_append p [] ys h k = k
all_append p (x ∷ xs) ys h k = let t = and_parts (p x) (all_of p xs) h in and_from _ _ t.0 (all_append p xs ys t.1 k)

all_replicate : {A : Type 0} (p : A → Bool) (n : ℕ) (v : A) → p v ≡ true → all_of p (replicate n v) ≡ true
all_replicate p zero v h = refl
all_replicate p (suc n) v h = and_from _ _ h (all_replicate p n v h)

lines_append : {A : Type 0} (w : A → List ℕ) (xs ys : List A) → lines_of w (xs ++ ys) ≡ lines_of w xs ++ lines_of w ys
lines_append w [] ys = refl
lines_append w (x ∷ xs) ys = ap (λ q. w x ++ 10 ∷ q) (lines_append w xs ys) ∙ sym (append_assoc (w x) (10 ∷ lines_of w xs) (lines_of w ys))

-- the lines before the one that is refused are the beginning of a section of ws
pub record Begins {A : Type 0} (letter : ℕ) (w : A → List ℕ) (p : A → Bool) (most : ℕ) (front : List ℕ) : Type 0 where
  pub items : List A
  pub rest : List ℕ
  pub joins : front ++ rest ≡ section_of letter w items
  pub few : length items ≤ most
  pub fit : all_of p items ≡ true

module _ {A : Type 0} {due : Section} {w : A → List ℕ} {p : A → Bool} {add : Progress → List A → Progress} {size : Progress → ℕ} (a : Adding due w p add size) (v : A) (fits : p v ≡ true) where
  lines_front : (g : Progress) (n : ℕ) (bytes : List ℕ) (k : ℕ) (f : SheetFault) → lines_into (line_into due) g n bytes k ≡ Err f → (vs : List A) × (first_lines (f.line - k) bytes ≡ lines_of w vs) × (length vs < n) × (all_of p vs ≡ true)
  lines_front g zero bytes k f e = let z : ◌≡◌ {A = ℕ} 0 1 = cc in absurd (omega arith)
  lines_front g (suc n) bytes k f e =
      ⊎_elim (λ c. ([], at_once (line_as (line_into due g) bytes k) k (sane_line due g bytes k) f c ((local_line (line_into due g)).late bytes k f c) bytes, omega arith, refl))
      (λ c.
      let x = c.0 in
      let l = line_ok (line_into due g) bytes k x c.1 in
      let u = a.writes g l.0 x.got l.2 in
      let r = lines_front x.got n x.rest x.next f c.2 in
      let late = (local_lines (line_into due) n x.got).late x.rest x.next f c.2 in
      let text : bytes ≡ (w u.0 ++ 10 ∷ []) ++ x.rest = l.1 ∙ ap (λ q. q ++ 10 ∷ x.rest) u.1 ∙ sym (append_assoc (w u.0) (10 ∷ []) x.rest) in (
        u.0 ∷ r.0,
        used_lines bytes k x ((local_line (line_into due g)).used bytes k x c.1) (w u.0 ++ 10 ∷ []) text f.line late ∙ append_assoc (w u.0) (10 ∷ []) (first_lines (f.line - x.next) x.rest) ∙ ap (λ q. w u.0 ++ 10 ∷ q) r.1,
        omega (arith, r.2),
        and_from _ _ u.2 r.3,
      ))
      (and_then_cases (line_as (line_into due g) bytes k) _ f e)

  -- n lines, of which vs are there
  filled : (n : ℕ) (vs : List A) → n ≤ most_of due → length vs < n → all_of p vs ≡ true → Begins (letter_of due) w p (most_of due) (head_line (letter_of due) n ++ 10 ∷ lines_of w vs)
  filled n vs few less fit =
      let more = replicate (n - length vs) v in
      let long : length (vs ++ more) ≡ n = length-append vs more ∙ omega (arith, length-replicate (n - length vs) v) in
      record {
        items = vs ++ more;
        rest = lines_of w more;
        joins =
            append_assoc (head_line (letter_of due) n) (10 ∷ lines_of w vs) (lines_of w more) ∙ ap (λ q. head_line (letter_of due) n ++ 10 ∷ q) (sym (lines_append w vs more))
            ∙ ap (λ m. head_line (letter_of due) m ++ 10 ∷ lines_of w (vs ++ more)) (sym long);
        few = omega (arith, long);
        fit = all_append p vs more fit (all_replicate p (n - length vs) v fits);
      }

  pub section_front : (g : Progress) (bytes : List ℕ) (k : ℕ) (f : SheetFault) → section due g bytes k ≡ Err f → Begins (letter_of due) w p (most_of due) (first_lines (f.line - k) bytes)
  section_front g bytes k f e =
      ⊎_elim
      (λ c.
      let none = at_once (line_as (count_of due) bytes k) k (sane_count due bytes k) f c ((local_line (count_of due)).late bytes k f c) bytes in
      record { items = []; rest = section_of (letter_of due) w []; joins = ap (λ q. q ++ section_of (letter_of due) w []) none; few = omega arith; fit = refl })
      (λ c.
      let x = c.0 in
      let l = line_ok (count_of due) bytes k x c.1 in
      let u = count_writes due l.0 x.got l.2 in
      let r = lines_front g x.got x.rest x.next f c.2 in
      let late = (local_lines (line_into due) x.got g).late x.rest x.next f c.2 in
      let head = head_line (letter_of due) x.got in
      let text : bytes ≡ (head ++ 10 ∷ []) ++ x.rest = l.1 ∙ ap (λ q. q ++ 10 ∷ x.rest) u.0 ∙ sym (append_assoc head (10 ∷ []) x.rest) in
      let front : first_lines (f.line - k) bytes ≡ head ++ 10 ∷ lines_of w r.0 =
      used_lines bytes k x ((local_line (count_of due)).used bytes k x c.1) (head ++ 10 ∷ []) text f.line late ∙ append_assoc head (10 ∷ []) (first_lines (f.line - x.next) x.rest) ∙ ap (λ q. head ++ 10 ∷ q) r.1
      in
      subst (Begins (letter_of due) w p (most_of due)) (sym front) (filled x.got r.0 u.1 r.2 r.3))
      (and_then_cases (line_as (count_of due) bytes k) _ f e)

-- the parameters' lines before the one that is refused
pub record Given (front : List ℕ) : Type 0 where
  pub params : List (ℕ × ℕ)
  pub d : ℕ
  pub t : ℕ
  pub stands : Stands params d t
  pub low : 1 ≤ d
  pub high : d ≤ 32
  pub soon : t ≤ 1000000000
  pub rest : List ℕ
  pub joins : front ++ rest ≡ section_of 80 param_line params

abbrev Halted : List ℕ → Type 0
Halted front = (t : ℕ) × (front ≡ head_line 80 2 ++ 10 ∷ (head_line 84 t ++ 10 ∷ []))

one_due : Given (head_line 80 1 ++ 10 ∷ [])
one_due = record { params = (68, 1) ∷ []; d = 1; t = 0; stands = just_d; low = omega arith; high = omega arith; soon = omega arith; rest = lines_of param_line ((68, 1) ∷ []); joins = append_assoc (head_line 80 1) (10 ∷ []) (lines_of param_line ((68, 1) ∷ [])) }

two_due : Given (head_line 80 2 ++ 10 ∷ [])
two_due = record { params = (68, 1) ∷ (84, 0) ∷ []; d = 1; t = 0; stands = both; low = omega arith; high = omega arith; soon = omega arith; rest = lines_of param_line ((68, 1) ∷ (84, 0) ∷ []); joins = append_assoc (head_line 80 2) (10 ∷ []) (lines_of param_line ((68, 1) ∷ (84, 0) ∷ [])) }

after_d : (d : ℕ) → 1 ≤ d → d ≤ 32 → Given (head_line 80 2 ++ 10 ∷ (head_line 68 d ++ 10 ∷ []))
after_d d low high = record {
  params = (68, d) ∷ (84, 0) ∷ [];
  d = d;
  t = 0;
  stands = both;
  low = low;
  high = high;
  soon = omega arith;
  rest = lines_of param_line ((84, 0) ∷ []);
  joins = append_assoc (head_line 80 2) (10 ∷ (head_line 68 d ++ 10 ∷ [])) (lines_of param_line ((84, 0) ∷ [])) ∙ ap (λ q. head_line 80 2 ++ 10 ∷ q) (append_assoc (head_line 68 d) (10 ∷ []) (lines_of param_line ((84, 0) ∷ [])));
}

params_front : (g : Progress) (n : ℕ) → n ≤ 2 → (bytes : List ℕ) (k : ℕ) (f : SheetFault) → lines_into (line_into Params) g n bytes k ≡ Err f → (front : List ℕ) × (first_lines (f.line - k) bytes ≡ front) × (Given (head_line 80 n ++ 10 ∷ front) ⊎ Halted (head_line 80 n ++ 10 ∷ front))
params_front g zero few bytes k f e = let z : ◌≡◌ {A = ℕ} 0 1 = cc in absurd (omega arith)
params_front g (suc zero) few bytes k f e =
    ⊎_elim (λ c. ([], at_once (line_as (line_into Params g) bytes k) k (sane_line Params g bytes k) f c ((local_line (line_into Params g)).late bytes k f c) bytes, inl one_due))
    (λ c. let no = c.2 in let z : ◌≡◌ {A = ℕ} 0 1 = cc no in absurd (omega arith))
    (and_then_cases (line_as (line_into Params g) bytes k) _ f e)
params_front g (suc (suc zero)) few bytes k f e =
    ⊎_elim (λ c. ([], at_once (line_as (line_into Params g) bytes k) k (sane_line Params g bytes k) f c ((local_line (line_into Params g)).late bytes k f c) bytes, inl two_due))
    (λ c.
    let x = c.0 in
    let l = line_ok (line_into Params g) bytes k x c.1 in
    let late = (local_lines (line_into Params) 1 x.got).late x.rest x.next f c.2 in
    let second : first_lines (f.line - x.next) x.rest ≡ [] =
    ⊎_elim (λ b. at_once (line_as (line_into Params x.got) x.rest x.next) x.next (sane_line Params x.got x.rest x.next) f b late x.rest) (λ b. let no = b.2 in let z : ◌≡◌ {A = ℕ} 0 1 = cc no in absurd (omega arith))
    (and_then_cases (line_as (line_into Params x.got) x.rest x.next) _ f c.2)
    in
    let one : first_lines (f.line - k) bytes ≡ l.0 ++ 10 ∷ [] =
    used_lines bytes k x ((local_line (line_into Params g)).used bytes k x c.1) (l.0 ++ 10 ∷ []) (l.1 ∙ sym (append_assoc l.0 (10 ∷ []) x.rest)) f.line late
    ∙ append_assoc l.0 (10 ∷ []) (first_lines (f.line - x.next) x.rest)
    ∙ ap (λ q. l.0 ++ 10 ∷ q) second
    in
    ⊎_elim (λ p. (head_line 68 p.value ++ 10 ∷ [], one ∙ ap (λ q. q ++ 10 ∷ []) p.text, inl (after_d p.value p.low p.high)))
    (λ p. (head_line 84 p.value ++ 10 ∷ [], one ∙ ap (λ q. q ++ 10 ∷ []) p.text, inr (p.value, refl)))
    (param_writes g l.0 x.got l.2))
    (and_then_cases (line_as (line_into Params g) bytes k) _ f e)
params_front g (suc (suc (suc n))) few bytes k f e = absurd (omega arith)

no_params : Given []
no_params = record { params = []; d = 1; t = 0; stands = neither; low = omega arith; high = omega arith; soon = omega arith; rest = section_of 80 param_line []; joins = refl }

params_section_front : (g : Progress) (bytes : List ℕ) (k : ℕ) (f : SheetFault) → section Params g bytes k ≡ Err f → Given (first_lines (f.line - k) bytes) ⊎ Halted (first_lines (f.line - k) bytes)
params_section_front g bytes k f e =
    ⊎_elim (λ c. inl (subst Given (sym (at_once (line_as (count_of Params) bytes k) k (sane_count Params bytes k) f c ((local_line (count_of Params)).late bytes k f c) bytes)) no_params))
    (λ c.
    let x = c.0 in
    let l = line_ok (count_of Params) bytes k x c.1 in
    let u = count_writes Params l.0 x.got l.2 in
    let r = params_front g x.got u.1 x.rest x.next f c.2 in
    let late = (local_lines (line_into Params) x.got g).late x.rest x.next f c.2 in
    let head = head_line 80 x.got in
    let text : bytes ≡ (head ++ 10 ∷ []) ++ x.rest = l.1 ∙ ap (λ q. q ++ 10 ∷ x.rest) u.0 ∙ sym (append_assoc head (10 ∷ []) x.rest) in
    let front : first_lines (f.line - k) bytes ≡ head ++ 10 ∷ r.0 =
    used_lines bytes k x ((local_line (count_of Params)).used bytes k x c.1) (head ++ 10 ∷ []) text f.line late ∙ append_assoc head (10 ∷ []) (first_lines (f.line - x.next) x.rest) ∙ ap (λ q. head ++ 10 ∷ q) r.1
    in
    subst (λ q. Given q ⊎ Halted q) (sym front) r.2)
    (and_then_cases (line_as (count_of Params) bytes k) _ f e)

abbrev FlowsFit : List Flow → Type 0
FlowsFit fs = (length fs ≤ 16) × (all_of flow_fits fs ≡ true)

abbrev LanesFit : List ℕ → Type 0
LanesFit ls = (length ls ≤ 8) × (all_of lane_fits ls ≡ true)

becomes : (fs : List Flow) (ls : List ℕ) (ps : List (ℕ × ℕ)) (d t : ℕ) → FlowsFit fs → LanesFit ls → Stands ps d t → 1 ≤ d → d ≤ 32 → t ≤ 1000000000 → (front rest : List ℕ) → front ++ rest ≡ sheet_text fs ls ps → CanBecome front
becomes fs ls ps d t f l stands low high soon front rest e =
    let s : Content = record { flows = fs; lanes = ls; slots = d; threshold = t } in
    (s, rest, subst (Text s) (sym e) (text_of s ps (record { few_flows = f.0; flows_fit = f.1; few_lanes = l.0; lanes_fit = l.1; some_slots = low; few_slots = high; near = soon }) stands))

in_flows : (front : List ℕ) → Begins 70 flow_line flow_fits 16 front → CanBecome front
in_flows front b =
    let tail = section_of 76 decimal [] ++ section_of 80 param_line [] in
    becomes b.items [] [] 1 0 (b.few, b.fit) (omega arith, refl) neither (omega arith) (omega arith) (omega arith) front (b.rest ++ tail) (sym (append_assoc front b.rest tail) ∙ ap (λ q. q ++ tail) b.joins)

in_lanes : (fs : List Flow) → FlowsFit fs → (front : List ℕ) → Begins 76 decimal lane_fits 8 front → CanBecome (section_of 70 flow_line fs ++ front)
in_lanes fs fit front b =
    let head = section_of 70 flow_line fs in
    let tail = section_of 80 param_line [] in
    becomes fs b.items [] 1 0 fit (b.few, b.fit) neither (omega arith) (omega arith) (omega arith) (head ++ front) (b.rest ++ tail)
    (append_assoc head front (b.rest ++ tail) ∙ ap (λ q. head ++ q) (sym (append_assoc front b.rest tail) ∙ ap (λ q. q ++ tail) b.joins))

in_params : (fs : List Flow) (ls : List ℕ) → FlowsFit fs → LanesFit ls → (front : List ℕ) → Given front → CanBecome (section_of 70 flow_line fs ++ (section_of 76 decimal ls ++ front))
in_params fs ls f l front g =
    let head = section_of 70 flow_line fs in
    let mid = section_of 76 decimal ls in
    becomes fs ls g.params g.d g.t f l g.stands g.low g.high g.soon (head ++ (mid ++ front)) g.rest
    (append_assoc head (mid ++ front) g.rest ∙ ap (λ q. head ++ q) (append_assoc mid front g.rest ∙ ap (λ q. mid ++ q) g.joins))

halted : (fs : List Flow) (ls : List ℕ) → FlowsFit fs → LanesFit ls → (front : List ℕ) → Halted front → Stuck (section_of 70 flow_line fs ++ (section_of 76 decimal ls ++ front))
halted fs ls f l front h =
    let head = section_of 70 flow_line fs in
    let mid = section_of 76 decimal ls in (
      head ++ mid,
      h.0,
      ap (λ q. head ++ (mid ++ q)) h.1 ∙ sym (append_assoc head mid (head_line 80 2 ++ 10 ∷ (head_line 84 h.0 ++ 10 ∷ []))),
      subst CanBecome (sym (append_assoc head mid (head_line 80 2 ++ 10 ∷ []))) (in_params fs ls f l (head_line 80 2 ++ 10 ∷ []) two_due),
    )

one_flow : Flow
one_flow = record { weight = 1; longest = 1 }

-- what comes before the line that is refused
sections_front : (bytes : List ℕ) (f : SheetFault) → sections bytes 1 ≡ Err f → CanBecome (first_lines (f.line - 1) bytes) ⊎ Stuck (first_lines (f.line - 1) bytes)
unfolding one_flow
sections_front bytes f e =
    ⊎_elim (λ c. inl (in_flows (first_lines (f.line - 1) bytes) (section_front flows_add one_flow refl start bytes 1 f c)))
    (λ c.
    let x = c.0 in
    let fw = section_writes flows_add start bytes 1 x c.1 in
    let fs = fw.0 in
    let ff : FlowsFit fs = (fw.2, fw.3) in
    let head = section_of 70 flow_line fs in
    let late = (local_then (local_section Lanes x.got) (λ l. local_section Params l)).late x.rest x.next f c.2 in
    let first = used_lines bytes 1 x ((local_section Flows start).used bytes 1 x c.1) head fw.1 f.line late in
    subst (λ q. CanBecome q ⊎ Stuck q) (sym first) (
    ⊎_elim (λ b. inl (in_lanes fs ff (first_lines (f.line - x.next) x.rest) (section_front lanes_add 1 refl x.got x.rest x.next f b)))
    (λ b.
    let y = b.0 in
    let lw = section_writes lanes_add x.got x.rest x.next y b.1 in
    let ls = lw.0 in
    let lf : LanesFit ls = (lw.2, lw.3) in
    let mid = section_of 76 decimal ls in
    let later = (local_section Params y.got).late y.rest y.next f b.2 in
    let second = used_lines x.rest x.next y ((local_section Lanes x.got).used x.rest x.next y b.1) mid lw.1 f.line later in
    subst (λ q. CanBecome (head ++ q) ⊎ Stuck (head ++ q)) (sym second) (
    ⊎_elim (λ g. inl (in_params fs ls ff lf (first_lines (f.line - y.next) y.rest) g)) (λ h. inr (halted fs ls ff lf (first_lines (f.line - y.next) y.rest) h)) (params_section_front y.got y.rest y.next f b.2)
    ))
    (and_then_cases (section Lanes x.got x.rest x.next) _ f c.2)
    ))
    (and_then_cases (section Flows start bytes 1) _ f e)

-- a text that is short enough is read line by line
short_reads : (bytes : List ℕ) → length bytes ≤ 256 → read_sheet bytes ≡ sheet_from bytes 1
short_reads bytes h = cond-false (ltb 256 (length bytes)) _ (sheet_from bytes 1) (le-ltb 256 (length bytes) h)

-- a refusal that texts with the same lines share
shared : (bytes : List ℕ) (f : SheetFault) → length bytes ≤ 256 → 1 ≤ f.line → f.line ≤ 30 → ((other : List ℕ) → length other ≤ 256 → first_lines f.line bytes ≡ first_lines f.line other → read_sheet other ≡ Err f) → AtLine bytes f
shared bytes f short first last same = record {
  short = short;
  first = first;
  last = last;
  same = same;
  lost = λ other e s t.
      let a = same other t.short e in
      let b = text_reads other s t in
      let z : ◌≡◌ {A = ℕ} 0 1 = cc in
      omega arith;
}

broken : (bytes : List ℕ) (f : SheetFault) → length bytes ≤ 256 → sections bytes 1 ≡ Err f → Broken bytes f
broken bytes f short e =
    let sane = MatchResult-at_err (λ (x : Read Progress). x.next ≤ 30) (λ (g : SheetFault). (g.line < 30) × OfALine g.refusal) f e (sane_sections bytes) in
    let late = local_sections.late bytes 1 f e in
    let back : f.line + 1 - 1 ≡ f.line = omega arith in
    record {
      why = sane.1;
      at = shared bytes f short late (omega (arith, sane.0)) (λ other h s.
          short_reads other h ∙ ap (λ r. and_then r (λ p. ended p.got.sheet p.rest p.next)) (local_sections.errs bytes 1 f e other (subst (λ n. first_lines n bytes ≡ first_lines n other) (sym back) s)));
      before = sections_front bytes f e;
    }

ended_err : {A : Type 0} (x : A) (bytes : List ℕ) (k : ℕ) (f : SheetFault) → ended x bytes k ≡ Err f → (f ≡ fault Extra k) × ((b : ℕ) × (bs : List ℕ) × (bytes ≡ b ∷ bs))
ended_err x [] k f e = let z : ◌≡◌ {A = ℕ} 0 1 = cc in absurd (omega arith)
ended_err x (b ∷ bs) k f e = (cc, (b, bs, refl))

-- bytes whose first line is not empty are more than nothing
ended_more : {A : Type 0} (x : A) (r : List ℕ) (k b : ℕ) (bs : List ℕ) → first_lines 1 (b ∷ bs) ≡ first_lines 1 r → ended x r k ≡ Err (fault Extra k)
ended_more x [] k b bs e = let z : ◌≡◌ {A = ℕ} 0 1 = cc e in absurd (omega arith)
ended_more x (c ∷ cs) k b bs e = refl

longer : (bytes : List ℕ) (f : SheetFault) → length bytes ≤ 256 → (p : Read Progress) → sections bytes 1 ≡ Ok p → ended p.got.sheet p.rest p.next ≡ Err f → Longer bytes f
longer bytes f short p e d =
    let x = ended_err p.got.sheet p.rest p.next f d in
    let at : f.line ≡ p.next = ap (λ (g : SheetFault). g.line) x.0 in
    let more = x.1 in
    let sane = MatchResult-at_ok (λ (y : Read Progress). y.next ≤ 30) (λ (g : SheetFault). (g.line < 30) × OfALine g.refusal) p e (sane_sections bytes) in
    let u = local_sections.used bytes 1 p e in
    let w = sections_write bytes 1 p e in
    let text = sheet_text w.flows w.lanes w.params in
    let s : Content = record { flows = w.flows; lanes = w.lanes; slots = w.d; threshold = w.t } in
    let none : p.next - p.next ≡ 0 = omega arith in
    let front : first_lines (p.next - 1) bytes ≡ text =
    used_lines bytes 1 p u text w.text p.next (omega arith) ∙ ap (λ n. text ++ first_lines n p.rest) none ∙ append-nil text
    in
    let front' : first_lines (f.line - 1) bytes ≡ text = ap (λ n. first_lines (n - 1) bytes) at ∙ front in
    record {
      why = ap (λ (g : SheetFault). g.refusal) x.0;
      at = shared bytes f short (omega (arith, u.onward)) (omega (arith, sane)) (λ other h same.
          let one : p.next + 1 - 1 ≡ f.line = omega arith in
          let o = local_sections.oks bytes 1 p e (p.next + 1) other (omega arith) (subst (λ n. first_lines n bytes ≡ first_lines n other) (sym one) same) in
          let single : p.next + 1 - p.next ≡ 1 = omega arith in
          let first : first_lines 1 (more.0 ∷ more.1) ≡ first_lines 1 o.0 = ap (first_lines 1) (sym more.2) ∙ subst (λ n. first_lines n p.rest ≡ first_lines n o.0) single o.2 in
          short_reads other h ∙ ap (λ r. and_then r (λ q. ended q.got.sheet q.rest q.next)) o.1 ∙ ended_more p.got.sheet o.0 p.next more.0 more.1 first ∙ ap Err (sym x.0));
      whole = (s, subst (Text s) (sym front') (text_of s w.params w.fits w.stands));
      any = λ b bs h.
          let other = first_lines (f.line - 1) bytes ++ b ∷ bs in
          let is : other ≡ text ++ b ∷ bs = ap (λ q. q ++ b ∷ bs) front' in
          let same_text : u.text ≡ text = append_cancel_right u.text text p.rest (sym u.is ∙ w.text) in
          let lead : first_lines (p.next - 1) other ≡ text =
          ap (first_lines (p.next - 1)) (is ∙ ap (λ q. q ++ b ∷ bs) (sym same_text)) ∙ u.lines (b ∷ bs) p.next (omega arith) ∙ ap (λ n. u.text ++ first_lines n (b ∷ bs)) none ∙ append-nil u.text ∙ same_text
          in
          let o = local_sections.oks bytes 1 p e p.next other (omega arith) (front ∙ sym lead) in
          let y : Read Progress = record { got = p.got; rest = o.0; next = p.next } in
          let v = local_sections.used other 1 y o.1 in
          let read : v.text ≡ text =
          sym (append-nil v.text) ∙ ap (λ n. v.text ++ first_lines n o.0) (sym none) ∙ sym (v.lines o.0 p.next (omega arith)) ∙ ap (first_lines (p.next - 1)) (sym v.is) ∙ lead
          in
          let rest : o.0 ≡ b ∷ bs = append_cancel_left text o.0 (b ∷ bs) (ap (λ q. q ++ o.0) (sym read) ∙ sym v.is ∙ is) in
          short_reads other h ∙ ap (λ r. and_then r (λ q. ended q.got.sheet q.rest q.next)) o.1 ∙ ap (λ r. ended p.got.sheet r p.next) rest ∙ ap Err (sym x.0);
    }

else_err : {A E : Type 0} (b : Bool) (d : E) (r : Result A E) (c : E) → cond b (Err d) r ≡ Err c → ((b ≡ true) × (c ≡ d)) ⊎ ((b ≡ false) × (r ≡ Err c))
else_err true d r c e = inl (refl, cc)
else_err false d r c e = inr (refl, e)

pub accounts : (bytes : List ℕ) (f : SheetFault) → read_sheet bytes ≡ Err f → Account bytes f
accounts bytes f e =
    ⊎_elim (λ c. inl (c.1, ltb-true 256 (length bytes) c.0))
    (λ c.
    let short = ltb-false 256 (length bytes) c.0 in
    inr (⊎_elim (λ b. inl (broken bytes f short b)) (λ b. inr (longer bytes f short b.0 b.1 b.2)) (and_then_cases (sections bytes 1) _ f c.1)))
    (else_err (ltb 256 (length bytes)) (fault TooLong 0) (sheet_from bytes 1) f e)

-- a refusal's line is small
pub small_line : (bytes : List ℕ) (f : SheetFault) → read_sheet bytes ≡ Err f → f.line ≤ 30
small_line bytes f e =
    ⊎_elim (λ c. omega (arith, ap (λ (g : SheetFault). g.line) c.0)) (λ c. ⊎_elim (λ b. b.at.last) (λ b. b.at.last) c) (accounts bytes f e)

-- what every reading tells
module _ {A : Type 0} (bytes : List ℕ) (before after : Sheet) where
  pub reads_text : (r : Result A SheetFault) → Reads bytes before after r → MatchResult r (λ _. TextOnlyOf (content_of after) bytes) (λ _. NoText bytes)
  reads_text (Ok v) h = let t = text_writes bytes (content_of after) h in record { is = t; only = λ other o. one_sheet bytes other (content_of after) o t }
  reads_text (Err f) h = no_text bytes f h.0

  pub reads_account : (r : Result A SheetFault) → Reads bytes before after r → IfErr r (λ f. Account bytes f)
  reads_account (Ok v) h = tt
  reads_account (Err f) h = accounts bytes f h.0

  pub reads_small : (r : Result A SheetFault) → Reads bytes before after r → IfErr r (λ f. f.line ≤ 30)
  reads_small (Ok v) h = tt
  reads_small (Err f) h = small_line bytes f h.0
