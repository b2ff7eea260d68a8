-- The texts of a sheet are what is read as that sheet.
use Rattle.std.proofs.Common.{◌≡◌, ℕ, zero, suc, ◌+◌, ◌^◌, ◌<◌, ◌≤◌, Bool, true, false, cond, eqb, ltb, leb, ◌⊎◌, List, [], ◌∷◌, ◌++◌, length, Some, None, Ok, Err, decimal, Option, Result, sym, refl, ap, ◌∙◌, subst, inl, inr, ⊎_elim, append_assoc, append-nil, arith}
use Rattle.std.proofs.lemmas.List.{length_push}
use Rattle.std.proofs.lemmas.Bool.{and_parts, and_from, cond-true, cond-false, leb-true, le-leb, ltb-false, le-ltb, eqb-true, cases_Bool, false≢true}
use Rattle.charge.specs.Charge.{within}
use Rattle.sheet.specs.declared.flow.Flow.{Flow}
use Rattle.sheet.specs.Ranges.{flow_fits, lane_fits, all_of}
use Rattle.sheet.specs.Sheets.{Content, Fits, with_slots, with_threshold}
use Rattle.reader.specs.declared.draft.Parameter.{Parameter}
use Rattle.reader.specs.declared.draft.Parameter.TheVariants.{Slots, Threshold}
use Rattle.reader.specs.declared.draft.Section.{Section}
use Rattle.reader.specs.declared.draft.Section.TheVariants.{Flows, Lanes, Params}
use Rattle.reader.specs.declared.fault.Refusal.{Refusal}
use Rattle.reader.specs.declared.fault.Refusal.TheVariants.{Form, Order}
use Rattle.reader.specs.declared.fault.SheetFault.{SheetFault}
use Rattle.reader.specs.Format.{Read, and_then, line_ends, line_as, lines_into, section, start, sections, ended, sheet_from, read_sheet}
use Rattle.reader.specs.Grammar.{head_line, flow_line, param_line, lines_of, section_of, sheet_text, Stands, neither, just_d, just_t, both, Text}
use Rattle.reader.specs.Lines.{Progress, cut_at, letter_of, most_of, lettered_of, count_of, ranged, earlier, with_param, line_into}
use Rattle.reader.proofs.Forms.{Lacks, cut_writes, cut_reads, lacks_decimal, some_ok, some_goes, cond_ok, lettered_writes, lettered_reads, ranged_ok, add_flows, add_lanes, flow_writes, flow_reads, lane_writes, lane_reads, count_writes, count_reads}
use Rattle.reader.proofs.Numbers.{cond_some}
use Rattle.reader.proofs.Turns.{whole}

pub and_then_ok : {A B E : Type 0} (r : Result A E) (f : A → Result B E) (y : B) → and_then r f ≡ Ok y → (x : A) × (r ≡ Ok x) × (f x ≡ Ok y)
and_then_ok (Ok x) f y e = (x, refl, e)
and_then_ok (Err d) f y e = let z : ◌≡◌ {A = ℕ} 0 1 = cc in absurd (omega arith)

ends_ok : {A : Type 0} (r : Result A Refusal) (rest : List ℕ) (k : ℕ) (x : Read A) → line_ends r rest k ≡ Ok x → (r ≡ Ok x.got) × (rest ≡ x.rest)
ends_ok {A} (Ok v) rest k x e =
    let h : ◌≡◌ {A = Read A} (record { got = v; rest = rest; next = k + 1 }) x = cc in
    (ap (λ (y : Read A). Ok y.got) h, ap (λ (y : Read A). y.rest) h)
ends_ok (Err d) rest k x e = let z : ◌≡◌ {A = ℕ} 0 1 = cc in absurd (omega arith)

pub line_ok : {A : Type 0} (form : List ℕ → Result A Refusal) (bytes : List ℕ) (k : ℕ) (x : Read A) → line_as form bytes k ≡ Ok x → (l : List ℕ) × (bytes ≡ l ++ 10 ∷ x.rest) × (form l ≡ Ok x.got)
line_ok form bytes k x e =
    let h = some_ok (cut_at 10 bytes) _ _ x e in
    let p = h.0 in
    let t = ends_ok (form p.0) p.1 k x h.2 in
    (p.0, cut_writes 10 bytes p.0 p.1 h.1 ∙ ap (λ r. p.0 ++ 10 ∷ r) t.1, t.0)

line_goes : {A : Type 0} (form : List ℕ → Result A Refusal) (l : List ℕ) (v : A) (rest : List ℕ) (k : ℕ) → form l ≡ Ok v → Lacks 10 l → line_as form (l ++ 10 ∷ rest) k ≡ Ok (record { got = v; rest = rest; next = k + 1 })
line_goes form l v rest k e h = some_goes (cut_at 10 (l ++ 10 ∷ rest)) _ _ (l, rest) (cut_reads 10 l rest h) ∙ ap (λ r. line_ends r rest k) e

-- a section whose lines each add one thing: w writes it, p is its range, and size counts what is there
pub record Adding {A : Type 0} (due : Section) (w : A → List ℕ) (p : A → Bool) (add : Progress → List A → Progress) (size : Progress → ℕ) : Type 0 where
  pub nil : (g : Progress) → add g [] ≡ g
  pub more : (g : Progress) (v : A) (vs : List A) → add (add g (v ∷ [])) vs ≡ add g (v ∷ vs)
  pub grows : (g : Progress) (v : A) → size (add g (v ∷ [])) ≡ size g + 1
  pub writes : (g : Progress) (l : List ℕ) (h : Progress) → line_into due g l ≡ Ok h → (v : A) × (l ≡ w v) × (p v ≡ true) × (h ≡ add g (v ∷ []))
  pub reads : (g : Progress) (v : A) → p v ≡ true → size g < most_of due → (line_into due g (w v) ≡ Ok (add g (v ∷ []))) × Lacks 10 (w v)

sheet_at : (g : Progress) → Content → Progress
sheet_at g s = record { sheet = s; last = g.last }

pub flows_add : Adding Flows flow_line flow_fits add_flows (λ g. length g.sheet.flows)
unfolding sheet_at
flows_add = record {
  nil = λ g. ap (λ fs. sheet_at g (record { flows = fs; lanes = g.sheet.lanes; slots = g.sheet.slots; threshold = g.sheet.threshold })) (append-nil g.sheet.flows);
  more = λ g v vs. ap (λ fs. sheet_at g (record { flows = fs; lanes = g.sheet.lanes; slots = g.sheet.slots; threshold = g.sheet.threshold })) (append_assoc g.sheet.flows (v ∷ []) vs);
  grows = λ g v. length_push g.sheet.flows v;
  writes = flow_writes;
  reads = flow_reads;
}

pub lanes_add : Adding Lanes decimal lane_fits add_lanes (λ g. length g.sheet.lanes)
unfolding sheet_at
lanes_add = record {
  nil = λ g. ap (λ ks. sheet_at g (record { flows = g.sheet.flows; lanes = ks; slots = g.sheet.slots; threshold = g.sheet.threshold })) (append-nil g.sheet.lanes);
  more = λ g v vs. ap (λ ks. sheet_at g (record { flows = g.sheet.flows; lanes = ks; slots = g.sheet.slots; threshold = g.sheet.threshold })) (append_assoc g.sheet.lanes (v ∷ []) vs);
  grows = λ g v. length_push g.sheet.lanes v;
  writes = lane_writes;
  reads = lane_reads;
}

-- what the lines of such a section were read from
pub record Wrote {A : Type 0} (w : A → List ℕ) (p : A → Bool) (add : Progress → List A → Progress) (g : Progress) (n : ℕ) (bytes : List ℕ) (x : Read Progress) : Type 0 where
  pub items : List A
  pub many : length items ≡ n
  pub text : bytes ≡ lines_of w items ++ x.rest
  pub fit : all_of p items ≡ true
  pub now : x.got ≡ add g items

module _ {A : Type 0} {due : Section} {w : A → List ℕ} {p : A → Bool} {add : Progress → List A → Progress} {size : Progress → ℕ} (a : Adding due w p add size) where
  lines_write : (g : Progress) (n : ℕ) (bytes : List ℕ) (k : ℕ) (x : Read Progress) → lines_into (line_into due) g n bytes k ≡ Ok x → Wrote w p add g n bytes x
  lines_write g zero bytes k x e =
      let h : ◌≡◌ {A = Read Progress} (record { got = g; rest = bytes; next = k }) x = cc in
      record { items = []; many = refl; text = ap (λ (y : Read Progress). y.rest) h; fit = refl; now = sym (ap (λ (y : Read Progress). y.got) h) ∙ sym (a.nil g) }
  lines_write g (suc n) bytes k x e =
      let h = and_then_ok (line_as (line_into due g) bytes k) _ x e in
      let y = h.0 in
      let t = line_ok (line_into due g) bytes k y h.1 in
      let u = a.writes g t.0 y.got t.2 in
      let v = u.0 in
      let r = lines_write y.got n y.rest y.next x h.2 in
      record {
        items = v ∷ r.items;
        many = ap suc r.many;
        text = t.1 ∙ ap (λ q. q ++ 10 ∷ y.rest) u.1 ∙ ap (λ q. w v ++ 10 ∷ q) r.text ∙ sym (append_assoc (w v) (10 ∷ lines_of w r.items) x.rest);
        fit = and_from _ _ u.2 r.fit;
        now = r.now ∙ ap (λ q. add q r.items) u.3 ∙ a.more g v r.items;
      }

  lines_read : (g : Progress) (vs : List A) (rest : List ℕ) (k : ℕ) → all_of p vs ≡ true → size g + length vs ≤ most_of due → (j : ℕ) × (lines_into (line_into due) g (length vs) (lines_of w vs ++ rest) k ≡ Ok (record { got = add g vs; rest = rest; next = j }))
  lines_read g [] rest k h few = (k, ap (λ q. Ok (record { got = q; rest = rest; next = k })) (sym (a.nil g)))
  lines_read g (v ∷ vs) rest k h few =
      let t = and_parts (p v) (all_of p vs) h in
      let l = a.reads g v t.0 (omega arith) in
      let r = lines_read (add g (v ∷ [])) vs rest (k + 1) t.1 (omega (arith, a.grows g v)) in (
        r.0,
        ap (λ b. lines_into (line_into due) g (suc (length vs)) b k) (append_assoc (w v) (10 ∷ lines_of w vs) rest)
            ∙ ap (λ q. and_then q (λ x. lines_into (line_into due) x.got (length vs) x.rest x.next)) (line_goes (line_into due g) (w v) (add g (v ∷ [])) (lines_of w vs ++ rest) k l.0 l.1)
            ∙ r.1
            ∙ ap (λ q. Ok (record { got = q; rest = rest; next = r.0 })) (a.more g v vs),
      )

  pub section_writes : (g : Progress) (bytes : List ℕ) (k : ℕ) (x : Read Progress) → section due g bytes k ≡ Ok x → (vs : List A) × (bytes ≡ section_of (letter_of due) w vs ++ x.rest) × (length vs ≤ most_of due) × (all_of p vs ≡ true) × (x.got ≡ add g vs)
  section_writes g bytes k x e =
      let h = and_then_ok (line_as (count_of due) bytes k) _ x e in
      let y = h.0 in
      let t = line_ok (count_of due) bytes k y h.1 in
      let u = count_writes due t.0 y.got t.2 in
      let r = lines_write g y.got y.rest y.next x h.2 in
      let vs = r.items in (
        vs,
        t.1 ∙ ap (λ q. q ++ 10 ∷ y.rest) (u.0 ∙ ap (head_line (letter_of due)) (sym r.many)) ∙ ap (λ q. head_line (letter_of due) (length vs) ++ 10 ∷ q) r.text
            ∙ sym (append_assoc (head_line (letter_of due) (length vs)) (10 ∷ lines_of w vs) x.rest),
        omega (arith, u.1, r.many),
        r.fit,
        r.now,
      )

  section_reads : (g : Progress) (vs : List A) (rest : List ℕ) (k : ℕ) → size g + length vs ≤ most_of due → most_of due < 10 ^ 10 → (1 < letter_of due) × (letter_of due ≡ 10 → ⊥) → all_of p vs ≡ true → (j : ℕ) × (section due g (section_of (letter_of due) w vs ++ rest) k ≡ Ok (record { got = add g vs; rest = rest; next = j }))
  section_reads g vs rest k few small big h =
      let c = count_reads due (length vs) (omega arith) (omega arith) big in
      let r = lines_read g vs rest (k + 1) h few in (
        r.0,
        ap (λ b. section due g b k) (append_assoc (head_line (letter_of due) (length vs)) (10 ∷ lines_of w vs) rest)
            ∙ ap (λ q. and_then q (λ x. lines_into (line_into due) g x.got x.rest x.next)) (line_goes (count_of due) (head_line (letter_of due) (length vs)) (length vs) (lines_of w vs ++ rest) k c.0 c.1)
            ∙ r.1,
      )

-- what is read so far, with another D and with another T
abbrev pub set_slots : Progress → ℕ → Progress
set_slots g d = record { sheet = record { flows = g.sheet.flows; lanes = g.sheet.lanes; slots = d; threshold = g.sheet.threshold }; last = Some Slots }

abbrev pub set_threshold : Progress → ℕ → Progress
set_threshold g t = record { sheet = record { flows = g.sheet.flows; lanes = g.sheet.lanes; slots = g.sheet.slots; threshold = t }; last = Some Threshold }

-- what a parameter's line says, after g
pub record GaveD (g : Progress) (l : List ℕ) (h : Progress) : Type 0 where
  pub value : ℕ
  pub text : l ≡ head_line 68 value
  pub early : earlier g.last Slots ≡ true
  pub now : h ≡ set_slots g value
  pub low : 1 ≤ value
  pub high : value ≤ 32

pub record GaveT (g : Progress) (l : List ℕ) (h : Progress) : Type 0 where
  pub value : ℕ
  pub text : l ≡ head_line 84 value
  pub early : earlier g.last Threshold ≡ true
  pub now : h ≡ set_threshold g value
  pub high : value ≤ 1000000000

gave_d : (g : Progress) (l : List ℕ) (h : Progress) (n : ℕ) → l ≡ head_line 68 n → ◌≡◌ {A = Result Progress Refusal} (cond (earlier g.last Slots) (ranged (with_slots g.sheet n) (Some Slots)) (Err Order)) (Ok h) → GaveD g l h
gave_d g l h n text e =
    let a = cond_ok (earlier g.last Slots) _ _ h e in
    let r = ranged_ok (with_slots g.sheet n) (Some Slots) h a.1 in
    let c = cond_some (within 1 32 n) _ r.0 r.1 in
    let same : (set_slots g n).sheet ≡ r.0 = cc c.1 in
    let fit = and_parts (leb 1 n) (leb n 32) c.0 in
    record { value = n; text = text; early = a.0; now = r.2 ∙ ap (λ (q : Content). record { sheet = q; last = Some Slots }) (sym same); low = leb-true _ _ fit.0; high = leb-true _ _ fit.1 }

gave_t : (g : Progress) (l : List ℕ) (h : Progress) (n : ℕ) → l ≡ head_line 84 n → ◌≡◌ {A = Result Progress Refusal} (cond (earlier g.last Threshold) (ranged (with_threshold g.sheet n) (Some Threshold)) (Err Order)) (Ok h) → GaveT g l h
gave_t g l h n text e =
    let a = cond_ok (earlier g.last Threshold) _ _ h e in
    let r = ranged_ok (with_threshold g.sheet n) (Some Threshold) h a.1 in
    let c = cond_some (leb n 1000000000) _ r.0 r.1 in
    let same : (set_threshold g n).sheet ≡ r.0 = cc c.1 in
    record { value = n; text = text; early = a.0; now = r.2 ∙ ap (λ (q : Content). record { sheet = q; last = Some Threshold }) (sym same); high = leb-true _ _ c.0 }

-- a parameter's line, by its letter
by_letter : Progress → ℕ → Option Parameter → Result Progress Refusal
by_letter g n o = elim o [ None ↦ Err Form | Some q ↦ cond (earlier g.last q) (ranged (with_param q g.sheet n) (Some q)) (Err Order) ]

pub param_writes : (g : Progress) (l : List ℕ) (h : Progress) → line_into Params g l ≡ Ok h → GaveD g l h ⊎ GaveT g l h
unfolding by_letter
param_writes g l h e =
    let s = some_ok (lettered_of l) _ _ h e in
    let c = s.0.0 in
    let n = s.0.1 in
    let is = lettered_writes l c n s.1 in
    ⊎_elim
    (λ y. inl (gave_d g l h n (is ∙ ap (λ x. head_line x n) (eqb-true c 68 y)) (sym (ap (by_letter g n) (cond-true (eqb c 68) (Some Slots) (cond (eqb c 84) (Some Threshold) None) y)) ∙ s.2)))
    (λ m.
    ⊎_elim
    (λ y. inr (gave_t g l h n (is ∙ ap (λ x. head_line x n) (eqb-true c 84 y)) (sym (ap (by_letter g n) (cond-false (eqb c 68) (Some Slots) (cond (eqb c 84) (Some Threshold) None) m ∙ cond-true (eqb c 84) (Some Threshold) None y)) ∙ s.2)))
    (λ o. let f : ◌≡◌ {A = Result Progress Refusal} (Err Form) (Ok h) = sym (ap (by_letter g n) (cond-false (eqb c 68) (Some Slots) (cond (eqb c 84) (Some Threshold) None) m ∙ cond-false (eqb c 84) (Some Threshold) None o)) ∙ s.2 in let z : ◌≡◌ {A = ℕ} 0 1 = cc in absurd (omega arith))
    (cases_Bool (eqb c 84)))
    (cases_Bool (eqb c 68))

-- before the parameters
abbrev pub from : List Flow → List ℕ → Progress
from fs ls = record { sheet = record { flows = fs; lanes = ls; slots = 1; threshold = 0 }; last = None }

none_left : (g : Progress) (bytes : List ℕ) (k : ℕ) (x : Read Progress) → lines_into (line_into Params) g zero bytes k ≡ Ok x → (g ≡ x.got) × (bytes ≡ x.rest)
none_left g bytes k x e =
    let h : ◌≡◌ {A = Read Progress} (record { got = g; rest = bytes; next = k }) x = cc in
    (ap (λ (y : Read Progress). y.got) h, ap (λ (y : Read Progress). y.rest) h)

one_param : (g : Progress) (bytes : List ℕ) (k : ℕ) (x : Read Progress) → lines_into (line_into Params) g 1 bytes k ≡ Ok x → (l : List ℕ) × (bytes ≡ l ++ 10 ∷ x.rest) × (GaveD g l x.got ⊎ GaveT g l x.got)
one_param g bytes k x e =
    let one = and_then_ok (line_as (line_into Params g) bytes k) _ x e in
    let y = one.0 in
    let l = line_ok (line_into Params g) bytes k y one.1 in
    let z = none_left y.got y.rest y.next x one.2 in
    (l.0, l.1 ∙ ap (λ q. l.0 ++ 10 ∷ q) z.1, param_writes g l.0 x.got (l.2 ∙ ap Ok z.0))

-- the parameters that the lines of the section P give
pub record Gave (fs : List Flow) (ls : List ℕ) (n : ℕ) (bytes : List ℕ) (x : Read Progress) : Type 0 where
  pub params : List (ℕ × ℕ)
  pub d : ℕ
  pub t : ℕ
  pub stands : Stands params d t
  pub now : x.got.sheet ≡ record { flows = fs; lanes = ls; slots = d; threshold = t }
  pub many : length params ≡ n
  pub text : bytes ≡ lines_of param_line params ++ x.rest
  pub low : 1 ≤ d
  pub high : d ≤ 32
  pub soon : t ≤ 1000000000

params_write : (fs : List Flow) (ls : List ℕ) (n : ℕ) → n ≤ 2 → (bytes : List ℕ) (k : ℕ) (x : Read Progress) → lines_into (line_into Params) (from fs ls) n bytes k ≡ Ok x → Gave fs ls n bytes x
params_write fs ls zero few bytes k x e =
    let z = none_left (from fs ls) bytes k x e in
    record { params = []; d = 1; t = 0; stands = neither; now = sym (ap (λ (g : Progress). g.sheet) z.0); many = refl; text = z.1; low = omega arith; high = omega arith; soon = omega arith }
params_write fs ls (suc zero) few bytes k x e =
    let one = one_param (from fs ls) bytes k x e in
    ⊎_elim
    (λ p. record {
      params = (68, p.value) ∷ [];
      d = p.value;
      t = 0;
      stands = just_d;
      now = ap (λ (g : Progress). g.sheet) p.now;
      many = refl;
      text = one.1 ∙ ap (λ q. q ++ 10 ∷ x.rest) p.text ∙ sym (append_assoc (head_line 68 p.value) (10 ∷ []) x.rest);
      low = p.low;
      high = p.high;
      soon = omega arith;
    })
    (λ p. record {
      params = (84, p.value) ∷ [];
      d = 1;
      t = p.value;
      stands = just_t;
      now = ap (λ (g : Progress). g.sheet) p.now;
      many = refl;
      text = one.1 ∙ ap (λ q. q ++ 10 ∷ x.rest) p.text ∙ sym (append_assoc (head_line 84 p.value) (10 ∷ []) x.rest);
      low = omega arith;
      high = omega arith;
      soon = p.high;
    })
    one.2
params_write fs ls (suc (suc zero)) few bytes k x e =
    let one = and_then_ok (line_as (line_into Params (from fs ls)) bytes k) _ x e in
    let y = one.0 in
    let l = line_ok (line_into Params (from fs ls)) bytes k y one.1 in
    ⊎_elim
    (λ p.
    let two = one_param (set_slots (from fs ls) p.value) y.rest y.next x (subst (λ q. lines_into (line_into Params) q 1 y.rest y.next ≡ Ok x) p.now one.2) in
    ⊎_elim
    (λ q. absurd (false≢true q.early))
    (λ q. record {
      params = (68, p.value) ∷ (84, q.value) ∷ [];
      d = p.value;
      t = q.value;
      stands = both;
      now = ap (λ (g : Progress). g.sheet) q.now;
      many = refl;
      text =
          l.1 ∙ ap (λ a. a ++ 10 ∷ y.rest) p.text
          ∙ ap (λ a. head_line 68 p.value ++ 10 ∷ a) (two.1 ∙ ap (λ a. a ++ 10 ∷ x.rest) q.text ∙ sym (append_assoc (head_line 84 q.value) (10 ∷ []) x.rest))
          ∙ sym (append_assoc (head_line 68 p.value) (10 ∷ lines_of param_line ((84, q.value) ∷ [])) x.rest);
      low = p.low;
      high = p.high;
      soon = q.high;
    })
    two.2)
    (λ p.
    let two = one_param (set_threshold (from fs ls) p.value) y.rest y.next x (subst (λ q. lines_into (line_into Params) q 1 y.rest y.next ≡ Ok x) p.now one.2) in
    ⊎_elim (λ q. absurd (false≢true q.early)) (λ q. absurd (false≢true q.early)) two.2)
    (param_writes (from fs ls) l.0 y.got l.2)
params_write fs ls (suc (suc (suc n))) few bytes k x e = absurd (omega arith)

-- the section P, and the parameters that it gives
pub params_section : (fs : List Flow) (ls : List ℕ) (bytes : List ℕ) (k : ℕ) (x : Read Progress) → section Params (from fs ls) bytes k ≡ Ok x → (n : ℕ) × (rest : List ℕ) × (bytes ≡ head_line 80 n ++ 10 ∷ rest) × Gave fs ls n rest x
params_section fs ls bytes k x e =
    let h = and_then_ok (line_as (count_of Params) bytes k) _ x e in
    let y = h.0 in
    let t = line_ok (count_of Params) bytes k y h.1 in
    let u = count_writes Params t.0 y.got t.2 in
    (y.got, y.rest, t.1 ∙ ap (λ q. q ++ 10 ∷ y.rest) u.0, params_write fs ls y.got u.1 y.rest y.next x h.2)

head_lacks : (c n : ℕ) → (c ≡ 10 → ⊥) → n < 10 ^ 10 → Lacks 10 (head_line c n)
head_lacks c n h small = (h, (λ e. omega arith, lacks_decimal 10 n (omega arith) small))

slots_read : (g : Progress) (d : ℕ) → earlier g.last Slots ≡ true → 1 ≤ d → d ≤ 32 → line_into Params g (head_line 68 d) ≡ Ok (set_slots g d)
slots_read g d early low high =
    some_goes (lettered_of (head_line 68 d)) _ _ (68, d) (lettered_reads 68 d (omega arith))
    ∙ cond-true (earlier g.last Slots) _ _ early
    ∙ ap (λ o. ranged o (Some Slots)) (cond-true (within 1 32 d) _ None (and_from _ _ (le-leb _ _ low) (le-leb _ _ high)))

threshold_reads : (g : Progress) (t : ℕ) → earlier g.last Threshold ≡ true → t ≤ 1000000000 → line_into Params g (head_line 84 t) ≡ Ok (set_threshold g t)
threshold_reads g t early high =
    some_goes (lettered_of (head_line 84 t)) _ _ (84, t) (lettered_reads 84 t (omega arith))
    ∙ cond-true (earlier g.last Threshold) _ _ early
    ∙ ap (λ o. ranged o (Some Threshold)) (cond-true (leb t 1000000000) _ None (le-leb _ _ high))

-- a line of the section P, and those after it
param_goes : (g h : Progress) (c m : ℕ) (ps : List (ℕ × ℕ)) (rest : List ℕ) (k : ℕ) → line_into Params g (head_line c m) ≡ Ok h → Lacks 10 (head_line c m) → lines_into (line_into Params) g (suc (length ps)) (lines_of param_line ((c, m) ∷ ps) ++ rest) k ≡ lines_into (line_into Params) h (length ps) (lines_of param_line ps ++ rest) (k + 1)
param_goes g h c m ps rest k e lacks =
    ap (λ b. lines_into (line_into Params) g (suc (length ps)) b k) (append_assoc (head_line c m) (10 ∷ lines_of param_line ps) rest)
    ∙ ap (λ q. and_then q (λ x. lines_into (line_into Params) x.got (length ps) x.rest x.next)) (line_goes (line_into Params g) (head_line c m) h (lines_of param_line ps ++ rest) k e lacks)

params_go : (g : Progress) (ps : List (ℕ × ℕ)) (rest : List ℕ) (k : ℕ) → length ps ≤ 2 → section Params g (section_of 80 param_line ps ++ rest) k ≡ lines_into (line_into Params) g (length ps) (lines_of param_line ps ++ rest) (k + 1)
params_go g ps rest k few =
    let c = count_reads Params (length ps) few (omega arith) (omega arith, λ e. omega arith) in
    ap (λ b. section Params g b k) (append_assoc (head_line 80 (length ps)) (10 ∷ lines_of param_line ps) rest)
    ∙ ap (λ q. and_then q (λ x. lines_into (line_into Params) g x.got x.rest x.next)) (line_goes (count_of Params) (head_line 80 (length ps)) (length ps) (lines_of param_line ps ++ rest) k c.0 c.1)

params_read : (fs : List Flow) (ls : List ℕ) (ps : List (ℕ × ℕ)) (d t : ℕ) → Stands ps d t → 1 ≤ d → d ≤ 32 → t ≤ 1000000000 → (rest : List ℕ) (k : ℕ) → (x : Read Progress) × (section Params (from fs ls) (section_of 80 param_line ps ++ rest) k ≡ Ok x) × (x.got.sheet ≡ record { flows = fs; lanes = ls; slots = d; threshold = t }) × (x.rest ≡ rest)
params_read fs ls ps d t neither low high soon rest k = (_, params_go (from fs ls) [] rest k (omega arith), refl, refl)
params_read fs ls ps d t just_d low high soon rest k = (
  _,
  params_go (from fs ls) ((68, d) ∷ []) rest k (omega arith) ∙ param_goes (from fs ls) _ 68 d [] rest (k + 1) (slots_read (from fs ls) d refl low high) (head_lacks 68 d (λ e. omega arith) (omega arith)),
  refl,
  refl,
)
params_read fs ls ps d t just_t low high soon rest k = (
  _,
  params_go (from fs ls) ((84, t) ∷ []) rest k (omega arith) ∙ param_goes (from fs ls) _ 84 t [] rest (k + 1) (threshold_reads (from fs ls) t refl soon) (head_lacks 84 t (λ e. omega arith) (omega arith)),
  refl,
  refl,
)
params_read fs ls ps d t both low high soon rest k = (
  _,
  params_go (from fs ls) ((68, d) ∷ (84, t) ∷ []) rest k (omega arith)
      ∙ param_goes (from fs ls) (set_slots (from fs ls) d) 68 d ((84, t) ∷ []) rest (k + 1) (slots_read (from fs ls) d refl low high) (head_lacks 68 d (λ e. omega arith) (omega arith))
      ∙ param_goes (set_slots (from fs ls) d) _ 84 t [] rest (k + 1 + 1) (threshold_reads (set_slots (from fs ls) d) t refl soon) (head_lacks 84 t (λ e. omega arith) (omega arith)),
  refl,
  refl,
)

ended_ok : {A : Type 0} (x : A) (bytes : List ℕ) (k : ℕ) (y : A) → ended x bytes k ≡ Ok y → (bytes ≡ []) × (x ≡ y)
ended_ok x [] k y e = (refl, cc)
ended_ok x (b ∷ bs) k y e = let z : ◌≡◌ {A = ℕ} 0 1 = cc in absurd (omega arith)

pub else_ok : {A E : Type 0} (b : Bool) (d : E) (r : Result A E) (v : A) → cond b (Err d) r ≡ Ok v → (b ≡ false) × (r ≡ Ok v)
else_ok true d r v e = let z : ◌≡◌ {A = ℕ} 0 1 = cc in absurd (omega arith)
else_ok false d r v e = (refl, e)

-- what three sections were read from
pub record Spelled (bytes : List ℕ) (p : Read Progress) : Type 0 where
  pub flows : List Flow
  pub lanes : List ℕ
  pub params : List (ℕ × ℕ)
  pub d : ℕ
  pub t : ℕ
  pub stands : Stands params d t
  pub text : bytes ≡ sheet_text flows lanes params ++ p.rest
  pub now : p.got.sheet ≡ record { flows = flows; lanes = lanes; slots = d; threshold = t }
  pub fits : Fits (record { flows = flows; lanes = lanes; slots = d; threshold = t })

pub sections_write : (bytes : List ℕ) (k : ℕ) (p : Read Progress) → sections bytes k ≡ Ok p → Spelled bytes p
sections_write bytes k p e =
    let a = and_then_ok (section Flows start bytes k) _ p e in
    let f = a.0 in
    let b = and_then_ok (section Lanes f.got f.rest f.next) _ p a.2 in
    let l = b.0 in
    let fw = section_writes flows_add start bytes k f a.1 in
    let fs = fw.0 in
    let lw = section_writes lanes_add f.got f.rest f.next l b.1 in
    let ls = lw.0 in
    let got : l.got ≡ from fs ls = lw.4 ∙ ap (λ g. add_lanes g ls) fw.4 in
    let pw = params_section fs ls l.rest l.next p (subst (λ g. section Params g l.rest l.next ≡ Ok p) got b.2) in
    let g = pw.3 in
    let last : l.rest ≡ section_of 80 param_line g.params ++ p.rest =
    pw.2 ∙ ap (λ n. head_line 80 n ++ 10 ∷ pw.1) (sym g.many) ∙ ap (λ q. head_line 80 (length g.params) ++ 10 ∷ q) g.text
    ∙ sym (append_assoc (head_line 80 (length g.params)) (10 ∷ lines_of param_line g.params) p.rest)
    in
    let tail : f.rest ≡ (section_of 76 decimal ls ++ section_of 80 param_line g.params) ++ p.rest =
    lw.1 ∙ ap (λ q. section_of 76 decimal ls ++ q) last ∙ sym (append_assoc (section_of 76 decimal ls) (section_of 80 param_line g.params) p.rest)
    in
    record {
      flows = fs;
      lanes = ls;
      params = g.params;
      d = g.d;
      t = g.t;
      stands = g.stands;
      text = fw.1 ∙ ap (λ q. section_of 70 flow_line fs ++ q) tail ∙ sym (append_assoc (section_of 70 flow_line fs) (section_of 76 decimal ls ++ section_of 80 param_line g.params) p.rest);
      now = g.now;
      fits = record { few_flows = fw.2; flows_fit = fw.3; few_lanes = lw.2; lanes_fit = lw.3; some_slots = g.low; few_slots = g.high; near = g.soon };
    }

-- what is read as a sheet is a text of it
pub text_writes : (bytes : List ℕ) (s : Content) → read_sheet bytes ≡ Ok s → Text s bytes
text_writes bytes s e =
    let h = else_ok (ltb 256 (length bytes)) _ (sheet_from bytes 1) s e in
    let a = and_then_ok (sections bytes 1) _ s h.1 in
    let p = a.0 in
    let w = sections_write bytes 1 p a.1 in
    let z = ended_ok p.got.sheet p.rest p.next s a.2 in
    subst (λ (v : Content). Text v bytes) (sym w.now ∙ z.1) (record {
      params = w.params;
      stands = w.stands;
      spelled = w.text ∙ ap (λ q. sheet_text w.flows w.lanes w.params ++ q) z.0 ∙ append-nil (sheet_text w.flows w.lanes w.params);
      short = ltb-false 256 (length bytes) h.0;
      fits = w.fits;
    })

-- and a text of a sheet is read as it
pub text_reads : (bytes : List ℕ) (s : Content) → Text s bytes → read_sheet bytes ≡ Ok s
text_reads bytes s t =
    let fit = t.fits in
    let ps = t.params in
    let fs = s.flows in
    let ls = s.lanes in
    let tail = section_of 76 decimal ls ++ section_of 80 param_line ps in
    let f = section_reads flows_add start fs tail 1 (omega (arith, fit.few_flows)) (omega arith) (omega arith, λ e. omega arith) fit.flows_fit in
    let l = section_reads lanes_add (add_flows start fs) ls (section_of 80 param_line ps) f.0 (omega (arith, fit.few_lanes)) (omega arith) (omega arith, λ e. omega arith) fit.lanes_fit in
    let p = params_read fs ls ps s.slots s.threshold t.stands fit.some_slots fit.few_slots fit.near [] l.0 in
    let pe : section Params (from fs ls) (section_of 80 param_line ps) l.0 ≡ Ok p.0 = ap (λ b. section Params (from fs ls) b l.0) (sym (append-nil (section_of 80 param_line ps))) ∙ p.1 in
    cond-false (ltb 256 (length bytes)) _ (sheet_from bytes 1) (le-ltb 256 (length bytes) t.short)
    ∙ ap (λ b. sheet_from b 1) t.spelled
    ∙ whole (sheet_text fs ls ps) 1 (record { got = add_flows start fs; rest = tail; next = f.0 }) (record { got = from fs ls; rest = section_of 80 param_line ps; next = l.0 }) p.0 f.1 l.1 pe
    ∙ ap (λ r. ended p.0.got.sheet r p.0.next) p.3
    ∙ ap Ok p.2

-- what is refused is a text of no sheet
pub no_text : (bytes : List ℕ) (f : SheetFault) → read_sheet bytes ≡ Err f → (s : Content) → Text s bytes → ⊥
no_text bytes f e s t = let g = text_reads bytes s t in let z : ◌≡◌ {A = ℕ} 0 1 = cc in omega arith

-- a text is a text of one sheet
pub one_sheet : (bytes : List ℕ) (s u : Content) → Text s bytes → Text u bytes → s ≡ u
one_sheet bytes s u t v = let a = text_reads bytes s t in let b = text_reads bytes u v in cc
