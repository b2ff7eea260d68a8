-- What is read of the first lines depends on them alone.
use Rattle.std.proofs.Common.{◌≡◌, ℕ, zero, suc, ◌+◌, ◌-◌, ◌≤◌, eqb, ltb, ◌⊎◌, List, [], ◌∷◌, ◌++◌, length, take, drop, Some, None, Ok, Err, Option, Result, sym, refl, ap, ◌∙◌, subst, inl, inr, ⊎_elim, append_assoc, add-one, arith}
use Rattle.std.proofs.lemmas.List.{append_cancel_right}
use Rattle.std.proofs.lemmas.Bool.{cond-true, cond-false, eqb-false, cases_Bool, ne_eqb, le-ltb, lt-ltb, cases_lt}
use Rattle.std.specs.Option.{option_map}
use Rattle.reader.specs.declared.draft.Section.{Section}
use Rattle.reader.specs.declared.draft.Section.TheVariants.{Flows, Lanes, Params}
use Rattle.reader.specs.declared.fault.Refusal.{Refusal}
use Rattle.reader.specs.declared.fault.Refusal.TheVariants.{Form}
use Rattle.reader.specs.declared.fault.SheetFault.{SheetFault}
use Rattle.reader.specs.Account.{first_lines}
use Rattle.reader.specs.Format.{Read, fault, and_then, line_ends, line_as, lines_into, section, start, sections}
use Rattle.reader.specs.Lines.{Progress, before, cut_at, count_of, line_into}
use Rattle.reader.proofs.Forms.{Lacks, cut_writes, cut_reads}
use Rattle.reader.proofs.Texts.{and_then_ok}

pub and_then_cases : {A B E : Type 0} (r : Result A E) (f : A → Result B E) (d : E) → and_then r f ≡ Err d → (r ≡ Err d) ⊎ ((x : A) × (r ≡ Ok x) × (f x ≡ Err d))
and_then_cases (Ok x) f d e = inr (x, refl, e)
and_then_cases {A} (Err c) f d e = let h : ◌≡◌ {A = Result A _} (Err c) (Err d) = cc in inl h

lacks_more : (b x : ℕ) (xs : List ℕ) (n : ℕ) → (x ≡ b → ⊥) → Lacks b (take n xs) → Lacks b (take (n + 1) (x ∷ xs))
lacks_more b x xs n ne h = rw add-one (ne, h)

-- nothing before the first b is b
before_lacks : (b : ℕ) (xs : List ℕ) → Lacks b (take (before b xs) xs)
before_lacks b [] = tt
before_lacks b (x ∷ xs) =
    ⊎_elim (λ y. subst (λ n. Lacks b (take n (x ∷ xs))) (sym (cond-true (eqb x b) 0 (before b xs + 1) y)) tt)
    (λ n. subst (λ n. Lacks b (take n (x ∷ xs))) (sym (cond-false (eqb x b) 0 (before b xs + 1) n)) (lacks_more b x xs (before b xs) (eqb-false x b n) (before_lacks b xs)))
    (cases_Bool (eqb x b))

-- where no b is found, none is there
all_before : (b : ℕ) (xs : List ℕ) → length xs ≤ before b xs → Lacks b xs
all_before b [] h = tt
all_before b (x ∷ xs) h =
    ⊎_elim (λ y. absurd (omega (arith, cond-true (eqb x b) 0 (before b xs + 1) y)))
    (λ n. (eqb-false x b n, all_before b xs (omega (arith, cond-false (eqb x b) 0 (before b xs + 1) n))))
    (cases_Bool (eqb x b))

-- a cut finds a first part with no b, or there is no b at all
pub cut_tells : (b : ℕ) (xs : List ℕ) → ((l : List ℕ) × (a : List ℕ) × (cut_at b xs ≡ Some (l, a)) × (xs ≡ l ++ b ∷ a) × Lacks b l) ⊎ ((cut_at b xs ≡ None) × Lacks b xs)
cut_tells b xs =
    ⊎_elim
    (λ h.
    let e = cond-true (ltb (before b xs) (length xs)) (Some (take (before b xs) xs, drop (before b xs + 1) xs)) None (lt-ltb _ _ h) in
    inl (take (before b xs) xs, drop (before b xs + 1) xs, e, cut_writes b xs _ _ e, before_lacks b xs))
    (λ h. inr (cond-false (ltb (before b xs) (length xs)) (Some (take (before b xs) xs, drop (before b xs + 1) xs)) None (le-ltb _ _ h), all_before b xs h))
    (cases_lt (before b xs) (length xs))

first_on : (k b : ℕ) (bs : List ℕ) → (b ≡ 10 → ⊥) → first_lines (suc k) (b ∷ bs) ≡ b ∷ first_lines (suc k) bs
first_on k b bs ne = ap (λ n. b ∷ first_lines n bs) (cond-false (eqb b 10) k (suc k) (ne_eqb b 10 ne))

-- the first lines of a line and what follows
pub first_line_lem : (k : ℕ) (l rest : List ℕ) → Lacks 10 l → first_lines (suc k) (l ++ 10 ∷ rest) ≡ l ++ 10 ∷ first_lines k rest
first_line_lem k [] rest h = refl
first_line_lem k (b ∷ l) rest h = first_on k b (l ++ 10 ∷ rest) h.0 ∙ ap (λ r. b ∷ r) (first_line_lem k l rest h.1)

-- and of a line that has no end
first_open : (k : ℕ) (l : List ℕ) → Lacks 10 l → first_lines (suc k) l ≡ l
first_open k [] h = refl
first_open k (b ∷ l) h = first_on k b l h.0 ∙ ap (λ r. b ∷ r) (first_open k l h.1)

abbrev shortened : ℕ → List ℕ × List ℕ → List ℕ × List ℕ
shortened n p = (p.0, first_lines n p.1)

-- the first of the first lines
first_cut : (k : ℕ) (bytes : List ℕ) → cut_at 10 (first_lines (suc k) bytes) ≡ option_map (shortened k) (cut_at 10 bytes)
first_cut k bytes =
    ⊎_elim
    (λ h.
    ap (cut_at 10) (ap (first_lines (suc k)) h.3 ∙ first_line_lem k h.0 h.1 h.4) ∙ cut_reads 10 h.0 (first_lines k h.1) h.4
    ∙ sym (ap (option_map (shortened k)) h.2))
    (λ h. ap (cut_at 10) (first_open k bytes h.1) ∙ h.0 ∙ sym (ap (option_map (shortened k)) h.0))
    (cut_tells 10 bytes)

-- a line that is read, by where the first line feed is
line_by : {A : Type 0} → (List ℕ → Result A Refusal) → Option (List ℕ × List ℕ) → ℕ → Result (Read A) SheetFault
line_by form o k = elim o [ None ↦ Err (fault Form k) | Some p ↦ line_ends (form p.0) p.1 k ]

ends_err : {A : Type 0} (r : Result A Refusal) (rest other : List ℕ) (k : ℕ) (f : SheetFault) → line_ends r rest k ≡ Err f → (f.line ≡ k) × (line_ends r other k ≡ Err f)
ends_err (Ok v) rest other k f e = let z : ◌≡◌ {A = ℕ} 0 1 = cc in absurd (omega arith)
ends_err (Err why) rest other k f e = let h : ◌≡◌ {A = SheetFault} (fault why k) f = cc in (sym (ap (λ (g : SheetFault). g.line) h), ap Err h)

ends_got : {A : Type 0} (r : Result A Refusal) (rest other : List ℕ) (k : ℕ) (x : Read A) → line_ends r rest k ≡ Ok x → (x.next ≡ k + 1) × (x.rest ≡ rest) × (line_ends r other k ≡ Ok (record { got = x.got; rest = other; next = x.next }))
ends_got {A} (Ok v) rest other k x e =
    let h : ◌≡◌ {A = Read A} (record { got = v; rest = rest; next = k + 1 }) x = cc in
    (sym (ap (λ (y : Read A). y.next) h), sym (ap (λ (y : Read A). y.rest) h), ap (λ (y : Read A). Ok (record { got = y.got; rest = other; next = y.next })) h)
ends_got (Err why) rest other k x e = let z : ◌≡◌ {A = ℕ} 0 1 = cc in absurd (omega arith)

module _ {A : Type 0} (form : List ℕ → Result A Refusal) (n k : ℕ) where
  by_err : (o q : Option (List ℕ × List ℕ)) → option_map (shortened n) o ≡ option_map (shortened n) q → (f : SheetFault) → line_by form o k ≡ Err f → (f.line ≡ k) × (line_by form q k ≡ Err f)
  unfolding line_by
  by_err None None s f e = let h : ◌≡◌ {A = SheetFault} (fault Form k) f = cc in (sym (ap (λ (g : SheetFault). g.line) h), e)
  by_err None (Some q) s f e = let z : ◌≡◌ {A = ℕ} 0 1 = cc s in absurd (omega arith)
  by_err (Some p) None s f e = let z : ◌≡◌ {A = ℕ} 0 1 = cc s in absurd (omega arith)
  by_err (Some p) (Some q) s f e =
      let same : ◌≡◌ {A = List ℕ × List ℕ} (p.0, first_lines n p.1) (q.0, first_lines n q.1) = cc s in
      let r = ends_err (form p.0) p.1 q.1 k f e in
      (r.0, subst (λ l. line_ends (form l) q.1 k ≡ Err f) (ap (λ (t : List ℕ × List ℕ). t.0) same) r.1)

  by_ok : (o q : Option (List ℕ × List ℕ)) → option_map (shortened n) o ≡ option_map (shortened n) q → (x : Read A) → line_by form o k ≡ Ok x → (r : List ℕ) × (line_by form q k ≡ Ok (record { got = x.got; rest = r; next = x.next })) × (first_lines n x.rest ≡ first_lines n r)
  unfolding line_by
  by_ok None q s x e = let z : ◌≡◌ {A = ℕ} 0 1 = cc e in absurd (omega arith)
  by_ok (Some p) None s x e = let z : ◌≡◌ {A = ℕ} 0 1 = cc s in absurd (omega arith)
  by_ok (Some p) (Some q) s x e =
      let same : ◌≡◌ {A = List ℕ × List ℕ} (p.0, first_lines n p.1) (q.0, first_lines n q.1) = cc s in
      let r = ends_got (form p.0) p.1 q.1 k x e in
      (q.1, subst (λ l. line_ends (form l) q.1 k ≡ Ok (record { got = x.got; rest = q.1; next = x.next })) (ap (λ (t : List ℕ × List ℕ). t.0) same) r.2, ap (first_lines n) r.1 ∙ ap (λ (t : List ℕ × List ℕ). t.1) same)

-- what a reader consumed of the bytes when it gave x
pub record Consumed {A : Type 0} (bytes : List ℕ) (m : ℕ) (x : Read A) : Type 0 where
  pub onward : m ≤ x.next
  pub text : List ℕ
  pub is : bytes ≡ text ++ x.rest
  pub lines : (r : List ℕ) (j : ℕ) → x.next ≤ j → first_lines (j - m) (text ++ r) ≡ text ++ first_lines (j - x.next) r

-- a reader that reads line after line: bytes that agree in the lines which it read give the same
pub record Local {A : Type 0} (g : List ℕ → ℕ → Result (Read A) SheetFault) : Type 0 where
  pub late : (bytes : List ℕ) (m : ℕ) (f : SheetFault) → g bytes m ≡ Err f → m ≤ f.line
  pub errs : (bytes : List ℕ) (m : ℕ) (f : SheetFault) → g bytes m ≡ Err f → (other : List ℕ) → first_lines (f.line + 1 - m) bytes ≡ first_lines (f.line + 1 - m) other → g other m ≡ Err f
  pub used : (bytes : List ℕ) (m : ℕ) (x : Read A) → g bytes m ≡ Ok x → Consumed bytes m x
  pub oks : (bytes : List ℕ) (m : ℕ) (x : Read A) → g bytes m ≡ Ok x → (t : ℕ) (other : List ℕ) → x.next ≤ t → first_lines (t - m) bytes ≡ first_lines (t - m) other → (r : List ℕ) × (g other m ≡ Ok (record { got = x.got; rest = r; next = x.next })) × (first_lines (t - x.next) x.rest ≡ first_lines (t - x.next) r)

cuts_agree : (n : ℕ) (bytes other : List ℕ) → first_lines (suc n) bytes ≡ first_lines (suc n) other → option_map (shortened n) (cut_at 10 bytes) ≡ option_map (shortened n) (cut_at 10 other)
cuts_agree n bytes other e = sym (first_cut n bytes) ∙ ap (cut_at 10) e ∙ first_cut n other

line_used : {A : Type 0} (form : List ℕ → Result A Refusal) (bytes : List ℕ) (m : ℕ) (x : Read A) → line_as form bytes m ≡ Ok x → (l : List ℕ) × (bytes ≡ l ++ 10 ∷ x.rest) × Lacks 10 l × (x.next ≡ m + 1)
unfolding line_by
line_used form bytes m x e =
    ⊎_elim
    (λ h.
    let r = ends_got (form h.0) h.1 h.1 m x (sym (ap (λ o. line_by form o m) h.2) ∙ e) in
    (h.0, h.3 ∙ ap (λ q. h.0 ++ 10 ∷ q) (sym r.1), h.4, r.0))
    (λ h. let n = sym (ap (λ o. line_by form o m) h.0) ∙ e in let z : ◌≡◌ {A = ℕ} 0 1 = cc n in absurd (omega arith))
    (cut_tells 10 bytes)

pub local_line : {A : Type 0} (form : List ℕ → Result A Refusal) → Local (line_as form)
unfolding line_by
local_line form = record {
  late = λ bytes m f e. omega (arith, (by_err form 0 m (cut_at 10 bytes) (cut_at 10 bytes) refl f e).0);
  errs = λ bytes m f e other s.
      let here = (by_err form 0 m (cut_at 10 bytes) (cut_at 10 bytes) refl f e).0 in
      let one : f.line + 1 - m ≡ 1 = omega arith in
      (by_err form 0 m (cut_at 10 bytes) (cut_at 10 other) (cuts_agree 0 bytes other (subst (λ n. first_lines n bytes ≡ first_lines n other) one s)) f e).1;
  used = λ bytes m x e.
      let u = line_used form bytes m x e in
      record {
        onward = omega (arith, u.3);
        text = u.0 ++ 10 ∷ [];
        is = u.1 ∙ sym (append_assoc u.0 (10 ∷ []) x.rest);
        lines = λ r j h.
            let more : j - m ≡ suc (j - x.next) = omega (arith, u.3) in
            ap (λ n. first_lines n ((u.0 ++ 10 ∷ []) ++ r)) more ∙ ap (first_lines (suc (j - x.next))) (append_assoc u.0 (10 ∷ []) r) ∙ first_line_lem (j - x.next) u.0 r u.2 ∙ sym (append_assoc u.0 (10 ∷ []) (first_lines (j - x.next) r));
      };
  oks = λ bytes m x e t other h s.
      let u = line_used form bytes m x e in
      let more : t - m ≡ suc (t - x.next) = omega (arith, u.3) in
      by_ok form (t - x.next) m (cut_at 10 bytes) (cut_at 10 other) (cuts_agree (t - x.next) bytes other (subst (λ n. first_lines n bytes ≡ first_lines n other) more s)) x e;
}

module _ {A B : Type 0} {g : List ℕ → ℕ → Result (Read A) SheetFault} {h : A → List ℕ → ℕ → Result (Read B) SheetFault} (lg : Local g) (lh : (v : A) → Local (h v)) where
  then : List ℕ → ℕ → Result (Read B) SheetFault
  then bytes m = and_then (g bytes m) (λ x. h x.got x.rest x.next)

  then_late : (bytes : List ℕ) (m : ℕ) (f : SheetFault) → then bytes m ≡ Err f → m ≤ f.line
  unfolding then
  then_late bytes m f e =
      ⊎_elim (λ c. lg.late bytes m f c) (λ c. omega (arith, (lg.used bytes m c.0 c.1).onward, (lh c.0.got).late c.0.rest c.0.next f c.2))
      (and_then_cases (g bytes m) (λ x. h x.got x.rest x.next) f e)

  then_errs : (bytes : List ℕ) (m : ℕ) (f : SheetFault) → then bytes m ≡ Err f → (other : List ℕ) → first_lines (f.line + 1 - m) bytes ≡ first_lines (f.line + 1 - m) other → then other m ≡ Err f
  unfolding then
  then_errs bytes m f e other s =
      ⊎_elim (λ c. ap (λ r. and_then r (λ x. h x.got x.rest x.next)) (lg.errs bytes m f c other s))
      (λ c.
      let x = c.0 in
      let l = (lh x.got).late x.rest x.next f c.2 in
      let o = lg.oks bytes m x c.1 (f.line + 1) other (omega arith) s in
      ap (λ r. and_then r (λ y. h y.got y.rest y.next)) o.1 ∙ (lh x.got).errs x.rest x.next f c.2 o.0 o.2)
      (and_then_cases (g bytes m) (λ x. h x.got x.rest x.next) f e)

  then_used : (bytes : List ℕ) (m : ℕ) (y : Read B) → then bytes m ≡ Ok y → Consumed bytes m y
  unfolding then
  then_used bytes m y e =
      let c = and_then_ok (g bytes m) _ y e in
      let x = c.0 in
      let u = lg.used bytes m x c.1 in
      let v = (lh x.got).used x.rest x.next y c.2 in
      record {
        onward = omega (arith, u.onward, v.onward);
        text = u.text ++ v.text;
        is = u.is ∙ ap (λ r. u.text ++ r) v.is ∙ sym (append_assoc u.text v.text y.rest);
        lines = λ r j l.
            ap (first_lines (j - m)) (append_assoc u.text v.text r) ∙ u.lines (v.text ++ r) j (omega (arith, v.onward)) ∙ ap (λ q. u.text ++ q) (v.lines r j l)
            ∙ sym (append_assoc u.text v.text (first_lines (j - y.next) r));
      }

  then_oks : (bytes : List ℕ) (m : ℕ) (y : Read B) → then bytes m ≡ Ok y → (t : ℕ) (other : List ℕ) → y.next ≤ t → first_lines (t - m) bytes ≡ first_lines (t - m) other → (r : List ℕ) × (then other m ≡ Ok (record { got = y.got; rest = r; next = y.next })) × (first_lines (t - y.next) y.rest ≡ first_lines (t - y.next) r)
  unfolding then
  then_oks bytes m y e t other l s =
      let c = and_then_ok (g bytes m) _ y e in
      let x = c.0 in
      let v = (lh x.got).used x.rest x.next y c.2 in
      let o = lg.oks bytes m x c.1 t other (omega (arith, v.onward)) s in
      let p = (lh x.got).oks x.rest x.next y c.2 t o.0 l o.2 in
      (p.0, ap (λ r. and_then r (λ z. h z.got z.rest z.next)) o.1 ∙ p.1, p.2)

  pub local_then : Local (λ bytes m. and_then (g bytes m) (λ x. h x.got x.rest x.next))
  unfolding then
  local_then = record { late = then_late; errs = then_errs; used = then_used; oks = then_oks }

local_none : {S : Type 0} (so : S) → Local (λ bytes m. Ok (record { got = so; rest = bytes; next = m }))
local_none {S} so = record {
  late = λ bytes m f e. let z : ◌≡◌ {A = ℕ} 0 1 = cc e in absurd (omega arith);
  errs = λ bytes m f e other s. let z : ◌≡◌ {A = ℕ} 0 1 = cc e in absurd (omega arith);
  used = λ bytes m x e.
      let h : ◌≡◌ {A = Read S} (record { got = so; rest = bytes; next = m }) x = cc e in
      let n : m ≡ x.next = ap (λ (y : Read S). y.next) h in
      let r : bytes ≡ x.rest = ap (λ (y : Read S). y.rest) h in
      record { onward = omega arith; text = []; is = r; lines = λ q j l. ap (λ k. first_lines (j - k) q) n };
  oks = λ bytes m x e t other l s.
      let h : ◌≡◌ {A = Read S} (record { got = so; rest = bytes; next = m }) x = cc e in
      let n : m ≡ x.next = ap (λ (y : Read S). y.next) h in
      let r : bytes ≡ x.rest = ap (λ (y : Read S). y.rest) h in
      (other, ap (λ (y : Read S). Ok (record { got = y.got; rest = other; next = y.next })) h, ap (first_lines (t - x.next)) (sym r) ∙ subst (λ k. first_lines (t - k) bytes ≡ first_lines (t - k) other) n s);
}

pub local_lines : {S : Type 0} (form : S → List ℕ → Result S Refusal) (n : ℕ) (so : S) → Local (lines_into form so n)
local_lines form zero so = local_none so
local_lines form (suc n) so = local_then (local_line (form so)) (λ s. local_lines form n s)

pub local_section : (due : Section) (so : Progress) → Local (section due so)
local_section due so = local_then (local_line (count_of due)) (λ n. local_lines (line_into due) n so)

pub local_sections : Local sections
local_sections = local_then (local_section Flows start) (λ f. local_then (local_section Lanes f) (λ l. local_section Params l))

-- the first lines of what was consumed, and of what follows
pub used_lines : {A : Type 0} (bytes : List ℕ) (m : ℕ) (x : Read A) → Consumed bytes m x → (text : List ℕ) → bytes ≡ text ++ x.rest → (j : ℕ) → x.next ≤ j → first_lines (j - m) bytes ≡ text ++ first_lines (j - x.next) x.rest
used_lines bytes m x u text e j l =
    let same : u.text ≡ text = append_cancel_right u.text text x.rest (sym u.is ∙ e) in
    ap (first_lines (j - m)) u.is ∙ u.lines x.rest j l ∙ ap (λ t. t ++ first_lines (j - x.next) x.rest) same
