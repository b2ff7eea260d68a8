-- Each form of a line is read from just what is written of it.
use Rattle.std.proofs.Common.{◌≡◌, ℕ, zero, suc, ◌+◌, ◌^◌, ◌<◌, ◌≤◌, Bool, true, false, cond, ◌&&◌, eqb, ltb, leb, List, [], ◌∷◌, ◌++◌, length, take, drop, Some, None, Ok, Err, decimal, Option, Result, sym, refl, ap, ◌∙◌, ⊎_elim, add-one, arith}
use Rattle.std.proofs.ByRecursion.{All-append}
use Rattle.std.proofs.lemmas.List.{take_at, drop_at, drop-drop, length-append}
use Rattle.std.proofs.lemmas.Bool.{and_parts, and_from, cond-true, cond-false, leb-true, le-leb, lt-ltb, ltb-true, eq-eqb, ne_eqb, eqb-true, cases_Bool}
use Rattle.std.proofs.lemmas.Fmt.{digits_decimal}
use Rattle.std.specs.Option.{option_map, option_zip}
use Rattle.std.specs.List.{AllByRecursion}
use Rattle.reader.specs.declared.fault.Refusal.TheVariants.{Range}
use Rattle.sheet.specs.declared.flow.Flow.{Flow}
use Rattle.reader.specs.declared.draft.Section.{Section}
use Rattle.reader.specs.declared.draft.Section.TheVariants.{Flows, Lanes}
use Rattle.sheet.specs.Sheets.{Content, with_flow, with_lane}
use Rattle.reader.specs.declared.draft.Parameter.{Parameter}
use Rattle.reader.specs.Grammar.{head_line, flow_line}
use Rattle.reader.specs.Lines.{Progress, before, cut_at, is_digit, number_of, pair_of, lettered_of, ranged, line_into, count_of, letter_of, most_of}
use Rattle.charge.specs.Charge.{within}
use Rattle.sheet.specs.Ranges.{flow_fits, lane_fits, all_of}
use Rattle.reader.proofs.Numbers.{Figures, own, cond_some, number_writes, number_reads}

-- no byte is b
abbrev pub Lacks : ℕ → List ℕ → Type 0
Lacks b l = AllByRecursion (λ x. x ≡ b → ⊥) l

split_at : (b : ℕ) (xs : List ℕ) (n : ℕ) → before b xs ≡ n → n < length xs → xs ≡ take n xs ++ b ∷ drop (suc n) xs
split_at b [] n e h = absurd (omega arith)
split_at b (x ∷ xs) zero e h =
    ⊎_elim (λ y. ap (λ z. z ∷ xs) (eqb-true x b y)) (λ f. absurd (omega (arith, cond-false (eqb x b) 0 (before b xs + 1) f))) (cases_Bool (eqb x b))
split_at b (x ∷ xs) (suc n) e h =
    ⊎_elim (λ y. absurd (omega (arith, cond-true (eqb x b) 0 (before b xs + 1) y)))
    (λ f. ap (λ l. x ∷ l) (split_at b xs n (omega (arith, cond-false (eqb x b) 0 (before b xs + 1) f)) (omega arith)))
    (cases_Bool (eqb x b))

pub cut_writes : (b : ℕ) (xs l a : List ℕ) → cut_at b xs ≡ Some (l, a) → xs ≡ l ++ b ∷ a
cut_writes b xs l a e =
    let h = cond_some (ltb (before b xs) (length xs)) (Some (take (before b xs) xs, drop (before b xs + 1) xs)) (l, a) e in
    let p : ◌≡◌ {A = List ℕ × List ℕ} (take (before b xs) xs, drop (before b xs + 1) xs) (l, a) = cc h.1 in
    split_at b xs (before b xs) refl (ltb-true _ _ h.0) ∙ ap (λ m. take (before b xs) xs ++ b ∷ drop m xs) (sym (add-one (before b xs))) ∙ ap (λ (q : List ℕ × List ℕ). q.0 ++ b ∷ q.1) p

before_past : (b : ℕ) (l a : List ℕ) → Lacks b l → before b (l ++ b ∷ a) ≡ length l
before_past b [] a h = cond-true (eqb b b) 0 (before b a + 1) (eq-eqb b b refl)
before_past b (x ∷ l) a h = cond-false (eqb x b) 0 (before b (l ++ b ∷ a) + 1) (ne_eqb x b h.0) ∙ rw add-one (ap suc (before_past b l a h.1))

pub cut_reads : (b : ℕ) (l a : List ℕ) → Lacks b l → cut_at b (l ++ b ∷ a) ≡ Some (l, a)
cut_reads b l a h =
    let n = before_past b l a h in
    let long : before b (l ++ b ∷ a) < length (l ++ b ∷ a) = omega (arith, length-append l (b ∷ a)) in
    let front : take (length l) (l ++ b ∷ a) ≡ l = take_at l (b ∷ a) (length l) refl in
    let back : drop (length l + 1) (l ++ b ∷ a) ≡ a = sym (drop-drop 1 (length l) (l ++ b ∷ a)) ∙ ap (drop 1) (drop_at l (b ∷ a) (length l) refl) in
    cond-true (ltb (before b (l ++ b ∷ a)) (length (l ++ b ∷ a))) _ None (lt-ltb _ _ long)
    ∙ ap (λ m. Some (take m (l ++ b ∷ a), drop (m + 1) (l ++ b ∷ a))) n
    ∙ ap (λ q. Some (q, drop (length l + 1) (l ++ b ∷ a))) front
    ∙ ap (λ q. Some (l, q)) back

lacks_figures : (c : ℕ) (ds : List ℕ) → c < 48 → Figures ds → Lacks c ds
lacks_figures c [] h f = tt
lacks_figures c (d ∷ ds) h f =
    let p = and_parts (is_digit d) (all_of is_digit ds) f in
    (λ e. omega (arith, leb-true _ _ (and_parts (leb 48 d) (leb d 57) p.0).0), lacks_figures c ds h p.1)

pub lacks_decimal : (c n : ℕ) → c < 48 → n < 10 ^ 10 → Lacks c (decimal n)
lacks_decimal c n h k = lacks_figures c (decimal n) h (digits_decimal own n (omega arith))

mapped_some : {A B : Type 0} (f : A → B) (o : Option A) (v : B) → option_map f o ≡ Some v → (x : A) × (o ≡ Some x) × (f x ≡ v)
mapped_some f None v e = let z : ◌≡◌ {A = ℕ} 0 1 = cc in absurd (omega arith)
mapped_some f (Some x) v e = (x, refl, cc)

pub some_ok : {A B E : Type 0} (o : Option A) (d : E) (f : A → Result B E) (v : B) → ◌≡◌ {A = Result B E} (elim o [ None ↦ Err d | Some p ↦ f p ]) (Ok v) → (p : A) × (o ≡ Some p) × (f p ≡ Ok v)
some_ok None d f v e = let z : ◌≡◌ {A = ℕ} 0 1 = cc in absurd (omega arith)
some_ok (Some p) d f v e = (p, refl, e)

pub some_goes : {A B E : Type 0} (o : Option A) (d : E) (f : A → Result B E) (p : A) → o ≡ Some p → ◌≡◌ {A = Result B E} (elim o [ None ↦ Err d | Some q ↦ f q ]) (f p)
some_goes None d f p e = let z : ◌≡◌ {A = ℕ} 0 1 = cc in absurd (omega arith)
some_goes {A} (Some q) d f p e = let h : ◌≡◌ {A = A} q p = cc in ap f h

pub cond_ok : {A E : Type 0} (b : Bool) (r : Result A E) (d : E) (v : A) → cond b r (Err d) ≡ Ok v → (b ≡ true) × (r ≡ Ok v)
cond_ok true r d v e = (refl, e)
cond_ok false r d v e = let z : ◌≡◌ {A = ℕ} 0 1 = cc in absurd (omega arith)

pub lettered_writes : (l : List ℕ) (c n : ℕ) → lettered_of l ≡ Some (c, n) → l ≡ head_line c n
lettered_writes [] c n e = let z : ◌≡◌ {A = ℕ} 0 1 = cc in absurd (omega arith)
lettered_writes (x ∷ []) c n e = let z : ◌≡◌ {A = ℕ} 0 1 = cc in absurd (omega arith)
lettered_writes (x ∷ y ∷ ds) c n e =
    let h = cond_some (eqb y 32) (option_map (λ m. (x, m)) (number_of ds)) (c, n) e in
    let m = mapped_some (λ m. (x, m)) (number_of ds) (c, n) h.1 in
    ap (λ z. x ∷ z ∷ ds) (eqb-true y 32 h.0) ∙ ap (λ z. x ∷ 32 ∷ z) (number_writes ds m.0 m.1) ∙ ap (λ (q : ℕ × ℕ). head_line q.0 q.1) m.2

pub lettered_reads : (c n : ℕ) → n < 10 ^ 10 → lettered_of (head_line c n) ≡ Some (c, n)
lettered_reads c n h = ap (option_map (λ m. (c, m))) (number_reads n h)

zipped_some : {A B : Type 0} (o : Option A) (q : Option B) (p : A × B) → option_zip o q ≡ Some p → (o ≡ Some p.0) × (q ≡ Some p.1)
zipped_some None q p e = let z : ◌≡◌ {A = ℕ} 0 1 = cc in absurd (omega arith)
zipped_some (Some x) None p e = let z : ◌≡◌ {A = ℕ} 0 1 = cc in absurd (omega arith)
zipped_some {A} {B} (Some x) (Some y) p e = let h : ◌≡◌ {A = A × B} (x, y) p = cc in (ap (λ (r : A × B). Some r.0) h, ap (λ (r : A × B). Some r.1) h)

pair_some : (o : Option (List ℕ × List ℕ)) (p : ℕ × ℕ) → ◌≡◌ {A = Option (ℕ × ℕ)} (elim o [ None ↦ None | Some q ↦ option_zip (number_of q.0) (number_of q.1) ]) (Some p) → (q : List ℕ × List ℕ) × (o ≡ Some q) × (number_of q.0 ≡ Some p.0) × (number_of q.1 ≡ Some p.1)
pair_some None p e = let z : ◌≡◌ {A = ℕ} 0 1 = cc in absurd (omega arith)
pair_some (Some q) p e = let h = zipped_some (number_of q.0) (number_of q.1) p e in (q, refl, h.0, h.1)

pair_writes : (l : List ℕ) (p : ℕ × ℕ) → pair_of l ≡ Some p → l ≡ decimal p.0 ++ 32 ∷ decimal p.1
pair_writes l p e =
    let h = pair_some (cut_at 32 l) p e in
    cut_writes 32 l h.0.0 h.0.1 h.1
    ∙ ap (λ x. x ++ 32 ∷ h.0.1) (number_writes _ _ h.2)
    ∙ ap (λ x. decimal p.0 ++ 32 ∷ x) (number_writes _ _ h.3)

pair_goes : (o : Option (List ℕ × List ℕ)) (q : List ℕ × List ℕ) → o ≡ Some q → ◌≡◌ {A = Option (ℕ × ℕ)} (elim o [ None ↦ None | Some q ↦ option_zip (number_of q.0) (number_of q.1) ]) (option_zip (number_of q.0) (number_of q.1))
pair_goes None q e = let z : ◌≡◌ {A = ℕ} 0 1 = cc in absurd (omega arith)
pair_goes (Some r) q e = let h : ◌≡◌ {A = List ℕ × List ℕ} r q = cc in ap (λ (q : List ℕ × List ℕ). option_zip (number_of q.0) (number_of q.1)) h

pair_reads : (w m : ℕ) → w < 10 ^ 10 → m < 10 ^ 10 → pair_of (decimal w ++ 32 ∷ decimal m) ≡ Some (w, m)
pair_reads w m h k =
    pair_goes (cut_at 32 (decimal w ++ 32 ∷ decimal m)) (decimal w, decimal m) (cut_reads 32 (decimal w) (decimal m) (lacks_decimal 32 w (omega arith) h))
    ∙ ap (λ o. option_zip o (number_of (decimal m))) (number_reads w h)
    ∙ ap (option_zip (Some w)) (number_reads m k)

-- a line whose numbers are in range
pub ranged_ok : (o : Option Content) (q : Option Parameter) (h : Progress) → ranged o q ≡ Ok h → (s : Content) × (o ≡ Some s) × (h ≡ record { sheet = s; last = q })
ranged_ok None q h e = let z : ◌≡◌ {A = ℕ} 0 1 = cc in absurd (omega arith)
ranged_ok (Some s) q h e = (s, refl, cc)

-- what is read so far, with more flows
abbrev pub add_flows : Progress → List Flow → Progress
add_flows g fs = record { sheet = record { flows = g.sheet.flows ++ fs; lanes = g.sheet.lanes; slots = g.sheet.slots; threshold = g.sheet.threshold }; last = g.last }

-- and with more lanes
abbrev pub add_lanes : Progress → List ℕ → Progress
add_lanes g ks = record { sheet = record { flows = g.sheet.flows; lanes = g.sheet.lanes ++ ks; slots = g.sheet.slots; threshold = g.sheet.threshold }; last = g.last }

pub flow_writes : (g : Progress) (l : List ℕ) (h : Progress) → line_into Flows g l ≡ Ok h → (f : Flow) × (l ≡ flow_line f) × (flow_fits f ≡ true) × (h ≡ add_flows g (f ∷ []))
flow_writes g l h e =
    let s = some_ok (pair_of l) _ _ h e in
    let p = s.0 in
    let r = ranged_ok (with_flow g.sheet p.0 p.1) g.last h s.2 in
    let c = cond_some (ltb (length g.sheet.flows) 16 && (within 1 100 p.0 && within 1 2048 p.1)) _ r.0 r.1 in
    let same : (add_flows g (record { weight = p.0; longest = p.1 } ∷ [])).sheet ≡ r.0 = cc c.1 in
    (record { weight = p.0; longest = p.1 }, pair_writes l p s.1, (and_parts _ _ c.0).1, r.2 ∙ ap (λ (q : Content). record { sheet = q; last = g.last }) (sym same))

pub flow_reads : (g : Progress) (f : Flow) → flow_fits f ≡ true → length g.sheet.flows < 16 → (line_into Flows g (flow_line f) ≡ Ok (add_flows g (f ∷ []))) × Lacks 10 (flow_line f)
flow_reads g f h room =
    let t = and_parts (within 1 100 f.weight) (within 1 2048 f.longest) h in
    let w : f.weight < 10 ^ 10 = omega (arith, leb-true _ _ (and_parts (leb 1 f.weight) (leb f.weight 100) t.0).1) in
    let m : f.longest < 10 ^ 10 = omega (arith, leb-true _ _ (and_parts (leb 1 f.longest) (leb f.longest 2048) t.1).1) in (
      some_goes (pair_of (flow_line f)) _ _ (f.weight, f.longest) (pair_reads f.weight f.longest w m)
          ∙ ap (λ o. ranged o g.last) (cond-true (ltb (length g.sheet.flows) 16 && flow_fits f) _ None (and_from _ _ (lt-ltb _ _ room) h)),
      All-append (λ x. x ≡ 10 → ⊥) (decimal f.weight) (32 ∷ decimal f.longest) (lacks_decimal 10 _ (omega arith) w) (λ e. omega arith, lacks_decimal 10 _ (omega arith) m),
    )

pub lane_writes : (g : Progress) (l : List ℕ) (h : Progress) → line_into Lanes g l ≡ Ok h → (k : ℕ) × (l ≡ decimal k) × (lane_fits k ≡ true) × (h ≡ add_lanes g (k ∷ []))
lane_writes g l h e =
    let s = some_ok (number_of l) _ _ h e in
    let k = s.0 in
    let r = ranged_ok (with_lane g.sheet k) g.last h s.2 in
    let c = cond_some (ltb (length g.sheet.lanes) 8 && within 1 32 k) _ r.0 r.1 in
    let same : (add_lanes g (k ∷ [])).sheet ≡ r.0 = cc c.1 in
    (k, number_writes l k s.1, (and_parts _ _ c.0).1, r.2 ∙ ap (λ (q : Content). record { sheet = q; last = g.last }) (sym same))

pub lane_reads : (g : Progress) (k : ℕ) → lane_fits k ≡ true → length g.sheet.lanes < 8 → (line_into Lanes g (decimal k) ≡ Ok (add_lanes g (k ∷ []))) × Lacks 10 (decimal k)
lane_reads g k h room =
    let small : k < 10 ^ 10 = omega (arith, leb-true _ _ (and_parts (leb 1 k) (leb k 32) h).1) in (
      some_goes (number_of (decimal k)) _ _ k (number_reads k small) ∙ ap (λ o. ranged o g.last) (cond-true (ltb (length g.sheet.lanes) 8 && lane_fits k) _ None (and_from _ _ (lt-ltb _ _ room) h)),
      lacks_decimal 10 k (omega arith) small,
    )

pub count_writes : (due : Section) (l : List ℕ) (n : ℕ) → count_of due l ≡ Ok n → (l ≡ head_line (letter_of due) n) × (n ≤ most_of due)
count_writes due l n e =
    let h = some_ok (lettered_of l) _ _ n e in
    let p = h.0 in
    let a = cond_ok (eqb p.0 (letter_of due)) (cond (leb p.1 (most_of due)) (Ok p.1) (Err Range)) _ n h.2 in
    let b = cond_ok (leb p.1 (most_of due)) (Ok p.1) _ n a.1 in
    let same : p.1 ≡ n = cc b.1 in
    (lettered_writes l p.0 p.1 h.1 ∙ ap (λ c. head_line c p.1) (eqb-true _ _ a.0) ∙ ap (head_line (letter_of due)) same, omega (arith, leb-true _ _ b.0))

pub count_reads : (due : Section) (n : ℕ) → n ≤ most_of due → n < 10 ^ 10 → (1 < letter_of due) × (letter_of due ≡ 10 → ⊥) → (count_of due (head_line (letter_of due) n) ≡ Ok n) × Lacks 10 (head_line (letter_of due) n)
count_reads due n h small big = (
  some_goes (lettered_of (head_line (letter_of due) n)) _ _ (letter_of due, n) (lettered_reads (letter_of due) n small) ∙ cond-true _ _ _ (eq-eqb (letter_of due) (letter_of due) refl) ∙ cond-true _ _ _ (le-leb n (most_of due) h),
  (big.1, (λ e. omega arith, lacks_decimal 10 n (omega arith) small)),
)
