-- Lines are read from just the forms of lines. Assumes nothing.
use Rattle.std.proofs.Common.{◌≡◌, ℕ, true, false, cond, leb, ◌⊎◌, List, [], ◌∷◌, ◌++◌, Some, None, Ok, codes, Option, sym, refl, ap, ◌∙◌, subst, inl, inr, ⊎_elim, arith}
use Rattle.std.proofs.lemmas.Slice.Eq.{bytes_eq-Decides}
use Rattle.std.proofs.lemmas.Bool.{and_parts, cases_Bool, cond-true, cond-false, eqb-true, leb-true}
use Rattle.std.specs.Option.{option_map, ok_or}
use Rattle.std.specs.Str.{bytes_eq}
use Rattle.fly.specs.declared.call.Call.{Call}
use Rattle.fly.specs.declared.call.Call.TheVariants as call
use Rattle.reader.specs.Lines.{cut_at, is_digit}
use Rattle.reader.proofs.Forms.{Lacks, cut_reads, cut_writes}
use Rattle.reader.proofs.Numbers.{Figures, own}
use Rattle.sheet.specs.Ranges.{all_of}
use Rattle.script.specs.Grammar.{Number, Form}
use Rattle.script.specs.Lines.{is_blank, line_of, arrival_of, three_of, bare_of, numbered_of, said_of, parts_of, worded}
use Rattle.script.specs.Words.{word_of, number_of}
use Rattle.script.specs.declared.fault.Expected.TheVariants as expected
use Rattle.script.specs.declared.fault.Word.{Word}
use Rattle.script.specs.declared.fault.Word.TheVariants.{Sheet, Arrive, Send, Kick, Reap, Time, Ready, Flow}
use Rattle.script.specs.declared.line.Line.{Line}
use Rattle.script.specs.declared.line.Line.TheVariants as line
use Rattle.script.proofs.Numbers.{number_says, number_reads}

-- the letters of a word
abbrev letters : Word → List ℕ
letters Sheet = codes "sheet"
letters Arrive = codes "arrive"
letters Send = codes "send"
letters Kick = codes "kick"
letters Reap = codes "reap"
letters Time = codes "time"
letters Ready = codes "ready"
letters Flow = codes "flow"

word_reads : (w : Word) → word_of (letters w) ≡ Some w
word_reads Sheet = refl
word_reads Arrive = refl
word_reads Send = refl
word_reads Kick = refl
word_reads Reap = refl
word_reads Time = refl
word_reads Ready = refl
word_reads Flow = refl

-- a word of the chain, or one further on
link : (name : List ℕ) (w v : Word) (rest : Option Word) → cond (bytes_eq name (letters w)) (Some w) rest ≡ Some v → (name ≡ letters v) ⊎ (rest ≡ Some v)
link name w v rest e =
    ⊎_elim
    (λ t.
    let both = sym (cond-true (bytes_eq name (letters w)) (Some w) rest t) ∙ e in
    let same : w ≡ v = cc in
    inl ((bytes_eq-Decides name (letters w)).0 t ∙ ap letters same))
    (λ f. inr (sym (cond-false (bytes_eq name (letters w)) (Some w) rest f) ∙ e))
    (cases_Bool (bytes_eq name (letters w)))

word_writes : (name : List ℕ) (v : Word) → word_of name ≡ Some v → name ≡ letters v
word_writes name v e =
    ⊎_elim (λ h. h) (λ e. ⊎_elim (λ h. h) (λ e. ⊎_elim (λ h. h) (λ e. ⊎_elim (λ h. h) (λ e. ⊎_elim (λ h. h) (λ e. ⊎_elim (λ h. h) (λ e. ⊎_elim (λ h. h) (λ e. ⊎_elim (λ h. h)
    (λ e. let z : ◌≡◌ {A = ℕ} 0 1 = cc in absurd (omega arith))
    (link name Flow v _ e)) (link name Ready v _ e)) (link name Time v _ e)) (link name Reap v _ e)) (link name Kick v _ e)) (link name Send v _ e)) (link name Arrive v _ e)) (link name Sheet v _ e)

mapped_some : {A B : Type 0} (f : A → B) (o : Option A) (v : B) → option_map f o ≡ Some v → (x : A) × (o ≡ Some x) × (f x ≡ v)
mapped_some f None v e = let z : ◌≡◌ {A = ℕ} 0 1 = cc in absurd (omega arith)
mapped_some f (Some x) v e = (x, refl, cc)

ok_some : {A E : Type 0} (o : Option A) (d : E) (v : A) → ok_or o d ≡ Ok v → o ≡ Some v
ok_some None d v e = let z : ◌≡◌ {A = ℕ} 0 1 = cc in absurd (omega arith)
ok_some (Some x) d v e = cc

worded_ok : (o : Option Word) (rest : Option (List ℕ)) (l : Line) → worded o rest ≡ Ok l → (w : Word) × (o ≡ Some w) × (said_of w rest ≡ Some l)
worded_ok None rest l e = let z : ◌≡◌ {A = ℕ} 0 1 = cc in absurd (omega arith)
worded_ok (Some w) rest l e = (w, refl, ok_some (said_of w rest) (expected.Form w) l e)

-- the three numbers of an arrival
three_some : (f l n : Option ℕ) (c : Call) → three_of f l n ≡ Some c → (x y z : ℕ) × (f ≡ Some x) × (l ≡ Some y) × (n ≡ Some z) × (call.Arrive x y z ≡ c)
three_some None l n c e = let z : ◌≡◌ {A = ℕ} 0 1 = cc in absurd (omega arith)
three_some (Some x) None n c e = let z : ◌≡◌ {A = ℕ} 0 1 = cc in absurd (omega arith)
three_some (Some x) (Some y) None c e = let z : ◌≡◌ {A = ℕ} 0 1 = cc in absurd (omega arith)
three_some (Some x) (Some y) (Some z) c e = (x, y, z, refl, refl, refl, cc)

abbrev ArrivalIs : List ℕ → Call → Type 0
ArrivalIs bytes c = (fs ls ns : List ℕ) × (f l n : ℕ) × Number fs f × Number ls l × Number ns n × (bytes ≡ fs ++ 32 ∷ (ls ++ 32 ∷ ns)) × (call.Arrive f l n ≡ c)

arrival_says : (bytes : List ℕ) (c : Call) → arrival_of bytes ≡ Some c → ArrivalIs bytes c
arrival_says bytes c e = first (cut_at 32 bytes) refl e
  where
    second : (p : List ℕ × List ℕ) → cut_at 32 bytes ≡ Some p → (q : Option (List ℕ × List ℕ)) → cut_at 32 p.1 ≡ q → ◌≡◌ {A = Option Call} (elim q [ None ↦ None | Some q ↦ three_of (number_of p.0) (number_of q.0) (number_of q.1) ]) (Some c) → ArrivalIs bytes c
    second p cut None cut' e = let z : ◌≡◌ {A = ℕ} 0 1 = cc in absurd (omega arith)
    second p cut (Some q) cut' e =
        let t = three_some (number_of p.0) (number_of q.0) (number_of q.1) c e in
        (p.0, q.0, q.1, t.0, t.1, t.2, number_says _ _ t.3, number_says _ _ t.4, number_says _ _ t.5, cut_writes 32 bytes p.0 p.1 cut ∙ ap (λ r. p.0 ++ 32 ∷ r) (cut_writes 32 p.1 q.0 q.1 cut'), t.6)

    first : (p : Option (List ℕ × List ℕ)) → cut_at 32 bytes ≡ p → ◌≡◌ {A = Option Call} (elim p [ None ↦ None | Some p ↦ elim (cut_at 32 p.1) [ None ↦ None | Some q ↦ three_of (number_of p.0) (number_of q.0) (number_of q.1) ] ]) (Some c) → ArrivalIs bytes c
    first None cut e = let z : ◌≡◌ {A = ℕ} 0 1 = cc in absurd (omega arith)
    first (Some p) cut e = second p cut (cut_at 32 p.1) refl e

-- a word alone
bare_says : (w : Word) (l : Line) → bare_of w ≡ Some l → Form (letters w) l
bare_says Sheet l e = let z : ◌≡◌ {A = ℕ} 0 1 = cc in absurd (omega arith)
bare_says Arrive l e = let z : ◌≡◌ {A = ℕ} 0 1 = cc in absurd (omega arith)
bare_says Send l e = let z : ◌≡◌ {A = ℕ} 0 1 = cc in absurd (omega arith)
bare_says Kick l e = let z : ◌≡◌ {A = ℕ} 0 1 = cc in absurd (omega arith)
bare_says Reap l e = let same : line.Call call.Reap ≡ l = cc in subst (Form (codes "reap")) same Form.reap
bare_says Time l e = let same : line.Call call.Time ≡ l = cc in subst (Form (codes "time")) same Form.time
bare_says Ready l e = let same : line.Call call.Ready ≡ l = cc in subst (Form (codes "ready")) same Form.ready
bare_says Flow l e = let z : ◌≡◌ {A = ℕ} 0 1 = cc in absurd (omega arith)

-- a word with numbers
numbered_says : (w : Word) (ds : List ℕ) (l : Line) → numbered_of w ds ≡ Some l → Form (letters w ++ 32 ∷ ds) l
numbered_says Sheet ds l e = let m = mapped_some line.Sheet (number_of ds) l e in subst (Form (codes "sheet" ++ 32 ∷ ds)) m.2 (Form.sheet ds m.0 (number_says ds m.0 m.1))
numbered_says Arrive ds l e =
    let m = mapped_some line.Call (arrival_of ds) l e in
    let a = arrival_says ds m.0 m.1 in
    subst (Form (codes "arrive" ++ 32 ∷ ds)) (ap line.Call a.10 ∙ m.2)
    (subst (λ bs. Form (codes "arrive" ++ 32 ∷ bs) (line.Call (call.Arrive a.3 a.4 a.5))) (sym a.9) (Form.arrive a.0 a.1 a.2 a.3 a.4 a.5 a.6 a.7 a.8))
numbered_says Send ds l e = let m = mapped_some (λ n. line.Call (call.Send n)) (number_of ds) l e in subst (Form (codes "send" ++ 32 ∷ ds)) m.2 (Form.send ds m.0 (number_says ds m.0 m.1))
numbered_says Kick ds l e = let m = mapped_some (λ n. line.Call (call.Kick n)) (number_of ds) l e in subst (Form (codes "kick" ++ 32 ∷ ds)) m.2 (Form.kick ds m.0 (number_says ds m.0 m.1))
numbered_says Reap ds l e = let z : ◌≡◌ {A = ℕ} 0 1 = cc in absurd (omega arith)
numbered_says Time ds l e = let z : ◌≡◌ {A = ℕ} 0 1 = cc in absurd (omega arith)
numbered_says Ready ds l e = let z : ◌≡◌ {A = ℕ} 0 1 = cc in absurd (omega arith)
numbered_says Flow ds l e = let m = mapped_some (λ n. line.Call (call.Flow n)) (number_of ds) l e in subst (Form (codes "flow" ++ 32 ∷ ds)) m.2 (Form.flow ds m.0 (number_says ds m.0 m.1))

blank_says : (bytes : List ℕ) → is_blank bytes ≡ true → Form bytes line.Blank
blank_says [] e = Form.empty
blank_says (b ∷ bs) e = subst (λ c. Form (c ∷ bs) line.Blank) (sym (eqb-true b 35 e)) Form.comment

words_say : (bytes : List ℕ) (l : Line) (o : Option (List ℕ × List ℕ)) → cut_at 32 bytes ≡ o → let p : List ℕ × Option (List ℕ) = elim o [ None ↦ (bytes, None) | Some p ↦ (p.0, Some p.1) ] in worded (word_of p.0) p.1 ≡ Ok l → Form bytes l
words_say bytes l None cut e = let w = worded_ok (word_of bytes) None l e in subst (λ bs. Form bs l) (sym (word_writes bytes w.0 w.1)) (bare_says w.0 l w.2)
words_say bytes l (Some p) cut e =
    let w = worded_ok (word_of p.0) (Some p.1) l e in
    subst (λ bs. Form bs l) (sym (cut_writes 32 bytes p.0 p.1 cut ∙ ap (λ t. t ++ 32 ∷ p.1) (word_writes p.0 w.0 w.1))) (numbered_says w.0 p.1 l w.2)

pub line_says : (bytes : List ℕ) (l : Line) → line_of bytes ≡ Ok l → Form bytes l
line_says bytes l e =
    ⊎_elim
    (λ t.
    let both = sym (cond-true (is_blank bytes) (Ok line.Blank) (worded (word_of (parts_of bytes).0) (parts_of bytes).1) t) ∙ e in
    let same : line.Blank ≡ l = cc in
    subst (Form bytes) same (blank_says bytes t))
    (λ f. words_say bytes l (cut_at 32 bytes) refl (sym (cond-false (is_blank bytes) (Ok line.Blank) (worded (word_of (parts_of bytes).0) (parts_of bytes).1) f) ∙ e))
    (cases_Bool (is_blank bytes))

-- no word has a space, and none is blank
letters_lack : (w : Word) → Lacks 32 (letters w)
letters_lack Sheet = ((λ e. omega arith), ((λ e. omega arith), ((λ e. omega arith), ((λ e. omega arith), ((λ e. omega arith), tt)))))
letters_lack Arrive = ((λ e. omega arith), ((λ e. omega arith), ((λ e. omega arith), ((λ e. omega arith), ((λ e. omega arith), ((λ e. omega arith), tt))))))
letters_lack Send = ((λ e. omega arith), ((λ e. omega arith), ((λ e. omega arith), ((λ e. omega arith), tt))))
letters_lack Kick = ((λ e. omega arith), ((λ e. omega arith), ((λ e. omega arith), ((λ e. omega arith), tt))))
letters_lack Reap = ((λ e. omega arith), ((λ e. omega arith), ((λ e. omega arith), ((λ e. omega arith), tt))))
letters_lack Time = ((λ e. omega arith), ((λ e. omega arith), ((λ e. omega arith), ((λ e. omega arith), tt))))
letters_lack Ready = ((λ e. omega arith), ((λ e. omega arith), ((λ e. omega arith), ((λ e. omega arith), ((λ e. omega arith), tt)))))
letters_lack Flow = ((λ e. omega arith), ((λ e. omega arith), ((λ e. omega arith), ((λ e. omega arith), tt))))

worded_blank : (w : Word) (rest : List ℕ) → is_blank (letters w ++ rest) ≡ false
worded_blank Sheet rest = refl
worded_blank Arrive rest = refl
worded_blank Send rest = refl
worded_blank Kick rest = refl
worded_blank Reap rest = refl
worded_blank Time rest = refl
worded_blank Ready rest = refl
worded_blank Flow rest = refl

numbered_reads : (w : Word) (ds : List ℕ) → line_of (letters w ++ 32 ∷ ds) ≡ ok_or (numbered_of w ds) (expected.Form w)
numbered_reads w ds =
    cond-false (is_blank (letters w ++ 32 ∷ ds)) (Ok line.Blank) (worded (word_of (parts_of (letters w ++ 32 ∷ ds)).0) (parts_of (letters w ++ 32 ∷ ds)).1) (worded_blank w (32 ∷ ds))
    ∙ ap (λ (o : Option (List ℕ × List ℕ)). let p : List ℕ × Option (List ℕ) = elim o [ None ↦ (letters w ++ 32 ∷ ds, None) | Some p ↦ (p.0, Some p.1) ] in worded (word_of p.0) p.1) (cut_reads 32 (letters w) ds (letters_lack w))
    ∙ ap (λ (o : Option Word). worded o (Some ds)) (word_reads w)

-- a number has no space
figures_lack : (ds : List ℕ) → Figures ds → Lacks 32 ds
figures_lack [] f = tt
figures_lack (d ∷ ds) f =
    let p = and_parts (is_digit d) (all_of is_digit ds) f in
    ((λ e. omega (arith, leb-true _ _ (and_parts (leb 48 d) (leb d 57) p.0).0)), figures_lack ds p.1)

number_lacks : (ds : List ℕ) (n : ℕ) → Number ds n → Lacks 32 ds
number_lacks ds n h = figures_lack ds (own.from ds h.0.1)

arrival_reads : (fs ls ns : List ℕ) (f l n : ℕ) → Number fs f → Number ls l → Number ns n → arrival_of (fs ++ 32 ∷ (ls ++ 32 ∷ ns)) ≡ Some (call.Arrive f l n)
arrival_reads fs ls ns f l n x y z =
    ap (λ (o : Option (List ℕ × List ℕ)). elim o as (λ _. Option Call) [ None ↦ None | Some p ↦ elim (cut_at 32 p.1) as (λ _. Option Call) [ None ↦ None | Some q ↦ three_of (number_of p.0) (number_of q.0) (number_of q.1) ] ]) (cut_reads 32 fs (ls ++ 32 ∷ ns) (number_lacks fs f x))
    ∙ ap (λ (o : Option (List ℕ × List ℕ)). elim o as (λ _. Option Call) [ None ↦ None | Some q ↦ three_of (number_of fs) (number_of q.0) (number_of q.1) ]) (cut_reads 32 ls ns (number_lacks ls l y))
    ∙ ap (λ o. three_of o (number_of ls) (number_of ns)) (number_reads fs f x)
    ∙ ap (λ o. three_of (Some f) o (number_of ns)) (number_reads ls l y)
    ∙ ap (λ o. three_of (Some f) (Some l) o) (number_reads ns n z)

pub line_reads : (bytes : List ℕ) (l : Line) → Form bytes l → line_of bytes ≡ Ok l
line_reads _ _ Form.empty = refl
line_reads _ _ Form.comment = refl
line_reads _ _ (Form.sheet ds n h) = numbered_reads Sheet ds ∙ ap (λ (o : Option ℕ). ok_or (option_map line.Sheet o) (expected.Form Sheet)) (number_reads ds n h)
line_reads _ _ (Form.arrive fs ls ns f l n x y z) = numbered_reads Arrive (fs ++ 32 ∷ (ls ++ 32 ∷ ns)) ∙ ap (λ (o : Option Call). ok_or (option_map line.Call o) (expected.Form Arrive)) (arrival_reads fs ls ns f l n x y z)
line_reads _ _ (Form.send ds n h) = numbered_reads Send ds ∙ ap (λ (o : Option ℕ). ok_or (option_map (λ n. line.Call (call.Send n)) o) (expected.Form Send)) (number_reads ds n h)
line_reads _ _ (Form.kick ds n h) = numbered_reads Kick ds ∙ ap (λ (o : Option ℕ). ok_or (option_map (λ n. line.Call (call.Kick n)) o) (expected.Form Kick)) (number_reads ds n h)
line_reads _ _ Form.reap = refl
line_reads _ _ Form.time = refl
line_reads _ _ Form.ready = refl
line_reads _ _ (Form.flow ds n h) = numbered_reads Flow ds ∙ ap (λ (o : Option ℕ). ok_or (option_map (λ n. line.Call (call.Flow n)) o) (expected.Form Flow)) (number_reads ds n h)
