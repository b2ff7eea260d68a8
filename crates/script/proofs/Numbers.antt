-- Numbers are read from just the digits of numbers below 2^32. Assumes nothing.
use Rattle.std.proofs.Common.{◌≡◌, ℕ, ◌+◌, ◌-◌, ◌*◌, ◌^◌, ◌<◌, ◌≤◌, Bool, true, false, cond, ◌&&◌, eqb, ltb, List, [], ◌∷◌, length, Some, None, decimal, Option, sym, refl, ap, ◌∙◌, arith}
use Rattle.std.proofs.lemmas.Fmt.{decimal_is_IsNumeral}
use Rattle.std.proofs.lemmas.Bool.{and_parts, and_from, cond-true, cond-false, eqb-false, ltb-true, lt-ltb, ne_eqb}
use Rattle.reader.specs.Lines.{is_digit}
use Rattle.reader.proofs.Numbers.{Figures, read_on, own, cond_some}
use Rattle.sheet.specs.Ranges.{all_of}
use Rattle.script.specs.Grammar.{Number}
use Rattle.script.specs.Words.{digits_from, number_of}

grows : (m : ℕ) (ds : List ℕ) → m ≤ read_on m ds
grows m [] = omega arith
grows m (d ∷ ds) = omega (arith, grows (m * 10 + (d - 48)) ds)

digits_say : (m : ℕ) (ds : List ℕ) (n : ℕ) → m < 2 ^ 32 → digits_from m ds ≡ Some n → Figures ds × (read_on m ds ≡ n) × (n < 2 ^ 32)
digits_say m [] n h e = let same : m ≡ n = cc in (refl, same, omega arith)
digits_say m (d ∷ ds) n h e =
    let next = m * 10 + (d - 48) in
    let c = cond_some (is_digit d && ltb next (2 ^ 32)) (digits_from next ds) n e in
    let t = and_parts (is_digit d) (ltb next (2 ^ 32)) c.0 in
    let k = digits_say next ds n (ltb-true _ _ t.1) c.1 in
    (and_from _ _ t.0 k.0, k.1, k.2)

digits_read : (m : ℕ) (ds : List ℕ) → Figures ds → read_on m ds < 2 ^ 32 → digits_from m ds ≡ Some (read_on m ds)
digits_read m [] f h = refl
digits_read m (d ∷ ds) f h =
    let next = m * 10 + (d - 48) in
    let p = and_parts (is_digit d) (all_of is_digit ds) f in
    let small : next < 2 ^ 32 = omega (arith, grows next ds) in
    cond-true (is_digit d && ltb next (2 ^ 32)) (digits_from next ds) None (and_from _ _ p.0 (lt-ltb _ _ small)) ∙ digits_read next ds p.1 h

cond_none : {A : Type 0} (b : Bool) (o : Option A) (v : A) → cond b None o ≡ Some v → (b ≡ false) × (o ≡ Some v)
cond_none true o v e = let z : ◌≡◌ {A = ℕ} 0 1 = cc in absurd (omega arith)
cond_none false o v e = (refl, e)

pub number_says : (ds : List ℕ) (n : ℕ) → number_of ds ≡ Some n → Number ds n
number_says ds n e =
    let c = cond_none (eqb (length ds) 0) (digits_from 0 ds) n e in
    let some : length ds ≡ 0 → ⊥ = eqb-false _ _ c.0 in
    let k = digits_say 0 ds n (omega arith) c.1 in
    let digits = own.to ds k.0 in
    ((omega arith, digits), sym (own.same ds digits) ∙ k.1, k.2)

pub number_reads : (ds : List ℕ) (n : ℕ) → Number ds n → number_of ds ≡ Some n
number_reads ds n h =
    let same : read_on 0 ds ≡ n = own.same ds h.0.1 ∙ h.1 in
    let some : length ds ≡ 0 → ⊥ = λ z. omega (arith, h.0.0) in
    cond-false (eqb (length ds) 0) None (digits_from 0 ds) (ne_eqb _ _ some)
    ∙ digits_read 0 ds (own.from ds h.0.1) (omega (arith, h.2))
    ∙ ap (λ m. Some m) same

pub written : (n : ℕ) → n < 2 ^ 32 → Number (decimal n) n
written n h = let r = decimal_is_IsNumeral n (omega arith) in (r.0, r.1, h)

pub below : (ds : List ℕ) (n : ℕ) → digits_from 0 ds ≡ Some n → n < 2 ^ 32
below ds n e = (digits_say 0 ds n (omega arith) e).2
