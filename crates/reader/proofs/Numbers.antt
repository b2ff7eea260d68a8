-- A number is read from just what is written of it.
use Rattle.std.proofs.Common.{◌≡◌, ℕ, ◌+◌, ◌-◌, ◌*◌, ◌^◌, ◌<◌, ◌≤◌, Bool, true, false, cond, not, ◌&&◌, eqb, ltb, leb, ◌⊎◌, List, [], ◌∷◌, length, get_or, Some, None, decimal, Option, sym, refl, ap, ◌∙◌, inl, inr, ⊎_elim, arith}
use Rattle.std.proofs.lemmas.Bool.{and_parts, and_from, not-true, cond-true, leb-true, le-leb, cases_eq, and_cases, ltb-false, eqb-false}
use Rattle.std.proofs.lemmas.Str.Parse.{IsNumeralModel, IsDigitsTest, numerals_by_fold, digits_value_short}
use Rattle.std.proofs.lemmas.Fmt.{decimal-digits_value, digits_decimal, digits_value-decimal, length-decimal-le, decimal_nonempty, first_decimal, decimal_digit}
use Rattle.reader.specs.Lines.{is_digit, digits_from, sized, padded, number_of}
use Rattle.sheet.specs.Ranges.{all_of}
use Rattle.reader.proofs.Steps.{number_is}

abbrev pub read_on : ℕ → List ℕ → ℕ
read_on n [] = n
read_on n (c ∷ cs) = read_on (n * 10 + (c - 48)) cs

abbrev pub Figures : List ℕ → Type 0
Figures ds = all_of is_digit ds ≡ true

tells : IsDigitsTest Figures
tells = record {
  empty = refl;
  parts = λ c cs h. let p = and_parts (is_digit c) (all_of is_digit cs) h in let q = and_parts (leb 48 c) (leb c 57) p.0 in ((leb-true _ _ q.0, leb-true _ _ q.1), p.1);
  more = λ c cs d h. and_from _ _ (and_from _ _ (le-leb _ _ d.0) (le-leb _ _ d.1)) h;
}

pub own : IsNumeralModel Figures (read_on 0)
own = numerals_by_fold Figures tells read_on (record { empty = λ n. refl; more = λ n c cs d. refl })

pub cond_some : {A : Type 0} (b : Bool) (o : Option A) (v : A) → cond b o None ≡ Some v → (b ≡ true) × (o ≡ Some v)
cond_some true o v e = (refl, e)
cond_some false o v e = let z : ◌≡◌ {A = ℕ} 0 1 = cc in absurd (omega arith)

digits_all : (m : ℕ) (ds : List ℕ) (n : ℕ) → digits_from m ds ≡ Some n → Figures ds × (read_on m ds ≡ n)
digits_all m [] n e = (refl, cc)
digits_all m (d ∷ ds) n e =
    let h = cond_some (is_digit d) (digits_from (m * 10 + (d - 48)) ds) n e in
    let k = digits_all (m * 10 + (d - 48)) ds n h.1 in
    (and_from _ _ h.0 k.0, k.1)

digits_some : (m : ℕ) (ds : List ℕ) → Figures ds → digits_from m ds ≡ Some (read_on m ds)
digits_some m [] h = refl
digits_some m (d ∷ ds) h =
    let p = and_parts (is_digit d) (all_of is_digit ds) h in
    cond-true (is_digit d) (digits_from (m * 10 + (d - 48)) ds) None p.0 ∙ digits_some (m * 10 + (d - 48)) ds p.1

-- what a number is read from is what is written of it
pub number_writes : (ds : List ℕ) (n : ℕ) → number_of ds ≡ Some n → ds ≡ decimal n
number_writes ds n e =
    let h = cond_some (sized ds && not (padded ds)) (digits_from 0 ds) n e in
    let fig = digits_all 0 ds n h.1 in
    let t = and_parts (sized ds) (not (padded ds)) h.0 in
    let s = and_parts (leb 1 (length ds)) (leb (length ds) 10) t.0 in
    let some = leb-true _ _ s.0 in
    let short = leb-true _ _ s.1 in
    let small : read_on 0 ds < 10 ^ 10 = digits_value_short own ds 10 fig.0 short in
    let bare : get_or ds 0 0 ≡ 48 → length ds ≡ 1 =
    λ z. ⊎_elim (λ q. omega (arith, ltb-false 1 (length ds) q)) (λ q. absurd (eqb-false _ _ q z)) (and_cases (ltb 1 (length ds)) (eqb (get_or ds 0 0) 48) (not-true _ t.1))
    in
    sym (decimal-digits_value own ds fig.0 (omega arith) bare (omega arith)) ∙ ap decimal fig.1

pub number_reads : (n : ℕ) → n < 10 ^ 10 → number_of (decimal n) ≡ Some n
number_reads n h =
    let wide : n < 2 ^ 64 = omega arith in
    let fig = digits_decimal own n wide in
    let bare : (length (decimal n) ≤ 1) ⊎ (get_or (decimal n) 0 0 ≡ 48 → ⊥) =
    ⊎_elim (λ z. inl (omega (arith, ap (λ m. length (decimal m)) z, ap length (decimal_digit 0 (omega arith))))) (λ nz. inr (λ e. omega (arith, first_decimal n (omega arith) wide))) (cases_eq n 0)
    in
    number_is (decimal n) (omega (arith, decimal_nonempty n wide)) (length-decimal-le 10 n (omega arith) h wide) bare ∙ digits_some 0 (decimal n) fig ∙ ap Some (digits_value-decimal own n wide)
