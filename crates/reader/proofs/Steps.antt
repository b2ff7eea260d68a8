-- The steps of the loops over a line's bytes.
use Rattle.std.proofs.Common.{◌≡◌, ℕ, ◌+◌, ◌-◌, ◌*◌, ◌^◌, ◌<◌, ◌≤◌, not, ◌&&◌, eqb, ltb, leb, ◌⊎◌, List, [], ◌∷◌, length, get_or, take, drop, Some, None, sym, refl, ap, ◌∙◌, ⊎_elim, pow-suc, add-one, arith}
use Rattle.std.proofs.Math.Nat.{pow-le-pow_right}
use Rattle.std.proofs.lemmas.List.{length-take}
use Rattle.std.proofs.lemmas.Bool.{cond-true, cond-false, ne_eqb, le-leb, le-ltb, and_from, and_parts, and_left, and_right, not_from_false, cases_Bool, leb-true, lt-ltb}
use Rattle.std.specs.List.{slice_split, onto_first}
use Rattle.reader.specs.Lines.{before, cut_at, is_digit, digits_from, value_below, sized, padded, number_of}

pub number_is : (ds : List ℕ) → 1 ≤ length ds → length ds ≤ 10 → (length ds ≤ 1) ⊎ (get_or ds 0 0 ≡ 48 → ⊥) → number_of ds ≡ digits_from 0 ds
number_is ds lo hi o =
    cond-true (sized ds && not (padded ds)) (digits_from 0 ds) None (
    and_from _ _ (and_from _ _ (le-leb _ _ lo) (le-leb _ _ hi)) (not_from_false _ (⊎_elim (λ one. and_left _ _ (le-ltb _ _ one)) (λ ne. and_right _ _ (ne_eqb _ _ ne)) o))
    )

-- one more digit has room
pub digit_fits : (n i d : ℕ) → n < 10 ^ i → d ≤ 9 → n * 10 + d < 10 ^ (i + 1)
digit_fits n i d h k = rw (add-one, pow-suc) (omega arith)

-- the first piece of a text that is split at each b ends before the first b
first_piece : (b : ℕ) (xs : List ℕ) → (rest : List (List ℕ)) × (slice_split (λ x. eqb x b) xs ≡ take (before b xs) xs ∷ rest)
first_piece b [] = ([], refl)
first_piece b (x ∷ xs) =
    let r = first_piece b xs in
    ⊎_elim
    (λ t. (slice_split (λ x. eqb x b) xs, cond-true (eqb x b) _ _ t ∙ ap (λ n. take n (x ∷ xs) ∷ slice_split (λ x. eqb x b) xs) (sym (cond-true (eqb x b) 0 (before b xs + 1) t))))
    (λ f. (r.0, cond-false (eqb x b) _ _ f ∙ ap (onto_first x) r.1 ∙ ap (λ n. take n (x ∷ xs) ∷ r.0) (sym (cond-false (eqb x b) 0 (before b xs + 1) f ∙ add-one (before b xs)))))
    (cases_Bool (eqb x b))

-- so that piece, which an iterator's first call gives, is what stands before the first b
pub left_is : (b : ℕ) (xs left : List ℕ) → left ≡ get_or (slice_split (λ x. eqb x b) xs) 0 left → left ≡ take (before b xs) xs
left_is b xs left e = e ∙ ap (λ l. get_or l 0 left) (first_piece b xs).1

-- where the text is cut, by what stands before the first b
pub cut_missing : (b : ℕ) (s left : List ℕ) → left ≡ take (before b s) s → length s < length left + 1 → None ≡ cut_at b s
cut_missing b s left e h = sym (cond-false (ltb (before b s) (length s)) _ None (le-ltb _ _ (omega (arith, ap length e, length-take (before b s) s))))

pub cut_found : (b : ℕ) (s left right : List ℕ) → left ≡ take (before b s) s → length left + 1 ≤ length s → right ≡ drop (length left + 1) s → Some (left, right) ≡ cut_at b s
cut_found b s left right e h r =
    let at : length left ≡ before b s = omega (arith, ap length e, length-take (before b s) s) in
    ap (λ l. Some (l, right)) e ∙ ap (λ q. Some (take (before b s) s, q)) (r ∙ ap (λ n. drop (n + 1) s) at) ∙ sym (cond-true (ltb (before b s) (length s)) _ None (lt-ltb _ _ (omega (arith, at))))

-- so ten digits stay below 10 ^ 10
pub below_ten : (i n : ℕ) (ds : List ℕ) → n < 10 ^ i → i + length ds ≤ 10 → value_below (10 ^ 10) n ds ≡ digits_from n ds
below_ten i n [] h l = refl
below_ten i n (b ∷ bs) h l =
    let next = n * 10 + (b - 48) in
    ⊎_elim
    (λ d.
    let small : next < 10 ^ (i + 1) = digit_fits n i (b - 48) h (omega (arith, leb-true b 57 (and_parts (leb 48 b) (leb b 57) d).1)) in
    let most : 10 ^ (i + 1) ≤ 10 ^ 10 = pow-le-pow_right {n = 10} (omega arith) {i = i + 1} {j = 10} (omega arith) in
    cond-true (is_digit b && ltb next (10 ^ 10)) (value_below (10 ^ 10) next bs) None (and_from _ _ d (lt-ltb _ _ (omega arith)))
    ∙ below_ten (i + 1) next bs small (omega arith)
    ∙ sym (cond-true (is_digit b) (digits_from next bs) None d))
    (λ d. cond-false (is_digit b && ltb next (10 ^ 10)) (value_below (10 ^ 10) next bs) None (and_left _ _ d) ∙ sym (cond-false (is_digit b) (digits_from next bs) None d))
    (cases_Bool (is_digit b))
