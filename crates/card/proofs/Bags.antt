-- What the same commands, and one command more, have in common: length, tallies, sums, and what holds of all.
use Rattle.std.proofs.Common.{◌≡◌, ℕ, ◌+◌, ◌≤◌, true, false, cond, ◌||◌, eqb, ltb, List, [], ◌∷◌, ◌++◌, length, is_some, is_ok, Some, None, Ok, Err, sum_by, Option, Result, sym, refl, ap, ◌∙◌, subst, zero-add, arith, ltb-false, ltb-true, lt-ltb}
use Rattle.std.specs.List.Sorted.{IsPermutation}
use Rattle.std.specs.List.{AllByRecursion}
use Rattle.std.proofs.lemmas.List.Sorted.{IsPermutation-refl, IsPermutation-sym, IsPermutation-trans, IsPermutation-cons, IsPermutation-swap, length_permutation, sum_by-IsPermutation}
use Rattle.std.proofs.Math.Bool.{or_assoc}
use Rattle.std.proofs.ByRecursion.{all_shuffled}
use Rattle.std.proofs.lemmas.List.Sums.{sum_by-cons}
use Rattle.card.specs.declared.Command.{Command}
use Rattle.card.specs.declared.CardFault.{CardFault}
use Rattle.card.specs.declared.CardFault.TheVariants.{Full, HeldAlready}
use Rattle.card.specs.Commands.{among, tally, command, Same, More, Submitted, Finished}

-- Making one more.

-- the second list is the first with c put in somewhere
pub data Plus (c : Command) : List Command → List Command → Type 0 where
  here : {xs : List Command} → Plus c xs (c ∷ xs)
  there : {x : Command} {xs ys : List Command} → Plus c xs ys → Plus c (x ∷ xs) (x ∷ ys)

pub plus_end : (c : Command) (xs : List Command) → Plus c xs (xs ++ c ∷ [])
plus_end c [] = here
plus_end c (x ∷ xs) = there (plus_end c xs)

pub plus_before : {c : Command} {xs ys : List Command} (zs : List Command) → Plus c xs ys → Plus c (zs ++ xs) (zs ++ ys)
plus_before [] p = p
plus_before (z ∷ zs) p = there (plus_before zs p)

pub plus_after : {c : Command} {xs ys : List Command} (zs : List Command) → Plus c xs ys → Plus c (xs ++ zs) (ys ++ zs)
plus_after zs here = here
plus_after zs (there p) = there (plus_after zs p)

swapped : (a b : Command) (xs : List Command) → IsPermutation (a ∷ b ∷ xs) (b ∷ a ∷ xs)
swapped a b xs = IsPermutation-swap (a ∷ b ∷ xs) (b ∷ a ∷ xs) 0 1 (omega arith) (omega arith) refl

pub more_plus : {c : Command} {few many : List Command} → Plus c few many → More c few many
more_plus {c} {few} {many} here = IsPermutation-refl many
more_plus {c} (there {x} {xs} {ys} p) = IsPermutation-trans (c ∷ x ∷ xs) (x ∷ c ∷ xs) (x ∷ ys) (swapped c x xs) (IsPermutation-cons x (c ∷ xs) ys (more_plus p))

-- one more at the end
pub more_end : (c : Command) (few many : List Command) → many ≡ few ++ c ∷ [] → More c few many
more_end c few many is = subst (λ cs. More c few cs) (sym is) (more_plus (plus_end c few))

pub same_refl : (cs : List Command) → Same cs cs
same_refl cs = IsPermutation-refl cs

-- one more of the same
pub more_same : (c : Command) (few few' many many' : List Command) → Same few few' → More c few many → Same many many' → More c few' many'
more_same c few few' many many' f m s =
    IsPermutation-trans (c ∷ few') (c ∷ few) many' (IsPermutation-cons c few' few (IsPermutation-sym few few' f)) (IsPermutation-trans (c ∷ few) many many' m s)

-- What is the same, and what one more adds.

pub same_length : (xs ys : List Command) → Same xs ys → length ys ≡ length xs
same_length xs ys h = length_permutation xs ys h

pub more_length : (c : Command) (few many : List Command) → More c few many → length many ≡ length few + 1
more_length c few many h = let e = length_permutation (c ∷ few) many h in omega arith

pub same_sum : (g : Command → ℕ) (xs ys : List Command) → Same xs ys → sum_by g ys ≡ sum_by g xs
same_sum g xs ys h = sum_by-IsPermutation g xs ys h

pub more_sum : (g : Command → ℕ) (c : Command) (few many : List Command) → More c few many → sum_by g many ≡ g c + sum_by g few
more_sum g c few many h = sum_by-IsPermutation g (c ∷ few) many h ∙ sum_by-cons g c few

pub more_all : (P : Command → Type 0) (c : Command) (few many : List Command) → More c few many → P c → AllByRecursion P few → AllByRecursion P many
more_all P c few many h p all = all_shuffled P (c ∷ few) many h (p, all)

-- what holds of all of many holds of the one more, and of the few
pub less_all : (P : Command → Type 0) (c : Command) (few many : List Command) → More c few many → AllByRecursion P many → P c × AllByRecursion P few
less_all P c few many h all = all_shuffled P many (c ∷ few) (IsPermutation-sym (c ∷ few) many h) all

pub tally-sum : (t : ℕ) (cs : List Command) → tally t cs ≡ sum_by (λ c. cond (eqb c.ticket t) 1 0) cs
tally-sum t [] = refl
tally-sum t (c ∷ cs) = ap (λ n. cond (eqb c.ticket t) 1 0 + n) (tally-sum t cs) ∙ sym (sum_by-cons (λ c. cond (eqb c.ticket t) 1 0) c cs)

pub same_tally : (t : ℕ) (xs ys : List Command) → Same xs ys → tally t ys ≡ tally t xs
same_tally t xs ys h = tally-sum t ys ∙ same_sum (λ c. cond (eqb c.ticket t) 1 0) xs ys h ∙ sym (tally-sum t xs)

pub more_tally : (t : ℕ) (c : Command) (few many : List Command) → More c few many → tally t many ≡ cond (eqb c.ticket t) 1 0 + tally t few
more_tally t c few many h = same_tally t (c ∷ few) many h

-- a ticket is among commands where it stands there at least once
pub among-tally : (t : ℕ) (cs : List Command) → among t cs ≡ ltb 0 (tally t cs)
among-tally t [] = refl
among-tally t (c ∷ cs) =
    let rest = among-tally t cs in
    elim (eqb c.ticket t) as (λ b. (b || among t cs) ≡ ltb 0 (cond b 1 0 + tally t cs)) [
      | true ↦ sym (lt-ltb 0 (1 + tally t cs) (omega arith))
      | false ↦ rest ∙ ap (ltb 0) (sym (zero-add (tally t cs)))
    ]

pub among-append : (t : ℕ) (xs ys : List Command) → among t (xs ++ ys) ≡ (among t xs || among t ys)
among-append t [] ys = refl
among-append t (x ∷ xs) ys = ap (λ b. eqb x.ticket t || b) (among-append t xs ys) ∙ sym (or_assoc (eqb x.ticket t) (among t xs) (among t ys))

pub same_among : (t : ℕ) (xs ys : List Command) → Same xs ys → among t ys ≡ among t xs
same_among t xs ys h = among-tally t ys ∙ ap (ltb 0) (same_tally t xs ys h) ∙ sym (among-tally t xs)

pub more_among : (t : ℕ) (c : Command) (few many : List Command) → More c few many → among t many ≡ (eqb c.ticket t || among t few)
more_among t c few many h = same_among t (c ∷ few) many h

pub tally_none : (t : ℕ) (cs : List Command) → among t cs ≡ false → tally t cs ≡ 0
tally_none t cs h = none (tally t cs) (sym (among-tally t cs) ∙ h)
  where
    none : (n : ℕ) → ltb 0 n ≡ false → n ≡ 0
    none n k = omega (arith, ltb-false 0 n k)

pub tally_some : (t : ℕ) (cs : List Command) → among t cs ≡ true → 1 ≤ tally t cs
tally_some t cs h = some (tally t cs) (sym (among-tally t cs) ∙ h)
  where
    some : (n : ℕ) → ltb 0 n ≡ true → 1 ≤ n
    some n k = omega (arith, ltb-true 0 n k)

-- What a call of submit or finish adds and takes away.

pub submitted_sum : (g : Command → ℕ) (depth : ℕ) (before : List Command) (c : Command) (r : Result (Unit {0}) CardFault) (after : List Command) → Submitted depth before c r after → sum_by g after ≡ cond (is_ok r) (g c) 0 + sum_by g before
submitted_sum g depth before c (Ok _) after s = more_sum g c before after s.2
submitted_sum g depth before c (Err Full) after s = same_sum g before after s.1 ∙ sym (zero-add (sum_by g before))
submitted_sum g depth before c (Err HeldAlready) after s = same_sum g before after s.2 ∙ sym (zero-add (sum_by g before))

pub submitted_length : (depth : ℕ) (before : List Command) (c : Command) (r : Result (Unit {0}) CardFault) (after : List Command) → Submitted depth before c r after → length after ≡ length before + cond (is_ok r) 1 0
submitted_length depth before c (Ok _) after s = more_length c before after s.2
submitted_length depth before c (Err Full) after s = let e = same_length before after s.1 in omega arith
submitted_length depth before c (Err HeldAlready) after s = let e = same_length before after s.2 in omega arith

pub submitted_tally : (u depth : ℕ) (before : List Command) (c : Command) (r : Result (Unit {0}) CardFault) (after : List Command) → Submitted depth before c r after → tally u after ≡ cond (is_ok r) (cond (eqb c.ticket u) 1 0) 0 + tally u before
submitted_tally u depth before c (Ok _) after s = more_tally u c before after s.2
submitted_tally u depth before c (Err Full) after s = same_tally u before after s.1 ∙ sym (zero-add (tally u before))
submitted_tally u depth before c (Err HeldAlready) after s = same_tally u before after s.2 ∙ sym (zero-add (tally u before))

pub finished_length : (before : List Command) (r : Option (ℕ × ℕ)) (after : List Command) → Finished before r after → length before ≡ length after + cond (is_some r) 1 0
finished_length before None after f = let e = same_length before after f in omega arith
finished_length before (Some done) after f = more_length (command done.0 f.0) after before f.1
