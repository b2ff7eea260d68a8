-- Lines of a text, one after the other. Assumes nothing.
use Rattle.std.proofs.Common.{◌≡◌, ℕ, suc, ◌+◌, ◌-◌, ◌<◌, ◌≤◌, eqb, ltb, List, [], ◌++◌, length, take, drop, Some, None, Ok, Err, Option, Result, unwrap_or, sym, refl, ap, ◌∙◌, append-nil, arith, length-append}
use Rattle.std.proofs.lemmas.List.{take_at, take-append-drop}
use Rattle.std.proofs.lemmas.Bool.{cond_both}
use Rattle.reader.specs.Lines.{before}
use Rattle.script.specs.Scripts.{line_at, next_line, skipped}

-- a line with its line feed is a front of the text
pub line_front : (bytes : List ℕ) → (front : List ℕ) × (front ++ (line_at bytes).1 ≡ bytes)
line_front bytes =
    cond_both (ltb (before 10 bytes) (length bytes)) (Some (take (before 10 bytes) bytes, drop (before 10 bytes + 1) bytes)) None
    (λ (o : Option (List ℕ × List ℕ)). (front : List ℕ) × (front ++ (unwrap_or o (bytes, [])).1 ≡ bytes))
    (λ _. (take (before 10 bytes + 1) bytes, take-append-drop (before 10 bytes + 1) bytes))
    (λ _. (bytes, append-nil bytes))

next_is : (bytes l rest : List ℕ) → next_line bytes ≡ Some (l, rest) → ◌≡◌ {A = List ℕ × List ℕ} (line_at bytes) (l, rest)
next_is bytes l rest e =
    cond_both (eqb (length bytes) 0) None (Some (line_at bytes)) (λ o. o ≡ Some (l, rest) → ◌≡◌ {A = List ℕ × List ℕ} (line_at bytes) (l, rest))
    (λ _ q. let z : ◌≡◌ {A = ℕ} 0 1 = cc in absurd (omega arith))
    (λ _ q. cc)
    e

pub next_front : (bytes l rest : List ℕ) → next_line bytes ≡ Some (l, rest) → (front : List ℕ) × (front ++ rest ≡ bytes)
next_front bytes l rest e =
    let f = line_front bytes in
    (f.0, ap (λ (p : List ℕ × List ℕ). f.0 ++ p.1) (sym (next_is bytes l rest e)) ∙ f.1)

-- from what stands in front of the rest to the part of the text that it is
pub front_taken : (front rest text : List ℕ) → front ++ rest ≡ text → take (length text - length rest) text ≡ front
front_taken front rest text e =
    let n : length text - length rest ≡ length front = omega (arith, ap length e, length-append front rest) in
    ap (λ k. take k text) n ∙ ap (take (length front)) (sym e) ∙ take_at front rest (length front) refl

goes : {A B E : Type 0} (o : Option A) (d : E) (f : A → Result B E) (p : A) → o ≡ Some p → ◌≡◌ {A = Result B E} (elim o [ None ↦ Err d | Some q ↦ f q ]) (f p)
goes None d f p e = let z : ◌≡◌ {A = ℕ} 0 1 = cc in absurd (omega arith)
goes {A} (Some q) d f p e = let h : ◌≡◌ {A = A} q p = cc in ap f h

stops : {A B E : Type 0} (o : Option A) (d : E) (f : A → Result B E) → o ≡ None → ◌≡◌ {A = Result B E} (elim o [ None ↦ Err d | Some q ↦ f q ]) (Err d)
stops None d f e = refl
stops (Some q) d f e = let z : ◌≡◌ {A = ℕ} 0 1 = cc in absurd (omega arith)

module _ (n i : ℕ) (bytes : List ℕ) (k : ℕ) (h : i < n) where
  one : n - i ≡ suc (n - (i + 1))
  one = omega arith

  pub skip_on : (l rest : List ℕ) → next_line bytes ≡ Some (l, rest) → skipped (n - i) bytes k ≡ skipped (n - (i + 1)) rest (k + 1)
  skip_on l rest e = ap (λ m. skipped m bytes k) one ∙ goes (next_line bytes) k (λ p. skipped (n - (i + 1)) p.1 (k + 1)) (l, rest) e

  pub skip_off : next_line bytes ≡ None → skipped (n - i) bytes k ≡ Err k
  skip_off e = ap (λ m. skipped m bytes k) one ∙ stops (next_line bytes) k (λ p. skipped (n - (i + 1)) p.1 (k + 1)) e

pub skip_end : (n i : ℕ) (bytes : List ℕ) (k : ℕ) → n ≤ i → skipped (n - i) bytes k ≡ Ok (bytes, k)
skip_end n i bytes k h = let z : n - i ≡ 0 = omega arith in ap (λ m. skipped m bytes k) z
