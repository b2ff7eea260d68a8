-- A text is known by its bytes, one after the other. Assumes nothing.
use Rattle.std.proofs.Common.{◌≡◌, ℕ, suc, List, [], ◌∷◌, length, get_or, sym, refl, ap, ◌∙◌, arith}
use Rattle.std.specs.Option.{ok_or}
use Rattle.script.specs.Lines.{card_of}
use Rattle.script.specs.Words.{word_of}
use Rattle.script.specs.declared.fault.Expected.TheVariants.{AnyCall, Card}

-- from place i on, these bytes
abbrev pub Spells : ℕ → List ℕ → List ℕ → Type 0
Spells i l [] = Unit {0}
Spells i l (b ∷ bs) = (get_or l i 0 ≡ b) × Spells (suc i) l bs

shift : (i a : ℕ) (l bs : List ℕ) → Spells (suc i) (a ∷ l) bs → Spells i l bs
shift i a l [] s = tt
shift i a l (b ∷ bs) s = (s.0, shift (suc i) a l bs s.1)

spelt : (l bs : List ℕ) → length l ≡ length bs → Spells 0 l bs → l ≡ bs
spelt [] [] e s = refl
spelt [] (b ∷ bs) e s = absurd (omega (arith, e))
spelt (a ∷ l) [] e s = absurd (omega (arith, e))
spelt (a ∷ l) (b ∷ bs) e s = ap (λ x. x ∷ l) s.0 ∙ ap (λ xs. b ∷ xs) (spelt l bs (omega (arith, e)) (shift 0 a l bs s.1))

pub card_spelt : (l bs : List ℕ) → length l ≡ length bs → Spells 0 l bs → ok_or (card_of bs) Card ≡ ok_or (card_of l) Card
card_spelt l bs e s = ap (λ t. ok_or (card_of t) Card) (sym (spelt l bs e s))

pub word_spelt : (l bs : List ℕ) → length l ≡ length bs → Spells 0 l bs → ok_or (word_of bs) AnyCall ≡ ok_or (word_of l) AnyCall
word_spelt l bs e s = ap (λ t. ok_or (word_of t) AnyCall) (sym (spelt l bs e s))
