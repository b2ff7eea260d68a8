-- Commands at the front of an array, and the last of them.
use Rattle.std.proofs.Common.{◌≡◌, ℕ, ◌+◌, ◌-◌, ◌≤◌, List, [], ◌∷◌, ◌++◌, length, get_or, take, sym, ap, ◌∙◌, arith}
use Rattle.std.proofs.lemmas.List.{take_more}
use Rattle.card.specs.declared.Command.{Command}

pub popped : (d : Command) (xs : List Command) (n : ℕ) → (n ≡ 0 → ⊥) → n ≤ length xs → take n xs ≡ take (n - 1) xs ++ get_or xs (n - 1) d ∷ []
popped d xs n some h =
    let back : n - 1 + 1 ≡ n = omega arith in
    ap (λ m. take m xs) (sym back) ∙ take_more xs (n - 1) d (omega arith)
