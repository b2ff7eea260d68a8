-- What a caller learns from `push` where there is room, and from `pop` where it answers a command.
use Rattle.std.proofs.Common.{◌≡◌, ℕ, ◌<◌, ◌≤◌, List, [], ◌∷◌, length, Some, Ok, Err, Result, MatchResult, refl, arith}
use Rattle.card.specs.declared.Command.{Command}
use Rattle.card.specs.declared.CardFault.{CardFault}
use Rattle.card.specs.declared.CardFault.TheVariants.{Full}
use Rattle.ring.specs.Rings.{head_of, tail_of}

pub pushed_room : {X : Type 0} (n : ℕ) (before after more : List X) (r : Result (Unit {0}) CardFault) → length before < n → MatchResult r (λ _. (length before < n) × (after ≡ more)) (λ fault. (fault ≡ Full) × (n ≤ length before) × (after ≡ before)) → (r ≡ Ok tt) × (after ≡ more)
pushed_room n before after more (Ok _) room did = (refl, did.1)
pushed_room n before after more (Err fault) room did = absurd (omega (arith, did.1))

pub popped_some : (before after : List Command) (c : Command) → Some c ≡ head_of before → after ≡ tail_of before → before ≡ c ∷ after
popped_some [] after c first rest = let z : ◌≡◌ {A = ℕ} 0 1 = cc in absurd (omega arith)
popped_some (x ∷ before) after c first rest = let same : x ≡ c = cc in rw (same, rest)
