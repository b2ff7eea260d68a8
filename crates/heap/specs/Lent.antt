-- The memory that a heap borrows.
use Rattle.std.specs.Prelude.{◌≡◌}
use Rattle.heap.specs.declared.heap.Heap.{Heap}

-- two heaps borrow the same items and the same count: what one leaves there is what the owner has
abbrev pub SameLoan : {X : Type 0} → Heap X → Heap X → Type 0
SameLoan old new = (new.items.ghost_name ≡ old.items.ghost_name) × (new.len.ghost_name ≡ old.len.ghost_name)
