-- What a list in place holds.
use Rattle.std.specs.Prelude.{ℕ, List, take}
use Rattle.sheet.specs.declared.list.FixedList.{FixedList}

-- the elements, in their order; what stands in the places after them is no part of the list
abbrev pub items_of : {T : Type 0} {N : ℕ} → FixedList T N → List T
items_of l = take l.len l.elements
