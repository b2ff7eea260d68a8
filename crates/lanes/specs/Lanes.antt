-- What waits in the eight lanes.
use Rattle.std.specs.Prelude.{ℕ, Bool, ◌&&◌, List, [], length, nat_lt, slice_index_or}
use Rattle.lanes.specs.Waits.{lanes_in}
use Rattle.lanes.specs.declared.lanes.Lanes.{Lanes}
use Rattle.lanes.specs.declared.records.Request.{Request}
pub use Rattle.heap.specs.Sorting.{head_of, Pops}
pub use Rattle.lanes.specs.Waits.{waits, PopsAt, starts, least}

-- what waits in each lane, the lead first
abbrev pub lanes_of : Lanes → List (List Request)
lanes_of l = lanes_in l.lanes

-- whether a request may enter lane i: there is such a lane, and fewer than 32 wait in it
abbrev pub has_room : ℕ → List (List Request) → Bool
has_room i ls = nat_lt i 8 && nat_lt (length (slice_index_or ls i [])) 32
