-- How many slots there are and how many of them are out, and what one step changes of that.
use Rattle.std.specs.Prelude.{ℕ, ◌+◌, ◌-◌, min}

-- the grants that are neither spent nor given back, the requests that were sent and have not finished, and all slots
pub record Counts : Type 0 where
  pub granted : ℕ
  pub sent : ℕ
  pub limit : ℕ

-- how many slots are out
abbrev pub out : Counts → ℕ
out s = s.granted + s.sent

-- of these slots none is out
abbrev pub all_in : ℕ → Counts
all_in limit = record { granted = 0; sent = 0; limit = limit }

-- one more grant
abbrev pub taken : Counts → Counts
taken s = record { granted = s.granted + 1; sent = s.sent; limit = s.limit }

-- a grant, if there is one, is now a request that was sent
abbrev pub spent : Counts → Counts
spent s = record { granted = s.granted - 1; sent = s.sent + min 1 s.granted; limit = s.limit }

-- one grant less, if there is one
abbrev pub given_back : Counts → Counts
given_back s = record { granted = s.granted - 1; sent = s.sent; limit = s.limit }

-- one request less that was sent, if there is one
abbrev pub freed : Counts → Counts
freed s = record { granted = s.granted; sent = s.sent - 1; limit = s.limit }
