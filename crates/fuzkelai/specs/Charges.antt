-- The charge as C programs get it.
use Rattle.std.specs.Prelude.{ℕ, Some, None, Option}
use Rattle.charge.specs.Charge.{charge_for}

-- a number, or 0 where there is none; no charge is 0
abbrev pub or_zero : Option ℕ → ℕ
or_zero None = 0
or_zero (Some c) = c

abbrev pub charge_or_zero : ℕ → ℕ → ℕ
charge_or_zero sectors weight = or_zero (charge_for sectors weight)
