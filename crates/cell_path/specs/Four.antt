-- What 32 bits keep of numbers, at four steps in a row.
use Rattle.std.specs.Prelude.{ℕ, ◌-◌, ◌^◌, ℤ, pos, ◌+ℤ◌, ◌≤ℤ◌, List, get_or}
use Rattle.std.specs.Int.{w32, cast_unsigned, int_wrap}

-- what is kept of a number: its lowest 32 bits
abbrev pub low : ℤ → ℕ
low number = cast_unsigned w32 (int_wrap w32 number)

-- two numbers are so near that what is kept of them tells which is the greater
pub record AreNear (number other : ℤ) : Type 0 where
  pub above : number ≤ℤ (other +ℤ pos (2 ^ 31 - 1))
  pub below : other ≤ℤ (number +ℤ pos (2 ^ 31 - 1))

-- what stands at one of four steps, the earliest of which is step 0
abbrev pub at_step : List ℕ → ℕ → ℕ
at_step numbers step = get_or numbers step 0
