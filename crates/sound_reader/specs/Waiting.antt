-- Intervals that are found, and not read yet.
use Rattle.std.specs.Prelude.{ℕ, ◌+◌, Bool, true, false, Option, Some, None, IfSome}
use Rattle.direction_reader.specs.declared.brought.Brought.{Brought}
use Rattle.direction_reader.specs.declared.brought.Brought.TheVariants.{Nothing, Candidate, Break}
use Rattle.pcm_front.specs.declared.interval.Intervals.{Intervals}
use Rattle.pcm_front.specs.Distance.{IsInterval}

-- each piece of them is an interval
pub record AreIntervals (waiting : Intervals) : Type 0 where
  pub length : IsInterval waiting.length
  pub rest : IfSome waiting.rest IsInterval

-- one where there is a rest
abbrev pub one_if : Option ℕ → ℕ
one_if None = 0
one_if (Some x) = 1

-- how many there are
abbrev pub count_of : Intervals → ℕ
count_of waiting = waiting.whole + one_if waiting.rest + waiting.begun

-- the one that was read brought no event
abbrev pub is_nothing : Brought → Bool
is_nothing Nothing = true
is_nothing Candidate = false
is_nothing Break = false
