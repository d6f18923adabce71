-- What a call on a source or a sink says of the object's own count of faults, and a pull of the end of the input.
use Rattle.std.specs.Prelude.{◌≡◌, ℕ, ◌+◌, ◌-◌, ◌^◌, ◌≤◌, min, Result, Ok, Err, OnOk, OnErr}
use Rattle.std.specs.Prelude.{Bool, false, if◌then◌else◌, ◌==◌, ◌&&◌, ◌||◌, not}

-- one more, up to the last value of a `u64`
abbrev pub one_more : ℕ → ℕ
one_more count = min (count + 1) (2 ^ 64 - 1)

-- the count rose, or stands at its last value
abbrev pub Rose : ℕ → ℕ → Type 0
Rose before now = one_more before ≤ now

-- the count never falls, an Ok leaves it, and a failure is answered only where it rose
pub record HasCause {T E : Type 0} (before now : ℕ) (result : Result T E) : Type 0 where
  pub later : before ≤ now
  pub same : OnOk result (now ≡ before)
  pub failed : OnErr result (Rose before now)

-- the answer of a pull into so much room is the end of the input: no byte, though there was room
abbrev pub is_end : {E : Type 0} → Result ℕ E → ℕ → Bool
is_end (Ok given) room = (given == 0) && not (room == 0)
is_end (Err _) room = false

-- the pulls that stood at the end or behind it, after one more pull: the one that came to the end, and each behind it
abbrev pub ends_after : {E : Type 0} → ℕ → Result ℕ E → ℕ → ℕ
ends_after ends result room = if not (ends == 0) || is_end result room then one_more ends else ends
