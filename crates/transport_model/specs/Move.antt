-- The modelled transport: where it is on the circle of a day, and how it moves. The model is this project's own.
use Rattle.std.specs.Prelude.{ℕ, ◌*◌, ◌≤◌, ℤ, ◌+ℤ◌, unsigned_abs}
use Rattle.tc_address.specs.declared.count.Count.{Count}
use Rattle.tc_address.specs.Numbering.{day_length}
use Rattle.tc_address.specs.Circle.{moved}

-- the subframes of a day, 80 for each label
abbrev pub day_of : Count → ℕ
day_of count = 80 * day_length count

-- a transport of a count, and where it stands, in subframes
pub record TransportState : Type 0 where
  pub count : Count
  pub position : ℕ

-- orders and slips are at most a million subframes, either way
abbrev pub IsInRange : ℤ → Type 0
IsInRange subframes = unsigned_abs subframes ≤ 1_000_000

-- the transport after an order and a slip: it stands their sum further, modulo the day
abbrev pub after_move : TransportState → ℤ → ℤ → TransportState
after_move before order slip =
    record { count = before.count; position = moved (day_of before.count) before.position (order +ℤ slip) }

-- the transport honours its bound in a move with this slip: it is at most 8 subframes, either way
abbrev pub HonoursBound : ℤ → Type 0
HonoursBound slip = unsigned_abs slip ≤ 8
