-- The latest 96 bits of a stretch: those of a window, and the 16 before it.
use Rattle.std.specs.Prelude.{ℕ, ◌+◌, ◌*◌, ◌/◌, ◌%◌, ◌^◌, ◌==◌, ◌||◌, Bool, min, nat_lt}
use Rattle.direction_reader.specs.Firm.{sync_in_time}
use Rattle.direction_reader.specs.Window.{bit_value}
use Rattle.tc_address.specs.declared.direction.Direction.TheVariants.{Forward, Backward}

-- a register of 96 bits, the latest in bit 95, and how many of them were given
pub record BesideBits : Type 0 where
  pub bits : ℕ
  pub count : ℕ

-- no bit yet
abbrev pub none_beside : BesideBits
none_beside = record { bits = 0; count = 0 }

-- one bit more at the end, and the oldest gone
abbrev pub beside_with : BesideBits → Bool → BesideBits
beside_with b bit = record { bits = b.bits / 2 + bit_value bit * 2 ^ 95; count = min (b.count + 1) 96 }

-- before the latest 80 bits stands the sync word of a word that is played forward, or there are no 16 bits before them
abbrev pub is_firm_before : BesideBits → Bool
is_firm_before b = nat_lt b.count 96 || (b.bits % 2 ^ 16 == sync_in_time Forward)

-- the latest 16 bits are the sync word of a word that is played backward
abbrev pub is_sync_behind : BesideBits → Bool
is_sync_behind b = b.bits / 2 ^ 80 == sync_in_time Backward
