-- A window: the latest 80 bits of a stretch in a register of 80 bits, the latest in bit 79.
use Rattle.std.specs.Prelude.{ℕ, ◌+◌, ◌*◌, ◌/◌, ◌^◌, Bool, if◌then◌else◌, nat_lt}
use Rattle.direction_reader.specs.Bits.{FillingBits}
use Rattle.direction_reader.specs.declared.window.FromFilling.{FromFilling}
use Rattle.direction_reader.specs.declared.window.FromFilling.TheVariants.{Filling, Full}
use Rattle.direction_reader.specs.declared.window.TheConstants.{WINDOW_BITS}

-- a bit as a number
abbrev pub bit_value : Bool → ℕ
bit_value bit = if bit then 1 else 0

-- one bit more at the end, bit 79, and the oldest gone
abbrev pub slid_by : ℕ → Bool → ℕ
slid_by bits bit = bits / 2 + bit_value bit * 2 ^ 79

-- one bit more at the end, in a window that is full with the eightieth
abbrev pub with_bit : FillingBits → Bool → FromFilling
with_bit f bit =
    if nat_lt (f.count + 1) WINDOW_BITS then Filling (record { bits = slid_by f.bits bit; count = f.count + 1 })
    else Full (slid_by f.bits bit)
