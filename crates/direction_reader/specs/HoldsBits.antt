-- Which bits of a stretch a window holds, of all that it was given.
use Rattle.direction_reader.specs.Windows.{number_of}
use Rattle.std.specs.Prelude.{◌≡◌, ℕ, ◌-◌, ◌*◌, ◌^◌, ◌<◌, ◌≤◌, List, length, drop, Bool}
use Rattle.direction_reader.specs.Bits.{FillingBits}
use Rattle.direction_reader.specs.declared.window.FromFilling.{FromFilling}
use Rattle.direction_reader.specs.declared.window.FromFilling.TheVariants.{Filling, Full}

-- a window that is filling was given these bits, fewer than 80, and holds all of them, the latest in bit 79
pub record HoldsAll (window : FillingBits) (bits : List Bool) : Type 0 where
  pub fewer : length bits < 80
  pub count : window.count ≡ length bits
  pub value : window.bits ≡ number_of bits * 2 ^ (80 - length bits)

-- a full window was given these bits and holds the latest 80 of them, the latest in bit 79
pub record HoldsLatest (window : ℕ) (bits : List Bool) : Type 0 where
  pub enough : 80 ≤ length bits
  pub value : window ≡ number_of (drop (length bits - 80) bits)

-- a window that may have become full
abbrev pub Holds : FromFilling → List Bool → Type 0
Holds (Filling window) bits = HoldsAll window bits
Holds (Full window) bits = HoldsLatest window bits
