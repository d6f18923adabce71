-- The bits of a stretch that is shorter than a window.
use Rattle.std.specs.Prelude.{ℕ}

-- the register of 80 bits, the latest bit in bit 79, and how many bits it was given
pub record FillingBits : Type 0 where
  pub bits : ℕ
  pub count : ℕ
