-- A reader or a writer of the operating system, and how often a call on it failed.
use Rattle.std.specs.Prelude.{ℕ}

-- a reader, and how many pulls stood at its end or behind it
pub record AdaptedReader (T : Type 0) : Type 0 where
  pub inner : T
  pub faults : ℕ
  pub ends : ℕ

-- a writer
pub record AdaptedWriter (T : Type 0) : Type 0 where
  pub inner : T
  pub faults : ℕ
