-- Bytes that an engine leaves, since they are too few to work on.
use Rattle.std.specs.Prelude.{ℕ, ◌<◌, List, ◌++◌, length}
use Rattle.tc_io.specs.Verdict.{good}
use Rattle.tc_command.specs.declared.inlet.TheConstants.{KEPT}
use Rattle.tc_command.specs.Meaning.{Meaning, Shows}

-- with the bytes before them they show nothing but good, and what was written is their part too
pub record AreTooFew (m : Meaning) (stands : List ℕ → List ℕ → Type 0) (bytes : List ℕ) : Type 0 where
  pub few : length bytes < KEPT
  pub good : (front written : List ℕ) → stands front written
      → Shows m good (front ++ bytes) × m.part (front ++ bytes) written
