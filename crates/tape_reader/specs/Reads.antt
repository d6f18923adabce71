-- What a reader of any kind keeps.
use Rattle.std.specs.Prelude.{◌≡◌}
use Rattle.direction_reader.specs.Reading.{ReadingState}

-- its system and its tolerance stay
pub record Keeps (old new : ReadingState) : Type 0 where
  pub system : new.system ≡ old.system
  pub profile : new.profile ≡ old.profile
