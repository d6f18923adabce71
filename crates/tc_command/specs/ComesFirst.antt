-- What a command writes of some bytes comes first in what it writes of more.
use Rattle.std.specs.Prelude.{◌≡◌, ℕ, List, ◌++◌}
use Rattle.tc_io.specs.Sink.{IsFront}
use Rattle.tc_command.specs.Meaning.{Meaning}

-- what is written of some bytes comes first in what is written of more, and a limit stays passed
pub record ComesFirst (m : Meaning) : Type 0 where
  -- what is written of some bytes comes first in what is written of more bytes
  pub part : (front more a b : List ℕ) → m.part front a → m.part (front ++ more) b → IsFront a b
  -- and in the output of each input that begins with them
  pub output : (front more a b : List ℕ) → m.part front a → m.output (front ++ more) b → IsFront a b
  -- a limit of the command's own that is passed stays so
  pub stays : (front more : List ℕ) → m.spent front → m.spent (front ++ more)
  -- and nothing more is written then
  pub limit : (front more a b : List ℕ) → m.spent front → m.part front a → m.part (front ++ more) b → a ≡ b
