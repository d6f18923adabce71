-- How a command ended that was worked along its input, or made its output: what it pulled and wrote.
use Rattle.std.specs.Prelude.{ℕ, List, Option}
use Rattle.std.specs.Io.KnownBytes.{Appends, Consumes}
use Rattle.tc_io.specs.Bytes.{AreBytes}
use Rattle.tc_command.specs.declared.stop.Stop.{Stop}
use Rattle.tc_command.specs.Meaning.{Meaning, IsEnd, IsInput}
use Rattle.tc_command.specs.Stops.{StopsAlong}

-- it came to the end of an input, and wrote all of its output: the input that was there before the run and that is
-- left, and what a sink had taken before and now
abbrev pub CameToItsEnd : Meaning → Option (List ℕ) → Option (List ℕ) → Option (List ℕ) → Option (List ℕ) → Type 0
CameToItsEnd m before left old new = (pulled written : List ℕ) × Consumes before left pulled × Appends old new written
    × AreBytes pulled × IsEnd m left × IsInput m pulled × m.output pulled written

-- it stopped before, for this cause
abbrev pub StoppedBefore : Meaning → Stop → Option (List ℕ) → Option (List ℕ) → Option (List ℕ) → Option (List ℕ)
    → Type 0
StoppedBefore m stop before left old new =
    (pulled written : List ℕ) × Consumes before left pulled × Appends old new written
    × StopsAlong m stop left pulled written
