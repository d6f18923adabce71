-- Why a job stops before its end, and what was written then.
use Rattle.std.specs.Prelude.{◌≡◌, ◌⊎◌, ℕ, IsTrue, List, ◌++◌, Option, Some}
use Rattle.std.specs.Io.KnownBytes.{Appends}
use Rattle.tc_io.specs.Sink.{IsFront}
use Rattle.tc_io.specs.Verdict.{good, refused, past_limit}
use Rattle.tc_command.specs.declared.stop.Stop.{Stop}
use Rattle.tc_command.specs.declared.stop.Stop.TheVariants.{Refused, ReadFault, WriteFault, Limit}
use Rattle.tc_command.specs.Meaning.{Meaning, Shows, IsInput, IsEnd}

-- why a job stops along its input, of which this is left, and what was written then: at some of the bytes pulled, or at
-- their end, if what they show is good before it. If a push failed, it is a front of what was due for a front of
-- them, or of the output; at a limit of the command's own, the part of a front that passes it. A pull that failed stops
-- the job at neither a fault nor a limit
abbrev pub StopsAlong : Meaning → Stop → Option (List ℕ) → List ℕ → List ℕ → Type 0
StopsAlong m (Refused fault) left pulled written =
    (Shows m (refused fault) pulled × m.part pulled written)
    ⊎ (IsEnd m left × (Shows m good pulled × (m.end_fault pulled ≡ Some fault) × m.part pulled written))
StopsAlong m ReadFault left pulled written = IsTrue m.reads × Shows m good pulled × m.part pulled written
StopsAlong m WriteFault left pulled written =
    ((front part : List ℕ) × IsFront front pulled × m.part front part × IsFront written part)
    ⊎ (IsEnd m left × (IsInput m pulled × ((output : List ℕ) × m.output pulled output × IsFront written output)))
StopsAlong m Limit left pulled written =
    (Shows m past_limit pulled × m.part pulled written)
    ⊎ ((front : List ℕ) × IsFront front pulled × m.spent front × m.part front written)

-- ---- what the steps of a job say of it

-- a front of the bytes passes a limit of the command's own, and the part of this front was written
abbrev pub IsSpentStop : Meaning → List ℕ → List ℕ → Type 0
IsSpentStop m pulled written = (front : List ℕ) × IsFront front pulled × m.spent front × m.part front written

-- the job stops for this cause at some of the bytes pulled, and this was written for them: where a push failed, a
-- front of what was due for a front of them, and at a limit of the command's own the part of a front that passes it
abbrev pub IsStop : Meaning → Stop → List ℕ → List ℕ → Type 0
IsStop m (Refused fault) pulled written = Shows m (refused fault) pulled × m.part pulled written
IsStop m ReadFault pulled written = ⊥
IsStop m WriteFault pulled written =
    (front part : List ℕ) × IsFront front pulled × m.part front part × IsFront written part
IsStop m Limit pulled written = (Shows m past_limit pulled × m.part pulled written) ⊎ IsSpentStop m pulled written

-- the same, where some of it was written before
abbrev pub Stops : Meaning → Stop → Option (List ℕ) → Option (List ℕ) → List ℕ → List ℕ → Type 0
Stops m stop old new pulled written = (more : List ℕ) × Appends old new more × IsStop m stop pulled (written ++ more)

-- the job stops for this cause at the end of the bytes pulled, which are good before it
abbrev pub IsEndStop : Meaning → Stop → List ℕ → List ℕ → Type 0
IsEndStop m (Refused fault) pulled written =
    Shows m good pulled × (m.end_fault pulled ≡ Some fault) × m.part pulled written
IsEndStop m ReadFault pulled written = ⊥
IsEndStop m WriteFault pulled written =
    IsInput m pulled × ((output : List ℕ) × m.output pulled output × IsFront written output)
IsEndStop m Limit pulled written = ⊥

-- the same, where some of it was written before
abbrev pub StopsAtEnd : Meaning → Stop → Option (List ℕ) → Option (List ℕ) → List ℕ → List ℕ → Type 0
StopsAtEnd m stop old new pulled written =
    (more : List ℕ) × Appends old new more × IsEndStop m stop pulled (written ++ more)
