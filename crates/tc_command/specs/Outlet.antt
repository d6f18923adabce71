-- What an outlet makes of the bytes that it is given: they are pushed or gathered, in order, until a push fails.
use Rattle.std.specs.Prelude.{◌≡◌, ℕ, Bool, true, false, List, ◌++◌, Option}
use Rattle.std.specs.Io.KnownBytes.{Appends}
use Rattle.tc_io.specs.Sink.{AppendsFront}
use Rattle.tc_io.specs.Source.{Rose}

-- what was gathered and these bytes were pushed, or are gathered still
abbrev pub IsPassedOn : Option (List ℕ) → Option (List ℕ) → List ℕ → List ℕ → List ℕ → Type 0
IsPassedOn old new gathered left bytes =
    (pushed : List ℕ) × Appends old new pushed × (gathered ++ bytes ≡ pushed ++ left)

-- what an outlet made of these bytes: what the sink had taken before and has taken now, its faults before and now, what
-- was gathered and what is, and whether a push had failed and has. Until a push fails the bytes are passed on; when one
-- fails, a front of them was taken; and behind that the sink stays as it is
abbrev pub IsGiven : Option (List ℕ) → Option (List ℕ) → ℕ → ℕ → List ℕ → List ℕ → Bool → Bool → List ℕ → Type 0
IsGiven old new faults now gathered left false false bytes = (now ≡ faults) × IsPassedOn old new gathered left bytes
IsGiven old new faults now gathered left false true bytes = Rose faults now × AppendsFront old new (gathered ++ bytes)
IsGiven old new faults now gathered left true true bytes = (now ≡ faults) × (new ≡ old)
IsGiven old new faults now gathered left true false bytes = ⊥
