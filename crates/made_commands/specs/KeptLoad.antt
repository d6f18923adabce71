-- What the load run keeps. No promise speaks of it.
use Rattle.std.specs.Prelude.{◌≡◌, ℕ, ◌+◌, ◌*◌, ◌≤◌, List, ◌++◌, fold, codes, decimal}
use Rattle.std.specs.Prelude.{Some, None}
use Rattle.std.specs.declared.option.Option.{Option}
use Rattle.biphase.specs.declared.profile.Profile.TheVariants.{Normal}
use Rattle.direction_reader.specs.declared.event.Event.{Event}
use Rattle.direction_reader.specs.declared.event.Event.TheVariants.{Word, Refused, Lost}
use Rattle.direction_reader.specs.StandsFor.{StandsFor}
use Rattle.direction_reader.specs.Tracker.{profile_of}
use Rattle.tc_address.specs.Label.{Address}
use Rattle.tc_address.specs.declared.system.System.TheVariants.{F25}
use Rattle.tc_job.specs.LoadRun.{Loading}
use Rattle.made_commands.specs.declared.ltc_load.Counts.{Counts}
use Rattle.made_commands.specs.declared.ltc_load.Tally.{Tally}
use Rattle.made_commands.specs.Load.{label_text}

-- nothing was read
abbrev pub no_counts : Counts
no_counts = record { words = 0; refused = 0; lost = 0; first = None; last = None }

-- the first label stays
abbrev pub first_or : Option Address → Address → Option Address
first_or None label = Some label
first_or (Some first) label = Some first

-- one event more
abbrev pub with_event : Counts → Event → Counts
with_event c (Word direction word tick length) =
    record c { words = c.words + 1; first = first_or c.first word.fields.label; last = Some word.fields.label }
with_event c (Refused direction fault tick) = record c { refused = c.refused + 1 }
with_event c (Lost interval tick) = record c { lost = c.lost + 1 }

-- how many events were counted
abbrev pub total : Counts → ℕ
total c = c.words + c.refused + c.lost

-- an interval brings two events at most
abbrev pub FitsTally : Tally → Type 0
FitsTally t = total t.counts ≤ 2 * t.reader.intervals

-- these intervals were read, and their events counted
pub record HasRead (t : Tally) (intervals : List ℕ) : Type 0 where
  pub system : t.reader.system ≡ F25
  pub profile : profile_of t.reader.tracker ≡ Normal
  pub events : List Event
  pub stands : StandsFor t.reader intervals events
  pub counts : t.counts ≡ fold with_event no_counts events

-- the line with these counts
abbrev pub line_with : Loading → Counts → List ℕ
line_with l c =
    codes "load seed " ++ decimal l.seed ++ codes " words " ++ decimal l.words ++ codes " read " ++ decimal c.words
    ++ codes " refused " ++ decimal c.refused ++ codes " lost " ++ decimal c.lost
    ++ codes " first " ++ label_text c.first ++ codes " last " ++ label_text c.last ++ codes "\n"
