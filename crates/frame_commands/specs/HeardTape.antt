-- What the events that are heard of a recording say of its tape.
use Rattle.std.specs.Prelude.{◌≡◌, ℕ, List, None}
use Rattle.std.specs.List.{AllZip}
use Rattle.biphase.specs.declared.profile.Profile.{Profile}
use Rattle.direction_reader.specs.declared.event.Event.{Event}
use Rattle.direction_reader.specs.declared.firm_event.FirmEvent.{FirmEvent}
use Rattle.direction_reader.specs.ConsecutiveTape.{AreBacked}
use Rattle.direction_reader.specs.CountedTape.{EachIsCounted}
use Rattle.direction_reader.specs.FirmTape.{AreWitnessed, IsJudged}
use Rattle.direction_reader.specs.ListEvents.{AreEvents}
use Rattle.direction_reader.specs.Tape.{FindsTheTape, FindsTheTapeBehindOnes, TellsTheTape}
use Rattle.tc_address.specs.declared.system.System.{System}
use Rattle.tc_job.specs.declared.witness.Witness.{Witness}
use Rattle.tc_job.specs.declared.witness.Witness.TheVariants.{NotAsked, Asked, Consecutive, Counted}
use Rattle.frame_commands.specs.Heard.{told_events}

-- which of the events of a reading that asks for no witness are heard: all of them; or all but the words that are
-- alone, and each word that is heard has its witness, or stands at the edge of its stretch, or, where words may be
-- consecutive, is joined by the word that follows it on the tape, or, where words are counted, another one counts on
-- with it
abbrev pub AreHeardOf : Witness → System → Profile → List ℕ → List Event → List Event → Type 0
AreHeardOf NotAsked system profile intervals plain events = events ≡ plain
AreHeardOf Asked system profile intervals plain events = (told : List FirmEvent) × AllZip IsJudged plain told
    × AreWitnessed system profile intervals told × (events ≡ told_events told)
AreHeardOf Consecutive system profile intervals plain events = (told : List FirmEvent) × AllZip IsJudged plain told
    × AreBacked system profile intervals told × (events ≡ told_events told)
AreHeardOf Counted system profile intervals plain events = (told : List FirmEvent) × AllZip IsJudged plain told
    × EachIsCounted None told × (events ≡ told_events told)

-- what is heard are events that tell the tape, or those among them that have what is asked of them: where the intervals keep the
-- tolerance, the events are the whole words of the tape, good or refused, from the first unequal pair on, and no break;
-- and where a part of the intervals keeps it, between damage, they are so from its second unequal pair to its end, or,
-- if it is rough, from behind even ones
pub record HearsTheTape (witness : Witness) (system : System) (profile : Profile) (intervals : List ℕ)
    (events : List Event) : Type 0 where
  pub plain : List Event
  pub are_plain : AreEvents system profile intervals plain
  pub heard : AreHeardOf witness system profile intervals plain events
  pub truth : TellsTheTape system profile intervals plain
  pub damage : FindsTheTape system profile intervals plain
  pub rough_damage : FindsTheTapeBehindOnes system profile intervals plain
