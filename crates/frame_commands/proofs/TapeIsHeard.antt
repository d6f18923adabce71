-- What is heard of a recording tells its tape.
use Rattle.std.proofs.Common.{ℕ, List, None, refl}
use Rattle.std.specs.List.{AllZip}
use Rattle.biphase.specs.declared.profile.Profile.{Profile}
use Rattle.direction_reader.specs.declared.event.Event.{Event}
use Rattle.direction_reader.specs.declared.firm_event.FirmEvent.{FirmEvent}
use Rattle.direction_reader.specs.Consecutive.{AreConsecutiveEvents}
use Rattle.direction_reader.specs.ConsecutiveTape.{AreBacked}
use Rattle.direction_reader.specs.Counted.{AreCountedEvents}
use Rattle.direction_reader.specs.CountedTape.{EachIsCounted}
use Rattle.direction_reader.specs.Firm.{AreFirmEvents}
use Rattle.direction_reader.specs.FirmTape.{AreWitnessed, IsJudged}
use Rattle.direction_reader.specs.ListEvents.{AreEvents}
use Rattle.direction_reader.specs.Tape.{FindsTheTape, FindsTheTapeBehindOnes, TellsTheTape}
use Rattle.tc_address.specs.declared.system.System.{System}
use Rattle.tc_job.specs.declared.witness.Witness.{Witness}
use Rattle.tc_job.specs.declared.witness.Witness.TheVariants.{NotAsked, Asked, Consecutive, Counted}
use Rattle.frame_commands.specs.Heard.{AreHeard}
use Rattle.frame_commands.specs.HeardTape.{HearsTheTape}

-- what is heard tells the tape, whatever is read
abbrev pub HearTheTape : Type 0
HearTheTape = (witness : Witness) (system : System) (profile : Profile) (intervals : List ℕ) (events : List Event)
    → AreHeard witness system profile intervals events → HearsTheTape witness system profile intervals events

-- what the laws of the reader say
pub record TapeLaws : Type 0 where
  pub some : (system : System) (profile : Profile) (intervals : List ℕ)
      → (events : List Event) × AreEvents system profile intervals events
  pub truth : (system : System) (profile : Profile) (intervals : List ℕ) (events : List Event)
      → AreEvents system profile intervals events → TellsTheTape system profile intervals events
  pub damage : (system : System) (profile : Profile) (intervals : List ℕ) (events : List Event)
      → AreEvents system profile intervals events → FindsTheTape system profile intervals events
  pub rough_damage : (system : System) (profile : Profile) (intervals : List ℕ) (events : List Event)
      → AreEvents system profile intervals events → FindsTheTapeBehindOnes system profile intervals events
  pub judged : (system : System) (profile : Profile) (intervals : List ℕ) (events : List Event)
      (told : List FirmEvent) → AreEvents system profile intervals events
      → AreFirmEvents system profile intervals told → AllZip IsJudged events told
  pub witnessed : (system : System) (profile : Profile) (intervals : List ℕ) (told : List FirmEvent)
      → AreFirmEvents system profile intervals told → AreWitnessed system profile intervals told
  pub judged_too : (system : System) (profile : Profile) (intervals : List ℕ) (events : List Event)
      (told : List FirmEvent) → AreEvents system profile intervals events
      → AreConsecutiveEvents system profile intervals told → AllZip IsJudged events told
  pub backed : (system : System) (profile : Profile) (intervals : List ℕ) (told : List FirmEvent)
      → AreConsecutiveEvents system profile intervals told → AreBacked system profile intervals told
  pub judged_counted : (system : System) (profile : Profile) (intervals : List ℕ) (events : List Event)
      (told : List FirmEvent) → AreEvents system profile intervals events
      → AreCountedEvents system profile intervals told → AllZip IsJudged events told
  pub each_counts : (system : System) (profile : Profile) (intervals : List ℕ) (told : List FirmEvent)
      → AreCountedEvents system profile intervals told → EachIsCounted None told

pub tape_is_heard : TapeLaws → HearTheTape
tape_is_heard laws NotAsked system profile intervals events are = record {
  plain = events;
  are_plain = are;
  heard = refl;
  truth = laws.truth system profile intervals events are;
  damage = laws.damage system profile intervals events are;
  rough_damage = laws.rough_damage system profile intervals events are;
}
tape_is_heard laws Asked system profile intervals events are =
    let plain = laws.some system profile intervals in
    record {
      plain = plain.0;
      are_plain = plain.1;
      heard = (
        are.0,
        laws.judged system profile intervals plain.0 are.0 plain.1 are.1,
        laws.witnessed system profile intervals are.0 are.1,
        are.2,
      );
      truth = laws.truth system profile intervals plain.0 plain.1;
      damage = laws.damage system profile intervals plain.0 plain.1;
      rough_damage = laws.rough_damage system profile intervals plain.0 plain.1;
    }
tape_is_heard laws Consecutive system profile intervals events are =
    let plain = laws.some system profile intervals in
    record {
      plain = plain.0;
      are_plain = plain.1;
      heard = (
        are.0,
        laws.judged_too system profile intervals plain.0 are.0 plain.1 are.1,
        laws.backed system profile intervals are.0 are.1,
        are.2,
      );
      truth = laws.truth system profile intervals plain.0 plain.1;
      damage = laws.damage system profile intervals plain.0 plain.1;
      rough_damage = laws.rough_damage system profile intervals plain.0 plain.1;
    }
tape_is_heard laws Counted system profile intervals events are =
    let plain = laws.some system profile intervals in
    record {
      plain = plain.0;
      are_plain = plain.1;
      heard = (
        are.0,
        laws.judged_counted system profile intervals plain.0 are.0 plain.1 are.1,
        laws.each_counts system profile intervals are.0 are.1,
        are.2,
      );
      truth = laws.truth system profile intervals plain.0 plain.1;
      damage = laws.damage system profile intervals plain.0 plain.1;
      rough_damage = laws.rough_damage system profile intervals plain.0 plain.1;
    }
