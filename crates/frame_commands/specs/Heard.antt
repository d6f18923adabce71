-- Which events are heard of a list of intervals: those of a reading that gives each word, or of one that needs for each
-- word a witness, or also takes consecutive words, or needs one that counts on, without the words that are alone.
use Rattle.std.specs.Prelude.{◌≡◌, ℕ, List, [], ◌∷◌, sum}
use Rattle.biphase.specs.declared.profile.Profile.{Profile}
use Rattle.direction_reader.specs.declared.event.Event.{Event}
use Rattle.direction_reader.specs.declared.firm_event.FirmEvent.{FirmEvent}
use Rattle.direction_reader.specs.declared.firm_event.FirmEvent.TheVariants.{Told, Alone}
use Rattle.direction_reader.specs.Consecutive.{AreConsecutiveEvents}
use Rattle.direction_reader.specs.ConsecutiveTold.{AreConsecutiveTold}
use Rattle.direction_reader.specs.Counted.{AreCountedEvents}
use Rattle.direction_reader.specs.CountedTold.{AreCountedTold}
use Rattle.direction_reader.specs.Firm.{AreFirmEvents}
use Rattle.direction_reader.specs.FirmTold.{AreTold}
use Rattle.direction_reader.specs.ListEvents.{AreEvents}
use Rattle.tc_address.specs.declared.system.System.{System}
use Rattle.tc_job.specs.declared.witness.Witness.{Witness}
use Rattle.tc_job.specs.declared.witness.Witness.TheVariants.{NotAsked, Asked, Consecutive, Counted}

-- what is told, without the words that are alone
abbrev pub told_events : List FirmEvent → List Event
told_events [] = []
told_events (Told event ∷ more) = event ∷ told_events more
told_events (Alone direction word tick length ∷ more) = told_events more

-- the events of a list of intervals, where no word is asked for a witness, each is, the word that follows it on the
-- tape may stand in for one, or each is asked for one that counts on with it
abbrev pub AreHeard : Witness → System → Profile → List ℕ → List Event → Type 0
AreHeard NotAsked system profile intervals events = AreEvents system profile intervals events
AreHeard Asked system profile intervals events = (told : List FirmEvent)
    × AreFirmEvents system profile intervals told × (events ≡ told_events told)
AreHeard Consecutive system profile intervals events = (told : List FirmEvent)
    × AreConsecutiveEvents system profile intervals told × (events ≡ told_events told)
AreHeard Counted system profile intervals events = (told : List FirmEvent)
    × AreCountedEvents system profile intervals told × (events ≡ told_events told)

-- those that are told up to a tick, while more intervals may follow: all of them, up to the sum of the intervals, and
-- where a word waits for its witness or is held for the next one, those before it, up to its tick
abbrev pub AreHeardYet : Witness → System → Profile → List ℕ → List Event → ℕ → Type 0
AreHeardYet NotAsked system profile intervals events until =
    AreEvents system profile intervals events × (until ≡ sum intervals)
AreHeardYet Asked system profile intervals events until = (told : List FirmEvent)
    × AreTold system profile intervals told until × (events ≡ told_events told)
AreHeardYet Consecutive system profile intervals events until = (told : List FirmEvent)
    × AreConsecutiveTold system profile intervals told until × (events ≡ told_events told)
AreHeardYet Counted system profile intervals events until = (told : List FirmEvent)
    × AreCountedTold system profile intervals told until × (events ≡ told_events told)
