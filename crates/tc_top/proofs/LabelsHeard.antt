-- The words that are heard in a recording have labels.
use Rattle.std.proofs.Common.{ℕ, List, [], ◌∷◌}
use Rattle.biphase.specs.declared.profile.Profile.{Profile}
use Rattle.direction_reader.specs.declared.event.Event.{Event}
use Rattle.direction_reader.specs.declared.event.Event.TheVariants.{Word, Refused, Lost}
use Rattle.ltc_jam.specs.Labels.{AreEventsOf}
use Rattle.quarter_frame.specs.ReadAgain.{AreLabelled}
use Rattle.tc_address.specs.declared.system.System.{System}
use Rattle.tc_job.specs.declared.witness.Witness.{Witness}
use Rattle.frame_commands.specs.Heard.{AreHeard}
use Rattle.frame_commands.specs.OfFrames.{words_heard}

-- the words that are heard of a recording have labels of its system
abbrev pub HaveLabels : Type 0
HaveLabels = (witness : Witness) (system : System) (profile : Profile) (intervals : List ℕ) (events : List Event)
    → AreHeard witness system profile intervals events → AreEventsOf system events

heard : (system : System) (events : List Event) → AreEventsOf system events → AreLabelled (words_heard events)
heard system [] are = tt
heard system (Word direction word tick length ∷ more) are = (are.0.0, heard system more are.1)
heard system (Refused direction fault tick ∷ more) are = heard system more are.1
heard system (Lost interval tick ∷ more) are = heard system more are.1

-- so those that are heard have labels
pub labels_heard : HaveLabels → (witness : Witness) (system : System) (profile : Profile) (intervals : List ℕ)
    (events : List Event) → AreHeard witness system profile intervals events → AreLabelled (words_heard events)
labels_heard have witness system profile intervals events are =
    heard system events (have witness system profile intervals events are)
