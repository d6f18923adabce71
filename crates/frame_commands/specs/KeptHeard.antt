-- What is heard of some intervals comes first, whatever intervals follow. No promise speaks of it.
use Rattle.std.specs.Prelude.{◌≡◌, ℕ, ◌≤◌, List, ◌++◌, All, sum}
use Rattle.biphase.specs.declared.profile.Profile.{Profile}
use Rattle.direction_reader.specs.declared.event.Event.{Event}
use Rattle.direction_reader.specs.Events.{tick_of}
use Rattle.tc_address.specs.declared.system.System.{System}
use Rattle.tc_job.specs.declared.witness.Witness.{Witness}
use Rattle.frame_commands.specs.Heard.{AreHeard, AreHeardYet}

-- further events follow these, all of them of the tick `until` or later, up to the tick `now`
pub record GoOnBehind (events : List Event) (until : ℕ) (all : List Event) (now : ℕ) : Type 0 where
  pub rest : List Event
  pub are : all ≡ events ++ rest
  pub later : All (λ event. until ≤ tick_of event) rest
  pub before : until ≤ now

-- the events that are heard of some intervals are one list, which comes first in that of more
pub record HeardInOrder (witness : Witness) : Type 0 where
  -- there are such events
  pub some_yet : (system : System) (profile : Profile) (intervals : List ℕ)
      → (events : List Event) × (until : ℕ) × AreHeardYet witness system profile intervals events until
  pub some : (system : System) (profile : Profile) (intervals : List ℕ)
      → (events : List Event) × AreHeard witness system profile intervals events
  -- and no others
  pub one_yet : (system : System) (profile : Profile) (intervals : List ℕ) (events others : List Event)
      (until another : ℕ) → AreHeardYet witness system profile intervals events until
      → AreHeardYet witness system profile intervals others another → (events ≡ others) × (until ≡ another)
  pub one : (system : System) (profile : Profile) (intervals : List ℕ) (events others : List Event)
      → AreHeard witness system profile intervals events
      → AreHeard witness system profile intervals others → events ≡ others
  -- and they come first
  pub more : (system : System) (profile : Profile) (front more : List ℕ) (events later : List Event) (until now : ℕ)
      → AreHeardYet witness system profile front events until
      → AreHeardYet witness system profile (front ++ more) later now → GoOnBehind events until later now
  pub all : (system : System) (profile : Profile) (front more : List ℕ) (events all : List Event) (until : ℕ)
      → AreHeardYet witness system profile front events until
      → AreHeard witness system profile (front ++ more) all → GoOnBehind events until all (sum (front ++ more))
