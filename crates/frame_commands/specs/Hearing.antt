-- What hears the words of a recording, in numbers. No promise speaks of it.
use Rattle.std.specs.Prelude.{◌≡◌, ℕ, ◌+◌, ◌*◌, ◌≤◌, List, [], ◌∷◌, map}
use Rattle.limits.specs.declared.recording.TheConstants.{MAX_INTERVAL}
use Rattle.biphase.specs.declared.profile.Profile.{Profile}
use Rattle.direction_reader.specs.declared.event.Event.{Event}
use Rattle.flywheel.specs.declared.heard.HeardWord.{HeardWord}
use Rattle.tc_address.specs.declared.system.System.{System}

-- a reader: its system and tolerance, how many intervals it was given and their sum, up to which tick all is told, and
-- which intervals it was given, with the events that it has told
pub record Hearer : Type 1 where
  pub system : System
  pub profile : Profile
  pub count : ℕ
  pub tick : ℕ
  pub until : ℕ
  pub stands : List ℕ → List Event → Type 0

-- before the first interval
pub record BeginsHearing (h : Hearer) (system : System) (profile : Profile) : Type 0 where
  pub system_is : h.system ≡ system
  pub profile_is : h.profile ≡ profile
  pub count : h.count ≡ 0
  pub tick : h.tick ≡ 0
  pub until : h.until ≡ 0
  pub stands : h.stands [] []

-- one interval more
pub record HearsOn (before : Hearer) (x : ℕ) (now : Hearer) : Type 0 where
  pub system_is : now.system ≡ before.system
  pub profile_is : now.profile ≡ before.profile
  pub count : now.count ≡ before.count + 1
  pub tick : now.tick ≡ before.tick + x
  pub most : now.tick ≤ now.count * MAX_INTERVAL

-- the ticks of words
abbrev pub word_ticks : List HeardWord → List ℕ
word_ticks words = map (λ (word : HeardWord). word.tick) words

-- the tick at which the next of some words is heard, and else the last tick
abbrev pub due_at : List HeardWord → ℕ → ℕ
due_at [] last = last
due_at (word ∷ more) last = word.tick
