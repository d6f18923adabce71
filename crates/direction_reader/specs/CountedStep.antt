-- What an interval does where a word counts only with one that counts on, in numbers, and which lists such a reader
-- stands for.
use Rattle.std.specs.Prelude.{◌≡◌, ℕ, ◌*◌, ◌≤◌, false, List, [], ◌∷◌, ◌++◌, Option, Some, None}
use Rattle.flywheel.specs.declared.heard.HeardWord.{HeardWord}
use Rattle.direction_reader.specs.declared.counting.Counting.{Counting}
use Rattle.direction_reader.specs.declared.event.Event.{Event}
use Rattle.direction_reader.specs.declared.event.Event.TheVariants.{Word, Refused, Lost}
use Rattle.direction_reader.specs.declared.firm_event.FirmEvent.{FirmEvent}
use Rattle.direction_reader.specs.Brings.{greatest_cell}
use Rattle.direction_reader.specs.Counted.{counts_on, heard_of, later_word}
use Rattle.direction_reader.specs.CountedTold.{held_behind, told_behind, told_without, undecided, until_held}
use Rattle.direction_reader.specs.Firm.{judged}
use Rattle.direction_reader.specs.Reader.{ReaderState}
use Rattle.direction_reader.specs.StandsFor.{StandsFor}

-- a reader that asks for nothing, and what it has heard: the latest word, and the event that is held
pub record CountedState : Type 0 where
  pub reader : ReaderState
  pub counting : Counting

-- what becomes of an event that is held, when another one comes behind it
abbrev pub released : Option Event → Event → List FirmEvent
released None event = []
released (Some held) event = judged (counts_on (heard_of held) (heard_of event)) held ∷ []

-- what is told when an event comes: what was held, and the event itself, unless it is held now
abbrev pub told_with : Counting → Event → List FirmEvent
told_with c event = released c.held event ++ told_without (undecided c.word event) event

-- what is heard then
abbrev pub heard_with : Counting → Event → Counting
heard_with c event = record { word = later_word c.word (heard_of event); held = undecided c.word event }

-- when some come, one after another
abbrev pub told_with_all : Counting → List Event → List FirmEvent
told_with_all c [] = []
told_with_all c (event ∷ more) = told_with c event ++ told_with_all (heard_with c event) more

abbrev pub heard_with_all : Counting → List Event → Counting
heard_with_all c [] = c
heard_with_all c (event ∷ more) = heard_with_all (heard_with c event) more

-- a word that is held ended by a tick, with the length of 80 cells
abbrev pub IsHeldBy : ℕ → Event → Type 0
IsHeldBy now (Word direction word tick length) = (tick ≤ now) × (80 ≤ length) × (length ≤ 80 * greatest_cell)
IsHeldBy now (Refused direction fault tick) = ⊥
IsHeldBy now (Lost interval tick) = ⊥

-- up to which tick all is told
abbrev pub counted_until : CountedState → ℕ
counted_until r = until_held r.reader.tick r.counting.held

-- what an event that is held is, if none comes behind it: alone
abbrev pub held_alone : Option Event → List FirmEvent
held_alone None = []
held_alone (Some event) = judged false event ∷ []

-- the latest word of events behind one that may be there
abbrev pub latest_behind : Option HeardWord → List Event → Option HeardWord
latest_behind before [] = before
latest_behind before (event ∷ more) = latest_behind (later_word before (heard_of event)) more

-- the reader was fed these intervals, and has told these events of them
pub record CountedStandsFor (r : CountedState) (intervals : List ℕ) (told : List FirmEvent) : Type 0 where
  pub events : List Event
  pub reader : StandsFor r.reader intervals events
  pub word : r.counting.word ≡ latest_behind None events
  pub held : r.counting.held ≡ held_behind None events
  pub all : told ≡ told_behind None events
