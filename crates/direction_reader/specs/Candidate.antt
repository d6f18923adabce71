-- The candidates of a window, and the event of each.
use Rattle.std.specs.Prelude.{◌≡◌, ℕ, ◌⊎◌, List, [], ◌∷◌, Some, None, IsSomeAnd, IfSome, if◌then◌else◌}
use Rattle.tc_address.specs.declared.system.System.{System}
use Rattle.tc_address.specs.declared.direction.Direction.{Direction}
use Rattle.tc_address.specs.declared.direction.Direction.TheVariants.{Forward, Backward}
use Rattle.ltc_word.specs.declared.word.WordFault.TheVariants.{Field}
use Rattle.ltc_word.specs.Fault.{first_fault}
use Rattle.ltc_word.specs.Reading.{fault_in, word_in}
use Rattle.ltc_word.specs.Reversal.{EndsInSync, ends_in_sync, reversed_bits}
use Rattle.ltc_word.specs.Spelling.{Spells}
use Rattle.direction_reader.specs.declared.event.Event.{Event}
use Rattle.direction_reader.specs.declared.event.Event.TheVariants.{Word, Refused, Lost}
use Rattle.direction_reader.specs.declared.event.Events.{Events}

-- the event of a candidate: the word that stands in its bits, or the first fault of its fields
abbrev pub event_of : System → Direction → ℕ → ℕ → ℕ → Event
event_of system direction bits end length = elim (fault_in system bits) [
  | None ↦ Word direction (word_in system bits) end length
  | Some fault ↦ Refused direction fault end
]

-- bits that end in the sync word are a candidate, and other bits are none
abbrev pub candidate_in : System → Direction → ℕ → ℕ → ℕ → List Event
candidate_in system direction bits end length =
    if ends_in_sync bits then event_of system direction bits end length ∷ [] else []

-- a window of 80 bits is a candidate, read forward, backward or both ways
abbrev pub IsCandidate : ℕ → Type 0
IsCandidate bits = EndsInSync bits ⊎ EndsInSync (reversed_bits bits)

-- the event of a candidate: the word that its bits spell, or the first fault of its fields
abbrev pub IsEventOf : System → Direction → ℕ → ℕ → ℕ → Event → Type 0
IsEventOf system direction bits end length (Word d word tick n) =
    (d ≡ direction) × Spells system word bits × (tick ≡ end) × (n ≡ length)
IsEventOf system direction bits end length (Refused d fault tick) =
    (d ≡ direction) × (first_fault system bits ≡ Some (Field fault)) × (tick ≡ end)
IsEventOf system direction bits end length (Lost interval tick) = ⊥

-- the events of a window of 80 bits: it is a forward candidate where it ends in the sync word, and a backward one
-- where its bits in the other order of time do; the forward candidate comes first
pub record AreEventsOf (system : System) (bits end length : ℕ) (events : Events) : Type 0 where
  pub forward : EndsInSync bits → IsSomeAnd events.first (IsEventOf system Forward bits end length)
  pub backward : EndsInSync (reversed_bits bits) → ¬ EndsInSync bits
      → IsSomeAnd events.first (IsEventOf system Backward (reversed_bits bits) end length) × (events.second ≡ None)
  pub both : EndsInSync bits → EndsInSync (reversed_bits bits)
      → IsSomeAnd events.second (IsEventOf system Backward (reversed_bits bits) end length)
  pub one : EndsInSync bits → ¬ EndsInSync (reversed_bits bits) → events.second ≡ None
  pub none : ¬ EndsInSync bits → ¬ EndsInSync (reversed_bits bits) → (events.first ≡ None) × (events.second ≡ None)

-- a word or a refused word of this tick and length
abbrev pub Bears : ℕ → ℕ → Event → Type 0
Bears end length (Word direction word tick n) = (tick ≡ end) × (n ≡ length)
Bears end length (Refused direction fault tick) = tick ≡ end
Bears end length (Lost interval tick) = ⊥

-- each of the events bears this tick and length
pub record BearsOnly (end length : ℕ) (events : Events) : Type 0 where
  pub first : IfSome events.first (Bears end length)
  pub second : IfSome events.second (Bears end length)
