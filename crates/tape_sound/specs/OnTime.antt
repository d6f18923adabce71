-- Words as given: the same words, each with a tick and a length that are wrong by a delay at most, or by anything.
use Rattle.std.specs.Prelude.{◌≡◌, ℕ, ◌+◌, ◌≤◌, List, [], ◌∷◌, map}
use Rattle.direction_reader.specs.declared.event.Event.{Event}
use Rattle.direction_reader.specs.declared.event.Event.TheVariants.{Word, Refused, Lost}
use Rattle.direction_reader.specs.Played.{Played}

-- an event without its place
abbrev pub untimed : Event → Event
untimed (Word direction word tick length) = Word direction word 0 0
untimed (Refused direction fault tick) = Refused direction fault 0
untimed (Lost interval tick) = Lost 0 0

-- the words that are played, as events without their place
abbrev pub told : List Played → List Event
told words = map (λ (p : Played). Word p.direction p.word 0 0) words

-- two numbers differ by at most this many ticks
abbrev pub AreNear : ℕ → ℕ → ℕ → Type 0
AreNear delay a b = (a ≤ b + delay) × (b ≤ a + delay)

-- two events are the same word, and their ticks and lengths differ by the delay at most
abbrev pub IsOnTime : ℕ → Event → Event → Type 0
IsOnTime delay (Word direction word tick length) (Word way other at long) =
    (direction ≡ way) × (word ≡ other) × AreNear delay tick at × AreNear delay length long
IsOnTime delay event other = ⊥

-- so it is with each of them, in order
abbrev pub AreOnTime : ℕ → List Event → List Event → Type 0
AreOnTime delay [] [] = Unit {0}
AreOnTime delay (event ∷ events) (other ∷ others) = IsOnTime delay event other × AreOnTime delay events others
AreOnTime delay events others = ⊥
