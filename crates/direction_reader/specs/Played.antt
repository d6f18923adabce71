-- Words that are played one after another, and their events.
use Rattle.std.specs.Prelude.{ℕ, zero, suc, ◌+◌, ◌/◌, ◌%◌, ◌==◌, Bool, List, [], ◌∷◌, take, drop}
use Rattle.std.specs.List.{flat_map}
use Rattle.biphase.specs.declared.cell.Cell.{Cell}
use Rattle.ltc_word.specs.declared.word.LtcWord.{LtcWord}
use Rattle.ltc_word.specs.Reversal.{reversed_bits}
use Rattle.ltc_word.specs.Spelled.{spelling_of}
use Rattle.ltc_word.specs.Spelling.{Spells}
use Rattle.tc_address.specs.declared.direction.Direction.{Direction}
use Rattle.tc_address.specs.declared.direction.Direction.TheVariants.{Forward, Backward}
use Rattle.tc_address.specs.declared.system.System.{System}
use Rattle.direction_reader.specs.declared.event.Event.{Event}
use Rattle.direction_reader.specs.declared.event.Event.TheVariants.{Word}
use Rattle.direction_reader.specs.ListEvents.{duration}

-- this many bits of a number, bit 0 first
unfoldable pub low_bits : ℕ → ℕ → List Bool
low_bits zero number = []
low_bits (suc count) number = (number % 2 == 1) ∷ low_bits count (number / 2)

-- a word, and the way in which it is played
pub record Played : Type 0 where
  pub direction : Direction
  pub word : LtcWord

-- 80 bits as a number, in the order of time in which they are played
abbrev pub in_time : Direction → ℕ → ℕ
in_time Forward bits = bits
in_time Backward bits = reversed_bits bits

-- the bits of a word as it is played
abbrev pub played_bits : Played → List Bool
played_bits p = low_bits 80 (in_time p.direction (spelling_of p.word))

-- the bits of words, one word after another
abbrev pub bits_of_words : List Played → List Bool
bits_of_words words = flat_map played_bits words

-- the events of words that are played with these cells from a tick on: each has the tick at its end, and the length of
-- its 80 cells
unfoldable pub events_of_words : ℕ → List Cell → List Played → List Event
events_of_words tick cells [] = []
events_of_words tick cells (p ∷ more) =
    let length = duration (take 80 cells) in
    Word p.direction p.word (tick + length) length ∷ events_of_words (tick + length) (drop 80 cells) more

-- each word is one of the system, spelled
abbrev pub AreSpelled : System → List Played → Type 0
AreSpelled system [] = Unit {0}
AreSpelled system (p ∷ more) = Spells system p.word (spelling_of p.word) × AreSpelled system more
