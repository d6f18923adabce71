-- The word that is written for a label, as `ltc-make` and `ltc-jam` write it. What it leaves out is this project's own
-- choice.
use Rattle.std.specs.Prelude.{ℕ, Bool, true, false}
use Rattle.tc_address.specs.declared.count.Count.{Count}
use Rattle.tc_address.specs.declared.count.Count.TheVariants.{C24, C25, C30, Drop30}
use Rattle.tc_address.specs.declared.direction.Direction.{Direction}
use Rattle.tc_address.specs.Label.{Address}
use Rattle.tc_bits.specs.Fields.{field_values}
use Rattle.ltc_word.specs.declared.word.LtcWord.{LtcWord}
use Rattle.ltc_word.specs.Spelled.{spelling_of}
use Rattle.tc_bits.specs.Fields.{flags}
use Rattle.direction_reader.specs.Played.{Played, in_time}

-- the count drops labels
abbrev pub drops : Count → Bool
drops C24 = false
drops C25 = false
drops C30 = false
drops Drop30 = true

-- the word of a label: no flag is set but that of drop-frame, the user bits are 0, and it is balanced
abbrev pub word_of : Address → LtcWord
word_of label =
    record { fields = field_values label (flags (drops label.count) false false false false) 0; balanced = true }

-- this word, played in a direction
abbrev pub played_as : Direction → Address → Played
played_as direction label = record { direction = direction; word = word_of label }

-- its 80 bits as a number, in the order of time in which they are played
abbrev pub time_bits : Direction → Address → ℕ
time_bits direction label = in_time direction (spelling_of (word_of label))
