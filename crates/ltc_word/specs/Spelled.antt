-- The bits of a word as one number: each number of the table by the weight of its place (SMPTE 12M, the table of
-- the linear time code word).
use Rattle.std.specs.Prelude.{ℕ, ◌%◌, ◌==◌, List, ◌∷◌, if◌then◌else◌}
use mathlib.Core.Bool.{beq}
use Rattle.tc_address.specs.declared.system.System.{System}
use Rattle.tc_address.specs.Count.{system_with}
use Rattle.tc_bits.specs.Fields.{FieldValues}
use Rattle.tc_bits.specs.Row.{Entry, entry, sum_of}
use Rattle.tc_bits.specs.Table.{place, row_of}
use Rattle.ltc_word.specs.declared.places.TheConstants as places
use Rattle.ltc_word.specs.declared.word.LtcWord.{LtcWord}
use Rattle.ltc_word.specs.Balance.{zeros}
use Rattle.ltc_word.specs.Places.{polarity_bit, table_of}

-- all numbers of a word in their places, with this one at the polarity correction
abbrev pub row_with : System → FieldValues → ℕ → List Entry
row_with system fields polarity =
    entry (place (polarity_bit system) 1) polarity ∷ entry places.SYNC places.SYNC_PATTERN
    ∷ row_of (table_of system) fields

-- their sum by weights
abbrev pub bits_with : LtcWord → ℕ → ℕ
bits_with word polarity = sum_of (row_with (system_with word.fields.label.count) word.fields polarity)

-- the polarity correction is set where the balance of the word asks for it
unfoldable pub spelling_of : LtcWord → ℕ
spelling_of word = if beq (zeros (bits_with word 0) % 2 == 0) word.balanced then bits_with word 0 else bits_with word 1
