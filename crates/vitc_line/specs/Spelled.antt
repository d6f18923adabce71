-- The bits of a line as one number: each number of the table by the weight of its place, and the check behind them
-- (SMPTE 12M, the table of the vertical interval time code).
use Rattle.std.specs.Prelude.{ℕ, ◌+◌, ◌*◌, Bool, List, ◌∷◌, ◌++◌, map}
use Rattle.std.specs.List.{range_with_len}
use Rattle.tc_address.specs.declared.system.System.{System}
use Rattle.tc_address.specs.Count.{system_with}
use Rattle.tc_bits.specs.Fields.{FieldValues}
use Rattle.tc_bits.specs.Row.{Entry, entry, sum_of}
use Rattle.tc_bits.specs.Table.{digit, place, row_of}
use Rattle.vitc_line.specs.declared.places.TheConstants as places
use Rattle.vitc_line.specs.declared.word.VitcWord.{VitcWord}
use Rattle.vitc_line.specs.CheckBits.{residue}
use Rattle.vitc_line.specs.Places.{field_mark_bit, sync_pair_place, table_of}

-- all numbers of a line in their places, with this one as the check
abbrev pub row_with : System → FieldValues → Bool → ℕ → List Entry
row_with system fields mark check =
    entry places.CHECK check ∷ entry (place (field_mark_bit system) 1) (digit mark)
    ∷ map (λ pair. entry (sync_pair_place pair) places.SYNC_PAIR) (range_with_len 0 9)
    ++ row_of (table_of system) fields

-- their sum by weights
abbrev pub bits_with : VitcWord → ℕ → ℕ
bits_with word check = sum_of (row_with (system_with word.fields.label.count) word.fields word.field_mark check)

-- the check behind some bits: the exclusive or of each residue, in the bit that has this residue. Bit 82, the
-- first one, has the residue 2
abbrev pub check_sum : ℕ → ℕ
check_sum bits =
    residue 2 bits + 2 * residue 3 bits + 4 * residue 4 bits + 8 * residue 5 bits
    + 16 * residue 6 bits + 32 * residue 7 bits + 64 * residue 0 bits + 128 * residue 1 bits

-- the bits of a word: the check of what stands before it
unfoldable pub line_of : VitcWord → ℕ
line_of word = bits_with word (check_sum (bits_with word 0))
