-- What is in 80 bits that end in the sync word: a word, or the first fault of its fields (SMPTE 12M, the table of
-- the linear time code word).
use Rattle.std.specs.Prelude.{ℕ, ◌%◌, ◌==◌, Option}
use Rattle.tc_address.specs.declared.system.System.{System}
use Rattle.tc_bits.specs.declared.fault.FieldFault.{FieldFault}
use Rattle.tc_bits.specs.Fault.{first_field_fault}
use Rattle.tc_bits.specs.Fields.{fields_of}
use Rattle.tc_bits.specs.Reading.{raw_in}
use Rattle.ltc_word.specs.declared.word.LtcWord.{LtcWord}
use Rattle.ltc_word.specs.Balance.{zeros}
use Rattle.ltc_word.specs.Places.{table_of}

-- the first fault of the fields that stand in the bits
unfoldable pub fault_in : System → ℕ → Option FieldFault
fault_in system bits = first_field_fault system (raw_in (table_of system) bits)

-- the word that stands in the bits, where its fields have no fault
unfoldable pub word_in : System → ℕ → LtcWord
word_in system bits = record {
  fields = fields_of system (raw_in (table_of system) bits);
  balanced = zeros bits % 2 == 0;
}
