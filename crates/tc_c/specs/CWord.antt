-- What a word in numbers means, and the number of its fault. The numbers are this project's own.
use Rattle.std.specs.Prelude.{◌≡◌, ℕ, ◌+◌, ◌*◌, ◌/◌, ◌%◌, ◌^◌, ◌==◌}
use Rattle.tc_bits.specs.declared.flags.Flags.{Flags}
use Rattle.tc_bits.specs.Fields.{IsFields, flags}
use Rattle.ltc_word.specs.declared.word.LtcWord.{LtcWord}
use Rattle.ltc_word.specs.declared.word.WordFault.{WordFault}
use Rattle.ltc_word.specs.declared.word.WordFault.TheVariants.{Sync, Field}
use Rattle.tc_c.specs.CEvent.{fault_number, flag_bits}
use Rattle.tc_c.specs.CLabel.{MeansLabel}
use Rattle.tc_c.specs.declared.word.TcBits.{TcBits}
use Rattle.tc_c.specs.declared.word.TcWord.{TcWord}

-- the numbers mean this word
pub record MeansWord (numbers : TcWord) (word : LtcWord) : Type 0 where
  pub fields : IsFields word.fields
  pub label : MeansLabel numbers.label word.fields.label
  pub flags : flag_bits word.fields.flags word.balanced ≡ numbers.flags
  pub user : word.fields.user ≡ numbers.user

-- the flags whose bits a number has, the least significant first
abbrev pub flags_in : ℕ → Flags
flags_in n = flags (n % 2 == 1) (n / 2 % 2 == 1) (n / 4 % 2 == 1) (n / 8 % 2 == 1) (n / 16 % 2 == 1)

-- the bits as one number
abbrev pub number_of_bits : TcBits → ℕ
number_of_bits bits = bits.low + bits.high * 2 ^ 64

-- a fault of the sync word, and one of the fields
abbrev pub word_fault_number : WordFault → ℕ
word_fault_number (Sync bit) = 10
word_fault_number (Field fault) = fault_number fault
