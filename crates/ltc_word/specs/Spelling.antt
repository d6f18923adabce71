-- Which 80 bits spell a word of linear time code (SMPTE 12M, the table of the linear time code word).
use Rattle.std.specs.Prelude.{◌≡◌, ℕ, ◌^◌, ◌<◌, ◌↔◌, Bool, IsTrue}
use Rattle.tc_address.specs.declared.system.System.{System}
use Rattle.tc_address.specs.declared.count.Count.{Count}
use Rattle.tc_address.specs.Count.{system_with}
use Rattle.tc_address.specs.Label.{address}
use Rattle.tc_bits.specs.declared.flags.Flags.{Flags}
use Rattle.tc_bits.specs.Register.{number_in}
use Rattle.tc_bits.specs.Fields.{IsFields, field_values}
use Rattle.tc_bits.specs.Spelling.{SpellsAddress, SpellsFlags, SpellsUserBits}
use Rattle.ltc_word.specs.declared.places.TheConstants as places
use Rattle.ltc_word.specs.declared.word.LtcWord.{LtcWord}
use Rattle.ltc_word.specs.Balance.{IsBalanced}
use Rattle.ltc_word.specs.Places.{table_of}

-- the 80 bits spell the word in the system
pub record Spells (system : System) (word : LtcWord) (bits : ℕ) : Type 0 where
  pub width : bits < 2 ^ 80
  pub valid : IsFields word.fields
  pub count : system_with word.fields.label.count ≡ system
  pub address : SpellsAddress (table_of system) word.fields.label bits
  pub flags : SpellsFlags (table_of system) word.fields.flags bits
  pub user : SpellsUserBits (table_of system) word.fields.user bits
  pub sync : number_in places.SYNC bits ≡ places.SYNC_PATTERN
  pub balance : IsTrue word.balanced ↔ IsBalanced bits

-- a word by its parts
abbrev pub word_with : Count → ℕ → ℕ → ℕ → ℕ → Flags → ℕ → Bool → LtcWord
word_with count hours minutes seconds frames flags user balanced =
    record { fields = field_values (address count hours minutes seconds frames) flags user; balanced = balanced }
