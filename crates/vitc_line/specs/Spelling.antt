-- Which 90 bits spell a word of vertical interval time code (SMPTE 12M, the table of the vertical
-- interval time code).
use Rattle.std.specs.Prelude.{◌≡◌, ℕ, ◌^◌, ◌<◌, Bool}
use Rattle.tc_address.specs.declared.system.System.{System}
use Rattle.tc_address.specs.declared.count.Count.{Count}
use Rattle.tc_address.specs.Count.{system_with}
use Rattle.tc_address.specs.Label.{address}
use Rattle.tc_bits.specs.declared.flags.Flags.{Flags}
use Rattle.tc_bits.specs.Register.{number_in, is_set}
use Rattle.tc_bits.specs.Fields.{IsFields, field_values}
use Rattle.tc_bits.specs.Spelling.{SpellsAddress, SpellsFlags, SpellsUserBits}
use Rattle.tc_bits.specs.Table.{place}
use Rattle.vitc_line.specs.declared.word.VitcWord.{VitcWord}
use Rattle.vitc_line.specs.CheckBits.{residue}
use Rattle.vitc_line.specs.Places.{field_mark_bit, sync_pair_place, table_of}

-- the 90 bits spell the word in the system
pub record Spells (system : System) (word : VitcWord) (bits : ℕ) : Type 0 where
  pub width : bits < 2 ^ 90
  pub valid : IsFields word.fields
  pub count : system_with word.fields.label.count ≡ system
  pub address : SpellsAddress (table_of system) word.fields.label bits
  pub flags : SpellsFlags (table_of system) word.fields.flags bits
  pub user : SpellsUserBits (table_of system) word.fields.user bits
  pub mark : is_set (place (field_mark_bit system) 1) bits ≡ word.field_mark
  pub sync_pairs : (pair : ℕ) → pair < 9 → number_in (sync_pair_place pair) bits ≡ 1
  pub check : (r : ℕ) → r < 8 → residue r bits ≡ 0

-- a word by its parts
abbrev pub word_with : Count → ℕ → ℕ → ℕ → ℕ → Flags → ℕ → Bool → VitcWord
word_with count hours minutes seconds frames flags user mark =
    record { fields = field_values (address count hours minutes seconds frames) flags user; field_mark = mark }
