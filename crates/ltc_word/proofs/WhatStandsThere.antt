-- The word that is in bits is the one that they spell.
use Rattle.std.proofs.Common.{◌≡◌, ℕ, ◌%◌, ◌^◌, ◌<◌, refl, Option, Some, None}
use Rattle.std.specs.Prelude.{◌==◌}
use Rattle.std.proofs.lemmas.Bool.{eqb-true, eq-eqb}
use Rattle.tc_address.specs.declared.system.System.{System}
use Rattle.tc_bits.specs.declared.fault.FieldFault.{FieldFault}
use Rattle.tc_bits.specs.declared.raw.RawFields.{RawFields}
use Rattle.tc_bits.specs.Fault.{first_field_fault}
use Rattle.tc_bits.specs.Fields.{FieldValues, Says, fields_of}
use Rattle.tc_bits.specs.Reading.{raw_in}
use Rattle.tc_bits.specs.Spelling.{AreExact}
use Rattle.ltc_word.specs.declared.word.LtcWord.{LtcWord}
use Rattle.ltc_word.specs.declared.word.WordFault.TheVariants.{Field}
use Rattle.ltc_word.specs.Balance.{zeros}
use Rattle.ltc_word.specs.Fault.{first_fault, sync_first, wrong_sync_bit}
use Rattle.ltc_word.specs.Places.{table_of}
use Rattle.ltc_word.specs.Reading.{fault_in, word_in}
use Rattle.ltc_word.specs.Reversal.{EndsInSync}
use Rattle.ltc_word.specs.Spelling.{Spells}
use Rattle.ltc_word.proofs.NoBitDiffers.{none_from_right}
use Rattle.ltc_word.proofs.OneSpelling.{spelled, says, one_word, word_with}

-- digits without a fault say the fields that they say
abbrev pub FaultlessSayThese : Type 0
FaultlessSayThese = (system : System) (raw : RawFields) → first_field_fault system raw ≡ None
    → Says system raw (fields_of system raw)

abbrev pub SayOne : Type 0
SayOne = (system : System) (raw : RawFields) (a b : FieldValues) → Says system raw a → Says system raw b → a ≡ b

abbrev pub SayFaultless : Type 0
SayFaultless = (system : System) (raw : RawFields) (c : FieldValues) → Says system raw c
    → first_field_fault system raw ≡ None

pub stands : AreExact → FaultlessSayThese → (system : System) (bits : ℕ) → bits < 2 ^ 80 → EndsInSync bits
    → fault_in system bits ≡ None → Spells system (word_in system bits) bits
unfolding fault_in word_in
stands exact say system bits width sync none =
    let fields = fields_of system (raw_in (table_of system) bits) in
    spelled exact system (word_with fields (zeros bits % 2 == 0)) bits width sync
    (say system (raw_in (table_of system) bits) none) (eqb-true (zeros bits % 2) 0, eq-eqb (zeros bits % 2) 0)

pub no_fault_there : AreExact → SayFaultless → (system : System) (word : LtcWord) (bits : ℕ) → Spells system word bits
    → fault_in system bits ≡ None
unfolding fault_in
no_fault_there exact none system word bits s =
    none system (raw_in (table_of system) bits) word.fields (says exact system word bits s)

pub the_word_there : AreExact → FaultlessSayThese → SayFaultless → SayOne
    → (system : System) (word : LtcWord) (bits : ℕ)
    → Spells system word bits → word ≡ word_in system bits
the_word_there exact say none one system word bits s =
    one_word exact one system word (word_in system bits) bits s
    (stands exact say system bits s.width s.sync (no_fault_there exact none system word bits s))

-- the first fault, if it is not the sync word's, is that of the fields
behind_sync : (place : Option ℕ) (found : Option FieldFault) (fault : FieldFault)
    → sync_first place found ≡ Some (Field fault) → found ≡ Some fault
behind_sync (Some place) found fault is = absurd cc
behind_sync None None fault is = absurd cc
behind_sync None (Some other) fault is = cc

pub the_fault_there : (system : System) (bits : ℕ) (fault : FieldFault) → first_fault system bits ≡ Some (Field fault)
    → fault_in system bits ≡ Some fault
unfolding fault_in
the_fault_there system bits fault is =
    behind_sync (wrong_sync_bit bits) (first_field_fault system (raw_in (table_of system) bits)) fault is

pub first_there : (system : System) (bits : ℕ) (fault : FieldFault) → EndsInSync bits
    → fault_in system bits ≡ Some fault
    → first_fault system bits ≡ Some (Field fault)
unfolding fault_in
first_there system bits fault sync is = rw (none_from_right bits sync, is) refl
