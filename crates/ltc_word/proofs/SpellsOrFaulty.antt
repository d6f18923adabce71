-- Digits with no fault say fields, so bits that end in the sync word spell the word that they say, or have a first
-- fault of their fields.
use Rattle.std.proofs.Common.{◌≡◌, ℕ, ◌%◌, ◌^◌, ◌<◌, refl, Option, Some, None, inl, inr, ◌⊎◌}
use Rattle.std.specs.Prelude.{◌==◌}
use Rattle.std.proofs.lemmas.Bool.{eqb-true, eq-eqb}
use Rattle.tc_address.specs.declared.system.System.{System}
use Rattle.tc_bits.specs.declared.fault.FieldFault.{FieldFault}
use Rattle.tc_bits.specs.declared.raw.RawFields.{RawFields}
use Rattle.tc_bits.specs.Fault.{first_field_fault}
use Rattle.tc_bits.specs.Reading.{raw_in}
use Rattle.tc_bits.specs.Spelling.{AreExact}
use Rattle.tc_bits.specs.Fields.{FieldValues, Says}
use Rattle.ltc_word.specs.declared.word.LtcWord.{LtcWord}
use Rattle.ltc_word.specs.declared.word.WordFault.TheVariants.{Field}
use Rattle.ltc_word.specs.Balance.{zeros}
use Rattle.ltc_word.specs.Fault.{first_fault}
use Rattle.ltc_word.specs.Places.{table_of}
use Rattle.ltc_word.specs.Reversal.{EndsInSync}
use Rattle.ltc_word.specs.Spelling.{Spells}
use Rattle.ltc_word.proofs.NoBitDiffers.{none_from_right}
use Rattle.ltc_word.proofs.OneSpelling.{spelled, word_with}

-- digits without a fault say fields
abbrev pub FaultlessSay : Type 0
FaultlessSay = (system : System) (raw : RawFields) → first_field_fault system raw ≡ None → (c : FieldValues)
    × Says system raw c

-- the bits spell a word, or their fields have a first fault
abbrev pub SpellsOrIsFaulty : System → ℕ → Type 0
SpellsOrIsFaulty system bits =
    ((word : LtcWord) × Spells system word bits)
    ⊎ ((fault : FieldFault) × (first_fault system bits ≡ Some (Field fault)))

by_fault : AreExact → FaultlessSay → (system : System) (bits : ℕ) → bits < 2 ^ 80 → EndsInSync bits
    → (fault : Option FieldFault)
    → first_field_fault system (raw_in (table_of system) bits) ≡ fault → SpellsOrIsFaulty system bits
by_fault exact say system bits width sync None is =
    let said = say system (raw_in (table_of system) bits) is in
    let word = word_with said.0 (zeros bits % 2 == 0) in
    inl (
      word,
      spelled exact system word bits width sync said.1 (eqb-true (zeros bits % 2) 0, eq-eqb (zeros bits % 2) 0),
    )
by_fault exact say system bits width sync (Some fault) is = inr (fault, rw (none_from_right bits sync, is) refl)

pub word_or_fault : AreExact → FaultlessSay → (system : System) (bits : ℕ) → bits < 2 ^ 80 → EndsInSync bits
    → SpellsOrIsFaulty system bits
word_or_fault exact say system bits width sync =
    by_fault exact say system bits width sync (first_field_fault system (raw_in (table_of system) bits)) refl
