-- Digits with no fault say fields, so 90 bits with good sync pairs and a good check spell a word or have a first
-- fault of their fields.
use Rattle.std.proofs.Common.{◌≡◌, ℕ, ◌^◌, ◌<◌, refl, Option, Some, None, inl, inr, ◌⊎◌}
use Rattle.tc_address.specs.declared.system.System.{System}
use Rattle.tc_bits.specs.declared.fault.FieldFault.{FieldFault}
use Rattle.tc_bits.specs.declared.raw.RawFields.{RawFields}
use Rattle.tc_bits.specs.Fault.{first_field_fault}
use Rattle.tc_bits.specs.Fields.{FieldValues, Says}
use Rattle.tc_bits.specs.Reading.{raw_in}
use Rattle.tc_bits.specs.Register.{is_set}
use Rattle.tc_bits.specs.Spelling.{AreExact}
use Rattle.tc_bits.specs.Table.{place}
use Rattle.vitc_line.specs.declared.word.LineFault.{LineFault}
use Rattle.vitc_line.specs.declared.word.LineFault.TheVariants.{SyncPair, Check, Field}
use Rattle.vitc_line.specs.declared.word.VitcWord.{VitcWord}
use Rattle.vitc_line.specs.CheckBits.{wrong_residue}
use Rattle.vitc_line.specs.Fault.{first_fault, wrong_sync_pair}
use Rattle.vitc_line.specs.Places.{field_mark_bit, table_of}
use Rattle.vitc_line.specs.Spelling.{Spells}
use Rattle.vitc_line.proofs.OneSpelling.{spelled, word_of}

-- digits without a fault say fields
abbrev pub FaultlessSay : Type 0
FaultlessSay = (system : System) (raw : RawFields) → first_field_fault system raw ≡ None → (c : FieldValues)
    × Says system raw c

-- the bits spell a word, or they have a first fault
abbrev pub SpellsOrIsFaulty : System → ℕ → Type 0
SpellsOrIsFaulty system bits =
    ((word : VitcWord) × Spells system word bits) ⊎ ((fault : LineFault) × (first_fault system bits ≡ Some fault))

by_fields : AreExact → FaultlessSay → (system : System) (bits : ℕ) → bits < 2 ^ 90 → wrong_sync_pair bits ≡ None
    → wrong_residue bits ≡ None
    → (fault : Option FieldFault) → first_field_fault system (raw_in (table_of system) bits) ≡ fault
    → SpellsOrIsFaulty system bits
by_fields exact say system bits width pairs check None is =
    let said = say system (raw_in (table_of system) bits) is in
    let word = word_of said.0 (is_set (place (field_mark_bit system) 1) bits) in
    inl (word, spelled exact system word bits width pairs check said.1 refl)
by_fields exact say system bits width pairs check (Some fault) is = inr (Field fault, rw (pairs, check, is) refl)

by_residue : AreExact → FaultlessSay → (system : System) (bits : ℕ) → bits < 2 ^ 90 → wrong_sync_pair bits ≡ None
    → (residue : Option ℕ) → wrong_residue bits ≡ residue → SpellsOrIsFaulty system bits
by_residue exact say system bits width pairs None check =
    by_fields exact say system bits width pairs check (first_field_fault system (raw_in (table_of system) bits)) refl
by_residue exact say system bits width pairs (Some residue) is = inr (Check residue, rw (pairs, is) refl)

by_pair : AreExact → FaultlessSay → (system : System) (bits : ℕ) → bits < 2 ^ 90 → (pair : Option ℕ)
    → wrong_sync_pair bits ≡ pair
    → SpellsOrIsFaulty system bits
by_pair exact say system bits width None pairs = by_residue exact say system bits width pairs (wrong_residue bits) refl
by_pair exact say system bits width (Some pair) is = inr (SyncPair pair, rw is refl)

pub word_or_fault : AreExact → FaultlessSay → (system : System) (bits : ℕ) → bits < 2 ^ 90
    → SpellsOrIsFaulty system bits
word_or_fault exact say system bits width = by_pair exact say system bits width (wrong_sync_pair bits) refl
