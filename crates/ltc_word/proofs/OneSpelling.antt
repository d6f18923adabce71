-- The bits fix the word that they spell, and a word that is spelled has no fault.
use Rattle.std.proofs.Common.{◌≡◌, ℕ, ◌^◌, ◌<◌, Bool, true, false, refl, sym, ap₂, None}
use Rattle.std.specs.Prelude.{◌↔◌, IsTrue}
use Rattle.tc_address.specs.declared.system.System.{System}
use Rattle.tc_bits.specs.declared.raw.RawFields.{RawFields}
use Rattle.tc_bits.specs.Fault.{first_field_fault}
use Rattle.tc_bits.specs.Fields.{FieldValues, Says}
use Rattle.tc_bits.specs.Reading.{raw_in}
use Rattle.tc_bits.specs.Register.{number_in}
use Rattle.tc_bits.specs.Spelling.{AreExact}
use Rattle.ltc_word.specs.declared.places.TheConstants as places
use Rattle.ltc_word.specs.declared.word.LtcWord.{LtcWord}
use Rattle.ltc_word.specs.Balance.{IsBalanced}
use Rattle.ltc_word.specs.Fault.{first_fault}
use Rattle.ltc_word.specs.Places.{table_of}
use Rattle.ltc_word.specs.Spelling.{Spells}
use Rattle.ltc_word.proofs.NoBitDiffers.{none_from_right}

-- the fields that the bits say are spelled by them
pub spelled : AreExact → (system : System) (word : LtcWord) (bits : ℕ) → bits < 2 ^ 80
    → number_in places.SYNC bits ≡ places.SYNC_PATTERN
    → Says system (raw_in (table_of system) bits) word.fields → (IsTrue word.balanced ↔ IsBalanced bits)
    → Spells system word bits
spelled exact system word bits width sync says balance =
    let f = exact.said system (table_of system) word.fields bits says in
    record {
      width = width;
      valid = says.valid;
      count = says.count;
      address = f.address;
      flags = f.flags;
      user = f.user;
      sync = sync;
      balance = balance;
    }

-- a word that the bits spell is what they say
pub says : AreExact → (system : System) (word : LtcWord) (bits : ℕ) → Spells system word bits
    → Says system (raw_in (table_of system) bits) word.fields
says exact system word bits s =
    exact.says system (table_of system) word.fields bits s.valid s.count
    (record { address = s.address; flags = s.flags; user = s.user })

-- a truth value that decides a fact is the only one
pub same_truth : (P : Type 0) (a b : Bool) → (IsTrue a ↔ P) → (IsTrue b ↔ P) → a ≡ b
same_truth P true true p q = refl
same_truth P true false p q = sym (q.1 (p.0 refl))
same_truth P false true p q = p.1 (q.0 refl)
same_truth P false false p q = refl

abbrev pub word_with : FieldValues → Bool → LtcWord
word_with fields balanced = record { fields = fields; balanced = balanced }

-- one word has these fields and this balance
pub same_word : (fields : FieldValues) (balanced : Bool) (word : LtcWord) → fields ≡ word.fields
    → balanced ≡ word.balanced → word_with fields balanced ≡ word
same_word fields balanced word e b = ap₂ word_with e b

-- the bits spell one word
pub one_word : AreExact → ((system : System) (raw : RawFields) (a b : FieldValues) → Says system raw a
    → Says system raw b → a ≡ b)
    → (system : System) (a b : LtcWord) (bits : ℕ) → Spells system a bits → Spells system b bits → a ≡ b
one_word exact one system a b bits p q =
    same_word a.fields a.balanced b
    (one system (raw_in (table_of system) bits) a.fields b.fields (says exact system a bits p)
    (says exact system b bits q))
    (same_truth (IsBalanced bits) a.balanced b.balanced p.balance q.balance)

-- a word that is spelled has no fault
pub no_fault : AreExact → ((system : System) (raw : RawFields) (c : FieldValues) → Says system raw c
    → first_field_fault system raw ≡ None)
    → (system : System) (word : LtcWord) (bits : ℕ) → Spells system word bits → first_fault system bits ≡ None
no_fault exact none system word bits s =
    rw (
      none_from_right bits s.sync,
      none system (raw_in (table_of system) bits) word.fields
          (says exact system word bits s),
    ) refl
