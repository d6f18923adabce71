-- The numbers of a word share out its 80 bits, so their sum by weights spells it, and nothing else does.
use Rattle.std.proofs.Common.{◌≡◌, ℕ, ◌/◌, ◌^◌, ◌<◌, true, refl, lit<}
use Rattle.std.specs.Prelude.{◌↔◌, IsTrue}
use Rattle.std.proofs.lemmas.Nat.{mod_below}
use Rattle.tc_address.specs.declared.system.System.{System}
use Rattle.tc_address.specs.declared.system.System.TheVariants.{F24, F25, F30}
use Rattle.tc_address.specs.Count.{system_with}
use Rattle.tc_address.specs.Label.{IsLabel}
use Rattle.tc_bits.specs.Fields.{FieldValues, IsFields}
use Rattle.tc_bits.specs.Register.{field}
use Rattle.tc_bits.specs.Row.{Holds, IsRow, sum_of, SumHolds, OnlySumHolds}
use Rattle.tc_bits.specs.Spelling.{AreExact}
use Rattle.tc_bits.specs.Table.{is_table}
use Rattle.ltc_word.specs.declared.word.LtcWord.{LtcWord}
use Rattle.ltc_word.specs.Balance.{IsBalanced}
use Rattle.ltc_word.specs.Places.{polarity_bit, table_of}
use Rattle.ltc_word.specs.Spelled.{row_with, bits_with}
use Rattle.ltc_word.specs.Spelling.{Spells}

pub table_is : (system : System) → is_table (table_of system) ≡ true
table_is F24 = refl
table_is F25 = refl
table_is F30 = refl

-- the numbers of a word fill the 80 bits
row_is : AreExact → (system : System) (c : FieldValues) (polarity : ℕ) → IsLabel c.label → polarity < 2
    → IsRow 80 (row_with system c polarity)
row_is law F24 c polarity label low =
    record { shared = refl; within = refl; fit = (low, (lit< tt, law.fit (table_of F24) c label)) }
row_is law F25 c polarity label low =
    record { shared = refl; within = refl; fit = (low, (lit< tt, law.fit (table_of F25) c label)) }
row_is law F30 c polarity label low =
    record { shared = refl; within = refl; fit = (low, (lit< tt, law.fit (table_of F30) c label)) }

-- the sum of a word's numbers has each of them in its place
pub stands : SumHolds → AreExact → (word : LtcWord) (polarity : ℕ) → IsFields word.fields → polarity < 2
    → Holds (row_with (system_with word.fields.label.count) word.fields polarity) (bits_with word polarity)
    × (bits_with word polarity < 2 ^ 80)
stands law exact word polarity valid low =
    law 80 (row_with (system_with word.fields.label.count) word.fields polarity)
    (row_is exact (system_with word.fields.label.count) word.fields polarity valid.label low)

-- so it spells the word if the balance is right
pub spells_with : SumHolds → AreExact → (word : LtcWord) (polarity bits : ℕ) → IsFields word.fields
    → word.fields.user < 2 ^ 32 → polarity < 2
    → bits ≡ bits_with word polarity → (IsTrue word.balanced ↔ IsBalanced bits)
    → Spells (system_with word.fields.label.count) word bits
spells_with law exact word polarity bits valid eight low sum balance =
    let s = rw (← sum) at (stands law exact word polarity valid low) in
    let f = exact.held (table_of (system_with word.fields.label.count)) word.fields bits eight s.0.1.1 in
    record {
      width = s.1;
      valid = valid;
      count = refl;
      address = f.address;
      flags = f.flags;
      user = f.user;
      sync = s.0.1.0;
      balance = balance;
    }

-- and bits that spell a word are the sum
pub is_sum : OnlySumHolds → AreExact → (system : System) (word : LtcWord) (bits : ℕ) → Spells system word bits
    → bits ≡ sum_of (row_with system word.fields (field bits (polarity_bit system) 1))
is_sum law exact system word bits s =
    let low : field bits (polarity_bit system) 1 < 2 = mod_below (bits / 2 ^ polarity_bit system) (2 ^ 1) (lit< tt) in
    law 80 (row_with system word.fields (field bits (polarity_bit system) 1)) bits
    (row_is exact system word.fields (field bits (polarity_bit system) 1) s.valid.label low) s.width (
      refl,
      (
        s.sync,
        exact.holds (table_of system) word.fields bits
            (record { address = s.address; flags = s.flags; user = s.user }),
      ),
    )
