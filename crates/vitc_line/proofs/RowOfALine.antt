-- The numbers of a line share out its 90 bits, so their sum by weights spells it, and nothing else does.
use Rattle.std.proofs.Common.{◌≡◌, ℕ, zero, suc, ◌/◌, ◌^◌, ◌<◌, Bool, true, refl, lit<, arith}
use Rattle.std.proofs.lemmas.Nat.{mod_below}
use Rattle.lemmas.specs.Lists.{also}
use Rattle.tc_bits.specs.FieldLemmas.{digit_below}
use Rattle.tc_address.specs.declared.system.System.{System}
use Rattle.tc_address.specs.declared.system.System.TheVariants.{F24, F25, F30}
use Rattle.tc_address.specs.Count.{system_with}
use Rattle.tc_address.specs.Label.{IsLabel}
use Rattle.tc_bits.specs.Fields.{FieldValues, IsFields}
use Rattle.tc_bits.specs.Register.{number_in}
use Rattle.tc_bits.specs.Row.{Fit, Holds, IsRow, sum_of, SumHolds, OnlySumHolds}
use Rattle.tc_bits.specs.Spelling.{AreExact}
use Rattle.tc_bits.specs.Table.{is_table, row_of}
use Rattle.vitc_line.specs.declared.places.TheConstants as places
use Rattle.vitc_line.specs.declared.word.VitcWord.{VitcWord}
use Rattle.vitc_line.specs.CheckBits.{residue}
use Rattle.vitc_line.specs.Places.{field_mark_bit, sync_pair_place, table_of}
use Rattle.vitc_line.specs.Spelled.{row_with, bits_with}
use Rattle.vitc_line.specs.Spelling.{Spells}

pub table_is : (system : System) → is_table (table_of system) ≡ true
table_is F24 = refl
table_is F25 = refl
table_is F30 = refl

fits : (system : System) (c : FieldValues) (mark : Bool) (check : ℕ) → check < 2 ^ 8 → Fit (row_of (table_of system) c)
    → Fit (row_with system c mark check)
fits system c mark check low rest =
    also low (also (digit_below mark) (also (lit< tt) (also (lit< tt)
    (also (lit< tt) (also (lit< tt) (also (lit< tt) (also (lit< tt)
    (also (lit< tt) (also (lit< tt) (also (lit< tt) rest))))))))))

-- the numbers of a line fill the 90 bits
row_is : AreExact → (system : System) (c : FieldValues) (mark : Bool) (check : ℕ) → IsLabel c.label → check < 2 ^ 8
    → IsRow 90 (row_with system c mark check)
row_is exact F24 c mark check label low =
    record { shared = refl; within = refl; fit = fits F24 c mark check low (exact.fit (table_of F24) c label) }
row_is exact F25 c mark check label low =
    record { shared = refl; within = refl; fit = fits F25 c mark check low (exact.fit (table_of F25) c label) }
row_is exact F30 c mark check label low =
    record { shared = refl; within = refl; fit = fits F30 c mark check low (exact.fit (table_of F30) c label) }

-- the sum of a line's numbers has each of them in its place
pub stands : SumHolds → AreExact → (word : VitcWord) (check : ℕ) → IsFields word.fields → check < 2 ^ 8
    → Holds (row_with (system_with word.fields.label.count) word.fields word.field_mark check) (bits_with word check)
    × (bits_with word check < 2 ^ 90)
stands law exact word check valid low =
    law 90 (row_with (system_with word.fields.label.count) word.fields word.field_mark check)
    (row_is exact (system_with word.fields.label.count) word.fields word.field_mark check valid.label low)

each_pair : (P : ℕ → Type 0) → P 0 → P 1 → P 2 → P 3 → P 4 → P 5 → P 6 → P 7 → P 8 → (pair : ℕ) → pair < 9 → P pair
each_pair P a b c d e f g h k zero lt = a
each_pair P a b c d e f g h k (suc zero) lt = b
each_pair P a b c d e f g h k (suc (suc zero)) lt = c
each_pair P a b c d e f g h k (suc (suc (suc zero))) lt = d
each_pair P a b c d e f g h k (suc (suc (suc (suc zero)))) lt = e
each_pair P a b c d e f g h k (suc (suc (suc (suc (suc zero))))) lt = f
each_pair P a b c d e f g h k (suc (suc (suc (suc (suc (suc zero)))))) lt = g
each_pair P a b c d e f g h k (suc (suc (suc (suc (suc (suc (suc zero))))))) lt = h
each_pair P a b c d e f g h k (suc (suc (suc (suc (suc (suc (suc (suc zero)))))))) lt = k
each_pair P a b c d e f g h k (suc (suc (suc (suc (suc (suc (suc (suc (suc pair))))))))) lt = absurd (omega arith)

spelled_by : AreExact → (word : VitcWord) (check bits : ℕ) → IsFields word.fields → word.fields.user < 2 ^ 32
    → bits < 2 ^ 90
    → ((r : ℕ) → r < 8 → residue r bits ≡ 0)
    → Holds (row_with (system_with word.fields.label.count) word.fields word.field_mark check) bits
    → Spells (system_with word.fields.label.count) word bits
spelled_by exact word check bits valid eight width holds
    (number, (mark, (s0, (s1, (s2, (s3, (s4, (s5, (s6, (s7, (s8, rest))))))))))) =
    let system = system_with word.fields.label.count in
    let f = exact.held (table_of system) word.fields bits eight rest in
    record {
      width = width;
      valid = valid;
      count = refl;
      address = f.address;
      flags = f.flags;
      user = f.user;
      mark = exact.flag_read bits (field_mark_bit system) word.field_mark mark;
      sync_pairs = each_pair (λ pair. number_in (sync_pair_place pair) bits ≡ 1) s0 s1 s2 s3 s4 s5 s6 s7 s8;
      check = holds;
    }

-- so it spells the word if the check holds
pub spells_with : SumHolds → AreExact → (word : VitcWord) (check bits : ℕ) → IsFields word.fields
    → word.fields.user < 2 ^ 32 → check < 2 ^ 8
    → bits ≡ bits_with word check → ((r : ℕ) → r < 8 → residue r bits ≡ 0)
    → Spells (system_with word.fields.label.count) word bits
spells_with law exact word check bits valid eight low sum holds =
    let s = rw (← sum) at (stands law exact word check valid low) in
    spelled_by exact word check bits valid eight s.1 holds s.0

check_below : (bits : ℕ) → number_in places.CHECK bits < 2 ^ 8
check_below bits = mod_below (bits / 2 ^ 82) (2 ^ 8) (lit< tt)

held : AreExact → (system : System) (word : VitcWord) (bits : ℕ) → Spells system word bits
    → Holds (row_with system word.fields word.field_mark (number_in places.CHECK bits)) bits
held exact system word bits s =
    let pair = s.sync_pairs in
    also refl (also (exact.flag_held bits (field_mark_bit system) word.field_mark s.mark)
    (also (pair 0 (lit< tt)) (also (pair 1 (lit< tt)) (also (pair 2 (lit< tt))
    (also (pair 3 (lit< tt)) (also (pair 4 (lit< tt))
    (also (pair 5 (lit< tt)) (also (pair 6 (lit< tt)) (also (pair 7 (lit< tt)) (also (pair 8 (lit< tt))
    (exact.holds (table_of system) word.fields bits (record
    { address = s.address; flags = s.flags; user = s.user }))))))))))))

-- and bits that spell a word are the sum
pub is_sum : OnlySumHolds → AreExact → (system : System) (word : VitcWord) (bits : ℕ) → Spells system word bits
    → bits ≡ sum_of (row_with system word.fields word.field_mark (number_in places.CHECK bits))
is_sum law exact system word bits s =
    law 90 (row_with system word.fields word.field_mark (number_in places.CHECK bits)) bits
    (row_is exact system word.fields word.field_mark (number_in places.CHECK bits) s.valid.label (check_below bits))
    s.width
    (held exact system word bits s)
