-- The numbers of a word by their weights and the check behind them spell it.
use Rattle.std.proofs.Common.{◌≡◌, ℕ, ◌+◌, ◌*◌, ◌/◌, ◌%◌, ◌^◌, ◌<◌, refl, lit<, arith}
use Rattle.tc_address.specs.declared.system.System.{System}
use Rattle.tc_address.specs.Count.{system_with}
use Rattle.tc_bits.specs.declared.table.Table.{Table}
use Rattle.tc_bits.specs.Fields.{IsFields}
use Rattle.tc_bits.specs.Row.{sum_of, SumHolds}
use Rattle.tc_bits.specs.Spelling.{AreExact}
use Rattle.tc_bits.specs.Table.{digit, row_of}
use Rattle.vitc_line.specs.declared.places.TheConstants as places
use Rattle.vitc_line.specs.declared.word.VitcWord.{VitcWord}
use Rattle.vitc_line.specs.Places.{field_mark_bit, table_of}
use Rattle.vitc_line.specs.Spelled.{bits_with, check_sum, line_of}
use Rattle.vitc_line.specs.Spelling.{Spells}
use Rattle.vitc_line.proofs.CheckBehind.{check_made, check_less}
use Rattle.vitc_line.proofs.RowOfALine.{stands, spells_with}

no_check : (base : ℕ) → base < 2 ^ 90 → base / 2 ^ 82 % 2 ^ 8 ≡ 0 → base < 2 ^ 82
no_check base width none = omega (arith, width, none)

-- what is made of the fields, the mark and the sync pairs is the line with no check
pub made_of : (word : VitcWord) (system : System) (t : Table) (mark fields : ℕ)
    → system ≡ system_with word.fields.label.count → t ≡ table_of system
    → mark ≡ digit word.field_mark * 2 ^ field_mark_bit system → fields ≡ sum_of (row_of t word.fields)
    → mark + places.ALL_SYNC_PAIRS + fields ≡ bits_with word 0
made_of word system t mark fields system_is table_is mark_is fields_are =
    rw (mark_is, fields_are, table_is, system_is) (omega arith)

-- the numbers come before the check
pub unchecked_below : SumHolds → AreExact → (word : VitcWord) → IsFields word.fields → bits_with word 0 < 2 ^ 82
unchecked_below law exact word valid =
    let s = stands law exact word 0 valid (lit< tt) in
    no_check (bits_with word 0) s.1 s.0.0

pub with_check : (word : VitcWord) (check : ℕ) → bits_with word 0 + check * 2 ^ 82 ≡ bits_with word check
with_check word check = omega arith

pub line_spells : SumHolds → AreExact → (word : VitcWord) → IsFields word.fields → word.fields.user < 2 ^ 32
    → Spells (system_with word.fields.label.count) word (line_of word)
unfolding line_of
line_spells law exact word valid eight =
    let plain = bits_with word 0 in
    let made = rw (with_check word (check_sum plain)) at (check_made plain (unchecked_below law exact word valid)) in
    spells_with law exact word (check_sum plain) (bits_with word (check_sum plain)) valid eight (check_less plain)
    refl made

odd_by : (bits : ℕ) → bits / 2 ^ 0 % 2 ^ 2 ≡ 1 → bits % 2 ≡ 1
odd_by bits e = omega (arith, e)

-- the first bit is that of the first sync pair
pub line_odd : SumHolds → AreExact → (word : VitcWord) → IsFields word.fields → word.fields.user < 2 ^ 32
    → line_of word % 2 ≡ 1
line_odd law exact word valid eight =
    odd_by (line_of word) ((line_spells law exact word valid eight).sync_pairs 0 (omega arith))
