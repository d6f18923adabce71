use Rattle.std.proofs.Common.{◌≡◌, ◌+◌, ◌*◌, ◌^◌, ℕ, ap, ◌∙◌}
use Rattle.tc_address.specs.Count.{system_with}
use Rattle.vitc_line.proofs.LineOfAWord.{made_of, unchecked_below, with_check}
use Rattle.vitc_line.proofs.RowOfALine.{spells_with, table_is}
use Rattle.vitc_line.proofs.writing.encode.Goals as goal

pub field_bits-requires : goal.field_bits-requires
field_bits-requires c = rw c.table.ensures (table_is c.system_of-system.result)

pub check_of-requires : goal.check_of-requires
check_of-requires c =
    let w = c.args.word.now in
    let system : c.system_of-system.result ≡ system_with w.fields.label.count = cc in
    let made = made_of w c.system_of-system.result c.table.result c.mark_bit.result c.field_bits.result
    system c.table.ensures c.mark_bit.ensures.value c.field_bits.ensures.sum in
    rw made (unchecked_below c.a_row_is_its_sum.ensures.holds c.fields_are_exact.ensures w c.label.ensures.valid)

-- the parts are the sum by weights, and their check holds
pub returns : goal.returns
returns c =
    let w = c.args.word.now in
    let system : c.system_of-system.result ≡ system_with w.fields.label.count = cc in
    let made = made_of w c.system_of-system.result c.table.result c.mark_bit.result c.field_bits.result
    system c.table.ensures c.mark_bit.ensures.value c.field_bits.ensures.sum in
    let sum = ap (λ (n : ℕ). n + c.check_of.result * 2 ^ 82) made ∙ with_check w c.check_of.result in
    rw c.holding.ensures (spells_with c.a_row_is_its_sum.ensures.holds c.fields_are_exact.ensures w c.check_of.result _
    c.label.ensures.valid c.field_bits.ensures.eight c.check_of.ensures.width sum c.check_of.ensures.holds)
