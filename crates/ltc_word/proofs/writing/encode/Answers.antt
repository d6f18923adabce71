use Rattle.std.proofs.Common.{◌≡◌, ◌+◌, ◌^◌, ap, ◌∙◌, lit<}
use Rattle.tc_address.specs.Count.{system_with}
use Rattle.tc_bits.specs.Fields.{IsFields}
use Rattle.ltc_word.specs.Places.{polarity_bit}
use Rattle.ltc_word.proofs.OneBitMore.{made_of, spells_as_is, spells_corrected}
use Rattle.ltc_word.proofs.RowOfAWord.{stands, table_is}
use Rattle.ltc_word.proofs.writing.encode.Goals as goal

pub field_bits-requires : goal.field_bits-requires
field_bits-requires c = rw c.table.ensures (table_is c.system_of-system.result)

pub is_balanced-requires : goal.is_balanced-requires
is_balanced-requires c =
    let w = c.args.word.now in
    let valid : IsFields w.fields = c.label.ensures.valid in
    let system : c.system_of-system.result ≡ system_with w.fields.label.count = cc in
    let made = made_of w c.system_of-system.result c.table.result c.holding.result c.field_bits.result
    system c.table.ensures c.holding.ensures c.field_bits.ensures.sum in
    rw made (stands c.a_row_is_its_sum.ensures.holds c.fields_are_exact.ensures w 0 valid (lit< tt)).1

-- the bits have the balance that the word needs
pub returns-then-is_balanced-word : goal.returns-then-is_balanced-word
returns-then-is_balanced-word c =
    let w = c.args.word.now in
    let system : c.system_of-system.result ≡ system_with w.fields.label.count = cc in
    let made = made_of w c.system_of-system.result c.table.result c.holding.result c.field_bits.result
    system c.table.ensures c.holding.ensures c.field_bits.ensures.sum in
    spells_as_is c.a_row_is_its_sum.ensures.holds c.fields_are_exact.ensures w _ c.is_balanced.result
    c.label.ensures.valid
    c.field_bits.ensures.eight made c.is_balanced.ensures c.if-is_balanced-word.true

-- they have the other one, and the correction turns it
pub returns-else-is_balanced-word : goal.returns-else-is_balanced-word
returns-else-is_balanced-word c =
    let w = c.args.word.now in
    let system : c.system_of-system.result ≡ system_with w.fields.label.count = cc in
    let made = made_of w c.system_of-system.result c.table.result c.holding.result c.field_bits.result
    system c.table.ensures c.holding.ensures c.field_bits.ensures.sum in
    let plain = c.holding.result + c.field_bits.result in
    let more = ap (λ n. plain + n) (c.correction.ensures.value ∙ ap (λ s. 2 ^ polarity_bit s) system) in
    spells_corrected c.a_row_is_its_sum.ensures.holds c.fields_are_exact.ensures w plain _ c.is_balanced.result
    c.label.ensures.valid
    c.field_bits.ensures.eight made more c.is_balanced.ensures c.if-is_balanced-word.false
