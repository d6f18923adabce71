use Rattle.tc_bits.proofs.FieldsOfATable.{table_is}
use Rattle.tc_bits.proofs.reading.fields_at.Goals as goal

pub raw_at-requires : goal.raw_at-requires
raw_at-requires c = table_is c.args.table.now c.requires
