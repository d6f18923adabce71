use Rattle.tc_bits.proofs.FieldsOfATable.{table_is}
use Rattle.tc_bits.proofs.writing.field_bits.Goals as goal

pub address_bits-requires : goal.address_bits-requires
address_bits-requires c = table_is c.args.table.now c.requires

pub flag_bits-requires : goal.flag_bits-requires
flag_bits-requires c = table_is c.args.table.now c.requires

pub user_group_bits-requires : goal.user_group_bits-requires
user_group_bits-requires c = table_is c.args.table.now c.requires
