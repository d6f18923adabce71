use Rattle.std.proofs.Common.{◌≡◌, None, sym, arith}
use Rattle.csv.specs.Records.{field_at, fields_of}
use Rattle.chase_script.proofs.FiveFields.{no_field}
use Rattle.chase_script.proofs.row.field.Goals as goal

-- the field is there
pub unreachable-requires : goal.unreachable-requires
unreachable-requires c =
    let none : field_at (fields_of c.args.fields.now) c.args.i ≡ None = sym (rw c.in-None.is at c.get.ensures.value) in
    let past = no_field (fields_of c.args.fields.now) c.args.i none in
    omega (arith, past, c.requires)
