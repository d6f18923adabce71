use Rattle.std.proofs.Common.{◌≡◌, ◌∙◌, length, sym}
use Rattle.csv.specs.Records.{fields_of}
use Rattle.chase_script.proofs.FiveFields.{five_fields}
use Rattle.chase_script.proofs.row.row_in.Goals as goal

-- the five fields are those of the record
pub returns-clause-value : goal.returns-clause-value
returns-clause-value c =
    let five : length (fields_of c.args.fields.now) ≡ 5 = sym c.len.ensures ∙ c.if-len-ne5.false in
    let all = five_fields c.args.count (fields_of c.args.fields.now) _ _ _ _ _ five (record {
      first = c.field.ensures;
      second = c.field-2.ensures;
      third = c.field-3.ensures;
      fourth = c.field-4.ensures;
      fifth = c.field-5.ensures;
    }) in
    c.row_of_fields.ensures.value ∙ sym all
