use Rattle.std.proofs.Common.{◌+◌, ◌++◌, ◌≡◌, ◌-◌, ◌≤◌, drop, take, arith, length, length-drop, subst}
use Rattle.std.proofs.lemmas.List.{length-take, take_rest}
use Rattle.column_command.proofs.FieldByField.{answers_from, field_done, line_done, past_columns, past_fields}
use Rattle.column_command.proofs.answering.put_answers.Goals as goal
use Rattle.column_command.proofs.answering.put_answers.Goals.{else-fields-test, then-fields-test+else-number-run}

-- a field was written
pub fields-preserved : goal.fields-preserved
fields-preserved g c =
    let i = c.fields.invariant in
    let fields = take c.fields_length.result c.args.line.now in
    let k = c.field_length.result in
    let w = i.wrote in
    let p = c.put_field-put.ensures.wrote in
    let within : c.fields.at + k ≤ length fields =
    omega (arith, c.field_length.ensures.most, i.within, length-drop c.fields.at fields) in
    let now : c.put_field-put.result ≤ c.fields.at + k = omega (
      arith,
      c.put_field-put.ensures.most,
      length-take (c.fields.at + k) fields,
    ) in
    let field_long : c.fields.at + k - c.fields.at ≡ k = omega arith in
    let length_is = rw (take_rest fields c.fields.at) at c.field_length.ensures.value in
    record {
      within = omega (arith, c.min-at.ensures);
      behind = omega (arith, c.min-at.ensures, now, within);
      least = omega (arith, i.least);
      number = omega (arith, i.number, c.columns_in-number.ensures.most, c.min-at.ensures, c.fields-test.true);
      wrote = (
        w.0 ++ p.0,
        g.O.Output.given_more _ _ _ w.0 p.0 w.1 p.1,
        rw (c.columns_in-number.ensures.value, field_long) (field_done c.args.run.now c.fields.number c.fields.put c.fields.at k
            c.min-at.result c.put_field-put.result fields w.0 p.0 (answers_from c.args.run.now 1 fields)
            c.fields-test.true i.behind now within length_is c.min-at.ensures w.2 p.2),
      );
    }

-- what is left of the line was written
pub returns : goal.returns
returns g c =
    let i = c.fields.invariant in
    let line = c.args.line.now in
    let n = c.fields_length.result in
    let fields = take n line in
    let w = i.wrote in
    let all : w.0 ++ drop c.fields.put fields ≡ answers_from c.args.run.now 1 fields =
    elim c.fields-test.branch [
      | then-fields-test+else-number-run b ↦
          past_columns c.parts_are_the_bytes.ensures c.args.run.now c.fields.number c.fields.put c.fields.at fields w.0 _ i.behind i.within
          (omega (arith, b.if-number-run.false)) w.2
      | else-fields-test b ↦
          past_fields c.args.run.now c.fields.number c.fields.put c.fields.at fields w.0 _ i.behind i.within
          (omega (arith, b.fields-test.false)) w.2
    ] in
    subst (g.O.Output.given c.args.out.now c.gather-2.new.self)
    (line_done c.args.run.now line (w.0 ++ drop c.fields.put fields) n c.fields_length.ensures.value
    c.fields_length.ensures.most all)
    (g.O.Output.given_more _ _ _ _ _ (g.O.Output.given_more _ _ _ _ _ w.1 (rw (take_rest fields c.fields.put) at c.gather.ensures))
    (rw (take_rest line (length fields)) at c.gather-2.ensures))
