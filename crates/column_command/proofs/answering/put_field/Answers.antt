use Rattle.std.proofs.Common.{[], ap, sym, ◌∙◌, drop, arith, length-drop}
use Rattle.std.proofs.lemmas.List.{take_rest}
use Rattle.label_columns.specs.Columns.{answer_to}
use Rattle.column_command.proofs.FieldByField.{answer_in, column_cut, no_answer, not_meant}
use Rattle.column_command.proofs.answering.put_field.Goals as goal

-- the column is not meant
pub returns-then-not-is_meant-clause-wrote : goal.returns-then-not-is_meant-clause-wrote
returns-then-not-is_meant-clause-wrote g c = (
  [],
  g.O.Output.given_none c.args.out.now,
  not_meant c.args.run.now c.args.number c.args.fields.now c.args.put c.args.at c.requires.behind c.requires.within
      (sym c.is_meant.ensures ∙ c.if-not-is_meant.true),
)

-- it says no label
pub returns-in-None-clause-wrote : goal.returns-in-None-clause-wrote
returns-in-None-clause-wrote g c =
    let labels = c.args.run.now.labels in
    let field = drop c.args.at c.args.fields.now in
    let rest = take_rest c.args.fields.now c.args.at in
    let from = rw rest at c.column_in-from.ensures.from in
    let count = rw rest at c.column_in-from.ensures.count in
    let most = rw rest at c.column_in-from.ensures.most in
    let says = rw (rest, c.base.ensures, c.way.ensures.value, c.in-None.is) at c.answer_column.ensures in (
      [],
      g.O.Output.given_none c.args.out.now,
      no_answer c.args.run.now c.args.number c.args.fields.now c.args.put c.args.at c.requires.behind c.requires.within
          (sym c.is_meant.ensures ∙ c.if-not-is_meant.false)
          (ap (answer_to labels.base labels.way) (sym (column_cut field _ _ from count)) ∙ sym says),
    )

-- it has an answer
pub returns-in-Some-clause-wrote : goal.returns-in-Some-clause-wrote
returns-in-Some-clause-wrote g c =
    let labels = c.args.run.now.labels in
    let field = drop c.args.at c.args.fields.now in
    let rest = take_rest c.args.fields.now c.args.at in
    let from = rw rest at c.column_in-from.ensures.from in
    let count = rw rest at c.column_in-from.ensures.count in
    let most = rw rest at c.column_in-from.ensures.most in
    let says = rw (rest, c.base.ensures, c.way.ensures.value, c.in-Some.is) at c.answer_column.ensures in (
      _,
      g.O.Output.given_more _ _ _ _ _ c.gather.ensures c.gather-in-Some.ensures,
      rw c.deref.ensures.0 (answer_in c.args.run.now c.args.number c.args.fields.now c.in-Some.answer.items c.args.put
          c.args.at c.column_in-from.result.0 c.column_in-from.result.1 c.requires.behind
          (omega (arith, most, c.requires.within, length-drop c.args.at c.args.fields.now)) from count
          (sym c.is_meant.ensures ∙ c.if-not-is_meant.false)
          (ap (answer_to labels.base labels.way) (sym (column_cut field _ _ from count)) ∙ sym says)),
    )
