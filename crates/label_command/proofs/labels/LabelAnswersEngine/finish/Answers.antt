use Rattle.std.proofs.Common.{◌++◌, [], List, ℕ, ap, refl, sym, ◌∙◌, append-nil}
use Rattle.std.specs.Option.{option_map}
use Rattle.label_command.specs.Labels.{answers}
use Rattle.label_lines.specs.Answer.{answer_line}
use Rattle.label_text.specs.declared.reader.LineRead.{LineRead}
use Rattle.label_text.specs.declared.reader.LineRead.TheVariants as said
use Rattle.label_text.specs.LabelText.{at_end, fault_said, reading_of}
use Rattle.tc_command.specs.declared.input_fault.InputFault.TheVariants.{Labels}
use Rattle.label_command.proofs.AnswersGrow.{answers_last, ends_so, written_so}
use Rattle.label_command.proofs.labels.LabelAnswersEngine.finish.Goals as goal

-- the line of the last label was written
pub returns-in-Label-clause-ends : goal.returns-in-Label-clause-ends
returns-in-Label-clause-ends g c = λ bytes written stands.
    let s = c.args.self.now in
    let label = c.in-Label.label in
    let line = answer_line s.run.base s.run.way label in
    let is = sym c.finish.ensures.said ∙ c.in-Label.is in (
      line,
      rw (c.deref.ensures.0 ∙ c.answer.ensures) at c.write.ensures,
      ends_so s bytes written stands (said.Label label) is refl,
      ap (λ (l : List ℕ). l ++ line) stands.are
          ∙ sym (answers_last s.run (reading_of s.run.base bytes).labels label)
          ∙ ap (answers s.run) (sym (written_so s bytes written stands (said.Label label) is)),
    )

-- the last line says no label
pub returns-in-Fault-clause-refuses : goal.returns-in-Fault-clause-refuses
returns-in-Fault-clause-refuses g c = λ bytes written stands. (
  refl,
  ap (λ (r : LineRead). option_map Labels (fault_said r))
      (ap at_end stands.place ∙ sym c.finish.ensures.said ∙ c.in-Fault.is),
)

-- no line is left
pub returns-in-Nothing-clause-ends : goal.returns-in-Nothing-clause-ends
returns-in-Nothing-clause-ends g c = λ bytes written stands.
    let s = c.args.self.now in
    let is = sym c.finish.ensures.said ∙ c.in-Nothing.is in (
      [],
      g.O.Output.given_none c.args.out.now,
      ends_so s bytes written stands said.Nothing is refl,
      append-nil written ∙ stands.are
          ∙ ap (answers s.run) (sym (append-nil (reading_of s.run.base bytes).labels)
          ∙ sym (written_so s bytes written stands said.Nothing is)),
    )

pub returns-in-Limit-clause-ends : goal.returns-in-Limit-clause-ends
returns-in-Limit-clause-ends g c = λ bytes written stands.
    let s = c.args.self.now in
    let is = sym c.finish.ensures.said ∙ c.in-Limit.is in (
      [],
      g.O.Output.given_none c.args.out.now,
      ends_so s bytes written stands said.Limit is refl,
      append-nil written ∙ stands.are
          ∙ ap (answers s.run) (sym (append-nil (reading_of s.run.base bytes).labels)
          ∙ sym (written_so s bytes written stands said.Limit is)),
    )
