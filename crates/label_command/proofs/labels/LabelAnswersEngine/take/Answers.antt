use Rattle.std.proofs.Common.{◌++◌, [], List, ℕ, ap, subst, inl, sym, ◌∙◌, drop, get_or}
use Rattle.label_command.specs.KeptLabels.{Stands}
use Rattle.label_command.specs.Labels.{along_labels}
use Rattle.label_lines.specs.Answer.{answer_line}
use Rattle.label_text.specs.declared.reader.LineRead.{LineRead}
use Rattle.label_text.specs.LabelText.{after}
use Rattle.lemmas.specs.Lists.{first_and_rest, first_only}
use Rattle.tc_command.specs.declared.halt.Halt.TheVariants as halts
use Rattle.tc_command.specs.declared.input_fault.InputFault.TheVariants.{Labels}
use Rattle.tc_command.specs.Halt.{IsHalt}
use Rattle.label_command.proofs.AnswersGrow.{a_fault, a_line_less, fewer_left, going_on, none_more, one_more, the_limit}
use Rattle.label_command.proofs.labels.LabelAnswersEngine.take.Goals as goal

-- the line goes on
pub returns-in-Nothing-clause-works : goal.returns-in-Nothing-clause-works
returns-in-Nothing-clause-works g c = λ front written stands.
    let s = c.args.self.now in
    let byte = get_or c.args.bytes.now 0 0 in
    let is = sym c.take.ensures.said ∙ c.in-Nothing.is in (
      [],
      g.O.Output.given_none c.args.out.now,
      subst (λ (l : List ℕ). Stands (record s { reader = c.take.new.self }) (front ++ l) (written ++ []))
          (first_only c.args.bytes.now c.requires.some)
          (none_more c.bytes_are_read_in_order.ensures.good s c.take.new.self front written stands byte is
          (c.take.ensures.next ∙ ap (λ (r : LineRead). after r byte s.reader) is)),
    )

pub returns-in-Nothing-clause-going : goal.returns-in-Nothing-clause-going
returns-in-Nothing-clause-going g c =
    going_on c.args.self.now c.take.new.self _ (get_or c.args.bytes.now 0 0) c.requires.going c.take.ensures.valid
    c.take.ensures.next

pub returns-in-Nothing-clause-budget : goal.returns-in-Nothing-clause-budget
returns-in-Nothing-clause-budget g c = λ some.
    let byte = get_or c.args.bytes.now 0 0 in
    let is = sym c.take.ensures.said ∙ c.in-Nothing.is in
    fewer_left c.args.self.now.reader c.take.new.self byte c.take.ensures.valid
    (c.take.ensures.next ∙ ap (λ (r : LineRead). after r byte c.args.self.now.reader) is)

-- the line of a label was written
pub returns-in-Label-clause-works : goal.returns-in-Label-clause-works
returns-in-Label-clause-works g c = λ front written stands.
    let s = c.args.self.now in
    let byte = get_or c.args.bytes.now 0 0 in
    let label = c.in-Label.label in
    let is = sym c.take.ensures.said ∙ c.in-Label.is in (
      answer_line s.run.base s.run.way label,
      rw (c.deref.ensures.0 ∙ c.answer.ensures) at c.gather.ensures,
      subst (λ (l : List ℕ). Stands (record s { reader = c.take.new.self }) (front ++ l)
          (written ++ answer_line s.run.base s.run.way label))
          (first_only c.args.bytes.now c.requires.some)
          (one_more c.bytes_are_read_in_order.ensures.good s c.take.new.self front written stands byte label is
          (c.take.ensures.next ∙ ap (λ (r : LineRead). after r byte s.reader) is)),
    )

pub returns-in-Label-clause-going : goal.returns-in-Label-clause-going
returns-in-Label-clause-going g c =
    going_on c.args.self.now c.take.new.self _ (get_or c.args.bytes.now 0 0) c.requires.going c.take.ensures.valid
    c.take.ensures.next

pub returns-in-Label-clause-budget : goal.returns-in-Label-clause-budget
returns-in-Label-clause-budget g c = λ some.
    let byte = get_or c.args.bytes.now 0 0 in
    let is = sym c.take.ensures.said ∙ c.in-Label.is in
    a_line_less c.args.self.now.reader c.take.new.self byte c.in-Label.label c.requires.going.place c.take.ensures.valid
    (c.take.ensures.next ∙ ap (λ (r : LineRead). after r byte c.args.self.now.reader) is)

-- the line says no label
pub returns-in-Fault-clause-halts : goal.returns-in-Fault-clause-halts
returns-in-Fault-clause-halts g c = λ front written stands.
    let s = c.args.self.now in
    let bytes = c.args.bytes.now in
    let fault = c.in-Fault.fault in
    let is = sym c.take.ensures.said ∙ c.in-Fault.is in (
      [],
      g.O.Output.given_none c.args.out.now,
      subst (λ (l : List ℕ). IsHalt (along_labels s.run) (halts.Refused (Labels fault)) (front ++ l) (written ++ []))
          (first_and_rest bytes c.requires.some)
          (a_fault c.bytes_are_read_in_order.ensures.good s front written stands (get_or bytes 0 0) (drop 1 bytes) fault
          is),
    )

-- or there is a line too many
pub returns-in-Limit-clause-halts : goal.returns-in-Limit-clause-halts
returns-in-Limit-clause-halts g c = λ front written stands.
    let s = c.args.self.now in
    let bytes = c.args.bytes.now in
    let is = sym c.take.ensures.said ∙ c.in-Limit.is in (
      [],
      g.O.Output.given_none c.args.out.now,
      subst (λ (l : List ℕ). IsHalt (along_labels s.run) halts.Limit (front ++ l) (written ++ []))
          (first_and_rest bytes c.requires.some)
          (inl (the_limit c.bytes_are_read_in_order.ensures.good s front written stands (get_or bytes 0 0)
          (drop 1 bytes) is)),
    )
