use Rattle.std.proofs.Common.{◌++◌, ◌+◌, [], List, ℕ, ap, subst, inl, sym, ◌∙◌, drop, get_or}
use Rattle.label_command.specs.KeptSums.{Stands}
use Rattle.label_command.specs.Sums.{along_sum}
use Rattle.label_text.specs.declared.reader.LineRead.{LineRead}
use Rattle.label_text.specs.LabelText.{after}
use Rattle.lemmas.specs.Lists.{first_and_rest, first_only}
use Rattle.tc_command.specs.declared.halt.Halt.TheVariants as halts
use Rattle.tc_command.specs.declared.input_fault.InputFault.TheVariants.{Labels}
use Rattle.tc_command.specs.Halt.{IsHalt}
use Rattle.label_command.proofs.AnswersGrow.{a_line_less, fewer_left}
use Rattle.label_command.proofs.SumsGrow.{a_fault, adding_on, none_more, one_more, the_limit}
use Rattle.label_command.proofs.sums.LabelSumEngine.take.Goals as goal

-- the line goes on
pub returns-in-Nothing-clause-works : goal.returns-in-Nothing-clause-works
returns-in-Nothing-clause-works g c = λ front written stands.
    let s = c.args.self.now in
    let byte = get_or c.args.bytes.now 0 0 in
    let is = sym c.take.ensures.said ∙ c.in-Nothing.is in (
      [],
      g.O.Output.given_none c.args._out.now,
      subst (λ (l : List ℕ). Stands (record s { reader = c.take.new.self }) (front ++ l) (written ++ []))
          (first_only c.args.bytes.now c.requires.some)
          (none_more c.bytes_are_read_in_order.ensures.good s c.take.new.self front written stands byte is
          (c.take.ensures.next ∙ ap (λ (r : LineRead). after r byte s.reader) is)),
    )

pub returns-in-Nothing-clause-going : goal.returns-in-Nothing-clause-going
returns-in-Nothing-clause-going g c =
    let byte = get_or c.args.bytes.now 0 0 in
    let is = sym c.take.ensures.said ∙ c.in-Nothing.is in
    adding_on c.args.self.now c.take.new.self byte c.requires.going c.take.ensures.valid
    (c.take.ensures.next ∙ ap (λ (r : LineRead). after r byte c.args.self.now.reader) is)

pub returns-in-Nothing-clause-budget : goal.returns-in-Nothing-clause-budget
returns-in-Nothing-clause-budget g c = λ some.
    let byte = get_or c.args.bytes.now 0 0 in
    let is = sym c.take.ensures.said ∙ c.in-Nothing.is in
    fewer_left c.args.self.now.reader c.take.new.self byte c.take.ensures.valid
    (c.take.ensures.next ∙ ap (λ (r : LineRead). after r byte c.args.self.now.reader) is)

-- a label was added
pub returns-in-Label-clause-works : goal.returns-in-Label-clause-works
returns-in-Label-clause-works g c = λ front written stands.
    let s = c.args.self.now in
    let byte = get_or c.args.bytes.now 0 0 in
    let label = c.in-Label.label in
    let is = sym c.take.ensures.said ∙ c.in-Label.is in (
      [],
      g.O.Output.given_none c.args._out.now,
      subst (λ (l : List ℕ). Stands (record s { reader = c.take.new.self; sum = s.sum + c.from.result }) (front ++ l)
          (written ++ []))
          (first_only c.args.bytes.now c.requires.some)
          (one_more c.bytes_are_read_in_order.ensures.good s c.take.new.self _ front written stands byte label is
          (c.take.ensures.next ∙ ap (λ (r : LineRead). after r byte s.reader) is)
          (ap (λ (n : ℕ). s.sum + n) (c.from.ensures ∙ c.number.ensures.before))),
    )

pub returns-in-Label-clause-budget : goal.returns-in-Label-clause-budget
returns-in-Label-clause-budget g c = λ some.
    let byte = get_or c.args.bytes.now 0 0 in
    let is = sym c.take.ensures.said ∙ c.in-Label.is in
    a_line_less c.args.self.now.reader c.take.new.self byte c.in-Label.label c.requires.going.place c.take.ensures.valid
    (c.take.ensures.next ∙ ap (λ (r : LineRead). after r byte c.args.self.now.reader) is)

-- the line says no label
pub returns-in-Fault-clause-halts : goal.returns-in-Fault-clause-halts
returns-in-Fault-clause-halts g c = λ front written stands.
    let s = c.args.self.now in
    let bytes = c.args.bytes.now in
    let fault = c.in-Fault.fault in
    let is = sym c.take.ensures.said ∙ c.in-Fault.is in (
      [],
      g.O.Output.given_none c.args._out.now,
      subst (λ (l : List ℕ). IsHalt (along_sum s.base) (halts.Refused (Labels fault)) (front ++ l) (written ++ []))
          (first_and_rest bytes c.requires.some)
          (a_fault c.bytes_are_read_in_order.ensures.good s front written stands (get_or bytes 0 0) (drop 1 bytes) fault
          is),
    )

-- or there is a line too many
pub returns-in-Limit-clause-halts : goal.returns-in-Limit-clause-halts
returns-in-Limit-clause-halts g c = λ front written stands.
    let s = c.args.self.now in
    let bytes = c.args.bytes.now in
    let is = sym c.take.ensures.said ∙ c.in-Limit.is in (
      [],
      g.O.Output.given_none c.args._out.now,
      subst (λ (l : List ℕ). IsHalt (along_sum s.base) halts.Limit (front ++ l) (written ++ []))
          (first_and_rest bytes c.requires.some)
          (inl (the_limit c.bytes_are_read_in_order.ensures.good s front written stands (get_or bytes 0 0)
          (drop 1 bytes) is)),
    )
