use Rattle.std.proofs.Common.{[]}
use Rattle.column_command.proofs.LineGoesOn.{is_input, last_long, last_short}
use Rattle.column_command.proofs.columns.ColumnAnswersEngine.finish.Goals as goal

-- the last line was answered
pub returns-then-not-self-clause-ends : goal.returns-then-not-self-clause-ends
returns-then-not-self-clause-ends g c = λ bytes written stands.
    let s = c.args.self.now in (
      _,
      rw c.deref.ensures.0 at c.put_line.ensures,
      is_input s bytes written stands,
      last_short s bytes written stands c.if-not-self.true,
    )

-- it is too long, and passed
pub returns-else-not-self-clause-ends : goal.returns-else-not-self-clause-ends
returns-else-not-self-clause-ends g c = λ bytes written stands.
    let s = c.args.self.now in (
      [],
      g.O.Output.given_none c.args.out.now,
      is_input s bytes written stands,
      last_long s bytes written stands c.if-not-self.false,
    )
