use Rattle.std.proofs.Common.{[], ◌∷◌, ◌++◌, refl}
use Rattle.column_command.proofs.LineGoesOn.{ends_short}
use Rattle.column_command.specs.Written.{written_line}
use Rattle.column_command.proofs.columns.ColumnAnswers.end_line.Goals as goal

-- its answers, and its newline
pub returns-clause-given : goal.returns-clause-given
returns-clause-given g c = λ line keeps.
    let s = c.args.self.now in
    let put = rw c.deref.ensures.0 at c.put_line.ensures in (
      written_line s.run s.line.items ++ 10 ∷ [],
      g.O.Output.given_more _ _ _ _ _ put c.gather-2.ensures,
      ends_short s line _ keeps c.if-self.false refl,
    )
