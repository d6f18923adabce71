use Rattle.std.proofs.Common.{[], ◌∷◌, ◌++◌, ◌∙◌, ◌-◌, ℕ, List, ap, sym, arith, take, subst}
use Rattle.std.proofs.lemmas.List.{length-take-le}
use Rattle.column_command.proofs.LineGoesOn.{at_limit, ended_line, went_on}
use Rattle.column_command.specs.KeptLine.{Stands}
use Rattle.column_command.specs.declared.columns.ColumnAnswers.{ColumnAnswers}
use Rattle.lemmas.specs.Lists.{first_only}
use Rattle.column_command.proofs.columns.ColumnAnswersEngine.take.Goals as goal

-- as many bytes were read as may be, and here is another
pub returns-then-self-eq0-clause-halts : goal.returns-then-self-eq0-clause-halts
returns-then-self-eq0-clause-halts g c = λ front written stands. (
  [],
  g.O.Output.given_none c.args.out.now,
  at_limit c.args.self.now front c.args.bytes.now written stands c.if-self-eq0.true c.requires.some,
)

-- a newline ended the line
pub returns-then-bytes-eq10-clause-works : goal.returns-then-bytes-eq10-clause-works
returns-then-bytes-eq10-clause-works g c = λ front written stands.
    let s = c.args.self.now in
    let e = c.end_line.ensures in
    let put = e.given stands.line stands.keeps in
    let n = c.end_line.new.self in
    let t : ColumnAnswers = record { run = n.run; left = n.left - 1; line = n.line; is_long = n.is_long } in
    let newline = ap (λ (b : ℕ). b ∷ []) (sym c.if-bytes-eq10.true) ∙ first_only c.args.bytes.now c.requires.some in (
      put.0,
      put.1,
      subst (λ (l : List ℕ). Stands t (front ++ l) (written ++ put.0)) newline
          (ended_line s t front written put.0 stands e.run (omega (arith, e.left, c.if-self-eq0.false)) e.short
          (e.keeps stands.line stands.keeps) put.2),
    )

-- the line goes on
pub returns-clause-works : goal.returns-clause-works
returns-clause-works g c = λ front written stands.
    let s = c.args.self.now in
    let e = c.go_on.ensures in
    let n = c.line_length-count.result in
    let i = c.line_length-count.ensures in
    let more = take n c.args.bytes.now in
    let put = e.given stands.line stands.keeps in (
      put.0,
      put.1,
      went_on s _ front written more put.0 stands e.run
          (omega (arith, e.left, i.within, length-take-le n c.args.bytes.now i.most)) i.line
          (e.keeps stands.line stands.keeps) put.2,
    )
