use Rattle.std.proofs.Common.{◌++◌, ◌≡◌, ◌∙◌, List, ℕ, ap}
use Rattle.column_command.proofs.LineGoesOn.{kept_line, passed_none}
use Rattle.column_command.proofs.columns.ColumnAnswers.go_on.Goals as goal

-- the line is too long: it passes
pub returns-clause-given : goal.returns-clause-given
returns-clause-given g c = λ line keeps.
    let s = c.args.self.now in
    let more = c.args.more.now in
    let kept = kept_line s line keeps c.if-self.false in
    let same : c.deref.result.now ≡ line = c.deref.ensures.0 ∙ ap (λ v. v.items) c.in-Err.ensures.err ∙ kept.1 in (
      _,
      g.O.Output.given_more _ _ _ _ _ c.gather-2.ensures c.gather-3.ensures,
      ap (λ (l : List ℕ). l ++ (c.deref.result.now ++ more)) (passed_none s line c.if-self.false)
          ∙ ap (λ (l : List ℕ). l ++ more) same,
    )
