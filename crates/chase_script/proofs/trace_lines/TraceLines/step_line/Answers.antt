use Rattle.std.proofs.Common.{◌≤◌, ◌+◌, ◌∷◌, drop, arith, sym, ◌∙◌, ap}
use Rattle.std.proofs.lemmas.Bool.{false≢true}
use Rattle.std.proofs.lemmas.List.{length-drop}
use Rattle.chase_core.specs.Trace.{Loop}
use Rattle.chase_script.specs.Answer.{AreRowsFor}
use Rattle.chase_script.proofs.TraceGoesOn.{at_most_one, line_of, next_row}
use Rattle.chase_script.proofs.trace_lines.TraceLines.step_line.Goals as goal

-- the next row keeps to the labels of the count
pub worked-position-requires : goal.worked-position-requires
unfolding AreRowsFor
worked-position-requires c =
    let s = c.self.inside in
    let next = next_row s.rows.items s.at c.index.result.now (rw (← c.self.view_is) at c.requires.some) c.index.ensures
    in
    let fit : AreRowsFor s.count (c.index.result.now ∷ drop (s.at + 1) s.rows.items) = rw next at c.self.invariant.3 in
    rw c.self.invariant.2 fit.0

-- and the rows behind it do
pub invariant_of-self : goal.invariant_of-self
unfolding AreRowsFor
invariant_of-self c =
    let s = c.self.inside in
    let some = rw (← c.self.view_is) at c.requires.some in
    let going = rw (← c.self.view_is) at c.requires.going in
    let next = next_row s.rows.items s.at c.index.result.now some c.index.ensures in
    let fit : AreRowsFor s.count (c.index.result.now ∷ drop (s.at + 1) s.rows.items) = rw next at c.self.invariant.3 in
    let lost : c.lost.result ≤ 1 = rw c.lost.ensures (at_most_one c.worked-position.result.0.loss) in (
      omega (arith, some, length-drop s.at s.rows.items),
      omega (arith, c.self.invariant.1, lost),
      ap (λ (l : Loop). l.chase.count) c.worked-position.ensures.after ∙ c.self.invariant.2,
      fit.1,
      λ ended. absurd (false≢true (sym going ∙ ended)),
    )

-- the line of the row, and then what is left
pub returns-clause-line : goal.returns-clause-line
returns-clause-line c =
    let s = c.self.inside in
    let some = rw (← c.self.view_is) at c.requires.some in
    let going = rw (← c.self.view_is) at c.requires.going in
    let next = next_row s.rows.items s.at c.index.result.now some c.index.ensures in
    let stepped = c.worked-position.ensures in
    rw (← c.self.view_is)
    (line_of s.place c.worked-position.new.place c.index.result.now _ _ s.at s.losses c.lost.result
    c.worked-position.result.1
    c.worked-position.result.0 s.count c.step_text.result.items s.is_ended going next c.self.invariant.2 stepped.report
    stepped.position
    stepped.after c.lost.ensures c.step_text.ensures)
