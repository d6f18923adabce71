use Rattle.std.proofs.Common.{◌≡◌, ◌+◌, [], ◌∷◌, ◌++◌, length, refl, subst, sym}
use Rattle.biphase.specs.Chain.{IsNextOne}
use Rattle.biphase.specs.Tolerance.{kept_by, kept_next, Fits}
use Rattle.biphase.specs.declared.cell.Cell.TheVariants.{One}
use Rattle.cell_tracker.specs.Stretch.{with_cell, with_break}
use Rattle.cell_tracker.specs.State.{AtCellState, MidCellHeld, at_cell_with, mid_cell_with}
use Rattle.cell_tracker.specs.StandsFor.{HuntingStandsFor, AtCellStandsFor, MidCellStandsFor}
use Rattle.cell_tracker.proofs.GainsOrBreaks.{gains_one, breaks_behind}
use Rattle.cell_tracker.proofs.mid_cell.MidCell.feed.Goals as goal

pub returns-then-is_one-clause-stands : goal.returns-then-is_one-clause-stands
returns-then-is_one-clause-stands c = λ intervals earlier stretch stands.
    let four = c.args.four.now in
    let profile = c.self.inside.profile in
    let reference = c.self.inside.reference in
    let half = c.self.inside.half in
    let is = subst (λ (h : MidCellHeld). MidCellStandsFor (mid_cell_with h four) intervals earlier stretch)
    (sym c.self.view_is) stands in
    let fits = subst (λ (h : MidCellHeld). Fits h.profile h.reference four) (sym c.self.view_is) c.requires.fits in
    let latest = kept_by profile reference four in
    let state : AtCellState = record { profile = profile; latest = kept_next profile latest (half + c.args.y) } in
    let same : state ≡ at_cell_with c.new-next.result c.after.new.four =
    rw (c.new-next.ensures, c.after.ensures.kept reference) refl in
    subst (λ state. AtCellStandsFor state (intervals ++ c.args.y ∷ []) earlier (with_cell (One half c.args.y) stretch))
    same
    (gains_one _ intervals earlier stretch c.args.y is ((c.is_one.ensures latest fits).0 c.if-is_one.true))

pub returns-else-is_one-clause-stands : goal.returns-else-is_one-clause-stands
returns-else-is_one-clause-stands c = λ intervals earlier stretch stands.
    let four = c.args.four.now in
    let profile = c.self.inside.profile in
    let reference = c.self.inside.reference in
    let half = c.self.inside.half in
    let is = subst (λ (h : MidCellHeld). MidCellStandsFor (mid_cell_with h four) intervals earlier stretch)
    (sym c.self.view_is) stands in
    let fits = subst (λ (h : MidCellHeld). Fits h.profile h.reference four) (sym c.self.view_is) c.requires.fits in
    let latest = kept_by profile reference four in
    let no_one : ¬ IsNextOne profile latest half c.args.y =
    λ one. let is_one = (c.is_one.ensures latest fits).1 one in cc in
    subst (λ state. HuntingStandsFor state (intervals ++ c.args.y ∷ [])
    (earlier ++ with_break (length intervals) stretch ∷ []))
    (sym c.after-else-is_one.ensures)
    (breaks_behind _ intervals earlier stretch c.args.y is no_one)
