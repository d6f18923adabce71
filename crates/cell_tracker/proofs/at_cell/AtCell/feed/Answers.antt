use Rattle.std.proofs.Common.{◌≡◌, [], ◌∷◌, ◌++◌, length, refl, subst, sym}
use Rattle.biphase.specs.Tolerance.{IsFirstHalf}
use Rattle.biphase.specs.Chain.{IsNextZero}
use Rattle.biphase.specs.Tolerance.{kept_by, kept_next, Fits}
use Rattle.biphase.specs.declared.cell.Cell.TheVariants.{Zero}
use Rattle.cell_tracker.specs.Stretch.{with_cell, with_break}
use Rattle.cell_tracker.specs.State.{AtCellHeld, AtCellState, MidCellState, at_cell_with, mid_cell_with}
use Rattle.cell_tracker.specs.StandsFor.{HuntingStandsFor, AtCellStandsFor, MidCellStandsFor}
use Rattle.cell_tracker.proofs.GainsOrBreaks.{gains_zero, waits, breaks}
use Rattle.cell_tracker.proofs.at_cell.AtCell.feed.Goals as goal

pub returns-then-is_zero-clause-stands : goal.returns-then-is_zero-clause-stands
returns-then-is_zero-clause-stands c = λ intervals earlier stretch stands.
    let four = c.args.four.now in
    let held : AtCellHeld = record { profile = c.self.inside.profile; reference = c.self.inside.reference } in
    let is = subst (λ (h : AtCellHeld). AtCellStandsFor (at_cell_with h four) intervals earlier stretch)
    (sym c.self.view_is) stands in
    let fits = subst (λ (h : AtCellHeld). Fits h.profile h.reference four) (sym c.self.view_is) c.requires.fits in
    let latest = kept_by held.profile held.reference four in
    let state : AtCellState = record { profile = held.profile; latest = kept_next held.profile latest c.args.x } in
    let same : state ≡ at_cell_with c.new.result c.after.new.four =
    rw (c.new.ensures, c.after.ensures.kept held.reference) refl in
    subst (λ state. AtCellStandsFor state (intervals ++ c.args.x ∷ []) earlier (with_cell (Zero c.args.x) stretch)) same
    (gains_zero _ intervals earlier stretch c.args.x is ((c.is_zero.ensures latest fits).0 c.if-is_zero.true))

pub returns-then-may_begin_one-clause-stands : goal.returns-then-may_begin_one-clause-stands
returns-then-may_begin_one-clause-stands c = λ intervals earlier stretch stands.
    let four = c.args.four.now in
    let held : AtCellHeld = record { profile = c.self.inside.profile; reference = c.self.inside.reference } in
    let is = subst (λ (h : AtCellHeld). AtCellStandsFor (at_cell_with h four) intervals earlier stretch)
    (sym c.self.view_is) stands in
    let fits = subst (λ (h : AtCellHeld). Fits h.profile h.reference four) (sym c.self.view_is) c.requires.fits in
    let latest = kept_by held.profile held.reference four in
    let state : MidCellState = record { profile = held.profile; latest = latest; half = c.args.x } in
    let same : state ≡ mid_cell_with c.new-then-may_begin_one.result four =
    rw (c.new-then-may_begin_one.ensures) refl in
    subst (λ state. MidCellStandsFor state (intervals ++ c.args.x ∷ []) earlier stretch) same
    (waits _ intervals earlier stretch c.args.x is ((c.may_begin_one.ensures latest fits).0 c.if-may_begin_one.true))

pub returns-else-may_begin_one-clause-stands : goal.returns-else-may_begin_one-clause-stands
returns-else-may_begin_one-clause-stands c = λ intervals earlier stretch stands.
    let four = c.args.four.now in
    let held : AtCellHeld = record { profile = c.self.inside.profile; reference = c.self.inside.reference } in
    let is = subst (λ (h : AtCellHeld). AtCellStandsFor (at_cell_with h four) intervals earlier stretch)
    (sym c.self.view_is) stands in
    let fits = subst (λ (h : AtCellHeld). Fits h.profile h.reference four) (sym c.self.view_is) c.requires.fits in
    let latest = kept_by held.profile held.reference four in
    let no_zero : ¬ IsNextZero held.profile latest c.args.x =
    λ zero. let is_one = (c.is_zero.ensures latest fits).1 zero in cc in
    let no_half : ¬ IsFirstHalf held.profile latest c.args.x =
    λ half. let is_one = (c.may_begin_one.ensures latest fits).1 half in cc in
    subst (λ state. HuntingStandsFor state (intervals ++ c.args.x ∷ [])
    (earlier ++ with_break (length intervals) stretch ∷ []))
    (sym c.after-else-may_begin_one.ensures)
    (breaks _ intervals earlier stretch c.args.x is no_zero no_half)
