use Rattle.std.proofs.Common.{◌++◌, ◌∷◌, ◌∙◌, [], ap, arith, refl, sym}
use Rattle.std.specs.Prelude.{not}
use Rattle.mtc_reader.specs.StandsFor.{eight_in, have_ends, padded}
use Rattle.mtc_reader.specs.Events.{row_in, window_event}
use Rattle.mtc_reader.proofs.LatestEight.{padded_event}
use Rattle.mtc_reader.proofs.PackedRow.{no_ends}
use Rattle.mtc_reader.proofs.row.Row.pass.Goals as goal

-- the quarter frame was added
pub returns-clause-keeps : goal.returns-clause-keeps
returns-clause-keeps c = λ _ before keeps. c.next-latest.ensures (padded (row_in before)) (omega arith) keeps

-- and the row carries nothing
pub returns-clause-none : goal.returns-clause-none
returns-clause-none c = λ _ before place keeps.
    let row = row_in before ++ c.args.quarter ∷ [] in
    sym (padded_event row place)
    ∙ ap (λ l. window_event l place) (sym (c.next-latest.ensures (padded (row_in before)) (omega arith) keeps))
    ∙ no_ends (eight_in c.next-latest.result) place (sym c.may_carry.ensures ∙ c.if-may_carry.false)

-- it is taken exactly where the latest eight with it do not begin and end so
pub returns-then-may_carry-clause-takes : goal.returns-then-may_carry-clause-takes
returns-then-may_carry-clause-takes c =
    ap not (sym c.if-may_carry.true ∙ c.may_carry.ensures
    ∙ ap have_ends (c.next-latest.ensures (eight_in c.args.self.now.latest) (omega arith) refl))

pub returns-clause-takes : goal.returns-clause-takes
returns-clause-takes c =
    ap not (sym c.if-may_carry.false ∙ c.may_carry.ensures
    ∙ ap have_ends (c.next-latest.ensures (eight_in c.args.self.now.latest) (omega arith) refl))
