use Rattle.std.proofs.Common.{rules, FitsSigned, to_z-of_z, subst, sym}
use Rattle.std.specs.Int.{w16}
use Rattle.path_front.specs.Cells.{CellsStandFor}
use Rattle.path_front.proofs.cells.Cells.feed.Goals as goal

pub returns-clause-stands : goal.returns-clause-stands
returns-clause-stands c = λ samples given stand_now.
    let stand = subst (λ s. CellsStandFor s samples given) (sym c.self.view_is) stand_now in
    let a : FitsSigned w16 c.args.sample = search rules in
    record {
      sounds = stand.sounds;
      steps = (rw (to_z-of_z a) at c.feed.ensures.stands) samples stand.sounds stand.steps;
      latest = stand.latest;
      decisions = stand.decisions;
      within = stand.within;
    }
