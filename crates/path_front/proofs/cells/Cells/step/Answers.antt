use Rattle.std.proofs.Common.{rules, ◌∷◌, length, FitsSigned, to_z-of_z, ap, subst, sym, arith}
use Rattle.std.specs.Int.{w32}
use Rattle.cell_path.specs.Decisions.{DecisionsStandFor}
use Rattle.path_front.specs.declared.steps.Heard.{Heard}
use Rattle.path_front.specs.Cells.{plain, CellsStandFor}
use Rattle.path_front.specs.Latest.{LatestStandFor}
use Rattle.path_front.specs.Steps.{path_steps}
use Rattle.path_front.proofs.CellsNext.{within_more}
use Rattle.path_front.proofs.cells.Cells.step.Goals as goal

pub returns-clause-stands : goal.returns-clause-stands
unfolding path_steps
returns-clause-stands c = λ samples given stand_now.
    let i = c.self.inside in
    let stand = subst (λ s. CellsStandFor s samples given) (sym c.self.view_is) stand_now in
    let sounds = stand.sounds in
    let heard = c.in-Some.heard in
    let g = c.in-Some.ensures.gives samples sounds stand.steps in
    let a : FitsSigned w32 heard.sound = search rules in
    let pushed = (rw (to_z-of_z a) at c.push.ensures.stands) (plain sounds) stand.latest in
    let fed = c.feed.ensures.stands (path_steps sounds) given stand.decisions in
    record {
      sounds = g.0 ∷ sounds;
      steps = g.2;
      latest = subst (λ x. LatestStandFor c.push.new.self (x ∷ plain sounds)) (ap (λ (h : Heard). h.sound) g.1) pushed;
      decisions = subst (λ s. DecisionsStandFor c.feed.new.self (s ∷ path_steps sounds) given)
          (ap (λ (h : Heard). h.step) g.1) fed;
      within = within_more (length sounds) (length (g.0 ∷ sounds)) given (omega arith) stand.within;
    }
