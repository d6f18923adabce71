use Rattle.std.proofs.Common.{◌≡◌, ◌++◌, replicate, ap, subst, sym, ◌∙◌}
use Rattle.path_front.specs.Cells.{plain, CellsState, CellsStandFor}
use Rattle.path_front.specs.Latest.{LatestStandFor}
use Rattle.path_front.specs.Steps.{path_steps, sounds_of}
use Rattle.cell_path.specs.Decisions.{DecisionsEndFor}
use Rattle.path_front.proofs.cells.Cells.finish.Goals as goal

pub returns-clause-stands : goal.returns-clause-stands
returns-clause-stands c = λ samples given stand_now.
    let i = c.self.inside in
    let stand = subst (λ s. CellsStandFor s samples given) (sym c.self.view_is) stand_now in
    let none = ap (λ (s : CellsState). s.steps.left) c.self.view_is ∙ c.requires.idle.left in
    let all : stand.sounds ≡ sounds_of i.steps.grid i.steps.hold.least samples =
    sym (ap (λ n. replicate n i.steps.latest ++ stand.sounds) none) ∙ stand.steps.all in
    record {
      left = none;
      latest = subst (λ s. LatestStandFor i.latest (plain s)) all stand.latest;
      decisions = subst (λ s. DecisionsEndFor c.finish.new.self (path_steps s) given) all
          (c.finish.ensures.stands (path_steps stand.sounds) given stand.decisions);
    }
