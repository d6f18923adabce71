use Rattle.std.proofs.Common.{subst, sym}
use Rattle.cell_path.specs.Scores.{StandsFor}
use Rattle.cell_path.proofs.LeastLack.{best_unfinished}
use Rattle.cell_path.proofs.scores.Scores.unfinished.Goals as goal

pub returns-clause-best : goal.returns-clause-best
returns-clause-best c = λ steps path long stand_now best.
    let inside = c.self.inside in
    let stand : StandsFor (record { sums = inside.sums; rows = inside.rows; lacks = inside.lacks }) steps =
    subst (λ s. StandsFor s steps) (sym c.self.view_is) stand_now in
    best_unfinished inside.lacks steps c.least.result path c.least.ensures.latest long stand.lacks
    (c.least.ensures.least steps long stand.are stand.lacks) best
