use Rattle.std.proofs.Common.{ℤ, drop, sym, subst}
use Rattle.cell_path.specs.declared.lengths.TheConstants.{LENGTHS}
use Rattle.cell_path.specs.Marks.{IsMarked}
use Rattle.cell_path.specs.Number.{IsBestEnd}
use Rattle.cell_path.proofs.marks.Marks.best.Goals as goal

pub returns-clause-best : goal.returns-clause-best
returns-clause-best c = λ steps stand within.
    let there = c.ago-there.result.now in
    let S = drop c.args.ago steps in
    let marked : IsMarked there S =
    subst (λ m. IsMarked m S) (sym c.ago-there.ensures.value) (stand.marked c.args.ago c.requires within) in
    subst (λ p. (number : ℤ) × IsBestEnd LENGTHS S p there.best_sign number) (sym c.from.ensures) marked.best
