use Rattle.std.proofs.Common.{Option, sym, subst}
use Rattle.std.specs.Option.{IfNone}
use Rattle.luma_row.specs.declared.place.Place.{Place}
use Rattle.luma_row.specs.Edges.{LiesBetween}
use Rattle.luma_row.proofs.NextEdge.{none_between}
use Rattle.luma_row.proofs.edges.between_edges.Goals as goal

pub returns-in_err-last-clause-none : goal.returns-in_err-last-clause-none
returns-in_err-last-clause-none c =
    let row = c.args.row.now in
    subst (λ (o : Option Place). IfNone o ((place : Place) → LiesBetween row place → ⊥))
    (sym c.from_residual-in_err-last.ensures)
    (none_between row c.in_ok-first.first c.in_ok-first.ensures.some c.in_err-last.ensures.none)
