use Rattle.std.proofs.Common.{ℕ, List, ap, ◌∙◌}
use Rattle.cell_path.specs.declared.cell.Sign.{Sign}
use Rattle.cell_path.specs.declared.cell.Sign.TheVariants.{Plus, Minus}
use Rattle.cell_path.specs.declared.cell.Step.{Step}
use Rattle.cell_path.specs.Marks.{marked_bit, marked_way}
use Rattle.cell_path.specs.Started.{AreStartsOf, IsStarted}
use Rattle.cell_path.proofs.OneMoreLength.{one_more_start}
use Rattle.cell_path.proofs.starts.begin.Goals as goal

pub mark-four-requires-clause-plus : goal.mark-four-requires-clause-plus
mark-four-requires-clause-plus c = λ step within. c.requires.bits step c.args.place Plus within c.requires.place

pub mark-four-requires-clause-minus : goal.mark-four-requires-clause-minus
mark-four-requires-clause-minus c = λ step within. c.requires.bits step c.args.place Minus within c.requires.place

pub returns : goal.returns
returns c = record {
  started = λ first levels costs so_far.
      let put = c.put.ensures in
      let comes : (sign : Sign) (step : ℕ) (steps : List Step)
      → AreStartsOf c.args.ends.now c.args.best levels steps step
      → IsStarted steps c.put.new.self c.keep.new.marks c.args.ends.now c.args.place sign step =
      λ sign step steps are.
      let within = are.within in
      let p = c.best_start-plus.ensures.starts levels step steps costs are in
      let m = c.best_start-minus.ensures.starts levels step steps costs are in
      let marks = c.mark-four.ensures.marked step within in
      let here = c.keep.ensures.here step in
      elim sign as (λ s. IsStarted steps c.put.new.self c.keep.new.marks c.args.ends.now c.args.place s step) [
        | Plus ↦ record {
          number = p.number;
          way = p.way;
          is = p.is;
          kept = put.plus step within ∙ p.kept;
          marked = ap (λ k. marked_way k Plus) here ∙ marks.plus_way ∙ p.code;
          bit = ap (λ k. marked_bit k Plus) here ∙ marks.plus;
        }
        | Minus ↦ record {
          number = m.number;
          way = m.way;
          is = m.is;
          kept = put.minus step within ∙ m.kept;
          marked = ap (λ k. marked_way k Minus) here ∙ marks.minus_way ∙ m.code;
          bit = ap (λ k. marked_bit k Minus) here ∙ marks.minus;
        }
      ] in
      one_more_start first c.args.rows.now c.put.new.self c.args.marks.now c.keep.new.marks c.args.ends.now c.args.best
      levels c.args.place so_far comes put.others c.keep.ensures.others put.keeps;
}
