use Rattle.std.proofs.Common.{◌≤◌, [], length, ap₂, subst, sym, ◌∙◌, arith}
use Rattle.path_front.specs.Cells.{measured_cells}
use Rattle.path_front.specs.Gate.{ear_of}
use Rattle.path_front.proofs.judging.Judging.new.Goals as goal

pub returns-clause-stands : goal.returns-clause-stands
unfolding measured_cells
returns-clause-stands c = record {
  given = [];
  cells = c.new.ensures.stands;
  gate = c.new-2.ensures.stands;
  ear = c.new-2.ensures.ear ∙ c.ear_of.ensures.value ∙ sym (ap₂ ear_of c.new.ensures.grid c.new.ensures.least);
  order = c.new-2.ensures.ahead;
  few = subst (λ l. length l ≤ 8) (sym c.new-2.ensures.ahead) (omega arith);
  eight = λ is some. absurd (omega arith);
}
