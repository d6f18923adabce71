use Rattle.std.proofs.Common.{[]}
use Rattle.path_front.specs.Steps.{path_steps}
use Rattle.path_front.proofs.cells.Cells.new.Goals as goal

pub returns-clause-stands : goal.returns-clause-stands
unfolding path_steps
returns-clause-stands c = record {
  sounds = [];
  steps = c.new.ensures.stands;
  latest = c.new-2.ensures.stands;
  decisions = c.new-3.ensures.stands;
  within = tt;
}
