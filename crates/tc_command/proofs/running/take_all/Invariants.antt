use Rattle.std.proofs.Common.{◌≡◌, ◌<◌, ◌≤◌, ◌-◌, take, length}
use Rattle.tc_command.specs.KeptBrings.{Brings}
use Rattle.tc_command.proofs.running.take_all.Given as goal

abbrev pub invariant-bytes : goal.invariant-bytes
invariant-bytes g l = record {
  within : l.at ≤ length l.bytes;
  going : g.E.Engine.is_going l.engine;
  budget : g.E.Engine.budget l.engine ≤ g.E.Engine.budget l.fn.engine;
  falls : 1 ≤ l.at → g.E.Engine.budget l.engine < g.E.Engine.budget l.fn.engine;
  choice : g.E.Engine.choice l.engine ≡ g.E.Engine.choice l.fn.engine;
  works : Brings g.O.Output.given (g.E.Engine.stands l.fn.engine) (g.E.Engine.stands l.engine) l.fn.out l.out
      (take l.at l.bytes);
}

abbrev pub decreases-bytes : goal.decreases-bytes
decreases-bytes g l = length l.bytes - l.at
