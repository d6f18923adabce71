use Rattle.std.proofs.Common.{Some, subst}
use Rattle.cell_path.specs.Decisions.{IsNear}
use Rattle.cell_path.proofs.GivesNext.{given_is_near, still_decisions}
use Rattle.cell_path.proofs.decisions.Decisions.give.Goals as goal

pub invariant_of-self-2 : goal.invariant_of-self-2
invariant_of-self-2 c = still_decisions (record {
  paths = c.self.inside.paths;
  pending = c.self.inside.pending;
  count = c.self.inside.count;
  done = c.self.inside.done;
  waiting = c.self.inside.waiting;
  last = c.self.inside.last;
}) c.pop.new.self c.in_ok-placed.placed c.self.invariant c.in_ok-placed.ensures.takes

pub returns-clause-near : goal.returns-clause-near
returns-clause-near c =
    subst (λ s. IsNear s (record {
      paths = c.self.inside.paths;
      pending = c.self.inside.pending;
      count = c.self.inside.count;
      done = c.self.inside.done;
      waiting = c.pop.new.self;
      last = Some c.in_ok-placed.placed;
    }) (record { placed = c.in_ok-placed.placed; jumps = c.jumps-jumps.result })) c.self.view_is
    (given_is_near (record {
      paths = c.self.inside.paths;
      pending = c.self.inside.pending;
      count = c.self.inside.count;
      done = c.self.inside.done;
      waiting = c.self.inside.waiting;
      last = c.self.inside.last;
    }) c.pop.new.self (record { placed = c.in_ok-placed.placed; jumps = c.jumps-jumps.result }) c.self.invariant
    c.in_ok-placed.ensures.takes c.in_ok-placed.ensures.place)
