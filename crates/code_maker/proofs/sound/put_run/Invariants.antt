use Rattle.std.proofs.Common.{◌≡◌, ◌+◌, ◌-◌, ◌≤◌, ◌++◌, take, drop}
use Rattle.std.specs.Prelude.{replicate}
use Rattle.code_maker.proofs.sound.put_run.Given as goal

abbrev pub invariant-run : goal.invariant-run
invariant-run l = record {
  least : l.fn.made ≤ l.at;
  most : l.at ≤ l.fn.made + l.fn.count;
  writes : take l.at l.samples ≡ take l.fn.made l.fn.samples ++ replicate (l.at - l.fn.made) l.fn.sample;
  rest : drop l.at l.samples ≡ drop l.at l.fn.samples;
}

abbrev pub decreases-run : goal.decreases-run
decreases-run l = l.fn.made + l.fn.count - l.at
