use Rattle.std.specs.Int.{w16}
use Rattle.std.specs.List.{AllByRecursion}
use Rattle.std.proofs.Common.{FitsSigned, ◌≡◌, ◌+◌, take, length}
use Rattle.std.specs.Prelude.{slice_range}
use Rattle.pcm_front.proofs.quiet.lanes_at.Given as goal

-- the lanes so far are the samples from the place on
abbrev pub invariant-lanes : goal.invariant-lanes
invariant-lanes g l = record {
  long : length l.lanes ≡ 32;
  fits : AllByRecursion (FitsSigned w16) l.lanes;
  so_far : take l.lane l.lanes ≡ slice_range (g.S.Samples.list l.samples) l.at (l.at + l.lane);
}
