use Rattle.std.proofs.Common.{◌≡◌, ◌-◌, ◌++◌, ℤ, List, take}
use Rattle.pcm_front.specs.Distance.{distances_by}
use Rattle.pcm_front.specs.StandsFor.{passed_of, settings_of, StandsFor}
use Rattle.pcm_front.proofs.Passing.{brought_by, passes_as}
use Rattle.pcm_front.proofs.UpTo.{if_both, none_both}
use Rattle.pcm_front.proofs.slicer.Slicer.intervals_of_samples.Goals as goal

pub returns-clause-intervals : goal.returns-clause-intervals
returns-clause-intervals c = λ front stands.
    let e = c.run_samples-count.ensures in
    let taken = take c.run_samples-count.result.0 c.args.samples.now in
    brought_by c.args.pace c.args.self.now c.run_samples-count.new.self front taken c.run_samples-count.result.1
    c.intervals.result c.passed_at-before.result
    c.passed_at.result e.settings c.passed_at-before.ensures c.passed_at.ensures stands (e.stands front stands)
    (e.distances front stands) c.intervals.ensures.intervals

pub intervals-requires-clause-passes : goal.intervals-requires-clause-passes
intervals-requires-clause-passes c =
    let e = c.run_samples-count.ensures in
    passes_as c.args.pace (passed_of c.args.self.now) c.run_samples-count.result.1
    (passed_of c.run_samples-count.new.self) c.passed_at-before.result c.passed_at.result
    c.passed_at-before.ensures c.passed_at.ensures e.range e.passes

pub returns-clause-all : goal.returns-clause-all
returns-clause-all c =
    λ none. c.run_samples-count.ensures.all
    (none_both c.intervals.result.rest c.run_samples-count.result.1 c.intervals.ensures.ended none)

pub returns-clause-last : goal.returns-clause-last
returns-clause-last c =
    let s = settings_of c.args.self.now in
    if_both c.intervals.result.rest c.run_samples-count.result.1 ((front : List ℤ) → StandsFor c.args.self.now front
    → distances_by s (front ++ take (c.run_samples-count.result.0 - 1) c.args.samples.now) ≡ distances_by s front)
    c.intervals.ensures.ended c.run_samples-count.ensures.last
