use Rattle.std.specs.Int.{w16}
use Rattle.std.proofs.Common.{FitsSigned, rules, ◌≡◌, ◌+◌, ◌-◌, ◌<◌, ℤ, List, ◌++◌, None, take, length, sym, ◌∙◌, arith}
use Rattle.std.proofs.Common.{to_z-of_z}
use Rattle.pcm_front.specs.Distance.{distances_by}
use Rattle.pcm_front.specs.StandsFor.{settings_of, StandsFor}
use Rattle.pcm_front.proofs.Together.{none_yet, room_for_one}
use Rattle.pcm_front.proofs.UpTo.{if_some, none_before, none_is, one_more_to, passed_to, room_left}
use Rattle.pcm_front.proofs.slicer.Slicer.up_to_distance.Goals as goal

pub samples-init : goal.samples-init
samples-init g c = record {
  within = omega arith;
  passed = omega arith;
  runs = none_yet c.args.self.now.finder c.args.self.now.window;
}

pub pass-at-requires-clause-room : goal.pass-at-requires-clause-room
pass-at-requires-clause-room g c =
    let i = c.samples.invariant in
    let f = c.args.self.now.finder in
    room_left f.fineness c.samples.self.finder.fineness c.samples.self.finder.tick f.tick c.samples.at
    (g.S.Samples.list c.args.samples.now)
    i.runs.fineness i.within i.runs.tick c.requires

-- up to where the sound may leave its side
pub take-distance-requires : goal.take-distance-requires
take-distance-requires g c =
    let f = c.args.self.now.finder in
    let xs = g.S.Samples.list c.args.samples.now in
    let runs = passed_to f c.samples.self.finder c.pass-at.new.self.finder c.args.self.now.window c.samples.self.window
    c.pass-at.new.self.window
    xs c.samples.at c.pass-at.result c.pass-at.ensures.order c.samples.invariant.runs c.pass-at.ensures.runs in
    let inside : c.pass-at.result < length xs =
    omega (arith, c.pass-at.ensures.within, c.if-at-count.false, c.count-count.ensures) in
    let room = room_for_one f.fineness c.pass-at.new.self.finder.tick f.tick c.pass-at.result xs inside runs.tick
    c.requires in
    omega (arith, room, runs.fineness)

-- a distance that came
pub returns-then-is_some-clause-runs : goal.returns-then-is_some-clause-runs
returns-then-is_some-clause-runs g c =
    let f = c.args.self.now.finder in
    let xs = g.S.Samples.list c.args.samples.now in
    let fits : FitsSigned w16 c.at.result = search rules in
    let one = rw (to_z-of_z fits) at c.take-distance.ensures.runs in
    let runs = passed_to f c.samples.self.finder c.pass-at.new.self.finder c.args.self.now.window c.samples.self.window
    c.pass-at.new.self.window
    xs c.samples.at c.pass-at.result c.pass-at.ensures.order c.samples.invariant.runs c.pass-at.ensures.runs in
    let inside : c.pass-at.result < length xs =
    omega (arith, c.pass-at.ensures.within, c.if-at-count.false, c.count-count.ensures) in
    one_more_to f c.pass-at.new.self.finder c.take-distance.new.self.finder c.args.self.now.window
    c.pass-at.new.self.window
    c.take-distance.new.self.window xs c.pass-at.result c.at.result c.take-distance.result inside c.at.ensures runs one

-- it came with the last of them
pub returns-then-is_some-clause-last : goal.returns-then-is_some-clause-last
returns-then-is_some-clause-last g c =
    let f = c.args.self.now.finder in
    let w = c.args.self.now.window in
    let s = settings_of c.args.self.now in
    let xs = g.S.Samples.list c.args.samples.now in
    let runs = passed_to f c.samples.self.finder c.pass-at.new.self.finder w c.samples.self.window
    c.pass-at.new.self.window
    xs c.samples.at c.pass-at.result c.pass-at.ensures.order c.samples.invariant.runs c.pass-at.ensures.runs in
    if_some c.take-distance.result ((front : List ℤ) → StandsFor c.args.self.now front
    → distances_by s (front ++ take ((c.pass-at.result + 1) - 1) xs) ≡ distances_by s front)
    (none_before f c.pass-at.new.self.finder w c.pass-at.new.self.window xs c.pass-at.result runs)

-- none
pub samples-preserved : goal.samples-preserved
samples-preserved g c =
    let f = c.args.self.now.finder in
    let xs = g.S.Samples.list c.args.samples.now in
    let fits : FitsSigned w16 c.at.result = search rules in
    let none : c.take-distance.result ≡ None =
    none_is c.take-distance.result (sym c.is_some.ensures ∙ c.if-is_some.false) in
    let one = rw (to_z-of_z fits, none) at c.take-distance.ensures.runs in
    let passes = rw none at c.take-distance.ensures.passes in
    let runs = passed_to f c.samples.self.finder c.pass-at.new.self.finder c.args.self.now.window c.samples.self.window
    c.pass-at.new.self.window
    xs c.samples.at c.pass-at.result c.pass-at.ensures.order c.samples.invariant.runs c.pass-at.ensures.runs in
    let inside : c.pass-at.result < length xs =
    omega (arith, c.pass-at.ensures.within, c.if-at-count.false, c.count-count.ensures) in
    record {
      within = omega (arith, inside);
      passed = omega (arith, c.samples.invariant.passed, c.pass-at.ensures.passes, passes);
      runs = one_more_to f c.pass-at.new.self.finder c.take-distance.new.self.finder c.args.self.now.window
          c.pass-at.new.self.window
          c.take-distance.new.self.window xs c.pass-at.result c.at.result None inside c.at.ensures runs one;
    }

-- none of them all
pub returns-then-at-count-clause-runs : goal.returns-then-at-count-clause-runs
returns-then-at-count-clause-runs g c =
    let f = c.args.self.now.finder in
    passed_to f c.samples.self.finder c.pass-at.new.self.finder c.args.self.now.window c.samples.self.window
    c.pass-at.new.self.window
    (g.S.Samples.list c.args.samples.now) c.samples.at c.pass-at.result c.pass-at.ensures.order c.samples.invariant.runs
    c.pass-at.ensures.runs
