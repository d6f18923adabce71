use Rattle.std.specs.Int.{w32}
use Rattle.std.specs.Prelude.{slice_range}
use Rattle.std.proofs.Common.{FitsSigned, rules, ◌+◌, ◌-◌, ◌*◌, ◌^◌, None, length, subst, refl, arith, to_z-of_z}
use Rattle.pcm_front.specs.KeptRuns.{RunsTo}
use Rattle.pcm_front.specs.State.{state_of, FinderState}
use Rattle.pcm_front.proofs.QuietRuns.{quiet_to}
use Rattle.pcm_front.proofs.StaysKept.{kept_later, ticks_within}
use Rattle.pcm_front.proofs.finder.Finder.pass_alone.Goals as goal

pub overflow_mul-self : goal.overflow_mul-self
overflow_mul-self g c =
    let s = c.self.inside in
    let room = ticks_within s.tick s.fineness c.args.at c.end_of_run-end.result
    (length (g.S.Samples.list c.args.samples.now)) (2 ^ 62)
    c.end_of_run-end.ensures.within (rw (← c.self.view_is) at c.requires.room) in
    rw c.from.ensures (omega (arith, room))

pub overflow_add-self : goal.overflow_add-self
overflow_add-self g c =
    let s = c.self.inside in
    let room = ticks_within s.tick s.fineness c.args.at c.end_of_run-end.result
    (length (g.S.Samples.list c.args.samples.now)) (2 ^ 62)
    c.end_of_run-end.ensures.within (rw (← c.self.view_is) at c.requires.room) in
    rw c.from.ensures (omega (arith, room))

pub invariant_of-self : goal.invariant_of-self
invariant_of-self g c =
    let s = c.self.inside in
    let start : FinderState = state_of s.fineness s.threshold s.start s.tick s.before s.level s.side s.latest in
    let fits : FitsSigned w32 c.last_in-self-inside.result = search rules in
    rw (to_z-of_z fits) (kept_later start (s.tick + c.from.result * (c.end_of_run-end.result - c.args.at))
    c.last_in-self-inside.result
    c.level_over-self-inside.result c.self.invariant (omega arith) c.last_in-self-inside.ensures.size
    c.level_over-self-inside.ensures.range)

pub returns-clause-runs : goal.returns-clause-runs
returns-clause-runs g c = λ window alone.
    let xs = g.S.Samples.list c.args.samples.now in
    let s = c.self.inside in
    let end = c.end_of_run-end.result in
    let start : FinderState = state_of s.fineness s.threshold s.start s.tick s.before s.level s.side s.latest in
    let fits : FitsSigned w32 s.before = search rules in
    let fits_too : FitsSigned w32 c.last_in-self-inside.result = search rules in
    let before = rw (to_z-of_z fits) at c.last_in-self-inside.ensures.value in
    let some = rw c.least.ensures.value at c.least.ensures.least in
    let quiet = rw c.least.ensures.value at c.of-band.ensures in
    let runs = quiet_to start c.of-band.result xs c.args.at end c.from.result _ c.last_in-self-inside.result
    c.level_over-self-inside.result
    c.end_of_run-end.ensures.within some quiet c.end_of_run-end.ensures.value c.from.ensures refl before
    c.level_over-self-inside.ensures.value window alone in
    let now : FinderState = record start {
      tick = s.tick + c.from.result * (end - c.args.at);
      before = c.last_in-self-inside.result;
      level = c.level_over-self-inside.result;
    } in
    rw (to_z-of_z fits_too)
    (subst (λ (was : FinderState). RunsTo was now window window (slice_range xs c.args.at end) None) c.self.view_is
    runs)
