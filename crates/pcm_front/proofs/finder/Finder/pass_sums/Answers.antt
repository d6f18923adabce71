use Rattle.std.specs.Int.{w32}
use Rattle.std.specs.Prelude.{slice_range}
use Rattle.std.proofs.Common.{FitsSigned, rules, ◌+◌, ◌-◌, ◌*◌, ◌^◌, None, length, refl, subst, sym, arith, to_z-of_z}
use Rattle.pcm_front.specs.KeptRuns.{RunsTo}
use Rattle.pcm_front.specs.State.{state_of, FinderState}
use Rattle.pcm_front.proofs.StaysKept.{kept_later, ticks_within}
use Rattle.pcm_front.proofs.finder.Finder.pass_sums.Goals as goal

pub overflow_mul-self : goal.overflow_mul-self
overflow_mul-self g c =
    let s = c.self.inside in
    let room = ticks_within s.tick s.fineness c.args.at c.pass-passed.result.end
    (length (g.S.Samples.list c.args.samples.now)) (2 ^ 62)
    c.pass-passed.ensures.within (rw (← c.self.view_is) at c.requires.room) in
    rw c.from.ensures (omega (arith, room))

pub overflow_add-self : goal.overflow_add-self
overflow_add-self g c =
    let s = c.self.inside in
    let room = ticks_within s.tick s.fineness c.args.at c.pass-passed.result.end
    (length (g.S.Samples.list c.args.samples.now)) (2 ^ 62)
    c.pass-passed.ensures.within (rw (← c.self.view_is) at c.requires.room) in
    rw c.from.ensures (omega (arith, room))

pub invariant_of-self : goal.invariant_of-self
invariant_of-self g c =
    let s = c.self.inside in
    let passed = c.pass-passed.result in
    let fits : FitsSigned w32 passed.before = search rules in
    let start : FinderState = state_of s.fineness s.threshold s.start s.tick s.before s.level s.side s.latest in
    rw (to_z-of_z fits) (kept_later start (s.tick + c.from.result * (passed.end - c.args.at)) passed.before passed.level
    c.self.invariant (omega arith) c.pass-passed.ensures.before c.pass-passed.ensures.level)

pub returns-clause-runs : goal.returns-clause-runs
returns-clause-runs g c =
    let xs = g.S.Samples.list c.args.samples.now in
    let s = c.self.inside in
    let passed = c.pass-passed.result in
    let fits : FitsSigned w32 s.before = search rules in
    let fits_too : FitsSigned w32 passed.before = search rules in
    let start : FinderState = state_of s.fineness s.threshold s.start s.tick s.before s.level s.side s.latest in
    let runs = c.pass-passed.ensures.passes start
    (record { side_is = refl; threshold_is = refl; before_is = sym (to_z-of_z fits); level_is = refl }) in
    let now : FinderState =
    record start {
      tick = s.tick + s.fineness * (passed.end - c.args.at);
      before = passed.before;
      level =
          passed.level;
    } in
    rw (to_z-of_z fits_too, c.from.ensures)
    (subst (λ (was : FinderState). RunsTo was now c.args.window.now c.pass-passed.new.self
    (slice_range xs c.args.at passed.end) None) c.self.view_is runs)
