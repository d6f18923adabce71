use Rattle.std.specs.Int.{w32}
use Rattle.std.proofs.Common.{FitsSigned, rules, ◌+◌, arith, to_z-of_z}
use Rattle.pcm_front.specs.State.{state_of, FinderState}
use Rattle.pcm_front.proofs.StaysKept.{kept_crossed}
use Rattle.pcm_front.proofs.finder.Finder.cross.Goals as goal

pub invariant_of-self : goal.invariant_of-self
invariant_of-self c =
    let s = c.self.inside in
    let start : FinderState = state_of s.fineness s.threshold s.start s.tick s.before s.level s.side s.latest in
    let fits : FitsSigned w32 c.args.sum = search rules in
    rw (to_z-of_z fits) (kept_crossed start (s.tick + c.from-2.result) (s.tick + c.from.result) c.args.sum c.args.side
    c.self.invariant
    (omega (arith, c.from.ensures, c.from-2.ensures, c.tick_to-tick.ensures.most)) c.requires.sum)
