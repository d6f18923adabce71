use Rattle.std.proofs.Common.{◌≤◌, subst, sym}
use Rattle.pcm_front.specs.KeptRuns.{PassesTo}
use Rattle.pcm_front.specs.State.{window_of, WindowState}
use Rattle.pcm_front.proofs.window.Window.pass.Goals as goal

pub pass_ring-requires-clause-more : goal.pass_ring-requires-clause-more
pass_ring-requires-clause-more g c = subst (λ (w : WindowState). 2 ≤ w.smooth) (sym c.self.view_is) c.requires.more

pub invariant_of-self : goal.invariant_of-self
invariant_of-self g c = c.pass_ring.ensures.ring

pub returns-clause-passes : goal.returns-clause-passes
returns-clause-passes g c =
    subst (λ (w : WindowState). PassesTo c.args.side c.args.threshold (g.S.Samples.list c.args.samples.now) c.args.from
    c.pass_ring.result.1 w
    (window_of c.pass_ring.result.0.smooth c.pass_ring.new.ring c.pass_ring.result.0.oldest)) c.self.view_is
    c.pass_ring.ensures.passes
