use Rattle.std.specs.Int.{w16}
use Rattle.std.proofs.Common.{FitsSigned, rules, ap, ◌∙◌, arith, to_z-of_z}
use Rattle.pcm_front.specs.State.{window_after, WindowState}
use Rattle.pcm_front.proofs.window.Window.push.Goals as goal

pub put-self-inside-requires-clause-more : goal.put-self-inside-requires-clause-more
put-self-inside-requires-clause-more c = omega (arith, c.self.invariant.window.least, c.if-self-eq1.false)

pub invariant_of-self : goal.invariant_of-self
invariant_of-self c = c.put-self-inside.ensures.ring

pub returns : goal.returns
returns c =
    let fits : FitsSigned w16 c.args.sample = search rules in
    (rw (to_z-of_z fits) at c.put-self-inside.ensures.window) ∙ ap (λ (w : WindowState). window_after w c.args.sample)
    c.self.view_is
