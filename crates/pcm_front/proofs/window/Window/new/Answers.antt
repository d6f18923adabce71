use Rattle.std.proofs.Common.{ap, arith}
use Rattle.pcm_front.proofs.Ring.{fresh_is, fresh_ring}
use Rattle.pcm_front.proofs.window.Window.new.Goals as goal

pub invariant_of-result : goal.invariant_of-result
invariant_of-result c = fresh_is c.args.smooth 15 c.requires.least c.requires.most (omega (arith, c.requires.most))

pub returns : goal.returns
returns c = ap (λ kept. record { smooth = c.args.smooth; kept = kept })
    (fresh_ring c.args.smooth 15 c.requires.least (omega (arith, c.requires.most)))
