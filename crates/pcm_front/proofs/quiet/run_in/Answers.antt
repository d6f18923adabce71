use Rattle.std.proofs.Common.{ap, ◌∙◌, arith}
use Rattle.pcm_front.specs.Quiet.{first_set, lies_in}
use Rattle.pcm_front.proofs.RunEnds.{as_they_are, first_outside}
use Rattle.pcm_front.proofs.quiet.run_in.Goals as goal

pub outside-bits-requires-clause-fits : goal.outside-bits-requires-clause-fits
outside-bits-requires-clause-fits g c = let e = c.lanes_at-lanes.ensures in
    rw (as_they_are c.lanes_at-lanes.result e.fits) e.fits

pub returns : goal.returns
returns g c =
    let xs = g.S.Samples.list c.args.samples.now in
    let bits = rw (as_they_are c.lanes_at-lanes.result c.lanes_at-lanes.ensures.fits) at c.outside-bits.ensures in
    c.first_set.ensures ∙ ap (λ bits. first_set bits 32) bits
    ∙ first_outside (lies_in c.args.band) xs c.args.at 32 c.requires.within (omega arith) c.lanes_at-lanes.result
    c.lanes_at-lanes.ensures.value
