use Rattle.std.proofs.Common.{◌≡◌, ◌+◌, ap, sym, ◌∙◌, length, arith}
use Rattle.std.specs.Prelude.{slice_range}
use Rattle.std.proofs.lemmas.List.{take_all}
use Rattle.pcm_front.proofs.RunEnds.{as_they_are}
use Rattle.pcm_front.proofs.quiet.lanes_at.Goals as goal

pub returns-clause-value : goal.returns-clause-value
returns-clause-value g c =
    let i = c.lanes.invariant in
    let all : c.lanes.lane ≡ 32 = omega (arith, c.lanes-test.false, c.lanes.auto.lane-end) in
    let whole = take_all c.lanes.lane c.lanes.lanes (omega (arith, i.long, all)) in
    as_they_are c.lanes.lanes i.fits ∙ sym whole ∙ i.so_far
    ∙ ap (λ n. slice_range (g.S.Samples.list c.args.samples.now) c.args.at (c.args.at + n)) all

pub returns-clause-long : goal.returns-clause-long
returns-clause-long g c = ap length (as_they_are c.lanes.lanes c.lanes.invariant.fits) ∙ c.lanes.invariant.long

pub returns-clause-fits : goal.returns-clause-fits
returns-clause-fits g c = rw (as_they_are c.lanes.lanes c.lanes.invariant.fits) c.lanes.invariant.fits
