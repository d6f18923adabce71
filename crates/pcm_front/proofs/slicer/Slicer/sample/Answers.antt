use Rattle.std.specs.Int.{w16}
use Rattle.std.proofs.Common.{FitsSigned, rules, to_z-of_z}
use Rattle.pcm_front.proofs.slicer.Slicer.sample.Goals as goal

pub returns-clause-stands : goal.returns-clause-stands
returns-clause-stands c =
    let fits : FitsSigned w16 c.args.sample = search rules in
    let runs = rw (to_z-of_z fits) at c.take.ensures.runs in
    runs.stands
