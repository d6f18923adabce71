use Rattle.std.specs.Int.{w16, w32}
use Rattle.std.proofs.Common.{FitsSigned, rules, to_z-of_z}
use Rattle.pcm_front.proofs.Together.{one_taken}
use Rattle.pcm_front.proofs.slicer.Slicer.take.Goals as goal

-- the step is that of a slicer that stands for the samples
pub returns-clause-runs : goal.returns-clause-runs
returns-clause-runs c =
    let fits : FitsSigned w16 c.args.sample = search rules in
    let fits_too : FitsSigned w32 c.sum_with-sum.result = search rules in
    let value = rw (to_z-of_z fits) at c.sum_with-sum.ensures.value in
    let pushed = rw (to_z-of_z fits) at c.push.ensures in
    let state = rw (to_z-of_z fits_too) at c.step-distance.ensures.state in
    let distance = rw (to_z-of_z fits_too) at c.step-distance.ensures.distance in
    one_taken c.args.self.now.finder c.step-distance.new.self c.args.self.now.window c.push.new.self c.args.sample
    c.sum_with-sum.result c.step-distance.result
    c.sum_with-sum.ensures.some value pushed state distance
