use Rattle.pcm_front.proofs.UpTo.{run_passes}
use Rattle.pcm_front.proofs.slicer.Slicer.pass.Goals as goal

pub returns-then-is_alone-clause-passes : goal.returns-then-is_alone-clause-passes
returns-then-is_alone-clause-passes g c =
    let window = c.args.self.now.window in
    run_passes c.args.self.now.finder c.pass_alone.new.self window window _ c.pass_alone.ensures.latest
    (c.pass_alone.ensures.runs window (c.is_alone.ensures.alone c.if-is_alone.true))

pub returns-then-is_alone-clause-runs : goal.returns-then-is_alone-clause-runs
returns-then-is_alone-clause-runs g c = c.pass_alone.ensures.runs c.args.self.now.window
    (c.is_alone.ensures.alone c.if-is_alone.true)
