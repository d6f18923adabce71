use Rattle.std.proofs.Common.{take, arith}
use Rattle.code_maker.proofs.SamplesOn.{rest_on, run_on}
use Rattle.code_maker.proofs.sound.put_run.Goals as goal

-- a sample more
pub run-preserved : goal.run-preserved
run-preserved c =
    let at = c.run.at in
    let next = c.put-at.result in
    record {
      least = omega (arith, c.run.invariant.least, c.put-at.ensures.count);
      most = omega (arith, c.run-test.true, c.put-at.ensures.count);
      writes = run_on c.args.made at next _ (take c.args.made c.args.samples.now) (take at c.run.samples)
          (take next c.put-at.new.samples) c.run.invariant.least c.put-at.ensures.count c.put-at.ensures.writes
          c.run.invariant.writes;
      rest = rest_on at 1 next c.args.samples.now c.run.samples c.put-at.new.samples c.put-at.ensures.count
          c.run.invariant.rest c.put-at.ensures.rest;
    }
