use Rattle.std.proofs.Common.{◌≡◌, length, Result, Ok, Err, OnErr, ap, rules, arith}
use Rattle.tc_io.proofs.Prefixes.{front_before_failure, more_pushed}
use Rattle.tc_io.proofs.sink.push_all.Goals as goal

-- what holds at any rate holds of an error
of_an_error : {T E : Type 0} (result : Result T E) {P : Type 0} → P → OnErr result P
of_an_error (Ok _) holds = tt
of_an_error (Err _) holds = holds

-- the bytes before `at` are written, and the failed push left them
pub returns-in_err-at-clause-front : goal.returns-in_err-at-clause-front
returns-in_err-at-clause-front g c =
    of_an_error c.from_residual.result
    (front_before_failure _ _ _ c.loop-at.at c.args.bytes.now c.loop-at.invariant.appended c.in_err-at.ensures.bytes)

-- the push took the next bytes
pub loop-at-preserved : goal.loop-at-preserved
loop-at-preserved g c = record {
  within = omega (arith, c.in_ok-at.ensures.bound);
  appended = more_pushed _ _ _ c.loop-at.at c.in_ok-at.field-0 c.args.bytes.now c.loop-at.invariant.appended
      c.in_ok-at.ensures.bytes;
  same = search (rules, c.in_ok-at.ensures.cause.same);
  untold = λ none. c.in_ok-at.ensures.untold (c.loop-at.invariant.untold none);
  idle = λ none. let empty : length c.args.bytes.now ≡ 0 = ap length none in absurd (omega arith);
}
