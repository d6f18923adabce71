use Rattle.std.proofs.Common.{◌≡◌, [], ◌∙◌, ◌++◌, ap, arith, Some, refl, subst, sym}
use Rattle.std.specs.Option.{option_map}
use Rattle.tc_io.specs.Verdict.{verdict_as}
use Rattle.tc_command.specs.declared.input_fault.InputFault.TheVariants.{Intervals}
use Rattle.interval_file.specs.declared.fault.IntervalFileFault.TheVariants.{Truncated}
use Rattle.interval_file.specs.Grammar.{file, no_header}
use Rattle.interval_file.specs.Recording.{end_fault_of}
use Rattle.interval_engine.specs.Along.{IsWholeOf}
use Rattle.interval_engine.proofs.SoFar.{from_start}
use Rattle.interval_engine.proofs.along.AlongEngine.finish.Goals as goal

-- the whole recording
pub returns-in-Some-clause-ends : goal.returns-in-Some-clause-ends
returns-in-Some-clause-ends g c = λ bytes written stands.
    let within = rw c.in-Some.is at stands in
    let s = within.stands in
    let choice = c.args.self.now.choice in
    let last = c.finish.ensures choice s.header s.intervals written s.wrote in
    let fault = c.bytes_are_read_as_the_text_says.ensures.fault bytes (file s.header s.intervals) s.file in (
      last.0,
      last.1,
      record {
        verdict = ap (λ r. verdict_as Intervals r.verdict) s.read;
        unspent = within.unspent;
        end = ap (λ o. option_map Intervals o) fault;
      },
      subst (λ r. IsWholeOf (g.B.Behind.printing choice) r (written ++ last.0)) (sym s.read) last.2,
    )

-- nothing at all
pub returns-in-None-clause-refuses : goal.returns-in-None-clause-refuses
returns-in-None-clause-refuses g c = λ bytes written stands.
    let fault = c.bytes_are_read_as_the_text_says.ensures.fault [] (no_header (Truncated 0))
    (refl, record { short = omega arith; before = tt }) in (
      refl,
      from_start (λ b w. option_map Intervals (end_fault_of b) ≡ Some c.truncated.result) bytes written
          (rw c.in-None.is at stands)
          (ap (λ o. option_map Intervals o) fault ∙ ap (λ f. Some f) (sym c.truncated.ensures)),
    )
