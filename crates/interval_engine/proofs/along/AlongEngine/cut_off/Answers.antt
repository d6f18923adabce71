use Rattle.std.proofs.Common.{◌≡◌, ◌++◌, ◌∙◌, ap, ◌+◌, ℕ, length, refl, Some, sym}
use Rattle.std.specs.Option.{option_map}
use Rattle.tc_command.specs.declared.input_fault.InputFault.TheVariants.{Intervals}
use Rattle.interval_file.specs.declared.fault.IntervalFileFault.TheVariants.{Truncated}
use Rattle.interval_file.specs.Grammar.{faulty, no_header}
use Rattle.interval_file.specs.Recording.{end_fault_of}
use Rattle.interval_engine.proofs.IntervalMore.{cut_is}
use Rattle.interval_engine.proofs.SoFar.{from_start}
use Rattle.interval_engine.proofs.along.AlongEngine.cut_off.Goals as goal

-- inside an interval
pub returns-in-Some : goal.returns-in-Some
returns-in-Some g c = λ few front written stands.
    let s = (rw c.in-Some.is at stands).stands in
    let bytes = c.args.bytes.now in
    let b = c.in-Some.begun in
    let short = rw c.in-Some.is at few in
    let fault = c.bytes_are_read_as_the_text_says.ensures.fault (front ++ bytes)
    (faulty s.header s.intervals (Truncated (length front + length bytes)))
    (cut_is g.B.Behind.stands b.version b.behind b.taken b.intervals c.args.self.now.choice front written s bytes
    short) in (
      c.truncated.result,
      refl,
      ap (λ o. option_map Intervals o) fault
          ∙ ap (λ (n : ℕ). Some (Intervals (Truncated (n + length bytes)))) (sym s.long)
          ∙ ap (λ f. Some f) (sym c.truncated.ensures),
    )

-- inside the header
pub returns-in-None : goal.returns-in-None
returns-in-None g c = λ few front written stands.
    let s = rw c.in-None.is at stands in
    let bytes = c.args.bytes.now in
    let short = rw c.in-None.is at few in
    let fault = c.bytes_are_read_as_the_text_says.ensures.fault bytes (no_header (Truncated (length bytes))) short in (
      c.truncated-in-None.result,
      refl,
      from_start (λ f w. option_map Intervals (end_fault_of (f ++ bytes)) ≡ Some c.truncated-in-None.result) front
          written s (ap (λ o. option_map Intervals o) fault ∙ ap (λ f. Some f) (sym c.truncated-in-None.ensures)),
    )
