-- How a command was worked between a source and a sink.
use Rattle.std.specs.Prelude.{◌≡◌, ℕ, List, false, Option, OnOk, IfErr, Result}
use Rattle.tc_command.specs.declared.stop.Stop.{Stop}
use Rattle.tc_command.specs.declared.stop.Stop.TheVariants.{WriteFault}
use Rattle.tc_command.specs.Causes.{HasSourceCause, HasOutCause, ended_with}
use Rattle.tc_command.specs.Ends.{EndsSeen}
use Rattle.tc_command.specs.Meaning.{Meaning}
use Rattle.tc_command.specs.Ran.{CameToItsEnd, StoppedBefore}

-- it came to its end, or it stopped. What a source shows: what is left to pull, how many pulls stood at its end, and
-- how many failed; and a sink: what it took, and how many pushes failed; each before the run and behind it
pub record IsWorked {S K : Type 0} (m : Meaning) (left : S → Option (List ℕ)) (at_end pulls_failed : S → ℕ)
    (taken : K → Option (List ℕ)) (pushes_failed : K → ℕ) (before after : S) (out_before out_after : K)
    (result : Result (Unit {0}) Stop) : Type 0 where
  pub ends : OnOk result (CameToItsEnd m (left before) (left after) (taken out_before) (taken out_after))
  pub stops : IfErr result
      (λ stop. StoppedBefore m stop (left before) (left after) (taken out_before) (taken out_after))
  -- by whose fault
  pub source : HasSourceCause (pulls_failed before) (pulls_failed after) result
  pub out : HasOutCause (pushes_failed out_before) (pushes_failed out_after) result
  -- the end of the input is seen once
  pub once : at_end before ≡ 0 → EndsSeen m.reads (ended_with result) (at_end after)
  -- what reads nothing leaves the source, and stops only if the output fails
  pub idle : m.reads ≡ false → after ≡ before
  pub writes : m.reads ≡ false → IfErr result (λ stop. stop ≡ WriteFault)
