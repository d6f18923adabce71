-- What the lines of the spans of a recording keep. No promise speaks of it.
use Rattle.std.specs.Prelude.{◌≡◌, ℕ, List}
use Rattle.flywheel.specs.declared.frame.Frame.{Frame}
use Rattle.tape_spans.specs.StandsFor.{StandsFor}
use Rattle.tape_spans.specs.Tape.{Tape}
use Rattle.tc_address.specs.declared.system.System.{System}
use Rattle.interval_file.specs.declared.header.IntervalHeader.{IntervalHeader}

-- a tape that was given these frames of a recording with this header
pub record HasTold (tape : Tape) (tick_rate : ℕ) (system : System) (header : IntervalHeader) (frames : List Frame)
    : Type 0 where
  pub stands : StandsFor tape frames
  pub rate_is : tick_rate ≡ header.tick_rate
  pub system_is : system ≡ header.system
