-- A word that was heard, and a frame, in numbers. The numbers are this project's own.
use Rattle.std.specs.Prelude.{◌≡◌, ℕ}
use Rattle.flywheel.specs.declared.frame.Frame.{Frame}
use Rattle.flywheel.specs.declared.frame.Frame.TheVariants.{Heard, Invented, Gone}
use Rattle.flywheel.specs.declared.heard.HeardWord.{HeardWord}
use Rattle.flywheel.specs.Wheel.{IsInRange}
use Rattle.tc_address.specs.Label.{IsLabel}
use Rattle.tc_c.specs.CEvent.{bit, direction_number}
use Rattle.tc_c.specs.CLabel.{c_label, c_no_label, MeansLabel}
use Rattle.tc_c.specs.declared.frame.TcFrame.{TcFrame}
use Rattle.tc_c.specs.declared.heard.TcHeard.{TcHeard}

-- the numbers mean this word
pub record MeansHeard (numbers : TcHeard) (word : HeardWord) : Type 0 where
  pub range : IsInRange word
  pub label : MeansLabel numbers.label word.label
  pub direction : direction_number word.direction ≡ numbers.direction
  pub tick : word.tick ≡ numbers.tick
  pub length : word.length ≡ numbers.length

-- a frame
abbrev pub c_frame : Frame → TcFrame
c_frame (Heard label direction joined tick) = record {
  kind = 1;
  direction = direction_number direction;
  joined = bit joined;
  step = 0;
  label = c_label label;
  zero = 0;
  tick = tick;
}
c_frame (Invented label direction step tick) = record {
  kind = 2;
  direction = direction_number direction;
  joined = 0;
  step = step;
  label = c_label label;
  zero = 0;
  tick = tick;
}
c_frame (Gone tick) = record {
  kind = 3;
  direction = 0;
  joined = 0;
  step = 0;
  label = c_no_label;
  zero = 0;
  tick = tick;
}

-- numbers say this of a frame, besides its label
pub record Says (numbers : TcFrame) (kind direction joined step tick : ℕ) : Type 0 where
  pub kind_is : kind ≡ numbers.kind
  pub direction_is : direction ≡ numbers.direction
  pub joined_is : joined ≡ numbers.joined
  pub step_is : step ≡ numbers.step
  pub tick_is : tick ≡ numbers.tick
  pub zero : numbers.zero ≡ 0

-- the numbers mean this frame
abbrev pub MeansFrame : TcFrame → Frame → Type 0
MeansFrame numbers (Heard label direction joined tick) =
    Says numbers 1 (direction_number direction) (bit joined) 0 tick × MeansLabel numbers.label label
MeansFrame numbers (Invented label direction step tick) =
    Says numbers 2 (direction_number direction) 0 step tick × MeansLabel numbers.label label
MeansFrame numbers (Gone tick) = Says numbers 3 0 0 0 tick × (numbers.label ≡ c_no_label)

-- a frame's label is one of its count, where it has one
abbrev pub HasLabel : Frame → Type 0
HasLabel (Heard label direction joined tick) = IsLabel label
HasLabel (Invented label direction step tick) = IsLabel label
HasLabel (Gone tick) = Unit {0}
