-- Why a chase over recorded code loses its lock, and when it does not.
use Rattle.std.specs.Prelude.{◌≡◌, ◌≢◌, ℕ, ◌≤◌, ◌⊎◌, false, unsigned_abs, List, Some, suc, slice_get, IfSome}
use Rattle.tc_address.specs.declared.count.Count.{Count}
use Rattle.tc_address.specs.Label.{Address, IsLabel}
use Rattle.chase_core.specs.declared.report.Loss.{Loss}
use Rattle.chase_core.specs.declared.report.Loss.TheVariants.{NoCode, Window}
use Rattle.chase_core.specs.Trace.{Row}
use Rattle.flywheel.specs.declared.frame.Frame.{Frame}
use Rattle.flywheel.specs.declared.frame.Frame.TheVariants.{Heard, Invented, Gone}
use Rattle.flywheel.specs.GoOn.{position_of}
use Rattle.code_chase.specs.CodeTrace.{rows_of}

-- the frame has another count than the chase
abbrev pub HasOtherCount : Count → Frame → Type 0
HasOtherCount count (Heard label direction joined tick) = label.count ≢ count
HasOtherCount count (Invented label direction step tick) = label.count ≢ count
HasOtherCount count (Gone tick) = ⊥

-- the time code is gone there
abbrev pub IsGone : Frame → Type 0
IsGone (Heard label direction joined tick) = ⊥
IsGone (Invented label direction step tick) = ⊥
IsGone (Gone tick) = Unit {0}

-- the frame was heard, and does not join the one before it
abbrev pub IsApart : Frame → Type 0
IsApart (Heard label direction joined tick) = joined ≡ false
IsApart (Invented label direction step tick) = ⊥
IsApart (Gone tick) = ⊥

-- the frame brings no code to the chase: the time code is gone there, or has another count
abbrev pub BringsNoCode : Count → Frame → Type 0
BringsNoCode count frame = IsGone frame ⊎ HasOtherCount count frame

-- the transport slipped by 25 subframes or more: after a step at most 16 are left of the error, and 16 and 24 are 40,
-- the window
abbrev pub SlippedFar : Row → Type 0
SlippedFar row = 25 ≤ unsigned_abs row.slip

-- what a loss comes of, at a frame and behind the row before it: the loss of no code, of a frame that brings none; and
-- that of the window, of a frame that brings code, where it does not join the one before it, or where the transport
-- slipped far in the step before
abbrev pub IsCauseOf : Loss → Count → Frame → Row → Type 0
IsCauseOf NoCode count frame before = BringsNoCode count frame
IsCauseOf (Window error) count frame before = (¬ BringsNoCode count frame) × (IsApart frame ⊎ SlippedFar before)

-- the step of this place among the frames is not the first, and the loss has a cause there
pub record HasCauseOfLoss (label : Address) (seed bound : ℕ) (frames : List Frame) (j : ℕ) (loss : Loss) : Type 0 where
  pub i : ℕ
  pub behind : j ≡ suc i
  pub frame : Frame
  pub there : slice_get frames j ≡ Some frame
  pub before : Row
  pub at : slice_get (rows_of label.count seed bound frames) i ≡ Some before
  pub is : IsCauseOf loss label.count frame before

-- each frame that is no gap has a label of the day
abbrev pub HasLabel : Frame → Type 0
HasLabel frame = IfSome (position_of frame) (λ place. IsLabel place.label)

-- each of these frames has such a label
abbrev pub HaveLabels : List Frame → Type 0
HaveLabels frames = (i : ℕ) (frame : Frame) → slice_get frames i ≡ Some frame → HasLabel frame

-- every frame behind the first is invented, or joins the one before it, and has the chase's count
abbrev pub AreWhole : Count → List Frame → Type 0
AreWhole count frames = (i : ℕ) (frame : Frame) → slice_get frames (suc i) ≡ Some frame
    → (¬ BringsNoCode count frame) × (¬ IsApart frame)
