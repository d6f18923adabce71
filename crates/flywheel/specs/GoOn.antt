-- How a frame goes on from the one before it: an invented frame and a joined one have the next label in the same
-- direction.
use Rattle.std.specs.Prelude.{◌≡◌, Bool, true, false, List, [], ◌∷◌, Option, Some, None}
use Rattle.tc_address.specs.declared.direction.Direction.{Direction}
use Rattle.tc_address.specs.Label.{Address}
use Rattle.tc_address.specs.Numbering.{step}
use Rattle.flywheel.specs.declared.frame.Frame.{Frame}
use Rattle.flywheel.specs.declared.frame.Frame.TheVariants.{Heard, Invented, Gone}
use Rattle.flywheel.specs.Frames.{steps_in}

-- a label, and the direction in which the tape moves there
pub record Position : Type 0 where
  pub label : Address
  pub direction : Direction

-- the place of a frame, unless the time code is gone there
abbrev pub position_of : Frame → Option Position
position_of (Heard label direction joined tick) = Some (record { label = label; direction = direction })
position_of (Invented label direction step tick) = Some (record { label = label; direction = direction })
position_of (Gone tick) = None

-- the place one frame further
abbrev pub next_position : Position → Position
next_position place = record { label = step place.label (steps_in place.direction 1); direction = place.direction }

-- the frame goes on from the one before it: it is invented, or heard and joined
abbrev pub goes_on : Frame → Bool
goes_on (Heard label direction joined tick) = joined
goes_on (Invented label direction step tick) = true
goes_on (Gone tick) = false

-- where the frame goes on, there is a place before it, and it stands one frame further
abbrev pub Follows : Option Position → Frame → Type 0
Follows before frame =
    goes_on frame ≡ true → (place : Position) × (before ≡ Some place) × (position_of frame ≡ Some (next_position place))

-- each frame that goes on follows the one before it, where a place or none stands before the first
abbrev pub GoOn : Option Position → List Frame → Type 0
GoOn before [] = Unit {0}
GoOn before (frame ∷ more) = Follows before frame × GoOn (position_of frame) more
