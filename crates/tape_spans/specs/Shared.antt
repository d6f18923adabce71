-- How the spans share out the frames of a flywheel.
use Rattle.std.specs.Prelude.{◌≡◌, true, false, not, All, List, ◌∷◌}
use Rattle.std.specs.List.{filter}
use Rattle.flywheel.specs.declared.frame.Frame.{Frame}
use Rattle.flywheel.specs.declared.frame.Frame.TheVariants.{Heard}
use Rattle.flywheel.specs.GoOn.{GoOn, goes_on, position_of}
use Rattle.tape_spans.specs.declared.span.Mark.{Mark}
use Rattle.tape_spans.specs.Spans.{SpanFrames}
use Rattle.flywheel.specs.Kinds.{is_gone}

-- the frame with which a span begins: it was heard, and does not join
abbrev pub first_frame : Mark → Frame
first_frame mark = Heard mark.label mark.direction false mark.tick

-- the frames of a span
abbrev pub frames_in : SpanFrames → List Frame
frames_in s = first_frame s.first ∷ s.more

-- each frame behind the first is invented or joins, and has the next label in the direction of the one before it
pub record HoldsTogether (s : SpanFrames) : Type 0 where
  pub all : All (λ frame. goes_on frame ≡ true) s.more
  pub next : GoOn (position_of (first_frame s.first)) s.more

-- the frames that were heard or invented
abbrev pub present : List Frame → List Frame
present frames = filter (λ frame. not (is_gone frame)) frames
