-- The spans of a tape, from its frames. The rule is this project's own.
use Rattle.std.specs.Prelude.{ℕ, ◌+◌, Bool, true, false, not, ◌&&◌, cond, List, [], ◌∷◌, ◌++◌, map, fold}
use Rattle.std.specs.List.{count_by, list_any, take_while}
use Rattle.tc_address.specs.declared.direction.Direction.{Direction}
use Rattle.tc_address.specs.Label.{Address}
use Rattle.flywheel.specs.declared.frame.Frame.{Frame}
use Rattle.flywheel.specs.declared.frame.Frame.TheVariants.{Heard, Invented, Gone}
use Rattle.flywheel.specs.GoOn.{goes_on}
use Rattle.tape_spans.specs.declared.span.Mark.{Mark}
use Rattle.tape_spans.specs.declared.span.Span.{Span}
use Rattle.flywheel.specs.Kinds.{is_heard, is_invented}

-- a mark, by its parts
abbrev pub mark_at : Address → Direction → ℕ → Mark
mark_at label direction tick = record { label = label; direction = direction; tick = tick }

-- where frames stand in the list: the frame that was heard first, those that go on from it, up to the first that does
-- not, and whether one that does not stands behind them, so that the span has ended
pub record SpanFrames : Type 0 where
  pub first : Mark
  pub more : List Frame
  pub has_ended : Bool

-- the frames behind a heard one that go on from it
abbrev pub span_at : Mark → List Frame → SpanFrames
span_at first behind = record {
  first = first;
  more = take_while goes_on behind;
  has_ended = list_any (λ frame. not (goes_on frame)) behind;
}

-- a frame begins a span where it was heard and does not join
abbrev pub begun_by : Frame → List Frame → List SpanFrames
begun_by (Heard label direction false tick) behind = span_at (mark_at label direction tick) behind ∷ []
begun_by (Heard label direction true tick) behind = []
begun_by (Invented label direction step tick) behind = []
begun_by (Gone tick) behind = []

-- the spans of a list of frames, in order
unfoldable pub frames_of_spans : List Frame → List SpanFrames
frames_of_spans [] = []
frames_of_spans (frame ∷ behind) = begun_by frame behind ++ frames_of_spans behind

-- ---- what is said of a span

-- the latest frame that was heard, where this one comes behind a mark
abbrev pub latest_of : Mark → Frame → Mark
latest_of mark (Heard label direction joined tick) = mark_at label direction tick
latest_of mark (Invented label direction step tick) = mark
latest_of mark (Gone tick) = mark

-- how many frames were invented before one that was heard
unfoldable pub bridged_in : List Frame → ℕ
bridged_in [] = 0
bridged_in (frame ∷ behind) = cond (is_invented frame && list_any is_heard behind) 1 0 + bridged_in behind

-- the frame heard first and the one heard last, how many were heard, and how many were invented between two of them:
-- those behind the last one heard count for nothing
abbrev pub span_of : SpanFrames → Span
span_of s = record {
  first = s.first;
  last = fold latest_of s.first s.more;
  heard = 1 + count_by is_heard s.more;
  bridged = bridged_in s.more;
}

-- the spans of a list of frames
abbrev pub spans : List Frame → List Span
spans frames = map span_of (frames_of_spans frames)
