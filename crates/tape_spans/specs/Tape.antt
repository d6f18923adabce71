-- What is kept of a tape as its frames come, and what the next frame makes of it.
use Rattle.std.specs.Prelude.{ℕ, ◌+◌, ◌<◌, ◌≤◌, ◌^◌, true, false, Option, Some, None, IfSome}
use Rattle.flywheel.specs.declared.frame.Frame.{Frame}
use Rattle.flywheel.specs.declared.frame.Frame.TheVariants.{Heard, Invented, Gone}
use Rattle.tape_spans.specs.declared.gap.Gap.{Gap}
use Rattle.tape_spans.specs.declared.place.OpenSpan.{OpenSpan}
use Rattle.tape_spans.specs.declared.place.TapePlace.{TapePlace}
use Rattle.tape_spans.specs.declared.place.TapePlace.TheVariants.{Before, Within, Behind}
use Rattle.tape_spans.specs.declared.place.Cut.{Cut}
use Rattle.tape_spans.specs.declared.span.Mark.{Mark}
use Rattle.tape_spans.specs.declared.span.Span.{Span}
use Rattle.tape_spans.specs.Gap.{gap_between}
use Rattle.tape_spans.specs.Spans.{mark_at}

-- where the tape is, and of the spans that have ended: how many, and how many frames were heard and bridged in them
pub record Tape : Type 0 where
  pub place : TapePlace
  pub spans : ℕ
  pub heard : ℕ
  pub bridged : ℕ

-- no frame yet
abbrev pub blank : Tape
blank = record { place = Before; spans = 0; heard = 0; bridged = 0 }

-- a span that begins, that a further heard frame joins, and in which a frame is invented: it bridges only where one is
-- heard behind it
abbrev pub begun_at : Mark → OpenSpan
begun_at mark = record { span = record { first = mark; last = mark; heard = 1; bridged = 0 }; invented = 0 }

-- a span with one more frame that was heard, and all frames bridged that were invented before it
abbrev pub joined_by : OpenSpan → Mark → OpenSpan
joined_by current mark = record {
  span = record { first = current.span.first; last = mark; heard = current.span.heard + 1; bridged = current.invented };
  invented = current.invented;
}

-- a span with one more frame that was invented
abbrev pub with_invented : OpenSpan → OpenSpan
with_invented current = record { span = current.span; invented = current.invented + 1 }

-- the tape with a place
abbrev pub placed : Tape → TapePlace → Tape
placed tape place = record { place = place; spans = tape.spans; heard = tape.heard; bridged = tape.bridged }

-- the span has ended, and the tape is at this place
abbrev pub ended_by : Tape → Span → TapePlace → Tape
ended_by tape span place =
    record {
      place = place;
      spans = tape.spans + 1;
      heard = tape.heard + span.heard;
      bridged = tape.bridged + span.bridged;
    }

-- the tape with the span that is current, counted as it is
abbrev pub counted_at : Tape → TapePlace → Tape
counted_at tape Before = tape
counted_at tape (Within current) = ended_by tape current.span (Behind current.span.last)
counted_at tape (Behind mark) = tape

-- the tape with the span at its place counted
abbrev pub counted : Tape → Tape
counted tape = counted_at tape tape.place

-- what a frame makes of a tape at a place. One that was heard and joins
abbrev pub joined_at : Tape → TapePlace → Mark → Tape
joined_at tape Before mark = tape
joined_at tape (Within current) mark = placed tape (Within (joined_by current mark))
joined_at tape (Behind last) mark = tape

-- one that was heard and does not join
abbrev pub begun_in : Tape → TapePlace → Mark → Tape
begun_in tape Before mark = placed tape (Within (begun_at mark))
begun_in tape (Within current) mark = ended_by tape current.span (Within (begun_at mark))
begun_in tape (Behind last) mark = placed tape (Within (begun_at mark))

-- one that was invented
abbrev pub invented_at : Tape → TapePlace → Tape
invented_at tape Before = tape
invented_at tape (Within current) = placed tape (Within (with_invented current))
invented_at tape (Behind last) = tape

-- the tape after the next frame
abbrev pub after_frame : Tape → Frame → Tape
after_frame tape (Heard label direction false tick) = begun_in tape tape.place (mark_at label direction tick)
after_frame tape (Heard label direction true tick) = joined_at tape tape.place (mark_at label direction tick)
after_frame tape (Invented label direction step tick) = invented_at tape tape.place
after_frame tape (Gone tick) = counted tape

-- ---- what the next frame completes

-- a frame that ends no span and no gap
abbrev pub no_cut : Cut
no_cut = record { ended = None; gap = None }

-- the span that ends at a place
abbrev pub ended_at : TapePlace → Option Span
ended_at Before = None
ended_at (Within current) = Some current.span
ended_at (Behind mark) = None

-- the gap up to a mark
abbrev pub gap_at : TapePlace → Mark → Option Gap
gap_at Before mark = None
gap_at (Within current) mark = Some (gap_between current.span.last mark)
gap_at (Behind last) mark = Some (gap_between last mark)

-- only a gap and the beginning of a span tell something
abbrev pub cut_by : Tape → Frame → Cut
cut_by tape (Heard label direction false tick) =
    record { ended = ended_at tape.place; gap = gap_at tape.place (mark_at label direction tick) }
cut_by tape (Heard label direction true tick) = no_cut
cut_by tape (Invented label direction step tick) = no_cut
cut_by tape (Gone tick) = record { ended = ended_at tape.place; gap = None }

-- ---- that the numbers have room

-- how many frames the span at this place has
abbrev pub frames_at : TapePlace → ℕ
frames_at Before = 0
frames_at (Within current) = current.span.heard + current.invented
frames_at (Behind mark) = 0

-- how many frames it has counted
abbrev pub frames_taken : Tape → ℕ
frames_taken tape = tape.heard + tape.bridged + frames_at tape.place

-- the numbers of a span are small enough for its line
pub record FitsSpan (span : Span) : Type 0 where
  pub first : span.first.tick < 2 ^ 60
  pub last : span.last.tick < 2 ^ 60
  pub heard : span.heard < 2 ^ 40
  pub bridged : span.bridged < 2 ^ 40

-- the numbers of a span that ended and of a gap are within their bounds
pub record FitsCut (cut : Cut) : Type 0 where
  pub span : IfSome cut.ended FitsSpan
  pub gap : IfSome cut.gap (λ gap. gap.ticks < 2 ^ 60)

-- the numbers of an open span are within their bounds
pub record IsOpen (current : OpenSpan) : Type 0 where
  pub first : current.span.first.tick < 2 ^ 60
  pub last : current.span.last.tick < 2 ^ 60
  pub some : 1 ≤ current.span.heard
  pub bridged : current.span.bridged ≤ current.invented

-- the numbers at a place of a tape are within their bounds
abbrev pub IsTapePlace : TapePlace → Type 0
IsTapePlace Before = Unit {0}
IsTapePlace (Within current) = IsOpen current
IsTapePlace (Behind mark) = mark.tick < 2 ^ 60

-- what is kept fits together: each span has a frame that was heard
pub record IsTape (place : TapePlace) (spans heard : ℕ) : Type 0 where
  pub at : IsTapePlace place
  pub some : spans ≤ heard

-- the tick of a frame
abbrev pub FitsTick : Frame → Type 0
FitsTick (Heard label direction joined tick) = tick < 2 ^ 60
FitsTick (Invented label direction step tick) = tick < 2 ^ 60
FitsTick (Gone tick) = tick < 2 ^ 60
