-- `ltc-chase`: the steps of a chase over the frames of a recording; and why such a chase loses its lock.
use Rattle.std.specs.Prelude.{◌≡◌, ℕ, suc, true, ◌-◌, ◌≤◌, List, length, map, take, slice_get, Some, None, unsigned_abs}
use Rattle.std.specs.List.{count_by}
use Rattle.chase_core.specs.declared.report.State.TheVariants.{Locked}
use Rattle.chase_core.specs.declared.report.Loss.{Loss}
use Rattle.chase_core.specs.declared.report.Loss.TheVariants.{NoCode}
use Rattle.chase_core.specs.Trace.{Traced, lock_bound}
use Rattle.chase_script.specs.TraceText.{loses, step_end_line, step_lines, trace_text}
use Rattle.code_chase.specs.CodeTrace.{code_trace}
use Rattle.code_chase.specs.Lock.{AreWhole, BringsNoCode, HasCauseOfLoss}
use Rattle.direction_reader.specs.declared.event.Event.{Event}
use Rattle.flywheel.specs.declared.frame.Frame.{Frame}
use Rattle.flywheel.specs.Marked.{AreMarked, word_of, words_in}
use Rattle.interval_file.specs.declared.header.IntervalHeader.{IntervalHeader}
use Rattle.interval_file.specs.Recording.{Recording, recording_of}
use Rattle.tc_job.specs.ChaseRun.{Chasing}
use Rattle.frame_commands.specs.declared.ltc_chase.TheConstants.{MAX_FRAMES}
use Rattle.interval_engine.specs.Along.{IsSpentOf, IsWholeOf, Printing, along_intervals}
use Rattle.frame_commands.specs.Heard.{AreHeard, AreHeardYet}
use Rattle.frame_commands.specs.HeardTape.{HearsTheTape}
use Rattle.frame_commands.specs.OfFrames.{FrameText, along_frames, frames_of, frames_until, words_heard}
use Rattle.tc_command.specs.Told.{Told}

-- the steps of a chase over these frames
abbrev pub steps_over : Chasing → List Frame → List Traced
steps_over c frames = code_trace c.label c.seed c.bound frames

-- those of the first frames, at most this many
abbrev pub first_steps : ℕ → Chasing → List Frame → List Traced
first_steps most c frames = steps_over c (take most frames)

-- the lines of the first steps, and the line that counts them; further frames pass the limit
abbrev pub lines_of_steps : Chasing → FrameText
lines_of_steps c = record {
  text = λ header frames. step_lines c.label.count 1 (first_steps MAX_FRAMES c frames);
  last = λ header intervals frames. step_end_line (length (first_steps MAX_FRAMES c frames))
      (count_by loses (first_steps MAX_FRAMES c frames));
  most = Some MAX_FRAMES;
}

-- what is written
abbrev pub chased_recording : Chasing → Printing
chased_recording c = along_frames c.flight (lines_of_steps c)

-- ---- why the lock is lost

-- each loss has its cause, by its kind: no code exactly where the frame of the step is gone or has another count; and
-- out of the window only where the frame was heard and does not join the one before it, or where the transport slipped
-- by 25 subframes or more in the step before. So if each frame behind the first is invented or joined and has the
-- chase's count, and the transport slips by at most 24 subframes, no step has a loss, and from the first step that
-- ends Locked on each error is at most half a frame; and if it slips by at most 8, the error is at most 40
-- subframes there, then 24, and then 8
pub record LosesWithCause (c : Chasing) (frames : List Frame) : Type 0 where
  pub cause : (j : ℕ) (line : Traced) (loss : Loss) → slice_get (steps_over c frames) j ≡ Some line
      → line.report.loss ≡ Some loss
      → HasCauseOfLoss c.label c.seed c.bound frames j loss
  pub no_code : (i : ℕ) (leaves line : Traced) (frame : Frame)
      → slice_get (steps_over c frames) i ≡ Some leaves → leaves.report.state ≡ Locked
      → slice_get frames (suc i) ≡ Some frame → BringsNoCode c.label.count frame
      → slice_get (steps_over c frames) (suc i) ≡ Some line → line.report.loss ≡ Some NoCode
  pub no_loss : AreWhole c.label.count frames → c.bound ≤ 24 → (j : ℕ) (line : Traced)
      → slice_get (steps_over c frames) j ≡ Some line
      → line.report.loss ≡ None
  pub near : AreWhole c.label.count frames → c.bound ≤ 24 → (first j : ℕ) (leaves line : Traced)
      → slice_get (steps_over c frames) first ≡ Some leaves → leaves.report.state ≡ Locked
      → first ≤ j → slice_get (steps_over c frames) j ≡ Some line
      → (line.report.state ≡ Locked) × (unsigned_abs line.report.error ≤ 40)
  pub nearer : AreWhole c.label.count frames → c.bound ≤ 8 → (first j : ℕ) (leaves line : Traced)
      → slice_get (steps_over c frames) first ≡ Some leaves → leaves.report.state ≡ Locked
      → first ≤ j → slice_get (steps_over c frames) j ≡ Some line
      → unsigned_abs line.report.error ≤ lock_bound (j - first)

-- what was written is the trace of the chase over the frames of the recording, in which each loss has its cause: over
-- all of them, if they are within the limit, and else over the first. If the limit is not passed before the end,
-- the frames of the words given by then are within it. The heard frames are the words of the recording, between
-- two of them and after the last at most the limit is invented, and these words tell the tape
pub record FollowsTheCode (c : Chasing) (input : Recording) (written : List ℕ) : Type 0 where
  pub header : IntervalHeader
  pub begins : input.header ≡ Some header
  pub events : List Event
  pub are_events : AreHeard c.flight.witness header.system c.flight.profile input.intervals events
  pub heard : words_in (frames_of c.flight.limit input.intervals events) ≡ map word_of (words_heard events)
  pub marked : AreMarked c.flight.limit None (frames_of c.flight.limit input.intervals events)
  pub tape : HearsTheTape c.flight.witness header.system c.flight.profile input.intervals events
  pub all : ¬ IsSpentOf (chased_recording c) input → (yet : List Event) (until : ℕ)
      → AreHeardYet c.flight.witness header.system c.flight.profile input.intervals yet until
      → length (frames_until c.flight.limit yet until) ≤ MAX_FRAMES
  pub text : written ≡ trace_text c.label.count
      (first_steps MAX_FRAMES c (frames_of c.flight.limit input.intervals events))
  pub lock : LosesWithCause c (take MAX_FRAMES (frames_of c.flight.limit input.intervals events))

-- what is written of a whole input is
abbrev pub ChasesTheInput : Chasing → Type 0
ChasesTheInput c = (input written : List ℕ) → IsWholeOf (chased_recording c) (recording_of input) written
    → FollowsTheCode c (recording_of input) written

-- what is told of it
abbrev pub told_ltc_chase : Chasing → Told
told_ltc_chase c = record {
  meaning = along_intervals (chased_recording c);
  promise = λ pulled. FollowsTheCode c (recording_of pulled);
  has_own_limit = true;
}
