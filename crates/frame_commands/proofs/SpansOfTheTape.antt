-- The lines of spans are those of all spans of the recording's frames, and these share out the frames.
use Rattle.std.proofs.Common.{◌≡◌, ℕ, All, List, ◌++◌, map, Option, Some, None, refl, sym, ◌∙◌, ap, append_assoc}
use Rattle.std.specs.Prelude.{sum}
use Rattle.std.specs.List.{flat_map}
use Rattle.tc_address.specs.declared.system.System.{System}
use Rattle.flywheel.specs.declared.frame.Frame.{Frame}
use Rattle.flywheel.specs.declared.heard.HeardWord.{HeardWord}
use Rattle.flywheel.specs.Frames.{frames}
use Rattle.flywheel.specs.GoOn.{GoOn}
use Rattle.flywheel.specs.Marked.{word_of, words_in}
use Rattle.tape_spans.specs.InOrder.{DoNotFall, heard_ticks, span_ticks}
use Rattle.tape_spans.specs.Shared.{HoldsTogether, frames_in, present}
use Rattle.tape_spans.specs.Spans.{frames_of_spans, spans}
use Rattle.tape_spans.specs.SpanTexts.{final_lines, lines_behind, open_line}
use Rattle.tape_spans.specs.Stepped.{EndsStepped}
use Rattle.tc_job.specs.declared.flight.Flight.{Flight}
use Rattle.interval_file.specs.declared.header.IntervalHeader.{IntervalHeader}
use Rattle.interval_file.specs.Recording.{recording_of}
use Rattle.interval_engine.specs.Along.{IsWholeOf}
use Rattle.interval_engine.specs.KeptBehind.{IsWholeBehind}
use Rattle.frame_commands.specs.LtcSpans.{ShowsTheSpans, spanned_recording, spans_counted}
use Rattle.frame_commands.specs.OfFrames.{frames_of, words_heard}
use Rattle.frame_commands.proofs.TapeIsHeard.{HearTheTape}
use Rattle.frame_commands.proofs.TicksInOrder.{ComeInOrder, frames_in_order}

-- what the laws of frames and of spans say
pub record SpansLaws : Type 0 where
  pub heard : (limit last : ℕ) (words : List HeardWord) → words_in (frames limit words last) ≡ map word_of words
  pub go_on : (limit last : ℕ) (words : List HeardWord) → GoOn None (frames limit words last)
  pub all : (fs : List Frame) → GoOn None fs → present fs ≡ flat_map frames_in (frames_of_spans fs)
  pub within : (fs : List Frame) → GoOn None fs → All HoldsTogether (frames_of_spans fs)
  pub stepped : (fs : List Frame) → GoOn None fs → All EndsStepped (spans fs)
  pub last : (tick_rate : ℕ) (system : System) (fs : List Frame)
      → final_lines tick_rate system fs ++ open_line tick_rate system fs ≡ lines_behind tick_rate system None (spans fs)
  pub tape : HearTheTape
  pub order : ComeInOrder
  pub spans_order : (first last : ℕ) (fs : List Frame) → DoNotFall first (heard_ticks fs) last
      → DoNotFall first (span_ticks (spans fs)) last

behind : SpansLaws → (flight : Flight) (bytes written : List ℕ) (header : Option IntervalHeader)
    → (recording_of bytes).header ≡ header
    → IsWholeBehind (spanned_recording flight) header (recording_of bytes).intervals written
    → ShowsTheSpans flight bytes written
behind laws flight bytes written None begins is = absurd is
behind laws flight bytes written (Some header) begins is =
    let intervals = (recording_of bytes).intervals in
    let words = words_heard is.events in
    let fs = frames_of flight.limit intervals is.events in
    let on = laws.go_on flight.limit (sum intervals) words in
    let last = spans_counted intervals fs in
    let heard = laws.heard flight.limit (sum intervals) words in
    let tape = laws.tape flight.witness header.system flight.profile intervals is.events is.are_events in
    record {
      header = header;
      begins = begins;
      events = is.events;
      are_events = is.are_events;
      frames = fs;
      are_frames = refl;
      are = is.are ∙ sym (append_assoc (final_lines header.tick_rate header.system fs)
          (open_line header.tick_rate header.system fs) last)
          ∙ ap (λ (l : List ℕ). l ++ last) (laws.last header.tick_rate header.system fs);
      heard = heard;
      all = laws.all fs on;
      together = laws.within fs on;
      stepped = laws.stepped fs on;
      in_order = laws.spans_order 0 (sum intervals) fs (frames_in_order laws.order flight.witness header.system
          flight.profile intervals is.events tape fs heard);
      tape = tape;
    }

pub shows_the_spans : SpansLaws → (flight : Flight) (bytes written : List ℕ)
    → IsWholeOf (spanned_recording flight) (recording_of bytes) written
    → ShowsTheSpans flight bytes written
shows_the_spans laws flight bytes written output = behind laws flight bytes written _ refl output
