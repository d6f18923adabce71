-- What is made of the frames of some intervals comes first, whatever intervals follow: later words are heard later,
-- so the frames up to the end of
-- those intervals come first, and each sink of frames only adds to what it wrote.
use Rattle.std.proofs.Common.{◌≡◌, ℕ, ◌+◌, ◌<◌, ◌≤◌, List, [], ◌∷◌, ◌++◌, length, take, refl, sym, ◌∙◌, ap}
use Rattle.std.proofs.Common.{arith}
use Rattle.std.proofs.Common.{append_assoc, append-nil}
use Rattle.std.specs.Prelude.{All}
use Rattle.std.specs.List.{flat_map}
use Rattle.std.proofs.lemmas.Grind.{flat_map-append}
use Rattle.std.proofs.lemmas.List.{take-append-le}
use Rattle.std.proofs.lemmas.List.Elements.{All-append, All-cons, All-head, All-nil, All-tail}
use Rattle.lemmas.specs.Lists.{first_items}
use Rattle.chase_core.specs.Trace.{Traced}
use Rattle.chase_script.specs.TraceText.{step_line, step_lines}
use Rattle.direction_reader.specs.declared.event.Event.{Event}
use Rattle.direction_reader.specs.declared.event.Event.TheVariants.{Word, Refused, Lost}
use Rattle.direction_reader.specs.Events.{tick_of}
use Rattle.flywheel.specs.declared.frame.Frame.{Frame}
use Rattle.flywheel.specs.declared.heard.HeardWord.{HeardWord}
use Rattle.flywheel.specs.Frames.{frames}
use Rattle.quarter_frame.specs.Runs.{mtc_of}
use Rattle.tc_address.specs.declared.count.Count.{Count}
use Rattle.tc_address.specs.declared.system.System.{System}
use Rattle.report_text.specs.FrameTexts.{frame_line}
use Rattle.interval_file.specs.declared.header.IntervalHeader.{IntervalHeader}
use Rattle.tc_job.specs.ChaseRun.{Chasing}
use Rattle.tc_job.specs.Jam.{Jamming}
use Rattle.frame_commands.specs.LtcChase.{lines_of_steps, steps_over}
use Rattle.tape_spans.specs.SpanTexts.{final_lines}
use Rattle.frame_commands.specs.LtcFly.{lines_of_frames}
use Rattle.frame_commands.specs.LtcSpans.{lines_of_spans}
use Rattle.frame_commands.specs.LtcJam.{file_of_frames}
use Rattle.frame_commands.specs.LtcMtc.{messages_of_frames}
use Rattle.frame_commands.specs.KeptFrames.{AddsInOrder, IsAddedTo}
use Rattle.tc_job.specs.declared.witness.Witness.{Witness}
use Rattle.frame_commands.specs.KeptHeard.{GoOnBehind, HeardInOrder}
use Rattle.frame_commands.specs.OfFrames.{frames_until, heard_in, words_heard}
use Rattle.frame_commands.specs.declared.ltc_chase.TheConstants.{MAX_FRAMES}
use Rattle.frame_commands.proofs.FramesAnew.{FrameByFrame, bytes_of_frames, file_grows}
use Rattle.frame_commands.proofs.StepsGrow.{TraceLaws}

-- what the laws of events and frames say
pub record FrameLaws : Type 0 where
  pub heard : (witness : Witness) → HeardInOrder witness
  pub frames : (limit tick last : ℕ) (words more : List HeardWord) → tick ≤ last → All (λ word. tick ≤ word.tick) more
      → (rest : List Frame) × (frames limit (words ++ more) last ≡ frames limit words tick ++ rest)

-- ---- the frames of a front

-- the words of later events are heard later
abbrev HeardFrom : ℕ → HeardWord → Type 0
HeardFrom tick word = tick ≤ word.tick

later_word : (tick : ℕ) (event : Event) → tick ≤ tick_of event → All (HeardFrom tick) (heard_in event)
later_word tick (Word d w t l) later = All-cons (HeardFrom tick) _ [] later (All-nil (HeardFrom tick))
later_word tick (Refused d f t) later = All-nil (HeardFrom tick)
later_word tick (Lost i t) later = All-nil (HeardFrom tick)

later_words : (tick : ℕ) (events : List Event) → All (λ event. tick ≤ tick_of event) events
    → All (HeardFrom tick) (words_heard events)
later_words tick [] later = All-nil (HeardFrom tick)
later_words tick (event ∷ events) later =
    All-append (HeardFrom tick) (heard_in event) (words_heard events)
    (later_word tick event (All-head (λ event. tick ≤ tick_of event) event events later))
    (later_words tick events (All-tail (λ event. tick ≤ tick_of event) event events later))

pub frames_first : FrameLaws → (limit : ℕ) (events all : List Event) (until now : ℕ) → GoOnBehind events until all now
    → (rest : List Frame) × (frames_until limit all now ≡ frames_until limit events until ++ rest)
frames_first laws limit events all until now goes =
    let words : words_heard all ≡ words_heard events ++ words_heard goes.rest =
    ap words_heard goes.are ∙ flat_map-append heard_in events goes.rest in
    let given = laws.frames limit until now (words_heard events) (words_heard goes.rest) goes.before
    (later_words until goes.rest goes.later) in
    (given.0, ap (λ ws. frames limit ws now) words ∙ given.1)

-- ---- each sink of frames

lines_are_added : IsAddedTo lines_of_frames
lines_are_added header fs more = (flat_map frame_line more, flat_map-append frame_line fs more)

messages_are_added : ((fs more : List Frame) → (rest : List ℕ) × (mtc_of (fs ++ more) ≡ mtc_of fs ++ rest))
    → IsAddedTo messages_of_frames
messages_are_added law header fs more = law fs more

cells_are_added : FrameByFrame → (j : Jamming) → IsAddedTo (file_of_frames j)
cells_are_added law j header fs more = (bytes_of_frames j.cell more, file_grows law j header fs more)

-- ---- the steps of a chase

steps_added : TraceLaws → (c : Chasing) (fs more : List Frame) → (rest : List Traced)
    × (steps_over c (fs ++ more) ≡ steps_over c fs ++ rest)
steps_added laws c fs [] = ([], ap (steps_over c) (append-nil fs) ∙ sym (append-nil (steps_over c fs)))
steps_added laws c fs (frame ∷ more) =
    let first = laws.line c.label c.seed c.bound fs frame in
    let rest = steps_added laws c (fs ++ frame ∷ []) more in
    let joined : fs ++ frame ∷ more ≡ (fs ++ frame ∷ []) ++ more = sym (append_assoc fs (frame ∷ []) more) in
    (_, ap (steps_over c) joined ∙ rest.1 ∙ ap (λ l. l ++ rest.0) first ∙ append_assoc (steps_over c fs) _ rest.0)

lines_added : (count : Count) (step : ℕ) (lines more : List Traced)
    → (rest : List ℕ) × (step_lines count step (lines ++ more) ≡ step_lines count step lines ++ rest)
unfolding step_lines
lines_added count step [] more = (step_lines count step more, refl)
lines_added count step (line ∷ lines) more =
    let rest = lines_added count (step + 1) lines more in (
      rest.0,
      ap (λ l. step_line count step line ++ l) rest.1
          ∙ sym (append_assoc (step_line count step line) (step_lines count (step + 1) lines) rest.0),
    )

steps_are_added : TraceLaws → (c : Chasing) → IsAddedTo (lines_of_steps c)
steps_are_added laws c header fs more =
    let first = first_items MAX_FRAMES fs more in
    let steps = steps_added laws c (take MAX_FRAMES fs) first.0 in
    let lines = lines_added c.label.count 1 (steps_over c (take MAX_FRAMES fs)) steps.0 in (
      lines.0,
      ap (λ l. step_lines c.label.count 1 (steps_over c l)) first.1 ∙ ap (step_lines c.label.count 1) steps.1
          ∙ lines.1,
    )

-- behind the limit of frames nothing is added
no_step_more : (c : Chasing) (header : IntervalHeader) (fs more : List Frame) → MAX_FRAMES < length fs
    → (lines_of_steps c).text header (fs ++ more) ≡ (lines_of_steps c).text header fs
no_step_more c header fs more many =
    ap (λ l. step_lines c.label.count 1 (steps_over c l)) (take-append-le MAX_FRAMES fs more (omega (arith, many)))

-- ---- each of them brings what it has to

pub lines_in_order : AddsInOrder lines_of_frames
lines_in_order = record { added = lines_are_added; none_more = λ header fs more many. absurd many }

-- what the law of final lines says
abbrev pub FinalLinesFirst : Type 0
FinalLinesFirst = (tick_rate : ℕ) (system : System) (frames more : List Frame)
    → (rest : List ℕ) × (final_lines tick_rate system (frames ++ more) ≡ final_lines tick_rate system frames ++ rest)

pub spans_in_order : FinalLinesFirst → AddsInOrder lines_of_spans
spans_in_order law = record {
  added = λ header fs more. law header.tick_rate header.system fs more;
  none_more = λ header fs more many. absurd many;
}

pub messages_in_order : ((fs more : List Frame) → (rest : List ℕ) × (mtc_of (fs ++ more) ≡ mtc_of fs ++ rest))
    → AddsInOrder messages_of_frames
messages_in_order law = record { added = messages_are_added law; none_more = λ header fs more many. absurd many }

pub cells_in_order : FrameByFrame → (j : Jamming) → AddsInOrder (file_of_frames j)
cells_in_order law j = record { added = cells_are_added law j; none_more = λ header fs more many. absurd many }

pub steps_in_order : TraceLaws → (c : Chasing) → AddsInOrder (lines_of_steps c)
steps_in_order laws c = record { added = steps_are_added laws c; none_more = no_step_more c }
