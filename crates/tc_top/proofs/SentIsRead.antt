-- What was sent of a recording is read as its frames, and reported so: none of the labels is refused.
use Rattle.std.proofs.Common.{◌≡◌, ℕ, ◌+◌, Bool, true, false, cond, List, [], ◌∷◌, ◌++◌, map, length, count_by}
use Rattle.std.proofs.Common.{Option, Some, None, refl, ◌∙◌, ap, ap₂, append-nil}
use Rattle.std.specs.Prelude.{sum}
use Rattle.std.specs.List.{take_while}
use Rattle.std.proofs.lemmas.List.Sums.{sum_by-append}
use Rattle.flywheel.specs.declared.frame.Frame.{Frame}
use Rattle.flywheel.specs.declared.heard.HeardWord.{HeardWord}
use Rattle.flywheel.specs.Frames.{frames}
use Rattle.mtc_reader.specs.declared.event.MtcEvent.{MtcEvent}
use Rattle.mtc_reader.specs.declared.event.MtcEvent.TheVariants.{Full}
use Rattle.mtc_reader.specs.Events.{events_in}
use Rattle.mtc_reader.specs.Texts.{end_line}
use Rattle.quarter_frame.specs.ReadAgain.{all_placed, pairs_read, placed, read_from, read_of, run_length, run_read}
use Rattle.quarter_frame.specs.ReadAgain.{AreLabelled, Placed}
use Rattle.quarter_frame.specs.Runs.{begins_run, mtc_of}
use Rattle.tc_job.specs.declared.flight.Flight.{Flight}
use Rattle.interval_file.specs.declared.header.IntervalHeader.{IntervalHeader}
use Rattle.interval_file.specs.Recording.{recording_of}
use Rattle.interval_engine.specs.Along.{IsWholeOf}
use Rattle.interval_engine.specs.KeptBehind.{IsWholeBehind}
use Rattle.frame_commands.specs.LtcMtc.{time_code}
use Rattle.signal_commands.specs.MtcRead.{event_lines, is_full, is_quarter, is_refused, last_mtc_line}
use Rattle.frame_commands.specs.OfFrames.{frames_of, words_heard}
use Rattle.tc_top.specs.SentAgain.{none_refused, SendsTheFrames}
use Rattle.tc_top.proofs.LabelsHeard.{HaveLabels, labels_heard}
use Rattle.flywheel.specs.Kinds.{is_gone}
use Rattle.flywheel.specs.GoOn.{goes_on}

-- what is sent of frames is read as these frames
abbrev pub AreReadBack : Type 0
AreReadBack = (limit last : ℕ) (words : List HeardWord) → AreLabelled words
    → events_in (mtc_of (frames limit words last)) ≡ read_of (frames limit words last)

-- ---- none of the labels of frames is refused

none_in_pairs : (at : ℕ) (list : List Placed) → count_by is_refused (pairs_read at list) ≡ 0
none_in_pairs at [] = refl
none_in_pairs at (first ∷ []) = refl
none_in_pairs at (first ∷ second ∷ more) = none_in_pairs (at + 16) more

none_in_full : (at : ℕ) (list : List Placed)
    → count_by is_refused (map (λ (f : Placed). Full f.label (at + 9)) list) ≡ 0
none_in_full at [] = refl
none_in_full at (f ∷ more) = none_in_full at more

abbrev one_if : (MtcEvent → Bool) → MtcEvent → ℕ
one_if p e = cond (p e) 1 0

none_in_both : (a b : List MtcEvent) → count_by is_refused a ≡ 0 → count_by is_refused b ≡ 0
    → count_by is_refused (a ++ b) ≡ 0
none_in_both a b first second = sum_by-append (one_if is_refused) a b ∙ ap₂ (λ (n m : ℕ). n + m) first second

none_in_run : (at : ℕ) (first : Frame) (others : List Frame) → count_by is_refused (run_read at first others) ≡ 0
none_in_run at first others =
    none_in_both (map (λ (f : Placed). Full f.label (at + 9)) (placed first))
    (pairs_read (at + 10) (all_placed (first ∷ others))) (none_in_full at (placed first))
    (none_in_pairs (at + 10) (all_placed (first ∷ others)))

none_where : (begins : Bool) (run behind skipped : List MtcEvent) → count_by is_refused run ≡ 0
    → count_by is_refused behind ≡ 0 → count_by is_refused skipped ≡ 0
    → count_by is_refused (cond begins (run ++ behind) skipped) ≡ 0
none_where true run behind skipped first next other = none_in_both run behind first next
none_where false run behind skipped first next other = other

none_from : (at : ℕ) (fresh : Bool) (fs : List Frame) → count_by is_refused (read_from at fresh fs) ≡ 0
none_from at fresh [] = refl
none_from at fresh (f ∷ fs) =
    let others = take_while goes_on fs in
    none_where (begins_run fresh f) (run_read at f others) (read_from (at + run_length f others) (is_gone f) fs)
    (read_from at (is_gone f) fs) (none_in_run at f others) (none_from (at + run_length f others) (is_gone f) fs)
    (none_from at (is_gone f) fs)

-- ---- the report

last_is : (bytes : List ℕ) (fs : List Frame) → events_in bytes ≡ read_of fs
    → last_mtc_line bytes (events_in bytes) ≡ none_refused bytes (read_of fs)
last_is bytes fs read =
    ap (last_mtc_line bytes) read
    ∙ ap (end_line (length bytes) (count_by is_full (read_of fs)) (count_by is_quarter (read_of fs)))
    (none_from 0 true fs)

behind : AreReadBack → HaveLabels → (flight : Flight) (bytes written : List ℕ) (header : Option IntervalHeader)
    → (recording_of bytes).header ≡ header
    → IsWholeBehind (time_code flight) header (recording_of bytes).intervals written
    → SendsTheFrames flight bytes written
behind law have flight bytes written None begins is = absurd is
behind law have flight bytes written (Some header) begins is =
    let intervals = (recording_of bytes).intervals in
    let fs = frames_of flight.limit intervals is.events in
    let read : events_in written ≡ read_of fs =
    ap events_in (is.are ∙ append-nil (mtc_of fs))
    ∙ law flight.limit (sum intervals) (words_heard is.events)
    (labels_heard have flight.witness header.system flight.profile intervals is.events is.are_events) in
    record {
      header = header;
      begins = begins;
      events = is.events;
      are_events = is.are_events;
      labels = read_of fs;
      are_labels = refl;
      read = read;
      report = λ text output. output
          ∙ ap₂ (λ (es : List MtcEvent) (l : List ℕ). event_lines es ++ l) read (last_is written fs read);
    }

pub sends_the_frames : AreReadBack → HaveLabels → (flight : Flight) (bytes written : List ℕ)
    → IsWholeOf (time_code flight) (recording_of bytes) written → SendsTheFrames flight bytes written
sends_the_frames law have flight bytes written output = behind law have flight bytes written _ refl output
