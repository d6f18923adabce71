-- A promise of what is made of frames names one text: the events of the recording are one list, and so are its frames.
use Rattle.std.proofs.Common.{◌≡◌, ℕ, List, ◌++◌, sym, ◌∙◌, ap, ap₂}
use Rattle.chase_script.specs.TraceText.{trace_text}
use Rattle.direction_reader.specs.declared.event.Event.{Event}
use Rattle.flywheel.specs.declared.frame.Frame.{Frame}
use Rattle.interval_file.specs.declared.header.IntervalHeader.{IntervalHeader}
use Rattle.interval_file.specs.Recording.{Recording, recording_of}
use Rattle.quarter_frame.specs.Runs.{mtc_of}
use Rattle.tc_job.specs.ChaseRun.{Chasing}
use Rattle.tc_job.specs.Jam.{Jamming}
use Rattle.tc_job.specs.declared.flight.Flight.{Flight}
use Rattle.tc_job.specs.declared.witness.Witness.{Witness}
use Rattle.frame_commands.specs.Heard.{AreHeard}
use Rattle.frame_commands.specs.KeptHeard.{HeardInOrder}
use Rattle.interval_engine.specs.PinnedLemmas.{one_behind, one_header}
use Rattle.frame_commands.specs.declared.ltc_chase.TheConstants.{MAX_FRAMES}
use Rattle.frame_commands.specs.LtcChase.{FollowsTheCode, first_steps}
use Rattle.frame_commands.specs.LtcFly.{ShowsTheFrames, frame_lines, last_fly_line}
use Rattle.frame_commands.specs.LtcJam.{IsClean, clean_file}
use Rattle.frame_commands.specs.LtcMtc.{SendsTheWords}
use Rattle.frame_commands.specs.LtcSpans.{ShowsTheSpans, span_lines, spans_counted}
use Rattle.frame_commands.specs.OfFrames.{frames_of}

-- the events of a list are one
abbrev pub HaveOneList : Type 0
HaveOneList = (witness : Witness) → HeardInOrder witness

-- under two headers that are one
same_events : HaveOneList → (flight : Flight) (list : List ℕ) (a b : IntervalHeader) (es fs : List Event) → a ≡ b
    → AreHeard flight.witness a.system flight.profile list es → AreHeard flight.witness b.system flight.profile list fs
    → es ≡ fs
same_events one_list flight list a b es fs same p q =
    one_behind (λ (h : IntervalHeader) (l : List Event). AreHeard flight.witness h.system flight.profile list l)
    (λ h. (one_list flight.witness).one h.system flight.profile list) a b es fs same p q

pub one_flight : HaveOneList → (flight : Flight) (bytes a b : List ℕ) → ShowsTheFrames flight bytes a
    → ShowsTheFrames flight bytes b → a ≡ b
one_flight laws flight bytes a b p q =
    let list = (recording_of bytes).intervals in
    let header = one_header (recording_of bytes) p.header q.header p.begins q.begins in
    let events = same_events laws flight list p.header q.header p.events q.events header p.are_events q.are_events in
    let frames = p.are_frames ∙ ap (frames_of flight.limit list) events ∙ sym q.are_frames in
    p.are ∙ ap (λ (fs : List Frame). frame_lines fs ++ last_fly_line list fs) frames ∙ sym q.are

pub one_tape : HaveOneList → (flight : Flight) (bytes a b : List ℕ) → ShowsTheSpans flight bytes a
    → ShowsTheSpans flight bytes b → a ≡ b
one_tape laws flight bytes a b p q =
    let list = (recording_of bytes).intervals in
    let header = one_header (recording_of bytes) p.header q.header p.begins q.begins in
    let events = same_events laws flight list p.header q.header p.events q.events header p.are_events q.are_events in
    let frames = p.are_frames ∙ ap (frames_of flight.limit list) events ∙ sym q.are_frames in
    p.are ∙ ap₂ (λ (h : IntervalHeader) (fs : List Frame). span_lines h fs ++ spans_counted list fs) header frames
    ∙ sym q.are

pub one_sending : HaveOneList → (flight : Flight) (bytes a b : List ℕ) → SendsTheWords flight bytes a
    → SendsTheWords flight bytes b → a ≡ b
one_sending laws flight bytes a b p q =
    let list = (recording_of bytes).intervals in
    let header = one_header (recording_of bytes) p.header q.header p.begins q.begins in
    let events = same_events laws flight list p.header q.header p.events q.events header p.are_events q.are_events in
    let frames = p.are_frames ∙ ap (frames_of flight.limit list) events ∙ sym q.are_frames in
    p.are ∙ ap mtc_of frames ∙ sym q.are

pub one_copy : HaveOneList → (j : Jamming) (input : Recording) (a b : List ℕ) → IsClean j input a → IsClean j input b
    → a ≡ b
one_copy laws j input a b p q =
    let list = input.intervals in
    let header = one_header input p.header q.header p.begins q.begins in
    let events = same_events laws j.flight list p.header q.header p.events q.events header p.are_events
    q.are_events in
    let frames = p.are_frames ∙ ap (frames_of j.flight.limit list) events ∙ sym q.are_frames in
    p.file.are ∙ ap₂ (clean_file j) header frames ∙ sym q.file.are

pub one_trace : HaveOneList → (c : Chasing) (input : Recording) (a b : List ℕ) → FollowsTheCode c input a
    → FollowsTheCode c input b → a ≡ b
one_trace laws c input a b p q =
    let list = input.intervals in
    let header = one_header input p.header q.header p.begins q.begins in
    let events = same_events laws c.flight list p.header q.header p.events q.events header p.are_events
    q.are_events in
    let trace = λ (es : List Event).
    trace_text c.label.count (first_steps MAX_FRAMES c (frames_of c.flight.limit list es)) in
    p.text ∙ ap trace events ∙ sym q.text
