-- What a frame adds to the lines of the spans.
use Rattle.std.proofs.Common.{◌≡◌, ℕ, ◌+◌, Bool, true, false, cond, List, [], ◌∷◌, ◌++◌, Option}
use Rattle.std.proofs.Common.{Some, None, refl}
use Rattle.std.proofs.Common.{sym, ◌∙◌, ap, subst, append_assoc, append-nil}
use Rattle.tc_address.specs.declared.direction.Direction.{Direction}
use Rattle.tc_address.specs.declared.system.System.{System}
use Rattle.tc_address.specs.Label.{Address}
use Rattle.flywheel.specs.declared.frame.Frame.{Frame}
use Rattle.flywheel.specs.declared.frame.Frame.TheVariants.{Heard, Invented, Gone}
use Rattle.tape_spans.specs.declared.place.TapePlace.{TapePlace}
use Rattle.tape_spans.specs.declared.span.Mark.{Mark}
use Rattle.tape_spans.specs.Spans.{SpanFrames, frames_of_spans, mark_at, span_of}
use Rattle.tape_spans.specs.SpanTexts.{final_behind, final_lines, gap_before, line_if_ended}
use Rattle.tape_spans.specs.SpanTexts.{span_line}
use Rattle.tape_spans.specs.StandsFor.{Running, StandsFor, cut_lines, ended_lines, gap_lines, latest_end}
use Rattle.tape_spans.specs.StandsFor.{place_of_tape, so_far, to_come}
use Rattle.tape_spans.specs.Tape.{Tape, cut_by, ended_at, gap_at}
use Rattle.flywheel.specs.GoOn.{goes_on}
use Rattle.tape_spans.proofs.SpansGoOn.{Splits, begun-is, begun_with, gone-same, heard_on-same}
use Rattle.tape_spans.proofs.OpenSpans.{ended_one}
use Rattle.tape_spans.proofs.SpansGoOn.{invented-same, latest-push, splits-end}
use Rattle.tape_spans.proofs.SpansGoOn.{splits-idle, splits-next, splits-on}
use Rattle.tape_spans.proofs.OpenSpans.{with_frame}

-- ---- lines of spans behind others

pub same_line : (a b : List ℕ) (s : SpanFrames) → s.has_ended ≡ true → cond s.has_ended a b ≡ a
same_line a b s ended = ap (λ (e : Bool). cond e a b) ended

final-append : (rate : ℕ) (system : System) (before : Option Mark) (done more : List SpanFrames)
    → final_behind rate system before (done ++ more) ≡ final_behind rate system before done ++ final_behind rate system
    (latest_end before done) more
unfolding final_behind
final-append rate system before [] more = refl
final-append rate system before (s ∷ done) more =
    let gap = gap_before before s.first in
    let line = line_if_ended rate system s in
    let own = final_behind rate system (Some (span_of s).last) done in
    let later = final_behind rate system (latest_end (Some (span_of s).last) done) more in
    ap (λ (l : List ℕ). gap ++ (line ++ l)) (final-append rate system (Some (span_of s).last) done more)
    ∙ ap (λ (l : List ℕ). gap ++ l) (sym (append_assoc line own later)) ∙ sym (append_assoc gap (line ++ own) later)

-- of the open span, the line of the gap before it is final
abbrev opening : Option Mark → Option Running → List ℕ
opening before None = []
opening before (Some running) = gap_before before running.first

final-to_come : (rate : ℕ) (system : System) (before : Option Mark) (running : Option Running)
    → final_behind rate system before (to_come running []) ≡ opening before running
unfolding final_behind frames_of_spans
final-to_come rate system before None = refl
final-to_come rate system before (Some running) = append-nil (gap_before before running.first)

-- one span that has ended, alone
final-one : (rate : ℕ) (system : System) (before : Option Mark) (running : Running)
    → final_behind rate system before (ended_one running ∷ []) ≡ gap_before before running.first
    ++ span_line rate system (span_of (so_far running))
unfolding final_behind
final-one rate system before running = ap (λ (l : List ℕ). gap_before before running.first ++ l)
    (append-nil (span_line rate system (span_of (so_far running))))

final-split : (rate : ℕ) (system : System) (frames : List Frame) (done : List SpanFrames) (running : Option Running)
    → frames_of_spans (frames ++ []) ≡ done ++ to_come running []
    → final_lines rate system frames ≡ final_behind rate system None done ++ opening (latest_end None done) running
final-split rate system frames done running split =
    ap (λ (l : List Frame). final_behind rate system None (frames_of_spans l)) (sym (append-nil frames))
    ∙ ap (final_behind rate system None) split ∙ final-append rate system None done (to_come running [])
    ∙ ap (λ (l : List ℕ). final_behind rate system None done ++ l)
    (final-to_come rate system (latest_end None done) running)

-- ---- what a frame adds

-- nothing, if it goes on or nothing is open
pub nothing_told : (lines : List ℕ) → lines ≡ lines ++ []
nothing_told lines = sym (append-nil lines)

abbrev lines_of : ℕ → System → List SpanFrames → Option Running → List ℕ
lines_of rate system done running = final_behind rate system None done ++ opening (latest_end None done) running

-- with a further span that has ended
lines-ended : (rate : ℕ) (system : System) (done : List SpanFrames) (running : Running)
    → final_behind rate system None (done ++ ended_one running ∷ []) ≡ lines_of rate system done (Some running)
    ++ span_line rate system (span_of (so_far running))
lines-ended rate system done running =
    let before = latest_end None done in
    let line = span_line rate system (span_of (so_far running)) in
    final-append rate system None done (ended_one running ∷ [])
    ∙ ap (λ (l : List ℕ). final_behind rate system None done ++ l) (final-one rate system before running)
    ∙ sym (append_assoc (final_behind rate system None done) (gap_before before running.first) line)

told-on : (rate : ℕ) (system : System) (frames : List Frame) (frame : Frame) (done : List SpanFrames)
    (running : Option Running)
    → Splits (frames ++ frame ∷ []) done running → final_lines rate system frames ≡ lines_of rate system done running
    → final_lines rate system (frames ++ frame ∷ []) ≡ final_lines rate system frames ++ []
told-on rate system frames frame done running split are =
    final-split rate system (frames ++ frame ∷ []) done running (split []) ∙ sym are
    ∙ nothing_told (final_lines rate system frames)

-- a frame that goes on completes nothing
told-goes_on : (rate : ℕ) (system : System) (frames : List Frame) (frame : Frame) (done : List SpanFrames)
    (running : Option Running) → goes_on frame ≡ true
    → ((behind : List Frame) → frames_of_spans (frame ∷ behind) ≡ frames_of_spans behind) → Splits frames done running
    → final_lines rate system (frames ++ frame ∷ []) ≡ final_lines rate system frames ++ []
told-goes_on rate system frames frame done (Some running) on same split =
    told-on rate system frames frame done (Some (with_frame running frame))
    (splits-on frames done running frame on same split)
    (final-split rate system frames done (Some running) (split []))
told-goes_on rate system frames frame done None on same split =
    told-on rate system frames frame done None (splits-idle frames done frame same split)
    (final-split rate system frames done None (split []))

-- the end of invention gives the span that it ends
told-gone : (rate : ℕ) (system : System) (frames : List Frame) (tick : ℕ) (done : List SpanFrames)
    (running : Option Running) (before : Option Mark)
    → latest_end None done ≡ before → Splits frames done running
    → final_lines rate system (frames ++ Gone tick ∷ [])
    ≡ final_lines rate system frames ++ (ended_lines rate system (ended_at (place_of_tape running before)) ++ [])
told-gone rate system frames tick done (Some running) before latest split =
    let line = span_line rate system (span_of (so_far running)) in
    let ended = done ++ ended_one running ∷ [] in
    let next : Splits (frames ++ Gone tick ∷ []) ended None = splits-end frames done running (Gone tick) None refl
    (gone-same tick) split in
    final-split rate system (frames ++ Gone tick ∷ []) ended None (next [])
    ∙ append-nil (final_behind rate system None ended)
    ∙ lines-ended rate system done running
    ∙ ap (λ (l : List ℕ). l ++ line) (sym (final-split rate system frames done (Some running) (split [])))
    ∙ ap (λ (l : List ℕ). final_lines rate system frames ++ l) (sym (append-nil line))
told-gone rate system frames tick done None None latest split =
    told-on rate system frames (Gone tick) done None (splits-idle frames done (Gone tick) (gone-same tick) split)
    (final-split rate system frames done None (split []))
told-gone rate system frames tick done None (Some mark) latest split =
    told-on rate system frames (Gone tick) done None (splits-idle frames done (Gone tick) (gone-same tick) split)
    (final-split rate system frames done None (split []))

-- the lines of the gap before the span that begins
gap-told : (before : Option Mark) (mark : Mark)
    → gap_before before mark ≡ gap_lines (gap_at (place_of_tape None before) mark)
gap-told None mark = refl
gap-told (Some last) mark = refl

nothing-ended : (rate : ℕ) (system : System) (before : Option Mark)
    → ended_lines rate system (ended_at (place_of_tape None before)) ≡ []
nothing-ended rate system None = refl
nothing-ended rate system (Some mark) = refl

-- the frame with which a span begins gives the span before it, and the gap
told-begins : (rate : ℕ) (system : System) (frames : List Frame) (label : Address) (direction : Direction) (tick : ℕ)
    (done : List SpanFrames)
    (running : Option Running) (before : Option Mark) → latest_end None done ≡ before → Splits frames done running
    → final_lines rate system (frames ++ Heard label direction false tick ∷ [])
    ≡ final_lines rate system frames ++ (ended_lines rate system (ended_at (place_of_tape running before))
    ++ gap_lines (gap_at (place_of_tape running before) (mark_at label direction tick)))
told-begins rate system frames label direction tick done (Some running) before latest split =
    let line = span_line rate system (span_of (so_far running)) in
    let frame = Heard label direction false tick in
    let mark = mark_at label direction tick in
    let ended = done ++ ended_one running ∷ [] in
    let open_one = Some (begun_with label direction tick) in
    let gap = gap_before (Some (span_of (so_far running)).last) mark in
    let next : Splits (frames ++ frame ∷ []) ended open_one = splits-end frames done running frame open_one refl
    (begun-is label direction tick) split in
    final-split rate system (frames ++ frame ∷ []) ended open_one (next [])
    ∙ ap (λ (m : Option Mark). final_behind rate system None ended ++ gap_before m mark) (latest-push done running)
    ∙ ap (λ (l : List ℕ). l ++ gap) (lines-ended rate system done running
    ∙ ap (λ (l : List ℕ). l ++ line) (sym (final-split rate system frames done (Some running) (split []))))
    ∙ append_assoc (final_lines rate system frames) line gap
told-begins rate system frames label direction tick done None before latest split =
    let frame = Heard label direction false tick in
    let mark = mark_at label direction tick in
    let open_one = Some (begun_with label direction tick) in
    let own = final_behind rate system None done in
    let next : Splits (frames ++ frame ∷ []) done open_one =
    splits-next frames done frame open_one (begun-is label direction tick) split in
    let same : gap_before (latest_end None done) mark ≡ ended_lines rate system (ended_at (place_of_tape None before))
    ++ gap_lines (gap_at (place_of_tape None before) mark) =
    ap (λ (m : Option Mark). gap_before m mark) latest ∙ gap-told before mark
    ∙ ap (λ (l : List ℕ). l ++ gap_lines (gap_at (place_of_tape None before) mark))
    (sym (nothing-ended rate system before)) in
    let lines : final_lines rate system frames ≡ own = final-split rate system frames done None (split [])
    ∙ append-nil own in
    final-split rate system (frames ++ frame ∷ []) done open_one (next [])
    ∙ ap (λ (l : List ℕ). own ++ l) same
    ∙ ap (λ (l : List ℕ). l
    ++ (ended_lines rate system (ended_at (place_of_tape None before))
    ++ gap_lines (gap_at (place_of_tape None before) mark))) (sym lines)

-- a frame adds the lines of what it completes
pub frame_adds : (rate : ℕ) (system : System) (tape : Tape) (frames : List Frame) (frame : Frame)
    → StandsFor tape frames
    → final_lines rate system (frames ++ frame ∷ []) ≡ final_lines rate system frames
    ++ cut_lines rate system (cut_by tape frame)
frame_adds rate system tape frames (Heard label direction true tick) stands =
    told-goes_on rate system frames (Heard label direction true tick) stands.done stands.running refl
    (heard_on-same label direction tick) stands.split
frame_adds rate system tape frames (Heard label direction false tick) stands =
    let mark = mark_at label direction tick in
    let frame = Heard label direction false tick in
    subst (λ (p : TapePlace). final_lines rate system (frames ++ frame ∷ [])
    ≡ final_lines rate system frames ++ (ended_lines rate system (ended_at p) ++ gap_lines (gap_at p mark)))
    (sym stands.place)
    (told-begins rate system frames label direction tick stands.done stands.running (latest_end None stands.done) refl
    stands.split)
frame_adds rate system tape frames (Invented label direction step tick) stands =
    told-goes_on rate system frames (Invented label direction step tick) stands.done stands.running refl
    (invented-same label direction step tick) stands.split
frame_adds rate system tape frames (Gone tick) stands =
    subst (λ (p : TapePlace). final_lines rate system (frames ++ Gone tick ∷ [])
    ≡ final_lines rate system frames ++ (ended_lines rate system (ended_at p) ++ [])) (sym stands.place)
    (told-gone rate system frames tick stands.done stands.running (latest_end None stands.done) refl stands.split)
