-- What the next frame does to the spans of the frames so far: it goes on the open one, or ends it, or begins another.
use Rattle.std.proofs.Common.{◌≡◌, ℕ, ◌+◌, true, false, List, [], ◌∷◌, ◌++◌, length, Option}
use Rattle.std.proofs.Common.{Some, None, refl}
use Rattle.std.proofs.Common.{sym, ◌∙◌, ap, subst, append_assoc, arith}
use Rattle.std.specs.List.{sum_by}
use Rattle.std.proofs.lemmas.List.{length-append}
use Rattle.std.proofs.lemmas.List.Sums.{fold_push, sum_by_push}
use Rattle.tc_address.specs.declared.direction.Direction.{Direction}
use Rattle.tc_address.specs.Label.{Address}
use Rattle.flywheel.specs.declared.frame.Frame.{Frame}
use Rattle.flywheel.specs.declared.frame.Frame.TheVariants.{Heard, Invented, Gone}
use Rattle.flywheel.specs.GoOn.{goes_on}
use Rattle.tape_spans.specs.declared.place.OpenSpan.{OpenSpan}
use Rattle.tape_spans.specs.declared.place.TapePlace.{TapePlace}
use Rattle.tape_spans.specs.declared.place.TapePlace.TheVariants.{Within, Behind}
use Rattle.tape_spans.specs.declared.span.Mark.{Mark}
use Rattle.tape_spans.specs.Spans.{SpanFrames, bridged_in, frames_of_spans, mark_at, span_of}
use Rattle.tape_spans.specs.StandsFor.{AreEnded, Running, StandsFor, latest_end, place_of_tape, so_far, to_come}
use Rattle.tape_spans.specs.Tape.{Tape, after_frame, begun_at, begun_in, blank, counted_at, ended_by}
use Rattle.tape_spans.specs.Tape.{invented_at, joined_at, joined_by}
use Rattle.tape_spans.specs.Tape.{placed, with_invented}
use Rattle.tape_spans.proofs.OpenSpans.{comes-end, comes-on, current_of, ended_one, invented-is, joined-is}
use Rattle.tape_spans.proofs.OpenSpans.{with_frame}

-- ---- what the tape stands for

abbrev pub Splits : List Frame → List SpanFrames → Option Running → Type 0
Splits frames done running = (behind : List Frame) → frames_of_spans (frames ++ behind) ≡ done ++ to_come running behind

pub stands_at_first : StandsFor blank []
unfolding bridged_in
stands_at_first = record {
  done = [];
  running = None;
  split = λ behind. refl;
  ended = tt;
  place = refl;
  spans = refl;
  heard = refl;
  bridged = refl;
}

-- the counts that a tape has of spans that are done
record Counted (tape : Tape) (done : List SpanFrames) : Type 0 where
  ended : AreEnded done
  spans : tape.spans ≡ length done
  heard : tape.heard ≡ sum_by (λ s. (span_of s).heard) done
  bridged : tape.bridged ≡ sum_by (λ s. (span_of s).bridged) done

are_ended-push : (done : List SpanFrames) (s : SpanFrames) → AreEnded done → s.has_ended ≡ true
    → AreEnded (done ++ s ∷ [])
are_ended-push [] s all one = (one, tt)
are_ended-push (first ∷ done) s all one = (all.0, are_ended-push done s all.1 one)

-- one more is done
counted-push : (tape : Tape) (done : List SpanFrames) (running : Running) (place : TapePlace) → Counted tape done
    → Counted (ended_by tape (span_of (so_far running)) place) (done ++ ended_one running ∷ [])
counted-push tape done running place all =
    let one = ended_one running in record {
      ended = are_ended-push done one all.ended refl;
      spans = (let n = all.spans in omega (arith, n, length-append done (one ∷ [])));
      heard = ap (λ (n : ℕ). n + (span_of one).heard) all.heard
          ∙ sym (sum_by_push (λ (s : SpanFrames). (span_of s).heard) done one);
      bridged = ap (λ (n : ℕ). n + (span_of one).bridged) all.bridged
          ∙ sym (sum_by_push (λ (s : SpanFrames). (span_of s).bridged) done one);
    }

stands_with : (tape : Tape) (frames : List Frame) (done : List SpanFrames) (running : Option Running)
    → Splits frames done running
    → Counted tape done → tape.place ≡ place_of_tape running (latest_end None done) → StandsFor tape frames
stands_with tape frames done running split all place = record {
  done = done;
  running = running;
  split = split;
  ended = all.ended;
  place = place;
  spans = all.spans;
  heard = all.heard;
  bridged = all.bridged;
}

-- the spans so far, with a frame in between
split-frame : (frames : List Frame) (frame : Frame) (behind : List Frame)
    → frames_of_spans ((frames ++ frame ∷ []) ++ behind) ≡ frames_of_spans (frames ++ frame ∷ behind)
split-frame frames frame behind = ap frames_of_spans (append_assoc frames (frame ∷ []) behind)

-- a frame that goes on, if a span is open and if none is
pub splits-on : (frames : List Frame) (done : List SpanFrames) (running : Running) (frame : Frame)
    → goes_on frame ≡ true
    → ((behind : List Frame) → frames_of_spans (frame ∷ behind) ≡ frames_of_spans behind)
    → Splits frames done (Some running)
    → Splits (frames ++ frame ∷ []) done (Some (with_frame running frame))
splits-on frames done running frame on same split behind =
    split-frame frames frame behind ∙ split (frame ∷ behind)
    ∙ ap (λ (l : List SpanFrames). done ++ l) (comes-on running frame behind on (same behind))

pub splits-idle : (frames : List Frame) (done : List SpanFrames) (frame : Frame)
    → ((behind : List Frame) → frames_of_spans (frame ∷ behind) ≡ frames_of_spans behind) → Splits frames done None
    → Splits (frames ++ frame ∷ []) done None
splits-idle frames done frame same split behind =
    split-frame frames frame behind ∙ split (frame ∷ behind) ∙ ap (λ (l : List SpanFrames). done ++ l) (same behind)

-- a frame that does not, if a span is open: it has ended
pub splits-end : (frames : List Frame) (done : List SpanFrames) (running : Running) (frame : Frame)
    (next : Option Running) → goes_on frame ≡ false
    → ((behind : List Frame) → frames_of_spans (frame ∷ behind) ≡ to_come next behind)
    → Splits frames done (Some running)
    → Splits (frames ++ frame ∷ []) (done ++ ended_one running ∷ []) next
splits-end frames done running frame next off is split behind =
    split-frame frames frame behind ∙ split (frame ∷ behind)
    ∙ ap (λ (l : List SpanFrames). done ++ l) (comes-end running frame behind off
    ∙ ap (λ (l : List SpanFrames). ended_one running ∷ l) (is behind))
    ∙ sym (append_assoc done (ended_one running ∷ []) (to_come next behind))

pub splits-next : (frames : List Frame) (done : List SpanFrames) (frame : Frame) (next : Option Running)
    → ((behind : List Frame) → frames_of_spans (frame ∷ behind) ≡ to_come next behind) → Splits frames done None
    → Splits (frames ++ frame ∷ []) done next
splits-next frames done frame next is split behind =
    split-frame frames frame behind ∙ split (frame ∷ behind) ∙ ap (λ (l : List SpanFrames). done ++ l) (is behind)

pub heard_on-same : (label : Address) (direction : Direction) (tick : ℕ) (behind : List Frame)
    → frames_of_spans (Heard label direction true tick ∷ behind) ≡ frames_of_spans behind
unfolding frames_of_spans
heard_on-same label direction tick behind = refl

pub invented-same : (label : Address) (direction : Direction) (step tick : ℕ) (behind : List Frame)
    → frames_of_spans (Invented label direction step tick ∷ behind) ≡ frames_of_spans behind
unfolding frames_of_spans
invented-same label direction step tick behind = refl

pub gone-same : (tick : ℕ) (behind : List Frame) → frames_of_spans (Gone tick ∷ behind) ≡ frames_of_spans behind
unfolding frames_of_spans
gone-same tick behind = refl

abbrev pub begun_with : Address → Direction → ℕ → Running
begun_with label direction tick = record { first = mark_at label direction tick; more = [] }

pub begun-is : (label : Address) (direction : Direction) (tick : ℕ) (behind : List Frame)
    → frames_of_spans (Heard label direction false tick ∷ behind) ≡ to_come (Some (begun_with label direction tick))
    behind
unfolding frames_of_spans
begun-is label direction tick behind = refl

begun-current : (label : Address) (direction : Direction) (tick : ℕ)
    → begun_at (mark_at label direction tick) ≡ current_of (begun_with label direction tick)
unfolding bridged_in
begun-current label direction tick = refl

-- where the last span of them ended
pub latest-push : (done : List SpanFrames) (running : Running)
    → latest_end None (done ++ ended_one running ∷ []) ≡ Some (span_of (so_far running)).last
latest-push done running = fold_push (λ (mark : Option Mark) (s : SpanFrames). Some (span_of s).last) None done
    (ended_one running)

-- ---- the four kinds of frame, if a span is open and if none is

joins : (tape : Tape) (frames : List Frame) (done : List SpanFrames) (running : Option Running) (before : Option Mark)
    (label : Address) (direction : Direction)
    (tick : ℕ) → Splits frames done running → Counted tape done → latest_end None done ≡ before
    → tape.place ≡ place_of_tape running before
    → StandsFor (joined_at tape (place_of_tape running before) (mark_at label direction tick))
    (frames ++ Heard label direction true tick ∷ [])
joins tape frames done (Some running) before label direction tick split all latest place =
    let frame = Heard label direction true tick in
    let next = with_frame running frame in
    stands_with (placed tape (Within (joined_by (current_of running) (mark_at label direction tick))))
    (frames ++ frame ∷ []) done (Some next)
    (splits-on frames done running frame refl (heard_on-same label direction tick) split)
    (record { ended = all.ended; spans = all.spans; heard = all.heard; bridged = all.bridged })
    (ap (λ (o : OpenSpan). Within o) (joined-is running label direction tick))
joins tape frames done None None label direction tick split all latest place =
    stands_with tape (frames ++ Heard label direction true tick ∷ []) done None
    (splits-idle frames done (Heard label direction true tick) (heard_on-same label direction tick) split) all
    (place ∙ ap (place_of_tape None) (sym latest))
joins tape frames done None (Some mark) label direction tick split all latest place =
    stands_with tape (frames ++ Heard label direction true tick ∷ []) done None
    (splits-idle frames done (Heard label direction true tick) (heard_on-same label direction tick) split) all
    (place ∙ ap (place_of_tape None) (sym latest))

invents : (tape : Tape) (frames : List Frame) (done : List SpanFrames) (running : Option Running) (before : Option Mark)
    (label : Address)
    (direction : Direction) (step tick : ℕ) → Splits frames done running → Counted tape done
    → latest_end None done ≡ before
    → tape.place ≡ place_of_tape running before
    → StandsFor (invented_at tape (place_of_tape running before)) (frames ++ Invented label direction step tick ∷ [])
invents tape frames done (Some running) before label direction step tick split all latest place =
    let frame = Invented label direction step tick in
    let next = with_frame running frame in
    stands_with (placed tape (Within (with_invented (current_of running)))) (frames ++ frame ∷ []) done (Some next)
    (splits-on frames done running frame refl (invented-same label direction step tick) split)
    (record { ended = all.ended; spans = all.spans; heard = all.heard; bridged = all.bridged })
    (ap (λ (o : OpenSpan). Within o) (invented-is running label direction step tick))
invents tape frames done None None label direction step tick split all latest place =
    stands_with tape (frames ++ Invented label direction step tick ∷ []) done None
    (splits-idle frames done (Invented label direction step tick) (invented-same label direction step tick) split) all
    (place ∙ ap (place_of_tape None) (sym latest))
invents tape frames done None (Some mark) label direction step tick split all latest place =
    stands_with tape (frames ++ Invented label direction step tick ∷ []) done None
    (splits-idle frames done (Invented label direction step tick) (invented-same label direction step tick) split) all
    (place ∙ ap (place_of_tape None) (sym latest))

ends : (tape : Tape) (frames : List Frame) (done : List SpanFrames) (running : Option Running) (before : Option Mark)
    (tick : ℕ)
    → Splits frames done running → Counted tape done → latest_end None done ≡ before
    → tape.place ≡ place_of_tape running before
    → StandsFor (counted_at tape (place_of_tape running before)) (frames ++ Gone tick ∷ [])
ends tape frames done (Some running) before tick split all latest place =
    let span = span_of (so_far running) in
    stands_with (ended_by tape span (Behind span.last)) (frames ++ Gone tick ∷ []) (done ++ ended_one running ∷ []) None
    (splits-end frames done running (Gone tick) None refl (gone-same tick) split)
    (counted-push tape done running (Behind span.last) all)
    (ap (place_of_tape None) (sym (latest-push done running)))
ends tape frames done None None tick split all latest place =
    stands_with tape (frames ++ Gone tick ∷ []) done None (splits-idle frames done (Gone tick) (gone-same tick) split)
    all
    (place ∙ ap (place_of_tape None) (sym latest))
ends tape frames done None (Some mark) tick split all latest place =
    stands_with tape (frames ++ Gone tick ∷ []) done None (splits-idle frames done (Gone tick) (gone-same tick) split)
    all
    (place ∙ ap (place_of_tape None) (sym latest))

begins : (tape : Tape) (frames : List Frame) (done : List SpanFrames) (running : Option Running) (before : Option Mark)
    (label : Address)
    (direction : Direction) (tick : ℕ) → Splits frames done running → Counted tape done → latest_end None done ≡ before
    → tape.place ≡ place_of_tape running before
    → StandsFor (begun_in tape (place_of_tape running before) (mark_at label direction tick))
    (frames ++ Heard label direction false tick ∷ [])
begins tape frames done (Some running) before label direction tick split all latest place =
    let span = span_of (so_far running) in
    let frame = Heard label direction false tick in
    let next = begun_with label direction tick in
    stands_with (ended_by tape span (Within (begun_at (mark_at label direction tick)))) (frames ++ frame ∷ [])
    (done ++ ended_one running ∷ []) (Some next)
    (splits-end frames done running frame (Some next) refl (begun-is label direction tick) split)
    (counted-push tape done running (Within (begun_at (mark_at label direction tick))) all)
    (ap (λ (o : OpenSpan). Within o) (begun-current label direction tick))
begins tape frames done None None label direction tick split all latest place =
    let frame = Heard label direction false tick in
    let next = begun_with label direction tick in
    stands_with (placed tape (Within (begun_at (mark_at label direction tick)))) (frames ++ frame ∷ []) done (Some next)
    (splits-next frames done frame (Some next) (begun-is label direction tick) split)
    (record { ended = all.ended; spans = all.spans; heard = all.heard; bridged = all.bridged })
    (ap (λ (o : OpenSpan). Within o) (begun-current label direction tick))
begins tape frames done None (Some mark) label direction tick split all latest place =
    let frame = Heard label direction false tick in
    let next = begun_with label direction tick in
    stands_with (placed tape (Within (begun_at (mark_at label direction tick)))) (frames ++ frame ∷ []) done (Some next)
    (splits-next frames done frame (Some next) (begun-is label direction tick) split)
    (record { ended = all.ended; spans = all.spans; heard = all.heard; bridged = all.bridged })
    (ap (λ (o : OpenSpan). Within o) (begun-current label direction tick))

counts_of : (tape : Tape) (frames : List Frame) (stands : StandsFor tape frames) → Counted tape stands.done
counts_of tape frames stands = record {
  ended = stands.ended;
  spans = stands.spans;
  heard = stands.heard;
  bridged =
      stands.bridged;
}

-- the tape after a frame stands for the frames with it
pub stands_on : (tape : Tape) (frames : List Frame) (frame : Frame) → StandsFor tape frames
    → StandsFor (after_frame tape frame) (frames ++ frame ∷ [])
stands_on tape frames (Heard label direction true tick) stands =
    let mark = mark_at label direction tick in
    subst (λ (p : TapePlace). StandsFor (joined_at tape p mark) (frames ++ Heard label direction true tick ∷ []))
    (sym stands.place)
    (joins tape frames stands.done stands.running (latest_end None stands.done) label direction tick stands.split
    (counts_of tape frames stands) refl stands.place)
stands_on tape frames (Heard label direction false tick) stands =
    let mark = mark_at label direction tick in
    subst (λ (p : TapePlace). StandsFor (begun_in tape p mark) (frames ++ Heard label direction false tick ∷ []))
    (sym stands.place)
    (begins tape frames stands.done stands.running (latest_end None stands.done) label direction tick stands.split
    (counts_of tape frames stands) refl stands.place)
stands_on tape frames (Invented label direction step tick) stands =
    subst (λ (p : TapePlace). StandsFor (invented_at tape p) (frames ++ Invented label direction step tick ∷ []))
    (sym stands.place)
    (invents tape frames stands.done stands.running (latest_end None stands.done) label direction step tick stands.split
    (counts_of tape frames stands) refl
    stands.place)
stands_on tape frames (Gone tick) stands =
    subst (λ (p : TapePlace). StandsFor (counted_at tape p) (frames ++ Gone tick ∷ [])) (sym stands.place)
    (ends tape frames stands.done stands.running (latest_end None stands.done) tick stands.split
    (counts_of tape frames stands) refl stands.place)
