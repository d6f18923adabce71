-- The lines that are final are those of the spans that have ended, and that of the gap before the open one. So a
-- frame adds what it completes.
use Rattle.std.proofs.Common.{◌≡◌, ℕ, ◌+◌, false, List, [], ◌∷◌, ◌++◌, map, length, Option}
use Rattle.std.proofs.Common.{Some, None, refl}
use Rattle.std.proofs.Common.{sym, ◌∙◌, ap, ap₂, subst, append_assoc, append-nil, arith}
use Rattle.std.specs.List.{flat_map, sum_by}
use Rattle.std.proofs.lemmas.List.{length-append, length-map}
use Rattle.std.proofs.lemmas.List.Concat.{flat_map-cons}
use Rattle.std.proofs.lemmas.List.Sums.{sum_by-append, sum_by-cons}
use Rattle.tc_address.specs.declared.system.System.{System}
use Rattle.flywheel.specs.declared.frame.Frame.{Frame}
use Rattle.tape_spans.specs.declared.place.TapePlace.{TapePlace}
use Rattle.tape_spans.specs.declared.place.TapePlace.TheVariants.{Before, Within, Behind}
use Rattle.tape_spans.specs.declared.span.Mark.{Mark}
use Rattle.tape_spans.specs.declared.span.Span.{Span}
use Rattle.tape_spans.specs.Spans.{SpanFrames, frames_of_spans, span_of, spans}
use Rattle.tape_spans.specs.SpanTexts.{final_behind, final_lines, gap_before, line_if_open, lines_behind}
use Rattle.tape_spans.specs.SpanTexts.{open_line, span_line}
use Rattle.tape_spans.specs.SpanTexts.{last_spans_line, spans_end_line}
use Rattle.tape_spans.specs.StandsFor.{AreEnded, Running, StandsFor, cut_lines, ended_lines, latest_end}
use Rattle.tape_spans.specs.StandsFor.{place_of_tape, to_come}
use Rattle.tape_spans.specs.Tape.{Tape, after_frame, counted, counted_at, cut_by, ended_at}
use Rattle.tape_spans.proofs.SpansGoOn.{stands_on}
use Rattle.tape_spans.proofs.LinesOfFrames.{frame_adds, same_line}

-- ---- the open span, and the last line

open-append : (rate : ℕ) (system : System) (done more : List SpanFrames) → AreEnded done
    → flat_map (line_if_open rate system) (done ++ more) ≡ flat_map (line_if_open rate system) more
open-append rate system [] more ended = refl
open-append rate system (s ∷ done) more ended =
    let line = span_line rate system (span_of s) in
    flat_map-cons (line_if_open rate system) s (done ++ more)
    ∙ ap (λ (l : List ℕ). l ++ flat_map (line_if_open rate system) (done ++ more)) (same_line [] line s ended.0)
    ∙ open-append rate system done more ended.1

open-to_come : (rate : ℕ) (system : System) (running : Option Running) (before : Option Mark)
    → flat_map (line_if_open rate system) (to_come running []) ≡ ended_lines rate system
    (ended_at (place_of_tape running before))
unfolding frames_of_spans
open-to_come rate system (Some running) before =
    let s : SpanFrames = record { first = running.first; more = running.more ++ []; has_ended = false } in
    flat_map-cons (line_if_open rate system) s [] ∙ append-nil (span_line rate system (span_of s))
    ∙ ap (λ (l : List Frame). span_line rate system
    (span_of (record { first = running.first; more = l; has_ended = false }))) (append-nil running.more)
open-to_come rate system None None = refl
open-to_come rate system None (Some mark) = refl

split-nil : (tape : Tape) (frames : List Frame) (stands : StandsFor tape frames) → frames_of_spans frames ≡ stands.done
    ++ to_come stands.running []
split-nil tape frames stands = ap frames_of_spans (sym (append-nil frames)) ∙ stands.split []

pub open_line_is : (rate : ℕ) (system : System) (tape : Tape) (frames : List Frame) → StandsFor tape frames
    → open_line rate system frames ≡ ended_lines rate system (ended_at tape.place)
open_line_is rate system tape frames stands =
    ap (flat_map (line_if_open rate system)) (split-nil tape frames stands)
    ∙ open-append rate system stands.done (to_come stands.running []) stands.ended
    ∙ open-to_come rate system stands.running (latest_end None stands.done)
    ∙ ap (λ (p : TapePlace). ended_lines rate system (ended_at p)) (sym stands.place)

-- with the line of the open span, the lines are those of all spans
all-behind : (rate : ℕ) (system : System) (before : Option Mark) (done more : List SpanFrames) → AreEnded done
    → ((b : Option Mark) → final_behind rate system b more ++ flat_map (line_if_open rate system) more ≡ lines_behind
    rate system b (map span_of more))
    → final_behind rate system before (done ++ more) ++ flat_map (line_if_open rate system) (done ++ more)
    ≡ lines_behind rate system before (map span_of (done ++ more))
unfolding final_behind lines_behind
all-behind rate system before [] more ended last = last before
all-behind rate system before (s ∷ done) more ended last =
    let gap = gap_before before s.first in
    let line = span_line rate system (span_of s) in
    let own = final_behind rate system (Some (span_of s).last) (done ++ more) in
    let open_lines = flat_map (line_if_open rate system) (done ++ more) in
    ap (λ (l : List ℕ). (gap ++ (l ++ own)) ++ flat_map (line_if_open rate system) (s ∷ (done ++ more)))
    (same_line line [] s ended.0)
    ∙ ap (λ (l : List ℕ). (gap ++ (line ++ own)) ++ l) (flat_map-cons (line_if_open rate system) s (done ++ more)
    ∙ ap (λ (l : List ℕ). l ++ open_lines) (same_line [] line s ended.0))
    ∙ append_assoc gap (line ++ own) open_lines ∙ ap (λ (l : List ℕ). gap ++ l) (append_assoc line own open_lines)
    ∙ ap (λ (l : List ℕ). gap ++ (line ++ l)) (all-behind rate system (Some (span_of s).last) done more ended.1 last)

all-to_come : (rate : ℕ) (system : System) (running : Option Running) (before : Option Mark)
    → final_behind rate system before (to_come running []) ++ flat_map (line_if_open rate system) (to_come running [])
    ≡ lines_behind rate system before (map span_of (to_come running []))
unfolding final_behind lines_behind frames_of_spans
all-to_come rate system None before = refl
all-to_come rate system (Some running) before =
    let s : SpanFrames = record { first = running.first; more = running.more ++ []; has_ended = false } in
    let gap = gap_before before running.first in
    let line = span_line rate system (span_of s) in
    ap (λ (l : List ℕ). l ++ flat_map (line_if_open rate system) (s ∷ [])) (append-nil gap)
    ∙ ap (λ (l : List ℕ). gap ++ l) (flat_map-cons (line_if_open rate system) s [])

pub all_lines : (rate : ℕ) (system : System) (tape : Tape) (frames : List Frame) → StandsFor tape frames
    → final_lines rate system frames ++ open_line rate system frames ≡ lines_behind rate system None (spans frames)
all_lines rate system tape frames stands =
    let split = split-nil tape frames stands in
    subst (λ (l : List SpanFrames). final_behind rate system None l ++ flat_map (line_if_open rate system) l
    ≡ lines_behind rate system None (map span_of l))
    (sym split)
    (all-behind rate system None stands.done (to_come stands.running []) stands.ended
    (all-to_come rate system stands.running))

-- ---- each list of frames has a tape that stands for it, and further frames only add lines

pub record GoesFurther (rate : ℕ) (system : System) (frames more : List Frame) : Type 0 where
  pub tape : Tape
  pub stands : StandsFor tape (frames ++ more)
  pub lines : List ℕ
  pub adds : final_lines rate system (frames ++ more) ≡ final_lines rate system frames ++ lines

pub goes_further : (rate : ℕ) (system : System) (tape : Tape) (frames more : List Frame) → StandsFor tape frames
    → GoesFurther rate system frames more
goes_further rate system tape frames [] stands = record {
  tape = tape;
  stands = subst (StandsFor tape) (sym (append-nil frames)) stands;
  lines = [];
  adds = ap (final_lines rate system) (append-nil frames) ∙ sym (append-nil (final_lines rate system frames));
}
goes_further rate system tape frames (frame ∷ more) stands =
    let own = cut_lines rate system (cut_by tape frame) in
    let later = goes_further rate system (after_frame tape frame) (frames ++ frame ∷ []) more
    (stands_on tape frames frame stands) in
    let same = append_assoc frames (frame ∷ []) more in
    record {
      tape = later.tape;
      stands = subst (StandsFor later.tape) same later.stands;
      lines = own ++ later.lines;
      adds = ap (final_lines rate system) (sym same) ∙ later.adds
          ∙ ap (λ (l : List ℕ). l ++ later.lines) (frame_adds rate system tape frames frame stands)
          ∙ append_assoc (final_lines rate system frames) own later.lines;
    }

-- ---- the counts of the last line

sum-append : (f : SpanFrames → ℕ) (done : List SpanFrames) (running : Option Running)
    → sum_by f (done ++ to_come running []) ≡ sum_by f done + sum_by f (to_come running [])
sum-append f done running = sum_by-append f done (to_come running [])

-- a number of a span, summed over spans
sum-of_spans : (f : Span → ℕ) (all : List SpanFrames) → sum_by f (map span_of all) ≡ sum_by (λ s. f (span_of s)) all
sum-of_spans f [] = refl
sum-of_spans f (s ∷ more) =
    sum_by-cons f (span_of s) (map span_of more) ∙ ap (λ (n : ℕ). f (span_of s) + n) (sum-of_spans f more)
    ∙ sym (sum_by-cons (λ (x : SpanFrames). f (span_of x)) s more)

-- what is counted of the spans that have ended, with that of the open one
abbrev of_place : (Span → ℕ) → TapePlace → ℕ
of_place f Before = 0
of_place f (Within current) = f current.span
of_place f (Behind mark) = 0

sum-to_come : (f : Span → ℕ) (running : Option Running) (before : Option Mark)
    → sum_by (λ s. f (span_of s)) (to_come running []) ≡ of_place f (place_of_tape running before)
unfolding frames_of_spans
sum-to_come f (Some running) before =
    let s : SpanFrames = record { first = running.first; more = running.more ++ []; has_ended = false } in
    let same = ap (λ (l : List Frame). f (span_of (record { first = running.first; more = l; has_ended = false })))
    (append-nil running.more) in
    let cons = sum_by-cons (λ (x : SpanFrames). f (span_of x)) s [] in
    omega (arith, same, cons)
sum-to_come f None None = refl
sum-to_come f None (Some mark) = refl

sum-spans : (f : Span → ℕ) (tape : Tape) (frames : List Frame) (stands : StandsFor tape frames) (n : ℕ)
    → n ≡ sum_by (λ s. f (span_of s)) stands.done
    → sum_by f (spans frames) ≡ n + of_place f tape.place
sum-spans f tape frames stands n is =
    sum-of_spans f (frames_of_spans frames)
    ∙ ap (sum_by (λ (s : SpanFrames). f (span_of s))) (split-nil tape frames stands)
    ∙ sum-append (λ (s : SpanFrames). f (span_of s)) stands.done stands.running
    ∙ ap₂ (λ (a b : ℕ). a + b) (sym is) (sum-to_come f stands.running (latest_end None stands.done)
    ∙ ap (of_place f) (sym stands.place))

count-to_come : (running : Option Running) (before : Option Mark)
    → length (to_come running []) ≡ of_place (λ _. 1) (place_of_tape running before)
unfolding frames_of_spans
count-to_come (Some running) before = refl
count-to_come None None = refl
count-to_come None (Some mark) = refl

count-spans : (tape : Tape) (frames : List Frame) (stands : StandsFor tape frames)
    → length (spans frames) ≡ tape.spans + of_place (λ _. 1) tape.place
count-spans tape frames stands =
    length-map (frames_of_spans frames) span_of ∙ ap (λ (l : List SpanFrames). length l) (split-nil tape frames stands)
    ∙ length-append stands.done (to_come stands.running [])
    ∙ ap₂ (λ (a b : ℕ). a + b) (sym stands.spans) (count-to_come stands.running (latest_end None stands.done)
    ∙ ap (of_place (λ _. 1)) (sym stands.place))

-- the tape with its open span counted
place-counted : (tape : Tape) (place : TapePlace)
    → ((counted_at tape place).spans ≡ tape.spans + of_place (λ _. 1) place)
    × ((counted_at tape place).heard ≡ tape.heard + of_place (λ span. span.heard) place)
    × ((counted_at tape place).bridged ≡ tape.bridged + of_place (λ span. span.bridged) place)
place-counted tape Before = (omega arith, omega arith, omega arith)
place-counted tape (Within current) = (refl, refl, refl)
place-counted tape (Behind mark) = (omega arith, omega arith, omega arith)

-- the last line counts all spans
pub counts_all : (tape : Tape) (frames : List Frame) (intervals ticks : ℕ) → StandsFor tape frames
    → spans_end_line intervals (counted tape).spans (counted tape).heard (counted tape).bridged ticks ≡ last_spans_line
    intervals (spans frames) ticks
counts_all tape frames intervals ticks stands =
    let all = place-counted tape tape.place in
    let spans_are = all.0 ∙ sym (count-spans tape frames stands) in
    let heard_are = all.1 ∙ sym (sum-spans (λ span. span.heard) tape frames stands tape.heard stands.heard) in
    let bridged_are = all.2 ∙ sym (sum-spans (λ span. span.bridged) tape frames stands tape.bridged stands.bridged) in
    ap (λ (n : ℕ). spans_end_line intervals n (counted tape).heard (counted tape).bridged ticks) spans_are
    ∙ ap (λ (n : ℕ). spans_end_line intervals (length (spans frames)) n (counted tape).bridged ticks) heard_are
    ∙ ap (λ (n : ℕ). spans_end_line intervals (length (spans frames)) (sum_by (λ span. span.heard) (spans frames)) n
    ticks) bridged_are
