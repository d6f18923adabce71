-- Words whose labels count on, and that keep pace, are heard joined: as one span, from the first to the last.
use Rattle.std.proofs.Common.{◌≡◌, ℕ, suc, ◌+◌, ◌*◌, ◌<◌, true, List, [], ◌∷◌, ◌++◌, length, take, drop}
use Rattle.std.proofs.Common.{sum, None, refl, ap, ap₂, ◌∙◌, append-nil, arith}
use Rattle.std.specs.Prelude.{◌↔◌}
use Rattle.std.proofs.Math.Seq.{take-add}
use Rattle.std.proofs.lemmas.Grind.{flat_map-append}
use Rattle.std.specs.List.{sum_by}
use Rattle.std.proofs.lemmas.List.Sums.{sum_by-append, sum_by-cons}
use Rattle.biphase.specs.declared.cell.Cell.{Cell}
use Rattle.biphase.specs.Chain.{flat, intervals_of}
use Rattle.direction_reader.specs.declared.event.Event.{Event}
use Rattle.direction_reader.specs.declared.event.Event.TheVariants.{Word, Refused, Lost}
use Rattle.direction_reader.specs.ListEvents.{duration}
use Rattle.direction_reader.specs.Played.{Played, events_of_words}
use Rattle.flywheel.specs.declared.frame.Frame.{Frame}
use Rattle.flywheel.specs.declared.heard.HeardWord.{HeardWord}
use Rattle.flywheel.specs.Frames.{frames, is_next, label_after}
use Rattle.frame_commands.specs.LtcSpans.{span_lines, spans_counted}
use Rattle.frame_commands.specs.OfFrames.{frames_of, words_heard}
use Rattle.interval_file.specs.declared.header.IntervalHeader.{IntervalHeader}
use Rattle.tape_sound.specs.OnTime.{AreNear, AreOnTime}
use Rattle.tape_spans.specs.declared.span.Mark.{Mark}
use Rattle.tape_spans.specs.declared.span.Span.{Span}
use Rattle.tape_spans.specs.Spans.{spans}
use Rattle.tape_spans.specs.SpanTexts.{last_spans_line, lines_behind, span_line, spans_end_line}
use Rattle.tc_address.specs.declared.system.System.{System}
use Rattle.tc_job.specs.declared.flight.Flight.{Flight}
use Rattle.sound_report.specs.OneSpan.{label_of, last_of, mark_of, span_from, CountOn, KeepPaceBehind, KeepPace}
use Rattle.sound_report.specs.OneSpan.{TellsOneSpan}
use Rattle.sound_report.specs.WordsSpans.{TellsSpans}
use Rattle.sound_report.proofs.JoinedSpan.{mark_there, one_span}
use Rattle.sound_report.proofs.JoinedWords.{latest, AreJoined, ComesSoon}

-- what the law of the next word says
abbrev pub NextLaw : Type 0
NextLaw = (before word : HeardWord) (k : ℕ) → (is_next before k word ≡ true)
    ↔ ((word.direction ≡ before.direction) × (word.label ≡ label_after before k))

-- a word that is played, as it is heard
abbrev pub heard_with : Played → ℕ → ℕ → HeardWord
heard_with p tick length =
    record { label = label_of p; direction = p.direction; tick = tick; length = length }

-- the words of events, of which the first is played with the first of these cells from a tick on
pub record AreHeard (delay tick : ℕ) (cells : List Cell) (p : Played) (more : List Played) (events : List Event)
    : Type 0 where
  pub at : ℕ
  pub long : ℕ
  pub others : List HeardWord
  pub are : words_heard events ≡ heard_with p at long ∷ others
  pub at_near : AreNear delay at (tick + duration (take 80 cells))
  pub long_near : AreNear delay long (duration (take 80 cells))
  pub many : length others ≡ length more
  pub joined : AreJoined (heard_with p at long) others
  pub last : ℕ
  pub ends : mark_there (latest (heard_with p at long) others) ≡ mark_of (last_of p more) last
  pub last_near : AreNear delay last (tick + duration (take (80 * (1 + length more)) cells))

-- the cells of some words last as long as those of the first and those of the others
lasts : (cells : List Cell) (next : Played) (more : List Played)
    → duration (take (80 * (1 + length (next ∷ more))) cells)
    ≡ duration (take 80 cells) + duration (take (80 * (1 + length more)) (drop 80 cells))
lasts cells next more =
    let behind = 80 * (1 + length more) in
    let parts : 80 * (1 + length (next ∷ more)) ≡ 80 + behind = omega arith in
    ap (λ (k : ℕ). duration (take k cells)) parts ∙ ap duration (take-add 80 behind cells)
    ∙ ap sum (flat_map-append intervals_of (take 80 cells) (take behind (drop 80 cells)))
    ∙ sum_by-append (λ n. n) (flat (take 80 cells)) (flat (take behind (drop 80 cells)))

-- one word
heard_once : (delay tick : ℕ) (cells : List Cell) (p : Played) (at long : ℕ)
    → AreNear delay at (tick + duration (take 80 cells)) → AreNear delay long (duration (take 80 cells))
    → AreHeard delay tick cells p [] (Word p.direction p.word at long ∷ [])
heard_once delay tick cells p at long at_near long_near = record {
  at = at;
  long = long;
  others = [];
  are = refl;
  at_near = at_near;
  long_near = long_near;
  many = refl;
  joined = tt;
  last = at;
  ends = refl;
  last_near = at_near;
}

-- and one before others
heard_before : NextLaw → (delay tick : ℕ) (cells : List Cell) (p next : Played) (more : List Played) (at long : ℕ)
    (events : List Event) → (next.direction ≡ p.direction) → (label_of next ≡ label_after (heard_with p at long) 1)
    → 2 * duration (take 80 (drop 80 cells)) + 7 * delay < 3 * duration (take 80 cells)
    → AreNear delay at (tick + duration (take 80 cells)) → AreNear delay long (duration (take 80 cells))
    → AreHeard delay (tick + duration (take 80 cells)) (drop 80 cells) next more events
    → AreHeard delay tick cells p (next ∷ more) (Word p.direction p.word at long ∷ events)
heard_before fits delay tick cells p next more at long events way label pace at_near long_near later =
    let soon : ComesSoon (heard_with p at long) (heard_with next later.at later.long) =
    omega (arith, pace, at_near.0, at_near.1, long_near.0, long_near.1, later.at_near.0, later.at_near.1) in
    let is = (fits (heard_with p at long) (heard_with next later.at later.long) 1).1 (way, label) in
    record {
      at = at;
      long = long;
      others = heard_with next later.at later.long ∷ later.others;
      are = ap (λ (l : List HeardWord). heard_with p at long ∷ l) later.are;
      at_near = at_near;
      long_near = long_near;
      many = ap (λ (n : ℕ). suc n) later.many;
      joined = (soon, is, later.joined);
      last = later.last;
      ends = later.ends;
      last_near = (
        omega (arith, later.last_near.0, lasts cells next more),
        omega (arith, later.last_near.1, lasts cells next more),
      );
    }

pub are_heard : NextLaw → (delay tick : ℕ) (cells : List Cell) (p : Played) (more : List Played) (events : List Event)
    → CountOn p more → KeepPaceBehind delay (duration (take 80 cells)) (drop 80 cells) more
    → AreOnTime delay events (events_of_words tick cells (p ∷ more)) → AreHeard delay tick cells p more events
unfolding events_of_words
are_heard fits delay tick cells p more [] on pace times = absurd times
are_heard fits delay tick cells p more (Refused way fault at ∷ events) on pace times = absurd times.0
are_heard fits delay tick cells p more (Lost interval at ∷ events) on pace times = absurd times.0
are_heard fits delay tick cells p [] (Word way word at long ∷ []) on pace times =
    rw (times.0.0, times.0.1) (heard_once delay tick cells p at long times.0.2 times.0.3)
are_heard fits delay tick cells p [] (Word way word at long ∷ e ∷ events) on pace times = absurd times.1
are_heard fits delay tick cells p (next ∷ more) (Word way word at long ∷ events) on pace times =
    let later = are_heard fits delay (tick + duration (take 80 cells)) (drop 80 cells) next more events on.2 pace.1
    times.1 in
    rw (times.0.0, times.0.1)
    (heard_before fits delay tick cells p next more at long events on.0 on.1 pace.0 times.0.2 times.0.3 later)

-- ---- the text

-- a span by its marks
abbrev span_between : Mark → Mark → ℕ → Span
span_between first last heard = record { first = first; last = last; heard = heard; bridged = 0 }

alone : (number : Span → ℕ) (span : Span) → sum_by number (span ∷ []) ≡ number span
alone number span = sum_by-cons number span [] ∙ (omega arith)

-- the lines of one span
lines_of_one : (tick_rate : ℕ) (system : System) (span : Span) → lines_behind tick_rate system None (span ∷ [])
    ≡ span_line tick_rate system span
unfolding lines_behind
lines_of_one tick_rate system span = append-nil (span_line tick_rate system span)

one_line : (header : IntervalHeader) (span : Span) (all : List Frame) (intervals : List ℕ) → spans all ≡ span ∷ []
    → span_lines header all ++ spans_counted intervals all
    ≡ span_line header.tick_rate header.system span
    ++ spans_end_line (length intervals) 1 span.heard span.bridged (sum intervals)
one_line header span all intervals one =
    let many = length intervals in
    let ticks = sum intervals in
    ap (λ (l : List Span). lines_behind header.tick_rate header.system None l ++ last_spans_line many l ticks) one
    ∙ ap₂ ◌++◌ (lines_of_one header.tick_rate header.system span)
    (ap₂ (λ (heard bridged : ℕ). spans_end_line many 1 heard bridged ticks)
    (alone (λ (s : Span). s.heard) span) (alone (λ (s : Span). s.bridged) span))

pub one_span_told : NextLaw → (header : IntervalHeader) (flight : Flight) (delay tick : ℕ) (tape : List Cell)
    (first : Played) (more : List Played) (intervals text : List ℕ)
    → TellsSpans header flight delay tick tape (first ∷ more) intervals text → CountOn first more
    → KeepPace delay (drop 2 tape) (first ∷ more)
    → TellsOneSpan header delay tick tape first more intervals text
one_span_told fits header flight delay tick tape first more intervals text tells on pace =
    let heard = are_heard fits delay tick (drop 2 tape) first more tells.events on pace tells.on_time in
    let word = heard_with first heard.at heard.long in
    let all : List Frame = frames_of flight.limit intervals tells.events in
    let own = span_from first heard.at (last_of first more) heard.last (1 + length more) in
    let one : spans all ≡ own ∷ [] =
    ap (λ (l : List HeardWord). spans (frames flight.limit l (sum intervals))) heard.are
    ∙ one_span flight.limit (sum intervals) word heard.others heard.joined
    ∙ ap₂ (λ last (n : ℕ). span_between (mark_there word) last (1 + n) ∷ []) heard.ends heard.many in
    record {
      begins = heard.at;
      ends = heard.last;
      begins_on_time = heard.at_near;
      ends_on_time = heard.last_near;
      are = tells.are ∙ one_line header own all intervals one;
    }
