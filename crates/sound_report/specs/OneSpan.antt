-- The one span of words whose labels count on.
use Rattle.std.specs.Prelude.{◌≡◌, ℕ, ◌+◌, ◌*◌, ◌<◌, List, [], ◌∷◌, ◌++◌, length, take, drop, sum}
use Rattle.biphase.specs.declared.cell.Cell.{Cell}
use Rattle.direction_reader.specs.ListEvents.{duration}
use Rattle.direction_reader.specs.Played.{Played}
use Rattle.flywheel.specs.Frames.{steps_in}
use Rattle.interval_file.specs.declared.header.IntervalHeader.{IntervalHeader}
use Rattle.tape_sound.specs.OnTime.{AreNear}
use Rattle.tape_spans.specs.declared.span.Mark.{Mark}
use Rattle.tape_spans.specs.declared.span.Span.{Span}
use Rattle.tape_spans.specs.Spans.{mark_at}
use Rattle.tape_spans.specs.SpanTexts.{span_line, spans_end_line}
use Rattle.tc_address.specs.Label.{Address}
use Rattle.tc_address.specs.Numbering.{step}

-- the label of a word that is played
abbrev pub label_of : Played → Address
label_of p = p.word.fields.label

-- the labels count on behind a word: each word is played in the direction of the one before it, and has the next label
-- in that direction
abbrev pub CountOn : Played → List Played → Type 0
CountOn before [] = Unit {0}
CountOn before (word ∷ more) =
    (word.direction ≡ before.direction) × (label_of word ≡ step (label_of before) (steps_in before.direction 1))
    × CountOn word more

-- words that are played with these cells, behind a word of this many ticks, keep pace: each lasts less than one and a
-- half of the one before it, and so much less that some delays are left for the places at which they are found
abbrev pub KeepPaceBehind : ℕ → ℕ → List Cell → List Played → Type 0
KeepPaceBehind delay before cells [] = Unit {0}
KeepPaceBehind delay before cells (word ∷ more) = let own = duration (take 80 cells) in
    (2 * own + 7 * delay < 3 * before) × KeepPaceBehind delay own (drop 80 cells) more

-- words that are played with these cells keep pace from the first one on
abbrev pub KeepPace : ℕ → List Cell → List Played → Type 0
KeepPace delay cells [] = Unit {0}
KeepPace delay cells (word ∷ more) = KeepPaceBehind delay (duration (take 80 cells)) (drop 80 cells) more

-- the last of some words, of which the first is this
abbrev pub last_of : Played → List Played → Played
last_of word [] = word
last_of word (next ∷ more) = last_of next more

-- a word that is heard at a tick, at the begin of a span or at its end
abbrev pub mark_of : Played → ℕ → Mark
mark_of p tick = mark_at (label_of p) p.direction tick

-- the span from a word at a tick to another one, with this many words in it and none bridged
abbrev pub span_from : Played → ℕ → Played → ℕ → ℕ → Span
span_from first begins last ends words =
    record { first = mark_of first begins; last = mark_of last ends; heard = words; bridged = 0 }

-- the text tells one span, from the first of these words to the last, each at its end on the tape, but for the delay.
-- All of them are heard, none is bridged, and no gap is written
pub record TellsOneSpan (header : IntervalHeader) (delay tick : ℕ) (tape : List Cell) (first : Played)
    (more : List Played) (intervals text : List ℕ) : Type 0 where
  pub begins : ℕ
  pub ends : ℕ
  pub begins_on_time : AreNear delay begins (tick + duration (take 80 (drop 2 tape)))
  pub ends_on_time : AreNear delay ends (tick + duration (take (80 * (1 + length more)) (drop 2 tape)))
  pub are : text ≡ span_line header.tick_rate header.system
      (span_from first begins (last_of first more) ends (1 + length more))
      ++ spans_end_line (length intervals) 1 (1 + length more) 0 (sum intervals)
