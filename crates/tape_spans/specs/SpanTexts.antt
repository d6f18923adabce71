-- The lines of the spans of a tape, byte for byte. Their form is this project's own.
use Rattle.std.specs.Prelude.{ℕ, ◌+◌, ◌-◌, ◌*◌, ◌/◌, ◌==◌, if◌then◌else◌, List, [], ◌∷◌, ◌++◌, codes, decimal}
use Rattle.std.specs.Prelude.{length, Option, Some, None}
use Rattle.std.specs.Fmt.{signed_decimal}
use Rattle.std.specs.List.{flat_map, sum_by}
use Rattle.tc_address.specs.declared.system.System.{System}
use Rattle.tc_address.specs.Count.{rate_of}
use Rattle.tc_address.specs.Spelling.{text_of}
use Rattle.line_text.specs.Line.{direction_name}
use Rattle.flywheel.specs.declared.frame.Frame.{Frame}
use Rattle.tape_spans.specs.declared.gap.Gap.{Gap}
use Rattle.tape_spans.specs.declared.gap.Relation.{Relation}
use Rattle.tape_spans.specs.declared.gap.Relation.TheVariants.{Count, Turn, Step}
use Rattle.tape_spans.specs.declared.span.Mark.{Mark}
use Rattle.tape_spans.specs.declared.span.Span.{Span}
use Rattle.tape_spans.specs.Gap.{gap_between}
use Rattle.tape_spans.specs.Spans.{SpanFrames, frames_of_spans, span_of, spans}

-- the mean speed of a span at a tick rate, in thousandths of nominal, rounded down: at nominal speed the frames of
-- the system last a second. A span of no ticks, as of one word, has none
abbrev pub mean_speed : ℕ → System → Span → ℕ
mean_speed tick_rate system span =
    let ticks = span.last.tick - span.first.tick in
    if ticks == 0 then 0 else 1000 * tick_rate * (span.heard + span.bridged - 1) / (rate_of system * ticks)

-- the line of a span
abbrev pub span_line : ℕ → System → Span → List ℕ
span_line tick_rate system span =
    codes "span " ++ direction_name span.first.direction ++ codes " " ++ text_of span.first.label ++ codes " "
    ++ text_of span.last.label
    ++ codes " heard " ++ decimal span.heard ++ codes " bridged " ++ decimal span.bridged
    ++ codes " tick " ++ decimal span.first.tick ++ codes " " ++ decimal span.last.tick
    ++ codes " speed " ++ decimal (mean_speed tick_rate system span) ++ codes "\n"

-- the words for how the labels on both sides of a gap fit each other
abbrev pub relation_text : Relation → List ℕ
relation_text Count = codes " count"
relation_text Turn = codes " turn"
relation_text (Step k) = codes " step " ++ signed_decimal k

-- the line of a gap
abbrev pub gap_line : Gap → List ℕ
gap_line gap = codes "gap ticks " ++ decimal gap.ticks ++ relation_text gap.relation ++ codes "\n"

-- the line that stands before a span: that of the gap, where a span stands before it
abbrev pub gap_before : Option Mark → Mark → List ℕ
gap_before None next = []
gap_before (Some last) next = gap_line (gap_between last next)

-- the lines of spans behind a mark, or behind none: each has its own, and between two of them stands that of the gap
unfoldable pub lines_behind : ℕ → System → Option Mark → List Span → List ℕ
lines_behind tick_rate system before [] = []
lines_behind tick_rate system before (span ∷ more) =
    gap_before before span.first ++ (span_line tick_rate system span
    ++ lines_behind tick_rate system (Some span.last) more)

-- the last line: the intervals, the spans, how many frames were heard and bridged in them, and the ticks of the
-- recording
abbrev pub spans_end_line : ℕ → ℕ → ℕ → ℕ → ℕ → List ℕ
spans_end_line intervals spans heard bridged ticks =
    codes "end intervals " ++ decimal intervals ++ codes " spans " ++ decimal spans ++ codes " heard " ++ decimal heard
    ++ codes " bridged " ++ decimal bridged ++ codes " ticks " ++ decimal ticks ++ codes "\n"

-- it counts these spans
abbrev pub last_spans_line : ℕ → List Span → ℕ → List ℕ
last_spans_line intervals all ticks =
    spans_end_line intervals (length all) (sum_by (λ span. span.heard) all) (sum_by (λ span. span.bridged) all) ticks

-- ---- before the end, where the last span may be open

-- the line of a span, once it has ended, whatever frames follow
abbrev pub line_if_ended : ℕ → System → SpanFrames → List ℕ
line_if_ended tick_rate system s = if s.has_ended then span_line tick_rate system (span_of s) else []

-- and where it is open, the line that it has at the end of the recording
abbrev pub line_if_open : ℕ → System → SpanFrames → List ℕ
line_if_open tick_rate system s = if s.has_ended then [] else span_line tick_rate system (span_of s)

-- the lines that are final, of spans behind a mark or behind none
unfoldable pub final_behind : ℕ → System → Option Mark → List SpanFrames → List ℕ
final_behind tick_rate system before [] = []
final_behind tick_rate system before (s ∷ more) =
    gap_before before s.first ++ (line_if_ended tick_rate system s
    ++ final_behind tick_rate system (Some (span_of s).last) more)

-- the lines of frames that are final
abbrev pub final_lines : ℕ → System → List Frame → List ℕ
final_lines tick_rate system frames = final_behind tick_rate system None (frames_of_spans frames)

-- the line of the span that is open behind frames, if one is
abbrev pub open_line : ℕ → System → List Frame → List ℕ
open_line tick_rate system frames = flat_map (line_if_open tick_rate system) (frames_of_spans frames)
