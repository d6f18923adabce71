-- Spans, gaps and their lines, worked by hand.
use Rattle.std.proofs.Common.{◌≡◌, ℕ, pos, neg_ℤ, [], ◌∷◌, ◌++◌, None, true, false, refl}
use Rattle.std.specs.Prelude.{codes}
use Rattle.std.specs.Fmt.{digits}
use Rattle.tc_address.specs.declared.direction.Direction.{Direction}
use Rattle.tc_address.specs.declared.direction.Direction.TheVariants.{Forward, Backward}
use Rattle.tc_address.specs.declared.count.Count.TheVariants.{C24, C25, Drop30}
use Rattle.tc_address.specs.declared.system.System.TheVariants.{F24, F25, F30}
use Rattle.tc_address.specs.Label.{Address, address}
use Rattle.tc_address.specs.Circle.{shortest_way}
use Rattle.tc_address.specs.Numbering.{day_length, number_of}
use Rattle.flywheel.specs.declared.frame.Frame.TheVariants.{Heard, Invented, Gone}
use Rattle.tape_spans.specs.declared.gap.Relation.TheVariants.{Count, Turn, Step}
use Rattle.tape_spans.specs.declared.span.Mark.{Mark}
use Rattle.tape_spans.specs.declared.span.Span.{Span}
use Rattle.tape_spans.specs.Gap.{as_it_runs, gap_between, relation_of, step_between, way_between}
use Rattle.tape_spans.specs.Spans.{bridged_in, frames_of_spans, mark_at, spans}
use Rattle.tape_spans.specs.SpanTexts.{gap_line, lines_behind, mean_speed, spans_end_line}

heard : Address → Direction → ℕ → ℕ → Span
heard label direction first last = record {
  first = mark_at label direction first;
  last = mark_at label direction last;
  heard = 2;
  bridged = 1;
}

-- ---- the mean speed: the frames behind the first, by their ticks

-- two frames behind the first, of 1,920 ticks each at 48,000 ticks a second, are two twenty-fifths of a second
at_nominal : mean_speed 48_000 F25 (heard (address C25 0 0 0 0) Forward 1_920 5_760) ≡ 1_000
unfolding heard
at_nominal = refl

-- a tick less or more a frame
faster : mean_speed 48_000 F25 (heard (address C25 0 0 0 0) Forward 1_920 5_758) ≡ 1_000
unfolding heard
faster = refl

slower : mean_speed 48_000 F25 (heard (address C25 0 0 0 0) Forward 1_920 5_761) ≡ 999
unfolding heard
slower = refl

-- by the frames a second of the system
at_24 : mean_speed 48_000 F24 (heard (address C24 0 0 0 0) Forward 0 4_000) ≡ 1_000
unfolding heard
at_24 = refl

at_30 : mean_speed 48_000 F30 (heard (address Drop30 0 0 0 0) Forward 0 3_200) ≡ 1_000
unfolding heard
at_30 = refl

-- one word alone has no speed
one_word : mean_speed 48_000 F25 (record {
  first = mark_at (address C25 0 0 0 0) Forward 1_920;
  last = mark_at (address C25 0 0 0 0) Forward 1_920;
  heard = 1;
  bridged = 0;
}) ≡ 0
one_word = refl

-- ---- how labels are related

mark : Address → Direction → Mark
mark label direction = mark_at label direction 100

-- labels of one count in one direction differ by a step
a_step : (last next : Address) → relation_of (mark (record last { count = C25 }) Forward)
    (mark (record next { count = C25 }) Forward)
    ≡ Step (step_between (mark (record last { count = C25 }) Forward) (mark (record next { count = C25 }) Forward))
unfolding mark
a_step last next = refl

-- it is the way from the last number to the next one
from_last_to_next : (last next : Address) → way_between (mark last Forward) (mark next Backward)
    ≡ shortest_way (day_length last.count) (number_of last) (number_of next)
unfolding mark
from_last_to_next last next = refl

-- over midnight the short way, forward and back, and half a day forward
over_midnight : shortest_way 2_160_000 2_159_999 1 ≡ pos 2
over_midnight = refl

back_over_midnight : shortest_way 2_160_000 1 2_159_999 ≡ neg_ℤ (pos 2)
back_over_midnight = refl

half_a_day : shortest_way 2_160_000 0 1_080_000 ≡ pos 1_080_000
half_a_day = refl

-- as the tape runs: forward with its sign, and backward with the other one
as_it_runs_forward : as_it_runs Forward (pos 1) ≡ pos 1
as_it_runs_forward = refl

back_where_it_runs_forward : as_it_runs Forward (neg_ℤ (pos 1)) ≡ neg_ℤ (pos 1)
back_where_it_runs_forward = refl

as_it_runs_backward : as_it_runs Backward (neg_ℤ (pos 1)) ≡ pos 1
as_it_runs_backward = refl

back_where_it_runs_backward : as_it_runs Backward (pos 1) ≡ neg_ℤ (pos 1)
back_where_it_runs_backward = refl

-- by the direction behind the gap
runs_behind : (last next : Address) → step_between (mark last Forward) (mark next Backward)
    ≡ neg_ℤ (way_between (mark last Forward) (mark next Backward))
unfolding mark
runs_behind last next = refl

-- a turn has no step, and two counts have neither a turn nor a step
a_turn : relation_of (mark (address C25 10 0 0 0) Forward) (mark (address C25 10 0 0 1) Backward) ≡ Turn
unfolding mark
a_turn = refl

another_count : relation_of (mark (address C25 10 0 0 0) Forward) (mark (address C24 10 0 0 1) Forward) ≡ Count
unfolding mark
another_count = refl

another_count_and_a_turn : relation_of (mark (address C25 10 0 0 0) Forward) (mark (address C24 10 0 0 1) Backward)
    ≡ Count
unfolding mark
another_count_and_a_turn = refl

-- ---- the lines

-- of a frame that was invented between two that were heard, and of one behind the last one heard; then another count,
-- and a turn
three_spans : lines_behind 48_000 F25 None (spans (
    Heard (address C25 10 0 0 0) Forward false 1_920 ∷ Invented (address C25 10 0 0 1) Forward 1 3_840 ∷
    Heard (address C25 10 0 0 2) Forward true 5_760 ∷ Invented (address C25 10 0 0 3) Forward 1 7_680 ∷ Gone 9_600 ∷
    Heard (address C24 10 0 0 1) Forward false 20_000 ∷ Heard (address C24 10 0 0 1) Backward false 30_000 ∷ []))
    ≡ codes "span forward 10:00:00:00 10:00:00:02 heard 2 bridged 1 tick 1920 5760 speed 1000\n"
    ++ codes "gap ticks 14240 count\n"
    ++ codes "span forward 10:00:00:01 10:00:00:01 heard 1 bridged 0 tick 20000 20000 speed 0\n"
    ++ codes "gap ticks 10000 turn\n"
    ++ codes "span backward 10:00:00:01 10:00:00:01 heard 1 bridged 0 tick 30000 30000 speed 0\n"
unfolding lines_behind frames_of_spans bridged_in digits
three_spans = refl

a_step_back : gap_line (record { ticks = 13; relation = Step (neg_ℤ (pos 25)) }) ≡ codes "gap ticks 13 step -25\n"
unfolding digits
a_step_back = refl

a_step_on : gap_line (record { ticks = 13; relation = Step (pos 2) }) ≡ codes "gap ticks 13 step 2\n"
unfolding digits
a_step_on = refl

-- the ticks from the one to the other
from_tick_to_tick : gap_line (gap_between (mark_at (address C25 10 0 0 0) Forward 7)
    (mark_at (address C24 10 0 0 0) Forward 20))
    ≡ codes "gap ticks 13 count\n"
unfolding digits
from_tick_to_tick = refl

the_last_line : spans_end_line 5 4 3 2 1 ≡ codes "end intervals 5 spans 4 heard 3 bridged 2 ticks 1\n"
unfolding digits
the_last_line = refl
