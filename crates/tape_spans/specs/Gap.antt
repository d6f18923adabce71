-- What lies between two spans: ticks, and how the labels on both sides are related. The rule is this
-- project's own.
use Rattle.std.specs.Prelude.{◌-◌, ℤ, neg_ℤ, if◌then◌else◌}
use Rattle.tc_address.specs.declared.direction.Direction.{Direction}
use Rattle.tc_address.specs.declared.direction.Direction.TheVariants.{Forward, Backward}
use Rattle.tc_address.specs.Circle.{shortest_way}
use Rattle.tc_address.specs.Numbering.{day_length, number_of}
use Rattle.flywheel.specs.Frames.{is_same_count, is_same_direction}
use Rattle.tape_spans.specs.declared.gap.Gap.{Gap}
use Rattle.tape_spans.specs.declared.gap.Relation.{Relation}
use Rattle.tape_spans.specs.declared.gap.Relation.TheVariants.{Count, Turn, Step}
use Rattle.tape_spans.specs.declared.span.Mark.{Mark}

-- the shortest way from one label to another of its count, in labels; half a day is taken forward
abbrev pub way_between : Mark → Mark → ℤ
way_between last next = shortest_way (day_length last.label.count) (number_of last.label) (number_of next.label)

-- a way as the tape runs: with the other sign where it runs backward
abbrev pub as_it_runs : Direction → ℤ → ℤ
as_it_runs Forward way = way
as_it_runs Backward way = neg_ℤ way

-- how many labels lie from one to the next as the tape runs
abbrev pub step_between : Mark → Mark → ℤ
step_between last next = as_it_runs next.direction (way_between last next)

-- two labels of different counts have no way between them, and behind a turn no step tells it
abbrev pub relation_of : Mark → Mark → Relation
relation_of last next =
    if is_same_count last.label.count next.label.count
    then if is_same_direction last.direction next.direction then Step (step_between last next) else Turn
    else Count

-- between the frame heard last and the next one
abbrev pub gap_between : Mark → Mark → Gap
gap_between last next = record { ticks = next.tick - last.tick; relation = relation_of last next }
