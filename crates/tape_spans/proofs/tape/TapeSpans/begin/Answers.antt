use Rattle.std.proofs.Common.{◌<◌, ◌^◌, arith}
use Rattle.std.specs.Prelude.{IfSome}
use Rattle.tape_spans.specs.declared.place.TapePlace.{TapePlace}
use Rattle.tape_spans.specs.declared.place.TapePlace.TheVariants.{Before, Within, Behind}
use Rattle.tape_spans.specs.declared.span.Mark.{Mark}
use Rattle.tape_spans.specs.Tape.{gap_at, IsTapePlace}
use Rattle.tape_spans.proofs.tape.TapeSpans.begin.Goals as goal

short_gap : (place : TapePlace) (mark : Mark) → IsTapePlace place → mark.tick < 2 ^ 60
    → IfSome (gap_at place mark) (λ gap. gap.ticks < 2 ^ 60)
short_gap Before mark at tick = tt
short_gap (Within current) mark at tick = omega (arith, at)
short_gap (Behind last) mark at tick = omega (arith, at)

-- a gap lasts no longer than the tape
pub returns-clause-fits : goal.returns-clause-fits
returns-clause-fits c = record {
  span = c.end-ended.ensures.fits;
  gap = rw c.gap_to-gap.ensures (short_gap _ _ c.self.invariant.at c.requires.tick);
}
