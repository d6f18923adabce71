use Rattle.std.proofs.Common.{◌++◌, [], refl, take, arith, inr}
use Rattle.std.proofs.lemmas.List.{length-take-le}
use Rattle.tc_command.specs.Halt.{IsHalt as IsHaltOf}
use Rattle.tc_command.specs.declared.halt.Halt.TheVariants.{Limit}
use Rattle.interval_engine.specs.Along.{along_intervals}
use Rattle.interval_engine.specs.KeptAlong.{StandsWithin}
use Rattle.interval_engine.proofs.SoFar.{from_start, refused_in_header, waits_in_header, waits_inside}
use Rattle.interval_engine.proofs.SpentOrNot.{goes_on_within, halts_along, spent_along, waits_along, within_too}
use Rattle.interval_engine.proofs.along.AlongEngine.take.Goals as goal

-- behind the header
pub returns-in-Some-clause-waits : goal.returns-in-Some-clause-waits
returns-in-Some-clause-waits g c =
    let s = c.in-Some.begun in
    let n = c.take.new.self in
    let choice = c.args.self.now.choice in
    let said = c.bytes_are_read_as_the_text_says.ensures.recording in
    waits_along g.O.Output.given g.B.Behind.fits g.B.Behind.stands s.version n.version s.behind n.behind s.taken n.taken
    s.intervals n.intervals c.args.out.now c.take.new.out c.args.bytes.now _ c.take.result c.take.ensures.advances
    (λ fewer limit short. (
      rw c.in-Some.is (omega (arith, fewer)),
      short,
      waits_inside said g.B.Behind.printing g.B.Behind.stands g.B.Behind.stands_well n.version n.behind n.taken
          n.intervals choice c.args.bytes.now short limit,
    ))

pub returns-in-Some-clause-works : goal.returns-in-Some-clause-works
returns-in-Some-clause-works g c =
    let s = c.in-Some.begun in
    let n = c.take.new.self in
    rw c.in-Some.is (goes_on_within g.B.Behind.printing g.B.Behind.stands g.O.Output.given g.B.Behind.fits s.version
    n.version s.behind n.behind s.taken n.taken s.intervals n.intervals c.args.self.now.choice c.args.out.now
    c.take.new.out c.args.bytes.now c.take.result c.take.ensures.advances c.take.ensures.within)

pub returns-in-Some-clause-halts : goal.returns-in-Some-clause-halts
returns-in-Some-clause-halts g c =
    let s = c.in-Some.begun in
    rw c.in-Some.is (halts_along g.B.Behind.printing g.B.Behind.stands g.O.Output.given s.version s.behind s.taken
    s.intervals c.args.self.now.choice c.args.out.now c.take.new.out c.args.bytes.now c.take.result
    c.take.ensures.halts)

-- the header alone passes a limit of the command's own
pub returns-then-is_spent-clause-halts : goal.returns-then-is_spent-clause-halts
returns-then-is_spent-clause-halts g c = λ front written stands.
    let bytes = c.args.bytes.now in
    let choice = c.args.self.now.choice in
    let b = c.new-begun.result in
    let is = rw c.in-Ok-Some.field-0-is at c.in-Ok-Some.ensures in
    let begun = c.new-begun.ensures.begins (take 12 bytes) is.1 (length-take-le 12 bytes is.0) in (
      begun.0,
      begun.1,
      from_start (λ f w. IsHaltOf (along_intervals (g.B.Behind.printing choice)) Limit (f ++ bytes) (w ++ begun.0))
          front written (rw c.in_default.is at stands)
          (spent_along g.B.Behind.printing g.B.Behind.stands b.version b.behind b.taken b.intervals choice [] bytes
          begun.0 12 g.B.Behind.stands_well (c.if-is_spent.ensures.spent refl) begun.2),
    )

-- it does not
pub returns-else-is_spent-clause-works : goal.returns-else-is_spent-clause-works
returns-else-is_spent-clause-works g c = λ front written stands.
    let bytes = c.args.bytes.now in
    let choice = c.args.self.now.choice in
    let b = c.new-begun.result in
    let is = rw c.in-Ok-Some.field-0-is at c.in-Ok-Some.ensures in
    let begun = c.new-begun.ensures.begins (take 12 bytes) is.1 (length-take-le 12 bytes is.0) in (
      begun.0,
      begun.1,
      from_start (λ f w. StandsWithin g.B.Behind.printing g.B.Behind.stands b.version b.behind b.taken b.intervals
          choice (f ++ take 12 bytes) (w ++ begun.0)) front written (rw c.in_default.is at stands)
          (within_too g.B.Behind.printing g.B.Behind.stands b.version b.behind b.taken b.intervals choice
          (take 12 bytes) begun.0 (c.if-is_spent.ensures.going refl) begun.2),
    )

-- the header is not whole
pub returns-in-Ok-None-clause-waits : goal.returns-in-Ok-None-clause-waits
returns-in-Ok-None-clause-waits g c =
    let short = rw c.in-Ok-None.field-0-is at c.in-Ok-None.ensures in
    inr (
      omega arith,
      rw c.in_default.is short,
      rw c.in_default.is (waits_in_header c.bytes_are_read_as_the_text_says.ensures.recording
          (g.B.Behind.printing c.args.self.now.choice) c.args.bytes.now short),
    )

-- or it has a fault
pub returns-in-Err-clause-halts : goal.returns-in-Err-clause-halts
returns-in-Err-clause-halts g c = λ front written stands. (
  [],
  g.O.Output.given_none c.args.out.now,
  refused_in_header c.bytes_are_read_as_the_text_says.ensures.recording (g.B.Behind.printing c.args.self.now.choice)
      c.args.bytes.now c.in-Err.fault c.in-Err.ensures.0 c.in-Err.ensures.1 front written
      (rw c.in_default.is at stands),
)
