use Rattle.std.proofs.Common.{◌++◌, [], arith, inl, inr, subst, sym, take}
use Rattle.std.proofs.lemmas.List.{length-take-le}
use Rattle.tc_command.specs.declared.halt.Halt.TheVariants.{Refused}
use Rattle.tc_command.specs.declared.input_fault.InputFault.TheVariants.{Intervals}
use Rattle.tc_command.specs.KeptBrings.{brings_none}
use Rattle.interval_file.specs.Grammar.{IsFaulty}
use Rattle.interval_engine.specs.KeptAlong.{IsHalt, Stands}
use Rattle.interval_engine.proofs.IntervalMore.{one_longer, past_limit_at, refused_at, wrong_past_limit}
use Rattle.interval_engine.proofs.along.Begun.one.Goals as goal

-- none is whole
pub returns-in-Short-clause-advances : goal.returns-in-Short-clause-advances
returns-in-Short-clause-advances g c =
    let s = c.args.self.now in
    record {
      most = omega arith;
      going = c.requires.going;
      more = λ some. absurd (omega (arith, some));
      fewer = omega arith;
      waits = inr (record { some = c.requires.some; short = c.in-Short.ensures.bounds });
      works = λ choice. brings_none g.O.Output.given
          (Stands g.B.Behind.stands s.version s.behind s.taken s.intervals choice) c.args.out.now
          (g.O.Output.given_none c.args.out.now);
    }

-- one more
pub returns-else-self-eq-MAX_INTERVALS-clause-advances : goal.returns-else-self-eq-MAX_INTERVALS-clause-advances
returns-else-self-eq-MAX_INTERVALS-clause-advances g c =
    let s = c.args.self.now in
    let e = c.in-Interval.ensures in
    let width = c.in-Interval.width in
    let bytes = c.args.bytes.now in
    let r = c.requires.going in
    let wide = e.bounds.3 in
    let within = r.bytes in
    let limit = r.limit in
    let not_full = c.if-self-eq-MAX_INTERVALS.false in
    let said = c.bytes_are_read_as_the_text_says.ensures.recording in
    record {
      most = e.bounds.4;
      going = record {
        limit = omega (arith, limit, not_full);
        bytes = omega (arith, within, wide);
        keeps = c.interval.ensures.fits s.intervals r.keeps;
      };
      more = λ some. omega arith;
      fewer = omega arith;
      waits = inl (let two = e.bounds.2 in omega (arith, two));
      works = λ choice front written stands.
          let brought = e.text front stands.header stands.intervals stands.file stands.same (sym stands.long) in
          let more = c.interval.ensures.works choice stands.header stands.intervals written stands.wrote in (
            more.0,
            more.1,
            one_longer said g.B.Behind.stands s.version s.behind c.interval.new.self s.taken s.intervals choice front
                written stands (take width bytes) (written ++ more.0) c.in-Interval.ticks width brought.1
                (length-take-le width bytes e.bounds.4) (omega (arith, limit, not_full)) more.2,
          );
    }

-- it is past the limit
pub returns-then-self-eq-MAX_INTERVALS-clause-halts : goal.returns-then-self-eq-MAX_INTERVALS-clause-halts
returns-then-self-eq-MAX_INTERVALS-clause-halts g c = λ choice front written stands.
    let s = c.args.self.now in
    let e = c.in-Interval.ensures in
    let brought = e.text front stands.header stands.intervals stands.file stands.same (sym stands.long) in (
      [],
      g.O.Output.given_none c.args.out.now,
      past_limit_at c.bytes_are_read_as_the_text_says.ensures.recording c.recordings_grow.ensures g.B.Behind.stands
          s.version s.behind s.taken s.intervals choice front written stands c.args.bytes.now c.in-Interval.ticks
          c.in-Interval.width brought.1 c.if-self-eq-MAX_INTERVALS.true,
    )

-- one out of range is past the limit
pub returns-then-self-eq-MAX_INTERVALS-2-clause-halts : goal.returns-then-self-eq-MAX_INTERVALS-2-clause-halts
returns-then-self-eq-MAX_INTERVALS-2-clause-halts g c = λ choice front written stands.
    let s = c.args.self.now in
    let bytes = c.args.bytes.now in
    let e = c.in-Fault.ensures in
    let brought = e.text front stands.header stands.intervals stands.file stands.same (sym stands.long) in (
      [],
      g.O.Output.given_none c.args.out.now,
      wrong_past_limit c.bytes_are_read_as_the_text_says.ensures.recording g.B.Behind.stands s.version s.behind s.taken
          s.intervals choice front written stands bytes s.taken
          (subst (λ f. IsFaulty (front ++ bytes) stands.header stands.intervals f) e.bounds brought)
          c.if-self-eq-MAX_INTERVALS-2.true,
    )

-- it is refused
pub returns-else-self-eq-MAX_INTERVALS-2-clause-halts : goal.returns-else-self-eq-MAX_INTERVALS-2-clause-halts
returns-else-self-eq-MAX_INTERVALS-2-clause-halts g c = λ choice front written stands.
    let s = c.args.self.now in
    let bytes = c.args.bytes.now in
    let e = c.in-Fault.ensures in
    let limit = c.requires.going.limit in
    let not_full = c.if-self-eq-MAX_INTERVALS-2.false in
    let brought = e.text front stands.header stands.intervals stands.file stands.same (sym stands.long) in (
      [],
      g.O.Output.given_none c.args.out.now,
      subst (λ f. IsHalt g.B.Behind.stands s.behind choice (Refused (Intervals f)) (front ++ bytes) (written ++ []))
          (sym e.bounds)
          (refused_at c.bytes_are_read_as_the_text_says.ensures.recording g.B.Behind.stands s.version s.behind s.taken
          s.intervals choice front written stands bytes s.taken
          (subst (λ f. IsFaulty (front ++ bytes) stands.header stands.intervals f) e.bounds brought)
          (omega (arith, limit, not_full))),
    )
