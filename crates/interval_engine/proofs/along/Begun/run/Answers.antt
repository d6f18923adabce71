use Rattle.std.proofs.Common.{◌≡◌, ◌+◌, ◌-◌, ◌++◌, ◌≤◌, ◌<◌, ◌∙◌, [], take, drop, length, arith, subst, sym, ℕ}
use Rattle.std.proofs.lemmas.List.{length-take-le, take-append-drop}
use Rattle.limits.specs.declared.recording.TheConstants.{MAX_INTERVALS}
use Rattle.tc_command.specs.declared.input_fault.InputFault.TheVariants.{Intervals}
use Rattle.tc_command.specs.declared.halt.Halt.TheVariants.{Refused}
use Rattle.tc_command.specs.KeptBrings.{Brings, brings_more, brings_none}
use Rattle.interval_file.specs.declared.fault.IntervalFileFault.TheVariants.{Interval}
use Rattle.interval_file.specs.Grammar.{IsFaulty}
use Rattle.interval_engine.specs.KeptAlong.{IsHalt, Stands}
use Rattle.interval_engine.proofs.InWindow.{within_window, works_in_window}
use Rattle.interval_engine.proofs.IntervalMore.{one_longer, refused_on}
use Rattle.interval_engine.proofs.along.Begun.run.Goals as goal

-- none is taken yet
pub run-init : goal.run-init
run-init g c =
    let s = c.args.self.now in
    let none : s.taken ≡ s.taken + 0 = omega arith in
    let r = c.requires.going in
    let within = r.bytes in
    record {
      within = omega arith;
      room = c.requires.room;
      going = record { limit = r.limit; bytes = omega (arith, within); keeps = r.keeps };
      fewer = omega arith;
      more = λ some. absurd (omega (arith, some));
      works = λ choice. subst (λ (n : ℕ). Brings g.O.Output.given
          (Stands g.B.Behind.stands s.version s.behind s.taken s.intervals choice)
          (Stands g.B.Behind.stands s.version s.behind n s.intervals choice) c.args.out.now
          c.args.out.now []) none (brings_none g.O.Output.given
          (Stands g.B.Behind.stands s.version s.behind s.taken s.intervals choice) c.args.out.now
          (g.O.Output.given_none c.args.out.now));
    }

-- one interval more
pub run-preserved : goal.run-preserved
run-preserved g c =
    let s = c.args.self.now in
    let i = c.run.invariant in
    let at = c.run.at in
    let bytes = c.args.bytes.now in
    let count = c.run.intervals in
    let m = at + c.most_width-widest.result - at in
    let window = take m (drop at bytes) in
    let width = c.in-Interval.width in
    let b = c.in-Interval.ensures.bounds in
    let e = c.interval.ensures in
    let said = c.bytes_are_read_as_the_text_says.ensures.recording in
    let test = c.run-test.true in
    let inside : at + m ≤ length bytes = omega arith in
    let room = i.room in
    let two = b.2 in
    let six = b.3 in
    let below : count < MAX_INTERVALS = omega arith in
    let narrow = within_window at width m bytes b.4 in
    let here : s.taken + at + width ≡ s.taken + (at + width) = omega arith in
    let so_far = i.going.bytes in
    record {
      within = omega (arith, inside, narrow);
      room = omega (arith, room, two);
      going = record {
        limit = omega (arith, below);
        bytes = omega (arith, so_far, six);
        keeps = e.fits count i.going.keeps;
      };
      fewer = (let fewer = i.fewer in omega (arith, fewer));
      more = λ some. (let fewer = i.fewer in omega (arith, fewer));
      works = λ choice. works_in_window g.O.Output.given
          (Stands g.B.Behind.stands s.version s.behind s.taken s.intervals choice)
          (Stands g.B.Behind.stands s.version c.run.behind (s.taken + at) count choice)
          (Stands g.B.Behind.stands s.version c.interval.new.self (s.taken + (at + width)) (count + 1) choice)
          c.args.out.now c.run.out c.interval.new.out at width m bytes (g.O.Output.given_more _ _ _) inside b.4
          (i.works choice) (λ front written stands.
          let brought = c.in-Interval.ensures.text front stands.header stands.intervals stands.file
          (stands.same ∙ c.requires.version) (sym stands.long) in
          let more = e.works choice stands.header stands.intervals written stands.wrote in (
            more.0,
            more.1,
            subst (λ (n : ℕ). Stands g.B.Behind.stands s.version c.interval.new.self n (count + 1) choice
                (front ++ take width window) (written ++ more.0)) here
                (one_longer said g.B.Behind.stands s.version c.run.behind c.interval.new.self (s.taken + at) count choice
                front written stands (take width window) (written ++ more.0) c.in-Interval.ticks width brought.1
                (length-take-le width window b.4) below more.2),
          ));
    }

-- or it is out of range
pub returns-in-Fault-clause-halts : goal.returns-in-Fault-clause-halts
returns-in-Fault-clause-halts g c = λ choice.
    let s = c.args.self.now in
    let i = c.run.invariant in
    let at = c.run.at in
    let bytes = c.args.bytes.now in
    let m = at + c.most_width-widest.result - at in
    let tail = drop at bytes in
    let window = take m tail in
    let e = c.in-Fault.ensures in
    let room = i.room in
    let test = c.run-test.true in
    let below : c.run.intervals < MAX_INTERVALS = omega arith in
    let halts = IsHalt g.B.Behind.stands c.run.behind choice (Refused (Intervals c.in-Fault.fault)) in
    subst (λ b. Brings g.O.Output.given (Stands g.B.Behind.stands s.version s.behind s.taken s.intervals choice) halts
    c.args.out.now c.run.out b) (take-append-drop at bytes)
    (brings_more g.O.Output.given (Stands g.B.Behind.stands s.version s.behind s.taken s.intervals choice)
    (Stands g.B.Behind.stands s.version c.run.behind (s.taken + at) c.run.intervals choice) halts c.args.out.now
    c.run.out c.run.out (take at bytes) tail (g.O.Output.given_more _ _ _) (i.works choice) (λ front written stands.
    let brought = e.text front stands.header stands.intervals stands.file (stands.same ∙ c.requires.version)
    (sym stands.long) in (
      [],
      g.O.Output.given_none c.run.out,
      subst (λ f. IsHalt g.B.Behind.stands c.run.behind choice (Refused (Intervals f)) (front ++ tail) (written ++ []))
          (sym e.bounds)
          (subst (λ b. IsHalt g.B.Behind.stands c.run.behind choice (Refused (Intervals (Interval (s.taken + at))))
          (front ++ b) (written ++ [])) (take-append-drop m tail)
          (refused_on c.bytes_are_read_as_the_text_says.ensures.recording c.recordings_grow.ensures g.B.Behind.stands
          s.version c.run.behind (s.taken + at) c.run.intervals choice front written stands window (drop m tail)
          (s.taken + at)
          (subst (λ f. IsFaulty (front ++ window) stands.header stands.intervals f) e.bounds brought) below)),
    )))
