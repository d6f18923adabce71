use Rattle.std.proofs.Common.{◌++◌, ◌≤◌, ℤ, List, [], take, ◌∙◌, ap, refl, subst, sym, append-nil, arith}
use Rattle.std.specs.Prelude.{IfSome}
use Rattle.std.proofs.lemmas.List.{take_all}
use Rattle.pcm_front.specs.Distance.{IsInterval}
use Rattle.pcm_front.specs.Settings.{Settings}
use Rattle.pcm_front.specs.StandsFor as pcm
use Rattle.pcm_front.specs.StandsFor.{settings_of, tick_of}
use Rattle.signal_commands.specs.KeptSliced.{AreDue}
use Rattle.signal_commands.proofs.DueSamples.{due_at, joined, next_tick, nothing_due, rest_fits, run_due, run_within}
use Rattle.signal_commands.proofs.sliced.slice.Goals as goal

pub intervals_of_samples-count-requires-clause-room : goal.intervals_of_samples-count-requires-clause-room
intervals_of_samples-count-requires-clause-room g c =
    let i = c.samples.invariant in
    rest_fits (tick_of c.args.slicer.now) (settings_of c.args.slicer.now).fineness c.samples.at
    (tick_of c.samples.slicer)
    (settings_of c.samples.slicer).fineness c.args.samples.now i.tick (ap (λ (x : Settings). x.fineness) i.settings)
    i.within c.requires.room

-- no sample yet
pub samples-init : goal.samples-init
samples-init g c =
    let settings = settings_of c.args.slicer.now in
    record {
      within = omega arith;
      settings = refl;
      tick = omega arith;
      stands = λ front stands. subst (pcm.StandsFor c.args.slicer.now) (sym (append-nil front)) stands;
      put = λ front stands. (
        [],
        nothing_due c.args.pace settings front,
        g.O.Output.given_none c.args.out.now,
      );
    }

-- the lengths are those of intervals
pub spell-requires-clause-length : goal.spell-requires-clause-length
spell-requires-clause-length g c = subst IsInterval (sym c.intervals_of_samples-count.ensures.length) c.requires.pace

pub spell-requires-clause-rest : goal.spell-requires-clause-rest
spell-requires-clause-rest g c =
    let brought = c.intervals_of_samples-count.result.1 in
    subst (λ n. IfSome brought.rest (λ rest. (1 ≤ rest) × (rest ≤ n)))
    (sym c.intervals_of_samples-count.ensures.length) c.intervals_of_samples-count.ensures.rest

-- a run more
pub samples-preserved : goal.samples-preserved
samples-preserved g c =
    let i = c.samples.invariant in
    let e = c.intervals_of_samples-count.ensures in
    let xs = c.args.samples.now in
    let n = c.intervals_of_samples-count.result.0 in
    let brought = c.intervals_of_samples-count.result.1 in
    let inside = run_within c.samples.at n xs i.within e.within in
    record {
      within = inside;
      settings = e.settings ∙ i.settings;
      tick = next_tick (tick_of c.args.slicer.now) (settings_of c.args.slicer.now).fineness c.samples.at n _ _ _ i.tick
          (ap (λ (x : Settings). x.fineness) i.settings) e.tick;
      stands = λ front stands. subst (pcm.StandsFor c.intervals_of_samples-count.new.self)
          (joined c.samples.at n front xs i.within inside)
          (e.stands (front ++ take c.samples.at xs) (i.stands front stands));
      put = λ front stands.
          let put = i.put front stands in (
            put.0 ++ due_at brought,
            run_due c.args.pace (settings_of c.args.slicer.now) (settings_of c.samples.slicer) c.samples.at n front xs
                put.0 brought i.settings i.within
                inside put.1 (e.intervals (front ++ take c.samples.at xs) (i.stands front stands)),
            g.O.Output.given_more c.args.out.now c.samples.out c.spell.new.out put.0 (due_at brought) put.2
                c.spell.ensures,
          );
    }

-- all were taken
pub returns-clause-stands : goal.returns-clause-stands
returns-clause-stands g c = λ front stands.
    let i = c.samples.invariant in
    let all = take_all c.samples.at c.args.samples.now (omega (arith, c.samples-test.false)) in
    subst (λ (l : List ℤ). pcm.StandsFor c.samples.slicer (front ++ l)) all (i.stands front stands)

pub returns-clause-all : goal.returns-clause-all
returns-clause-all g c = λ front stands.
    let put = c.samples.invariant.put front stands in
    let all = take_all c.samples.at c.args.samples.now (omega (arith, c.samples-test.false)) in
    (put.0, subst (λ (l : List ℤ). AreDue c.args.pace (settings_of c.args.slicer.now) front l put.0) all put.1, put.2)
