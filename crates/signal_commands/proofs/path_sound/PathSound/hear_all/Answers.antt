use Rattle.std.proofs.Common.{rules, ◌++◌, [], pos, List, ℕ, ℤ, FitsSigned, to_z-of_z}
use Rattle.std.proofs.Common.{take, get_or, refl, sym, ◌∙◌, subst, arith, append-nil}
use Rattle.std.proofs.lemmas.List.{take_all}
use Rattle.std.specs.Int.{w16}
use Rattle.signal_commands.specs.KeptPath.{HearsSamples}
use Rattle.signal_commands.proofs.PathOn.{one_more_heard}
use Rattle.signal_commands.proofs.path_sound.PathSound.hear_all.Goals as goal

-- no sample yet
pub samples-init : goal.samples-init
samples-init g c = record {
  going = c.requires.going;
  path = refl;
  count = omega arith;
  works = λ before written hears. (
    [],
    g.O.Output.given_none c.args.out.now,
    subst (λ (l : List ℤ). HearsSamples c.args.self.now l (written ++ [])) (sym (append-nil before))
        (subst (λ (l : List ℕ). HearsSamples c.args.self.now before l) (sym (append-nil written)) hears),
  );
}

pub hear_one-requires-clause-room : goal.hear_one-requires-clause-room
hear_one-requires-clause-room g c =
    omega (arith, c.samples.invariant.count, c.samples-test.true, c.requires.room)

-- one more
pub samples-preserved : goal.samples-preserved
samples-preserved g c =
    let i = c.samples.invariant in
    let e = c.hear_one.ensures in
    let run = c.args.samples.now in
    let fits : FitsSigned w16 (get_or run c.samples.at (pos 0)) = search rules in
    let works = rw (to_z-of_z fits) at e.works in
    record {
      going = e.going;
      path = e.path ∙ i.path;
      count = omega (arith, i.count, e.count);
      works = λ before written hears.
          let w = i.works before written hears in
          let v = works (before ++ take c.samples.at run) (written ++ w.0) w.2 in (
            w.0 ++ v.0,
            g.O.Output.given_more c.args.out.now c.samples.out c.hear_one.new.out w.0 v.0 w.1 v.1,
            one_more_heard c.hear_one.new.self before run c.samples.at (pos 0) written w.0 v.0 c.samples-test.true v.2,
          );
    }

-- all were heard
pub returns-clause-works : goal.returns-clause-works
returns-clause-works g c = λ before written hears.
    let w = c.samples.invariant.works before written hears in
    let all = take_all c.samples.at c.args.samples.now (omega (arith, c.samples-test.false)) in (
      w.0,
      w.1,
      subst (λ (l : List ℤ). HearsSamples c.samples.self (before ++ l) (written ++ w.0)) all w.2,
    )
