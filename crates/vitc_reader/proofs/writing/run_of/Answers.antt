use Rattle.std.proofs.Common.{arith, refl}
use Rattle.vitc_reader.proofs.LevelOfARun.{ones_level, zeros_level, not_odd}
use Rattle.vitc_reader.proofs.writing.run_of.Goals as goal

-- a high run ends at the lowest 0
pub returns-then-is_high : goal.returns-then-is_high
returns-then-is_high c =
    let h = ones_level c.args.rest c.requires.width (c.requires.level.1 c.if-is_high.true) in
    let e = c.trailing_ones.ensures in
    record {
      exact = rw c.if-is_high.true e;
      least = rw e h.0.least;
      within = rw e h.0.within;
      run = rw (c.if-is_high.true, e) h.0.run;
      some = rw e h.0.some;
      change = (
        λ one. let z = rw (← e) at h.1 in absurd (omega (arith, one, z)),
        λ low. let high = c.if-is_high.true in
            absurd cc,
      );
    }

-- and a low one at the lowest 1
pub returns-else-is_high : goal.returns-else-is_high
returns-else-is_high c =
    let even = not_odd c.args.rest (λ odd. let high = c.requires.level.0 odd in let low = c.if-is_high.false in
    absurd cc) in
    let h = zeros_level c.args.rest c.requires.width c.requires.some even in
    record {
      exact = rw c.if-is_high.false refl;
      least = h.0.least;
      within = h.0.within;
      run = rw c.if-is_high.false h.0.run;
      some = h.0.some;
      change = (λ one. c.if-is_high.false, λ low. h.1);
    }
