use Rattle.std.proofs.Common.{◌≡◌, ◌≤◌, ◌^◌, pos, int_le, true, false, subst, sym, ◌∙◌, arith}
use Rattle.std.proofs.lemmas.Int.{ints}
use Rattle.std.proofs.lemmas.Nat.{mul-le}
use Rattle.pcm_front.specs.Crossing.{apart}
use Rattle.pcm_front.proofs.Rounding.{tick_is, tick_in_step-within}
use Rattle.pcm_front.proofs.crossing.tick_in_step.Goals as goal

pub overflow_mul-fineness : goal.overflow_mul-fineness
overflow_mul-fineness c =
    let most = mul-le c.args.fineness c.ascent-rise.result 64 (2 ^ 20) c.requires.most c.ascent-rise.ensures.most in
    omega (arith, most)

-- in whole samples a tick within the fineness is the only one
pub returns-then-fineness-eq1 : goal.returns-then-fineness-eq1
returns-then-fineness-eq1 c =
    let within = tick_in_step-within c.args.fineness c.args.threshold c.args.a c.args.b c.requires.least
    c.requires.above in
    record {
      value = omega (arith, within, c.if-fineness-eq1.true);
      least = omega arith;
      most = c.requires.least;
    }

pub returns-then-threshold-a : goal.returns-then-threshold-a
returns-then-threshold-a c =
    let reached : int_le (pos c.args.threshold) c.args.a ≡ true = grind (arith, ints) in
    record {
      value = rw reached;
      least = omega arith;
      most = c.requires.least;
    }

pub returns-clause-value : goal.returns-clause-value
returns-clause-value c =
    let below : int_le (pos c.args.threshold) c.args.a ≡ false = grind (arith, ints) in
    let rise : c.ascent-rise.result ≡ apart (pos c.args.threshold) c.args.a = grind (arith, ints) in
    let step : c.ascent-step.result ≡ apart c.args.b c.args.a = grind (arith, ints) in
    c.div_ceil.ensures ∙ tick_is c.args.fineness c.args.threshold c.args.a c.args.b _ _ below rise step

pub returns-clause-least : goal.returns-clause-least
returns-clause-least c =
    subst (λ tick. 1 ≤ tick) (sym (returns-clause-value c))
    (tick_in_step-within c.args.fineness c.args.threshold c.args.a c.args.b c.requires.least c.requires.above).0

pub returns-clause-most : goal.returns-clause-most
returns-clause-most c =
    subst (λ tick. tick ≤ c.args.fineness) (sym (returns-clause-value c))
    (tick_in_step-within c.args.fineness c.args.threshold c.args.a c.args.b c.requires.least c.requires.above).1
