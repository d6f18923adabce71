use Rattle.std.proofs.Common.{arith}
use Rattle.made_commands.proofs.ByAProduct.{by_table}
use Rattle.made_commands.proofs.divisors.Divisors.remainder.Goals as goal

pub overflow_mul-result : goal.overflow_mul-result
overflow_mul-result c =
    let d = by_table c.args.self.now.factors c.args.value c.args.half c.requires.factors c.requires.small
    c.requires.least c.requires.most in
    omega (arith, d.within, c.ranges.value.fits)

pub overflow_sub-result : goal.overflow_sub-result
overflow_sub-result c =
    let d = by_table c.args.self.now.factors c.args.value c.args.half c.requires.factors c.requires.small
    c.requires.least c.requires.most in
    d.within

-- what is left is below the divisor
pub overflow_cast-result : goal.overflow_cast-result
overflow_cast-result c =
    let d = by_table c.args.self.now.factors c.args.value c.args.half c.requires.factors c.requires.small
    c.requires.least c.requires.most in
    omega (arith, d.below, c.requires.most)

pub returns : goal.returns
returns c =
    let d = by_table c.args.self.now.factors c.args.value c.args.half c.requires.factors c.requires.small
    c.requires.least c.requires.most in
    record { value = d.rest }
