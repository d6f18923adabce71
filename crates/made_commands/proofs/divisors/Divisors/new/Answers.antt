use Rattle.std.proofs.Common.{arith, ◌∙◌}
use Rattle.std.proofs.lemmas.List.{length-set}
use Rattle.made_commands.proofs.ByAProduct.{more_factors}
use Rattle.made_commands.proofs.divisors.Divisors.new.Goals as goal

-- a factor more
pub halves-preserved : goal.halves-preserved
halves-preserved c =
    let i = c.halves.invariant in
    let half = c.halves.half in
    let long = i.long in
    record {
      long = length-set c.halves.factors half c.factor_of.result ∙ long;
      stand = more_factors half c.halves.factors c.factor_of.result (omega (arith, long)) c.factor_of.ensures.value
          i.stand;
    }
