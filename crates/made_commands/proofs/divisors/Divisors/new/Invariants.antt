use Rattle.std.proofs.Common.{◌≡◌, length}
use Rattle.made_commands.specs.KeptDivisors.{AreBelow}
use Rattle.made_commands.proofs.divisors.Divisors.new.Given as goal

-- the factors so far are there
abbrev pub invariant-halves : goal.invariant-halves
invariant-halves l = record {
  long : length l.factors ≡ 513;
  stand : AreBelow l.half l.factors;
}
