use Rattle.std.proofs.Common.{◌^◌, ◌≤◌, arith}
use Rattle.std.proofs.Math.Nat.{mul-le-mul}
use Rattle.path_front.proofs.fit.square_far.Goals as goal

pub returns-clause-size : goal.returns-clause-size
returns-clause-size c =
    let near : c.min-near.result ≤ 2 ^ 15 = omega (arith, c.min-near.ensures, c.requires.level) in mul-le-mul near near
