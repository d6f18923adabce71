use Rattle.std.proofs.Common.{rules, ◌+◌, ◌≤◌, ◌+ℤ◌, FitsSigned, to_z-of_z, arith}
use Rattle.std.specs.Int.{w64}
use Rattle.std.specs.Prelude.{unsigned_abs}
use Rattle.std.proofs.lemmas.Int.{fits_signed_from_abs}
use Rattle.path_front.proofs.GroupNext.{size_of_sum}
use Rattle.path_front.proofs.levels.both_above.Goals as goal

-- the size of a sum is at most the sum of the sizes
pub returns-clause-most : goal.returns-clause-most
returns-clause-most c =
    let a = c.args.first in
    let b = c.args.second in
    let within : unsigned_abs (a +ℤ b) ≤ unsigned_abs a + unsigned_abs b =
    size_of_sum a b (unsigned_abs a) (unsigned_abs b) (omega arith) (omega arith) in
    let x : FitsSigned w64 a = search rules in
    let y : FitsSigned w64 b = search rules in
    let f : FitsSigned w64 (a +ℤ b) =
    fits_signed_from_abs w64 (a +ℤ b) (omega (arith, within, c.requires.first, c.requires.second)) in
    let most = rw (to_z-of_z x, to_z-of_z y, to_z-of_z f) at c.above.ensures.most in
    omega (arith, most, within)
