use Rattle.std.proofs.Common.{rules, ◌*◌, ◌/◌, ◌^◌, ◌≤◌, FitsSigned, to_z-of_z, subst, sym, arith}
use Rattle.std.specs.Int.{w64}
use Rattle.std.proofs.Math.Nat.{div-le_of_le-mul}
use Rattle.path_front.proofs.levels.level.Goals as goal

-- each half has at most its length times the greatest sample
pub returns-clause-most : goal.returns-clause-most
returns-clause-most c =
    let cell = c.args.cell.now in
    let r = c.requires in
    let a : FitsSigned w64 cell.first.sum = search rules in
    let b : FitsSigned w64 cell.second.sum = search rules in
    let most = rw (to_z-of_z a, to_z-of_z b) at c.both_above.ensures.most in
    subst (λ n. c.both_above.result / (2 * n) ≤ 2 ^ 15) (sym c.from.ensures)
    (div-le_of_le-mul (2 * cell.length) (omega (arith, most, r.first.sum, r.second.sum)))
