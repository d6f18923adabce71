use Rattle.std.proofs.Common.{rules, ◌*◌, ◌/◌, ◌^◌, ◌≤◌, FitsSigned, to_z-of_z, subst, sym, arith}
use Rattle.std.specs.Int.{w64}
use Rattle.std.proofs.Math.Nat.{div-le_of_le-mul, mul-le-mul_left}
use Rattle.path_front.proofs.fit.far.Goals.{then-half-lt0, else-half-lt0}
use Rattle.path_front.proofs.fit.far.Goals as goal

-- the sum and so many times the level have 16 bits a step
pub returns-clause-size : goal.returns-clause-size
returns-clause-size c =
    let a = c.args in
    let r = c.requires in
    let f : FitsSigned w64 a.half.now.sum = search rules in
    let size = rw (to_z-of_z f) at c.unsigned_abs-size.ensures.value in
    let whole : c.from.result * a.level ≤ a.length * 2 ^ 15 =
    subst (λ k. k * a.level ≤ a.length * 2 ^ 15) (sym c.from.ensures) (mul-le-mul_left a.length r.level) in
    let most : c.if-half-lt0.apart ≤ a.length * 2 ^ 16 = elim c.if-half-lt0.branch [
      | then-half-lt0 w ↦ omega (arith, w.apart-is, size, whole, r.half.sum)
      | else-half-lt0 w ↦ omega (arith, w.apart-is, w.abs_diff-apart.ensures, size, whole, r.half.sum)
    ] in
    subst (λ k. c.if-half-lt0.apart / k ≤ 2 ^ 16) (sym c.from-2.ensures) (div-le_of_le-mul a.length most)
