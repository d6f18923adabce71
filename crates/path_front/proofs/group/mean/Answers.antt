use Rattle.std.proofs.Common.{rules, ◌≡◌, ◌+◌, ◌^◌, ◌≤◌, pos, FitsSigned, to_z-of_z, refl, arith}
use Rattle.std.specs.Int.{w32, w64}
use Rattle.std.specs.Prelude.{int_div, unsigned_abs}
use Rattle.std.proofs.lemmas.Int.{fits_signed_from_abs}
use Rattle.path_front.proofs.Means.{mean_within}
use Rattle.path_front.proofs.group.mean.Goals as goal

within : (c : goal.After-from) → unsigned_abs (int_div c.args.sum (pos c.args.many)) ≤ 2 ^ 15 + 2 ^ 14
within c = mean_within c.args.sum c.args.many (2 ^ 15 + 2 ^ 14) c.requires.some c.requires.sum

pub returns-clause-value : goal.returns-clause-value
returns-clause-value c =
    let a : FitsSigned w64 c.args.sum = search rules in
    let b : FitsSigned w64 c.from.result = search rules in
    let many : c.from.result ≡ pos c.args.many = search rules in
    let small = within c in
    let q : FitsSigned w32 (int_div c.args.sum (pos c.args.many)) =
    fits_signed_from_abs w32 (int_div c.args.sum (pos c.args.many)) (omega (arith, small)) in
    let p : FitsSigned w64 (int_div c.args.sum (pos c.args.many)) =
    fits_signed_from_abs w64 (int_div c.args.sum (pos c.args.many)) (omega (arith, small)) in
    rw (to_z-of_z a, to_z-of_z b, many, to_z-of_z p, to_z-of_z q) refl

pub returns-clause-size : goal.returns-clause-size
returns-clause-size c = λ most bound.
    let a : FitsSigned w64 c.args.sum = search rules in
    let b : FitsSigned w64 c.from.result = search rules in
    let many : c.from.result ≡ pos c.args.many = search rules in
    let small = within c in
    let q : FitsSigned w32 (int_div c.args.sum (pos c.args.many)) =
    fits_signed_from_abs w32 (int_div c.args.sum (pos c.args.many)) (omega (arith, small)) in
    let p : FitsSigned w64 (int_div c.args.sum (pos c.args.many)) =
    fits_signed_from_abs w64 (int_div c.args.sum (pos c.args.many)) (omega (arith, small)) in
    rw (to_z-of_z a, to_z-of_z b, many, to_z-of_z p, to_z-of_z q)
    (mean_within c.args.sum c.args.many most c.requires.some bound)
