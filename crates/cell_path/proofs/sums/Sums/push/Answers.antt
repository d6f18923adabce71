use Rattle.std.proofs.Common.{rules, ◌+◌, ◌%◌, ◌^◌, [], ◌∷◌, FitsSigned, to_z-of_z, arith, ap, ap₂, refl, subst}
use Rattle.std.proofs.Common.{sym, ◌∙◌}
use Rattle.std.specs.Int.{w32}
use Rattle.cell_path.specs.Four.{at_step}
use Rattle.cell_path.specs.Kept.{sum_ago, SumsState}
use Rattle.cell_path.specs.StandsFor.{SumsStandFor}
use Rattle.cell_path.proofs.NextStep.{sums_fed}
use Rattle.cell_path.proofs.sums.Sums.push.Goals as goal

pub returns-clause-stands : goal.returns-clause-stands
returns-clause-stands c = λ steps are stand_now.
    let kept : SumsState = record { ring = c.self.inside.ring; next = c.self.inside.next } in
    let stand : SumsStandFor kept steps = subst (λ s. SumsStandFor s steps) (sym c.self.view_is) stand_now in
    let f : FitsSigned w32 c.args.a.sound = search rules in
    let g : FitsSigned w32 c.args.b.sound = search rules in
    let h : FitsSigned w32 c.args.c.sound = search rules in
    let k : FitsSigned w32 c.args.d.sound = search rules in
    let p = rw (to_z-of_z f) at c.cast_unsigned.ensures in
    let q = rw (to_z-of_z g) at c.cast_unsigned-2.ensures in
    let r = rw (to_z-of_z h) at c.cast_unsigned-3.ensures in
    let s = rw (to_z-of_z k) at c.cast_unsigned-4.ensures in
    let one = (at_step c.four.result 3 + c.cast_unsigned.result) % 2 ^ 32 in
    let two = (one + c.cast_unsigned-2.result) % 2 ^ 32 in
    let three = (two + c.cast_unsigned-3.result) % 2 ^ 32 in
    let four = (three + c.cast_unsigned-4.result) % 2 ^ 32 in
    let first = c.four.ensures 3 (omega arith) ∙ ap (λ s. sum_ago s 0) (sym c.self.view_is) in
    sums_fed kept (record { ring = c.write.new.ring; next = (c.self.inside.next + 4) % 128 }) c.args.a c.args.b c.args.c
    c.args.d steps (one ∷ two ∷ three ∷ four ∷ []) c.self.invariant.next refl
    (ap₂ (λ m n. (m + n) % 2 ^ 32) first p) (ap (λ n. (one + n) % 2 ^ 32) q) (ap (λ n. (two + n) % 2 ^ 32) r)
    (ap (λ n. (three + n) % 2 ^ 32) s) c.write.ensures.numbers c.write.ensures.others are stand
