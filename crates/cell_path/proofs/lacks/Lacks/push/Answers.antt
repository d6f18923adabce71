use Rattle.std.proofs.Common.{rules, ℕ, ◌+◌, ◌%◌, ◌^◌, [], ◌∷◌, FitsSigned, to_z-of_z, refl, ap, subst, sym}
use Rattle.std.specs.Int.{w32}
use Rattle.cell_path.specs.Kept.{LacksState}
use Rattle.cell_path.specs.StandsFor.{LacksStandFor}
use Rattle.cell_path.proofs.LeastLack.{lacks_fed}
use Rattle.cell_path.proofs.lacks.Lacks.push.Goals as goal

pub returns-clause-stands : goal.returns-clause-stands
returns-clause-stands c = λ steps are best_is stand_now.
    let inside = c.self.inside in
    let kept : LacksState = record { ring = inside.ring; next = inside.next; sizes = inside.sizes } in
    let stand : LacksStandFor kept steps = subst (λ s. LacksStandFor s steps) (sym c.self.view_is) stand_now in
    let f : FitsSigned w32 c.args.a.sound = search rules in
    let g : FitsSigned w32 c.args.b.sound = search rules in
    let h : FitsSigned w32 c.args.c.sound = search rules in
    let k : FitsSigned w32 c.args.d.sound = search rules in
    let p = rw (to_z-of_z f) at c.unsigned_abs.ensures.value in
    let q = rw (to_z-of_z g) at c.unsigned_abs-2.ensures.value in
    let r = rw (to_z-of_z h) at c.unsigned_abs-3.ensures.value in
    let s = rw (to_z-of_z k) at c.unsigned_abs-4.ensures.value in
    let size : ℕ → ℕ → ℕ = λ before n. (before + n) % 2 ^ 32 in
    let one = size inside.sizes c.unsigned_abs.result in
    let two = size one c.unsigned_abs-2.result in
    let three = size two c.unsigned_abs-3.result in
    let four = size three c.unsigned_abs-4.result in
    lacks_fed kept (record { ring = c.write.new.ring; next = (inside.next + 4) % 128; sizes = four }) c.args.a c.args.b
    c.args.c c.args.d steps c.args.best (one ∷ two ∷ three ∷ four ∷ []) c.minus-lacks.result c.self.invariant.next refl
    refl (ap (size inside.sizes) p) (ap (size one) q) (ap (size two) r) (ap (size three) s) c.minus-lacks.ensures
    c.write.ensures.numbers c.write.ensures.others are best_is stand
