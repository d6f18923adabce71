use Rattle.std.proofs.Common.{rules, ◌≡◌, ◌+◌, ◌^◌, ◌∷◌, FitsSigned, to_z-of_z, ap, subst, sym, arith}
use Rattle.std.specs.Int.{w32, w64}
use Rattle.path_front.specs.Grid.{GroupState, GroupStandsFor}
use Rattle.path_front.proofs.GroupNext.{goes, is_due, still_waits, sum_fits, sums_within}
use Rattle.path_front.proofs.group.Group.add.Goals as goal

pub returns-then-many-summed-clause-stands : goal.returns-then-many-summed-clause-stands
returns-then-many-summed-clause-stands c = λ before stand_now.
    let state : GroupState = record {
      many = c.self.inside.many;
      clipped = c.self.inside.clipped;
      held =
          c.self.inside.held;
    } in
    let stand = subst (λ s. GroupStandsFor c.args.summed s before) (sym c.self.view_is) stand_now in
    let a : FitsSigned w64 c.self.inside.clipped = search rules in
    let b : FitsSigned w64 c.self.inside.held = search rules in
    let d : FitsSigned w64 c.from.result = search rules in
    let e : FitsSigned w64 c.from-2.result = search rules in
    let clipped : c.from.result ≡ c.args.sounds.clipped = search rules in
    let held : c.from-2.result ≡ c.args.sounds.held = search rules in
    let fits = sum_fits state c.args.sounds c.self.invariant c.requires.sounds in
    rw (to_z-of_z a, to_z-of_z b, to_z-of_z d, to_z-of_z e, clipped, held, to_z-of_z fits.0, to_z-of_z fits.1)
    (still_waits c.args.summed state c.args.sounds before stand c.if-many-summed.true)

pub returns-clause-stands : goal.returns-clause-stands
returns-clause-stands c = λ before stand_now.
    let state : GroupState = record {
      many = c.self.inside.many;
      clipped = c.self.inside.clipped;
      held =
          c.self.inside.held;
    } in
    let stand = subst (λ s. GroupStandsFor c.args.summed s before) (sym c.self.view_is) stand_now in
    let many = ap (λ (s : GroupState). s.many) c.self.view_is in
    let full : state.many + 1 ≡ c.args.summed = omega (arith, c.if-many-summed.false, c.requires.room, many) in
    subst (λ s. GroupStandsFor c.args.summed s (c.args.sounds ∷ before)) (sym c.self-2.view_is)
    (goes c.args.summed state c.new.result c.args.sounds before stand full (c.new.ensures.stands c.args.summed))

pub returns-clause-due : goal.returns-clause-due
returns-clause-due c = λ before stand_now.
    let state : GroupState = record {
      many = c.self.inside.many;
      clipped = c.self.inside.clipped;
      held =
          c.self.inside.held;
    } in
    let stand = subst (λ s. GroupStandsFor c.args.summed s before) (sym c.self.view_is) stand_now in
    let many = ap (λ (s : GroupState). s.many) c.self.view_is in
    let full : state.many + 1 ≡ c.args.summed = omega (arith, c.if-many-summed.false, c.requires.room, many) in
    let a : FitsSigned w64 c.self.inside.clipped = search rules in
    let b : FitsSigned w64 c.self.inside.held = search rules in
    let d : FitsSigned w64 c.from.result = search rules in
    let e : FitsSigned w64 c.from-2.result = search rules in
    let m : FitsSigned w32 c.mean.result = search rules in
    let n : FitsSigned w32 c.mean-2.result = search rules in
    let clipped : c.from.result ≡ c.args.sounds.clipped = search rules in
    let held : c.from-2.result ≡ c.args.sounds.held = search rules in
    let fits = sum_fits state c.args.sounds c.self.invariant c.requires.sounds in
    let first = rw (to_z-of_z a, to_z-of_z d, clipped, to_z-of_z fits.0) at c.mean.ensures.value in
    let second = rw (to_z-of_z b, to_z-of_z e, held, to_z-of_z fits.1) at c.mean-2.ensures.value in
    rw (to_z-of_z m, to_z-of_z n)
    (is_due c.args.summed state c.args.sounds (record {
      clipped = c.mean.result;
      held =
          c.mean-2.result;
    }) before stand full first second)

pub returns-clause-sounds : goal.returns-clause-sounds
returns-clause-sounds c =
    let state : GroupState = record {
      many = c.self.inside.many;
      clipped = c.self.inside.clipped;
      held =
          c.self.inside.held;
    } in
    let a : FitsSigned w64 c.self.inside.clipped = search rules in
    let b : FitsSigned w64 c.self.inside.held = search rules in
    let d : FitsSigned w64 c.from.result = search rules in
    let e : FitsSigned w64 c.from-2.result = search rules in
    let m : FitsSigned w32 c.mean.result = search rules in
    let n : FitsSigned w32 c.mean-2.result = search rules in
    let clipped : c.from.result ≡ c.args.sounds.clipped = search rules in
    let held : c.from-2.result ≡ c.args.sounds.held = search rules in
    let fits = sum_fits state c.args.sounds c.self.invariant c.requires.sounds in
    let sizes = sums_within state c.args.sounds c.self.invariant c.requires.sounds in
    let first = rw (to_z-of_z a, to_z-of_z d, clipped, to_z-of_z fits.0) at c.mean.ensures.size in
    let second = rw (to_z-of_z b, to_z-of_z e, held, to_z-of_z fits.1) at c.mean-2.ensures.size in
    rw (to_z-of_z m, to_z-of_z n) (record {
      clipped = first (2 ^ 15) sizes.0;
      held = second (2 ^ 15 + 2 ^ 14) sizes.1;
    })
