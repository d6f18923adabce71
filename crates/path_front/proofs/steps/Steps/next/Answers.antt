use Rattle.std.proofs.Common.{rules, ◌≡◌, suc, ◌∷◌, ◌++◌, replicate, map, FitsSigned, to_z-of_z, ap, subst, sym, ◌∙◌}
use Rattle.std.proofs.Common.{arith}
use Rattle.std.specs.Int.{w32}
use Rattle.std.specs.Prelude.{unsigned_abs}
use Rattle.path_front.specs.declared.group.Sounds.{Sounds}
use Rattle.path_front.specs.KeptSizes.{SizesStandFor}
use Rattle.path_front.specs.Steps.{StepsState, StepsStandFor}
use Rattle.path_front.proofs.StepsNext.{one_given}
use Rattle.path_front.proofs.steps.Steps.next.Goals as goal

pub returns-clause-gives : goal.returns-clause-gives
returns-clause-gives c = λ samples given stand_now.
    let i = c.self.inside in
    let state : StepsState = record {
      grid = i.grid;
      clip = i.clip;
      hold = i.hold;
      group = i.group;
      left = i.left;
      latest = i.latest;
      levels = i.levels;
    } in
    let stand = subst (λ s. StepsStandFor s samples given) (sym c.self.view_is) stand_now in
    let a : FitsSigned w32 i.latest.clipped = search rules in
    let b : FitsSigned w32 i.latest.held = search rules in
    let left : i.left ≡ suc c.in_ok-self-inside.field-0 = search (rules, arith) in
    let size : c.unsigned_abs.result ≡ unsigned_abs i.latest.clipped =
    rw (to_z-of_z a) at c.unsigned_abs.ensures.value in
    let before = map (λ (s : Sounds). unsigned_abs s.clipped) given in
    let levels = subst (λ n. SizesStandFor c.push.new.self (n ∷ before)) size
    (c.push.ensures.stands before stand.levels) in
    let level = c.mean_times.ensures.value (map (λ (s : Sounds). unsigned_abs s.clipped) (i.latest ∷ given)) levels in
    rw (to_z-of_z a, to_z-of_z b) (
      i.latest,
      ap (λ n. record { step = record { sound = i.latest.held; level = n }; sound = i.latest.clipped }) level,
      record {
        clip = stand.clip;
        hold = stand.hold;
        group = stand.group;
        all = one_given c.in_ok-self-inside.field-0 i.latest given
            ∙ sym (ap (λ n. replicate n i.latest ++ given) left) ∙ stand.all;
        levels = levels;
      },
    )
