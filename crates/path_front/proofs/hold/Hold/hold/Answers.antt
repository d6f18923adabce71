use Rattle.std.proofs.Common.{rules, ◌∷◌, ◌/◌, List, ℤ, FitsSigned, to_z-of_z, ap, ap₂, subst, sym, ◌∙◌}
use Rattle.std.specs.Int.{w32}
use Rattle.path_front.specs.Hold.{held_to, side_of, HoldState, HoldStandsFor}
use Rattle.path_front.specs.declared.hold.Loudness.{Loudness}
use Rattle.path_front.proofs.HeldNext.{hold_next, hold_of}
use Rattle.path_front.proofs.hold.Hold.hold.Goals as goal

now_stands : (c : goal.After-held_to) (samples : List ℤ) → HoldStandsFor c.args.self.now samples
    → HoldStandsFor (hold_of c.self.inside.least c.after-self-inside.result c.side_by-self-inside.result)
    (c.args.sample ∷ samples)
now_stands c samples stand =
    let a : FitsSigned w32 c.args.sample = search rules in
    hold_next c.self.inside.least c.self.inside.loudness c.after-self-inside.result c.self.inside.side
    c.side_by-self-inside.result c.threshold-threshold.result c.args.sample samples
    (subst (λ s. HoldStandsFor s samples) (sym c.self.view_is) stand)
    (rw (to_z-of_z a) at c.after-self-inside.ensures.value) c.threshold-threshold.ensures.value
    (rw (to_z-of_z a) at c.side_by-self-inside.ensures)

pub returns-clause-stands : goal.returns-clause-stands
returns-clause-stands c = λ samples stand. now_stands c samples stand

pub returns-clause-value : goal.returns-clause-value
returns-clause-value c = λ samples stand.
    let a : FitsSigned w32 c.args.sample = search rules in
    let b : FitsSigned w32 c.held_to.result = search rules in
    let now = now_stands c samples stand in
    let value = rw (to_z-of_z a) at c.held_to.ensures.value in
    let least = ap (λ (s : HoldState). s.least) c.self.view_is in
    let sample = c.args.sample in
    rw (to_z-of_z b) (value ∙ ap₂ (λ side by. held_to side by sample)
    (now.side ∙ ap (λ n. side_of n (sample ∷ samples)) least) (ap (λ (l : Loudness). l.sum / 1_024 / 2) now.loudness))
