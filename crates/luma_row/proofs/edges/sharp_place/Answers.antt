use Rattle.std.proofs.Common.{◌≡◌, ℕ, Option, inl, inr, false, sym, subst, ◌∙◌}
use Rattle.std.specs.Option.{IfNone}
use Rattle.luma_row.specs.declared.place.Place.{Place}
use Rattle.luma_row.specs.Edges.{is_in_reach, IsSharp}
use Rattle.luma_row.proofs.NextEdge.{not_sharp}
use Rattle.luma_row.proofs.edges.sharp_place.Goals as goal
use Rattle.luma_row.proofs.edges.sharp_place.Goals.{
  else-is_in_reach-via-else-is_in_reach,
  else-is_in_reach-via-then-is_in_reach+else-all_swing,
}

pub returns-in_err-place-clause-none : goal.returns-in_err-place-clause-none
returns-in_err-place-clause-none c =
    subst (λ (o : Option Place). IfNone o ((place : Place) → IsSharp c.args.row.now place → ⊥))
    (sym c.from_residual.ensures)
    (λ place is. c.in_err-place.ensures.none place is.edges)

pub returns-else-is_in_reach-clause-none : goal.returns-else-is_in_reach-clause-none
returns-else-is_in_reach-clause-none c =
    let row = c.args.row.now in
    let place = c.in_ok-place.place in
    let lies = c.in_ok-place.ensures.some in
    elim c.else-is_in_reach.branch [
      | else-is_in_reach-via-then-is_in_reach+else-all_swing w ↦
          not_sharp row place lies (inr (sym w.all_swing.ensures ∙ w.if-all_swing.false))
      | else-is_in_reach-via-else-is_in_reach w ↦
          let isnt : is_in_reach c.width_of.result place ≡ false = sym c.is_in_reach.ensures ∙ w.if-is_in_reach.false in
          not_sharp row place lies
          (inl (subst (λ (n : ℕ). is_in_reach n place ≡ false) c.width_of.ensures.value isnt))
    ]
