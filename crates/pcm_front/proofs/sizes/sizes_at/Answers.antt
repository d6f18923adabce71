use Rattle.std.specs.Int.{w16}
use Rattle.std.proofs.Common.{rules, FitsSigned, ap₂, ap, ◌∷◌, ◌∙◌, refl}
use Rattle.pcm_front.specs.Sizes.{raised_size}
use Rattle.pcm_front.proofs.RaisedSizes.{raised_lane}
use Rattle.pcm_front.proofs.sizes.sizes_at.Goals as goal

pub returns : goal.returns
returns g c =
    let first : FitsSigned w16 c.at.result = search rules in
    let second : FitsSigned w16 c.at-2.result = search rules in
    let third : FitsSigned w16 c.at-3.result = search rules in
    let fourth : FitsSigned w16 c.at-4.result = search rules in
    ap₂ (λ x xs. x ∷ xs) (c.cast_unsigned.ensures ∙ raised_lane c.at.result first ∙ ap raised_size c.at.ensures)
    (ap₂ (λ x xs. x ∷ xs) (c.cast_unsigned-2.ensures ∙ raised_lane c.at-2.result second ∙ ap raised_size c.at-2.ensures)
    (ap₂ (λ x xs. x ∷ xs) (c.cast_unsigned-3.ensures ∙ raised_lane c.at-3.result third ∙ ap raised_size c.at-3.ensures)
    (ap₂ (λ x xs. x ∷ xs) (c.cast_unsigned-4.ensures ∙ raised_lane c.at-4.result fourth
    ∙ ap raised_size c.at-4.ensures) refl)))
