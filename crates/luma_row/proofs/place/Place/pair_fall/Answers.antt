use Rattle.std.proofs.Common.{◌/◌, refl, ap, ◌∙◌}
use Rattle.luma_row.proofs.Cellwise.{fall_of_pair}
use Rattle.luma_row.proofs.place.Place.pair_fall.Goals as goal

pub returns-clause-value : goal.returns-clause-value
returns-clause-value c =
    c.fall.ensures.value ∙ fall_of_pair c.args.row.now c.args.self c.args.pair _ _ _ (ap (λ x. x / 80)
    c.saturating_sub-early.ensures) refl refl
