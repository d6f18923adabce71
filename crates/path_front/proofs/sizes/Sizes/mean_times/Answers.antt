use Rattle.std.proofs.Common.{◌*◌, ◌/◌, min, ap, ap₂, sym, ◌∙◌}
use Rattle.path_front.specs.KeptSizes.{SizesState}
use Rattle.path_front.proofs.LatestSizes.{many-latest}
use Rattle.path_front.proofs.sizes.Sizes.mean_times.Goals as goal

pub returns-clause-value : goal.returns-clause-value
returns-clause-value c = λ sizes stand.
    let total = ap (λ (s : SizesState). s.total) c.self.view_is ∙ stand.total in
    let many = c.many.ensures.value ∙ ap (λ n. min n 512) stand.count ∙ sym (many-latest sizes) in
    c.mean_of.ensures ∙ ap₂ (λ t m. c.args.times * t / m) total many
