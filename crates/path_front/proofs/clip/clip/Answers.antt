use Rattle.std.proofs.Common.{rules, ◌≡◌, ◌*◌, ◌/◌, min, max, ◌∷◌, FitsSigned, to_z-of_z, ap, ap₂, subst, ◌∙◌}
use Rattle.std.specs.Int.{w32}
use Rattle.std.specs.Prelude.{unsigned_abs}
use Rattle.path_front.specs.Clip.{clipped_to, sizes_of}
use Rattle.path_front.specs.KeptSizes.{SizesStandFor}
use Rattle.path_front.proofs.clip.clip.Goals as goal

pub returns-clause-value : goal.returns-clause-value
returns-clause-value c = λ samples stand.
    let a : FitsSigned w32 c.clipped_to.result = search rules in
    let b : FitsSigned w32 c.from-sample.result = search rules in
    let sample : c.from-sample.result ≡ c.args.sample = search rules in
    let value = rw (to_z-of_z b) at c.clipped_to.ensures.value in
    let size : c.unsigned_abs.result ≡ unsigned_abs c.args.sample =
    (rw (to_z-of_z b) at c.unsigned_abs.ensures.value) ∙ ap unsigned_abs sample in
    let pushed = subst (λ n. SizesStandFor c.push.new.self (n ∷ sizes_of samples)) size (c.push.ensures.stands
    (sizes_of samples) stand) in
    let least = c.mean_times.ensures.value (sizes_of (c.args.sample ∷ samples)) pushed in
    let most = c.mean_times-2.ensures.value (sizes_of (c.args.sample ∷ samples)) pushed in
    let here = c.max-most.ensures
    ∙ ap₂ max least (c.min.ensures ∙ ap (λ m. min m (9 * c.args.peak / 8)) most) in
    rw (to_z-of_z a) (value ∙ ap₂ clipped_to here sample)
