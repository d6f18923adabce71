use Rattle.std.specs.Int.{w16, w32}
use Rattle.std.proofs.Common.{FitsSigned, rules, [], ◌∷◌, ◌++◌, ◌+ℤ◌, ap, sym, ◌∙◌, to_z-of_z}
use Rattle.pcm_front.specs.State.{ring_of, WindowState}
use Rattle.pcm_front.specs.Sums.{total}
use Rattle.pcm_front.proofs.Ring.{kept-within}
use Rattle.pcm_front.proofs.Windows.{total-push}
use Rattle.pcm_front.proofs.window.Window.sum_with.Goals as goal

pub summed-requires : goal.summed-requires
summed-requires c =
    let fits : FitsSigned w32 c.self.inside.turn.sum = search rules in
    rw (to_z-of_z fits) (kept-within c.self.inside.turn.smooth c.self.inside.ring c.self.inside.turn.oldest
    c.self.inside.turn.sum c.self.invariant)

-- the sum of what is kept, and the sample
pub returns-clause-value : goal.returns-clause-value
returns-clause-value c =
    let fits : FitsSigned w32 c.self.inside.turn.sum = search rules in
    let fits_too : FitsSigned w16 c.args.sample = search rules in
    let fits_now : FitsSigned w32 c.summed.result = search rules in
    let e = rw (to_z-of_z fits, to_z-of_z fits_too) at c.summed.ensures.value in
    let kept = ring_of c.self.inside.turn.smooth c.self.inside.ring c.self.inside.turn.oldest in
    rw (to_z-of_z fits_now) (e ∙ ap (λ t. t +ℤ c.args.sample) c.self.invariant.sum_is
    ∙ sym (total-push kept c.args.sample)
    ∙ ap (λ (w : WindowState). total (w.kept ++ c.args.sample ∷ [])) c.self.view_is)
