use Rattle.std.proofs.Common.{rules, ◌∷◌, FitsSigned, to_z-of_z, ap, subst, sym, ◌∙◌}
use Rattle.std.specs.Int.{w16}
use Rattle.path_front.specs.Front.{FrontState, FrontStandsFor}
use Rattle.path_front.specs.Judging.{is_drain}
use Rattle.path_front.proofs.FrontNext.{goes_along}
use Rattle.path_front.proofs.front.Front.feed.Goals as goal

pub returns-clause-stands : goal.returns-clause-stands
returns-clause-stands c = λ samples given stand_now.
    let i = c.self.inside in
    let stand = subst (λ s. FrontStandsFor s samples given) (sym c.self.view_is) stand_now in
    let a : FitsSigned w16 c.args.sample = search rules in
    let goes = rw (to_z-of_z a) at c.feed.ensures.stands in
    goes_along i.judging c.feed.new.self i.ticks i.tiles.items samples (c.args.sample ∷ samples) given
    c.feed.ensures.gate
    (ap (λ (s : FrontState). s.judging.phase) c.self.view_is ∙ c.requires.ready.phase)
    (ap is_drain c.feed.ensures.phase)
    (λ judged stands. goes samples judged stands) stand
