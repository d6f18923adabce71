use Rattle.std.proofs.Common.{ap, subst, sym, ◌∙◌}
use Rattle.path_front.specs.Front.{FrontState, FrontStandsFor}
use Rattle.path_front.specs.Judging.{is_drain}
use Rattle.path_front.proofs.FrontNext.{goes_along}
use Rattle.path_front.proofs.front.Front.finish.Goals as goal

pub returns-clause-stands : goal.returns-clause-stands
returns-clause-stands c = λ samples given stand_now.
    let i = c.self.inside in
    let stand = subst (λ s. FrontStandsFor s samples given) (sym c.self.view_is) stand_now in
    goes_along i.judging c.finish.new.self i.ticks i.tiles.items samples samples given c.finish.ensures.gate
    (ap (λ (s : FrontState). s.judging.phase) c.self.view_is ∙ c.requires.ready.phase)
    (ap is_drain c.finish.ensures.phase)
    (λ judged stands. c.finish.ensures.stands samples judged stands) stand
