use Rattle.std.proofs.Common.{refl, subst, sym}
use Rattle.path_front.specs.Front.{FrontStandsFor}
use Rattle.path_front.specs.Judging.{IsSettled}
use Rattle.path_front.proofs.FrontNext.{settled_all}
use Rattle.path_front.proofs.Emptied.{given_so_far}
use Rattle.path_front.proofs.front.Front.next.Goals as goal

pub returns-else-fill-clause-gives : goal.returns-else-fill-clause-gives
returns-else-fill-clause-gives c = λ samples given stand_now.
    let new = c.fill.new.self in
    let before = subst (λ s. FrontStandsFor s samples given) (sym c.in_default.ensures.none.0) stand_now in
    let stand = c.fill.ensures.stands samples given before in
    let settled = c.if-fill.ensures.none refl in (
      stand,
      settled_all new samples given settled stand,
      λ phase. given_so_far new samples given (record {
        phase = phase;
        idle = subst (λ p. IsSettled p new.judging) phase settled.0;
        tiles = settled.1;
      }) stand,
    )
