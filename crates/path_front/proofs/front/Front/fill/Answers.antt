use Rattle.std.proofs.Common.{◌≡◌, [], ap, subst, sym, ◌∙◌, arith}
use Rattle.std.specs.List.{All}
use Rattle.path_front.specs.Front.{FrontState, FrontStandsFor}
use Rattle.path_front.specs.Tiles.{IsSaid}
use Rattle.path_front.proofs.FrontNext.{filled, front, none_filled}
use Rattle.path_front.proofs.SaidIntervals.{tiles_said}
use Rattle.path_front.proofs.front.Front.fill.Goals as goal

pub returns-in_default-clause-stands : goal.returns-in_default-clause-stands
returns-in_default-clause-stands c = λ samples given stand_now.
    let i = c.self.inside in
    let stand = subst (λ s. FrontStandsFor s samples given) (sym c.self.view_is) stand_now in
    none_filled i.judging c.next.new.self i.ticks i.tiles.items samples given c.in_default.ensures.none
    c.in_default.ensures.ear stand

pub returns-clause-stands : goal.returns-clause-stands
returns-clause-stands c = λ samples given stand_now.
    let i = c.self.inside in
    let stand = subst (λ s. FrontStandsFor s samples given) (sym c.self.view_is) stand_now in
    let none : i.tiles.items ≡ [] = ap (λ (s : FrontState). s.tiles) c.self.view_is ∙ c.requires in
    subst (λ tiles. FrontStandsFor (front c.next.new.self i.ticks tiles) samples given)
    (sym c.tiled-self-inside.ensures.value)
    (filled i.judging c.next.new.self i.ticks c.in-Some.judged samples given c.in-Some.ensures.gives
    c.in-Some.ensures.ear
    (subst (λ tiles. FrontStandsFor (front i.judging i.ticks tiles) samples given) none stand))

pub invariant_of-self-2 : goal.invariant_of-self-2
invariant_of-self-2 c = record {
  least = c.self.invariant.least;
  most = c.self.invariant.most;
  said = subst (All IsSaid) (sym c.tiled-self-inside.ensures.value)
      (tiles_said c.self.inside.ticks c.in-Some.judged c.self.invariant.least (omega (arith, c.self.invariant.most))
      c.in-Some.ensures.gives.measured);
}
