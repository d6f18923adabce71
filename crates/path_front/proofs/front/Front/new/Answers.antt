use Rattle.std.proofs.Common.{[], subst, sym}
use Rattle.path_front.specs.Front.{FrontStandsFor}
use Rattle.path_front.proofs.FrontNext.{front, nothing_yet}
use Rattle.path_front.proofs.front.Front.new.Goals as goal

pub returns-clause-stands : goal.returns-clause-stands
returns-clause-stands c =
    subst (λ tiles. FrontStandsFor (front c.new.result c.args.ticks tiles) [] []) (sym c.new-2.ensures)
    (nothing_yet c.new.result c.args.ticks c.new.ensures.phase c.new.ensures.stands)
