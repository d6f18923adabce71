-- What becomes of the stretches of a list if more intervals follow.
use Rattle.std.specs.Prelude.{◌≡◌, List, [], ◌∷◌}
use Rattle.biphase.specs.Chain.{Begins}
use Rattle.cell_tracker.specs.Stretch.{Stretch, IsBroken}

-- a stretch goes on: cells may follow its own, and it may break; one that has broken stays as it is
pub record GrowsTo (stretch later : Stretch) : Type 0 where
  pub lock : later.lock ≡ stretch.lock
  pub cells : Begins stretch.cells later.cells
  pub broken : IsBroken stretch → later ≡ stretch

-- each of them goes on, and others may follow
abbrev pub GrowTo : List Stretch → List Stretch → Type 0
GrowTo [] later = Unit {0}
GrowTo (stretch ∷ more) [] = ⊥
GrowTo (stretch ∷ more) (later ∷ others) = GrowsTo stretch later × GrowTo more others
