-- What each answer of the tracker keeps of the state and the interval that brought it.
use Rattle.std.specs.Prelude.{◌≡◌, ℕ, ◌+◌, Some}
use Rattle.biphase.specs.Tolerance.{kept_at_lock, kept_next}
use Rattle.cell_tracker.specs.declared.hunting.FromHunting.{FromHunting}
use Rattle.cell_tracker.specs.declared.hunting.FromHunting.TheVariants.{Hunt, StartAt, StartMid, StartBroken}
use Rattle.cell_tracker.specs.declared.at_cell.FromAtCell.{FromAtCell}
use Rattle.cell_tracker.specs.declared.at_cell.FromAtCell.TheVariants.{Half}
use Rattle.cell_tracker.specs.declared.mid_cell.FromMidCell.{FromMidCell}
use Rattle.biphase.specs.Latest.{Latest}
use Rattle.cell_tracker.specs.State.{HuntingState, AtCellState, MidCellState, IsAtCell, IsMidCell, search_from}

-- a search keeps the interval, and a stretch its first zero, which is the interval or the one before
abbrev pub KeepsOfHunting : HuntingState → ℕ → FromHunting → Latest → Type 0
KeepsOfHunting h x (Hunt next) four = next ≡ search_from h.profile x
KeepsOfHunting h x (StartAt next) four =
    IsAtCell next four (record { profile = h.profile; latest = kept_at_lock h.profile x })
KeepsOfHunting h x (StartMid next zero) four =
    (h.before ≡ Some zero) × IsMidCell next four (record {
      profile = h.profile;
      latest = kept_at_lock h.profile zero;
      half = x;
    })
KeepsOfHunting h x (StartBroken next zero) four = (h.before ≡ Some zero) × (next ≡ search_from h.profile x)

-- a zero is the interval, a waiting half too, and a search begins at it
abbrev pub KeepsOfAtCell : AtCellState → ℕ → FromAtCell → Latest → Type 0
KeepsOfAtCell a x (FromAtCell.Zero next) four =
    IsAtCell next four (record { profile = a.profile; latest = kept_next a.profile a.latest x })
KeepsOfAtCell a x (Half next) four = IsMidCell next four (record { profile = a.profile; latest = a.latest; half = x })
KeepsOfAtCell a x (FromAtCell.Broken next) four = next ≡ search_from a.profile x

-- a one is the waiting half and the interval, and a search begins at the interval
abbrev pub KeepsOfMidCell : MidCellState → ℕ → FromMidCell → Latest → Type 0
KeepsOfMidCell m x (FromMidCell.One next first second) four = (first ≡ m.half) × (second ≡ x)
    × IsAtCell next four (record { profile = m.profile; latest = kept_next m.profile m.latest (m.half + x) })
KeepsOfMidCell m x (FromMidCell.Broken next) four = next ≡ search_from m.profile x
