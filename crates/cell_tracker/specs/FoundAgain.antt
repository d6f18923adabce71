-- Where a recording within the tolerance is found again, whatever comes before it.
use Rattle.std.specs.Prelude.{◌≡◌, ℕ, ◌+◌, ◌≤◌, List, [], ◌∷◌, ◌++◌, length, None, All, IsSomeAnd}
use Rattle.biphase.specs.declared.profile.Profile.{Profile}
use Rattle.biphase.specs.declared.cell.Cell.{Cell}
use Rattle.biphase.specs.Chain.{flat}
use Rattle.cell_tracker.specs.Lock.{IsLock}
use Rattle.cell_tracker.specs.Stretch.{Stretch}

-- the place of the greater interval of the second unequal pair of a list. The two pairs may have one interval in common
pub record IsSecondLock (profile : Profile) (intervals : List ℕ) (second : ℕ) : Type 0 where
  pub first : ℕ
  pub lock : IsLock profile intervals 0 first
  pub next : IsLock profile intervals (lock.pair + 1) second

-- a stretch breaks, at the place `from` at the latest
abbrev pub BreaksBy : ℕ → Stretch → Type 0
BreaksBy from stretch = IsSomeAnd stretch.broken_at (λ place. place ≤ from)

-- from the place `from` on the stretches are these cells and nothing else: the last stretch has them from there on and
-- does not break, and each stretch before it breaks by then
pub record AreFrom (from : ℕ) (cells : List Cell) (stretches : List Stretch) : Type 0 where
  pub earlier : List Stretch
  pub last : Stretch
  pub are : stretches ≡ earlier ++ last ∷ []
  pub broken : All (BreaksBy from) earlier
  pub open_yet : last.broken_at ≡ None
  pub older : List Cell
  pub cells_are : last.cells ≡ older ++ cells
  pub place : last.lock + length (flat older) ≡ from
