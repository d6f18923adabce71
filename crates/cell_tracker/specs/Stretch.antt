-- The stretches of a list of intervals: the longest chains from its locks, one after another. The rules are this
-- project's own.
use Rattle.std.specs.Prelude.{◌≡◌, ℕ, ◌+◌, ◌≤◌, List, [], ◌∷◌, ◌++◌, length, drop, slice_index, Option, Some, None}
use Rattle.std.specs.Prelude.{IsSome, MatchOption}
use Rattle.biphase.specs.declared.profile.Profile.{Profile}
use Rattle.biphase.specs.declared.cell.Cell.{Cell}
use Rattle.biphase.specs.declared.cell.Cell.TheVariants.{Zero}
use Rattle.biphase.specs.Latest.{Latest}
use Rattle.biphase.specs.Tolerance.{IsFirstHalf}
use Rattle.biphase.specs.Chain.{flat, kept_of, Begins, FollowOn}
use Rattle.cell_tracker.specs.Lock.{IsLock, HasNoLock}

-- the place of its first zero, its cells, and the place of the interval at which it breaks, if it does
pub record Stretch : Type 0 where
  pub lock : ℕ
  pub cells : List Cell
  pub broken_at : Option ℕ

-- it breaks
abbrev pub IsBroken : Stretch → Type 0
IsBroken stretch = IsSome stretch.broken_at

-- the place after its cells
abbrev pub end_of : Stretch → ℕ
end_of stretch = stretch.lock + length (flat stretch.cells)

-- cells that follow one another from the zero at the lock on, and are those of the list from there
pub record IsChainFrom (profile : Profile) (intervals : List ℕ) (lock : ℕ) (cells : List Cell) : Type 0 where
  pub first : (more : List Cell) × (cells ≡ Zero (slice_index intervals lock) ∷ more)
  pub chain : FollowOn profile cells
  pub front : Begins (flat cells) (drop lock intervals)

-- the place where a stretch breaks, if it does, behind the longest chain of its cells, so that no further cell fits.
-- `kept` is what is kept of its cells, and the list is that from the place `after` them on. If the next interval may
-- be a first half, the one behind it is no second half to it, and the break is there, once the list goes on so far.
-- Else it is at the next interval
abbrev pub IsBreak : Profile → Latest → ℕ → List ℕ → Option ℕ → Type 0
IsBreak profile kept after [] place = place ≡ None
IsBreak profile kept after (x ∷ []) place =
    (IsFirstHalf profile kept x → place ≡ None) × (¬ IsFirstHalf profile kept x → place ≡ Some after)
IsBreak profile kept after (x ∷ y ∷ rest) place =
    (IsFirstHalf profile kept x → place ≡ Some (after + 1)) × (¬ IsFirstHalf profile kept x → place ≡ Some after)

-- the longest chain from a lock, since no other has more cells, with its break
pub record IsStretch (profile : Profile) (intervals : List ℕ) (stretch : Stretch) : Type 0 where
  pub chain : IsChainFrom profile intervals stretch.lock stretch.cells
  pub longest : (others : List Cell) → IsChainFrom profile intervals stretch.lock others
      → length others ≤ length stretch.cells
  pub broken : IsBreak profile (kept_of profile stretch.cells) (end_of stretch) (drop (end_of stretch) intervals)
      stretch.broken_at

-- the stretches from the place `start` on: the first is at the lock from there, and after its break those from the
-- break on follow
abbrev pub AreStretchesFrom : Profile → List ℕ → ℕ → List Stretch → Type 0
AreStretchesFrom profile intervals start [] = HasNoLock profile intervals start
AreStretchesFrom profile intervals start (stretch ∷ more) =
    IsLock profile intervals start stretch.lock × IsStretch profile intervals stretch
    × MatchOption stretch.broken_at (more ≡ []) (λ place. AreStretchesFrom profile intervals place more)

-- the stretches of a list
abbrev pub AreStretches : Profile → List ℕ → List Stretch → Type 0
AreStretches profile intervals stretches = AreStretchesFrom profile intervals 0 stretches

-- a stretch that begins with a first zero
abbrev pub begun : ℕ → ℕ → Stretch
begun lock first = record { lock = lock; cells = Zero first ∷ []; broken_at = None }

-- the stretch with one cell more
abbrev pub with_cell : Cell → Stretch → Stretch
with_cell cell stretch =
    record { lock = stretch.lock; cells = stretch.cells ++ cell ∷ []; broken_at = stretch.broken_at }

-- the stretch with its break
abbrev pub with_break : ℕ → Stretch → Stretch
with_break place stretch = record { lock = stretch.lock; cells = stretch.cells; broken_at = Some place }
