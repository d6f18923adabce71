-- Where a list of intervals is locked to: the greater interval of an unequal pair is a zero. The rule is this
-- project's own.
use Rattle.std.specs.Prelude.{◌≡◌, ℕ, ◌+◌, ◌<◌, ◌≤◌, List, length, slice_index}
use Rattle.biphase.specs.declared.profile.Profile.{Profile}
use Rattle.biphase.specs.Pair.{AreUnequal}

-- the intervals at the places k and k + 1 are an unequal pair
abbrev pub IsUnequalAt : Profile → List ℕ → ℕ → Type 0
IsUnequalAt profile intervals k =
    (k + 1 < length intervals) × AreUnequal profile (slice_index intervals k) (slice_index intervals (k + 1))

-- no pair from the place `start` on is unequal
abbrev pub HasNoLock : Profile → List ℕ → ℕ → Type 0
HasNoLock profile intervals start = (k : ℕ) → start ≤ k → ¬ IsUnequalAt profile intervals k

-- the lock from the place `start`: the place of the greater interval of the first unequal pair from there on
pub record IsLock (profile : Profile) (intervals : List ℕ) (start lock : ℕ) : Type 0 where
  -- the place of the pair's first interval
  pub pair : ℕ
  pub within : start ≤ pair
  pub unequal : IsUnequalAt profile intervals pair
  pub none_before : (k : ℕ) → start ≤ k → k < pair → ¬ IsUnequalAt profile intervals k
  pub rising : slice_index intervals pair < slice_index intervals (pair + 1) → lock ≡ pair + 1
  pub falling : slice_index intervals (pair + 1) < slice_index intervals pair → lock ≡ pair
