-- The tolerance of each profile: what it keeps of the cells of a stretch, and its tests of what may come next. They
-- are this project's own.
use Rattle.std.specs.Prelude.{◌≡◌, ℕ, ◌+◌}
use Rattle.biphase.specs.declared.cell.Cell.{Cell}
use Rattle.biphase.specs.declared.cell.Cell.TheVariants.{Zero, One}
use Rattle.biphase.specs.Latest.{Latest}
use Rattle.biphase.specs.declared.profile.Profile.{Profile}
use Rattle.biphase.specs.declared.profile.Profile.TheVariants.{Normal, Worn, Rough}
use Rattle.biphase.specs.declared.profile.SumTolerance.{SumTolerance}
use Rattle.biphase.specs.declared.profile.TheConstants.{NORMAL, WORN, ROUGH}
use Rattle.biphase.specs.Profile.{IsBetween, IsWithin}

-- the length of a cell, in ticks
abbrev pub length_of : Cell → ℕ
length_of (Zero x) = x
length_of (One a b) = a + b

-- the lengths of the latest cells, the last one first
abbrev pub latest_with : ℕ → ℕ → ℕ → ℕ → Latest
latest_with last second third fourth = record { last = last; second = second; third = third; fourth = fourth }

-- the sum of the lengths of the latest four cells
abbrev pub sum_of : Latest → ℕ
sum_of latest = latest.last + latest.second + latest.third + latest.fourth

-- what is kept at a lock, where the stretch has one cell of length c: four lengths under the rough tolerance, which
-- compares with their sum, and else the last one
abbrev pub kept_at_lock : Profile → ℕ → Latest
kept_at_lock Rough c = latest_with c c c c
kept_at_lock profile c = latest_with c 0 0 0

-- what is kept after one cell more, of length c
abbrev pub kept_next : Profile → Latest → ℕ → Latest
kept_next Rough latest c = latest_with c latest.last latest.second latest.third
kept_next profile latest c = latest_with c 0 0 0

-- a cell may come next, after four cells of this sum: a zero by its length, a one by each of its halves too
abbrev pub FollowsSum : SumTolerance → ℕ → Cell → Type 0
FollowsSum t sum (Zero x) = IsBetween t.least_cell t.greatest_cell x sum
FollowsSum t sum (One a b) = IsBetween t.least_half t.greatest_half a sum
    × IsBetween t.least_half t.greatest_half b sum × IsBetween t.least_cell t.greatest_cell (a + b) sum

-- a cell may come next
abbrev pub IsNext : Profile → Latest → Cell → Type 0
IsNext Normal latest cell = IsWithin NORMAL.cell (length_of cell) latest.last latest.last
IsNext Worn latest cell = IsWithin WORN.cell (length_of cell) latest.last latest.last
IsNext Rough latest cell = FollowsSum ROUGH (sum_of latest) cell

-- an interval may be the first half of a one that comes next
abbrev pub IsFirstHalf : Profile → Latest → ℕ → Type 0
IsFirstHalf Normal latest x = IsBetween NORMAL.least_half NORMAL.greatest_half x latest.last
IsFirstHalf Worn latest x = IsBetween WORN.least_half WORN.greatest_half x latest.last
IsFirstHalf Rough latest x = IsBetween ROUGH.least_half ROUGH.greatest_half x (sum_of latest)

-- two intervals may be the halves of one cell, whatever comes before it
abbrev pub AreHalves : Profile → ℕ → ℕ → Type 0
AreHalves Normal a b = IsWithin NORMAL.half a b (a + b)
AreHalves Worn a b = IsWithin WORN.half a b (a + b)
AreHalves Rough a b = Unit {0}

-- a profile that compares with the last cell alone
abbrev pub LooksAtLast : Profile → Type 0
LooksAtLast Rough = ⊥
LooksAtLast profile = Unit {0}

-- the number that the tests of a profile compare with: the length of the last cell, or the sum of the latest four
abbrev pub reference_of : Profile → Latest → ℕ
reference_of Normal latest = latest.last
reference_of Worn latest = latest.last
reference_of Rough latest = sum_of latest

-- what is kept, by this number and by four lengths beside it: a profile that compares with the last cell does not look
-- at them
abbrev pub kept_by : Profile → ℕ → Latest → Latest
kept_by Normal reference four = latest_with reference 0 0 0
kept_by Worn reference four = latest_with reference 0 0 0
kept_by Rough reference four = four

-- the number and the four lengths fit each other
abbrev pub Fits : Profile → ℕ → Latest → Type 0
Fits profile reference four = reference_of profile (kept_by profile reference four) ≡ reference
