-- A tape that runs steadily, and its cells as they are found if each transition is found some ticks late. The delay
-- is the most by which one is: it is found at its moment on the tape or later, and by no more ticks than that. The
-- rules are this project's own.
use Rattle.std.specs.Prelude.{◌≡◌, ℕ, ◌+◌, ◌*◌, ◌<◌, ◌≤◌, max, List, [], ◌∷◌}
use Rattle.std.specs.Int.{abs_diff}
use Rattle.biphase.specs.declared.cell.Cell.{Cell}
use Rattle.biphase.specs.declared.cell.Cell.TheVariants.{Zero, One}
use Rattle.biphase.specs.declared.profile.Profile.{Profile}
use Rattle.biphase.specs.declared.profile.Profile.TheVariants.{Normal, Worn, Rough}
use Rattle.biphase.specs.Profile.{IsWithin}
use Rattle.biphase.specs.Tolerance.{length_of}

-- by how many ticks the halves of a one differ
abbrev pub uneven : Cell → ℕ
uneven (Zero c) = 0
uneven (One a b) = abs_diff a b

-- the drift of a cell: by how many ticks its length differs from that of the cell before it, or its halves from each
-- other, whichever is more
abbrev pub drift_from : ℕ → Cell → ℕ
drift_from before cell = max (abs_diff (length_of cell) before) (uneven cell)

-- what a tolerance asks of a cell: that it lasts longer than a number of drifts and of delays together. The more
-- steadily a tape runs, the later its transitions may be found. The rough tolerance needs two things, of the halves and
-- of the cells
abbrev pub Outlasts : Profile → ℕ → ℕ → ℕ → Type 0
Outlasts Normal delay drift length = 16 * drift + 32 * delay < length
Outlasts Worn delay drift length = 12 * drift + 24 * delay < length
Outlasts Rough delay drift length = (8 * drift + 10 * delay < length) × (12 * drift + 9 * delay < length)

-- cells that come behind one of this many ticks, each long enough
abbrev pub RunOn : Profile → ℕ → ℕ → List Cell → Type 0
RunOn profile delay before [] = Unit {0}
RunOn profile delay before (cell ∷ tape) =
    Outlasts profile delay (drift_from before cell) (length_of cell) × RunOn profile delay (length_of cell) tape

-- a tape that runs steadily for a tolerance and a delay. Its first cell has none before it to differ from
abbrev pub IsSteady : Profile → ℕ → List Cell → Type 0
IsSteady profile delay [] = Unit {0}
IsSteady profile delay (cell ∷ tape) = RunOn profile delay (length_of cell) (cell ∷ tape)

-- what the rough tolerance asks of a cell from a lock on, where the reader does not lock again: that it lasts longer
-- than twelve drifts and nine delays together
abbrev pub OutlastsFromALock : ℕ → ℕ → ℕ → Type 0
OutlastsFromALock delay drift length = 12 * drift + 9 * delay < length

-- cells that come behind one of this many ticks, each long enough for this
abbrev pub RunOnFromALock : ℕ → ℕ → List Cell → Type 0
RunOnFromALock delay before [] = Unit {0}
RunOnFromALock delay before (cell ∷ tape) =
    OutlastsFromALock delay (drift_from before cell) (length_of cell) × RunOnFromALock delay (length_of cell) tape

-- a tape that runs steadily enough for this, from its first cell on
abbrev pub IsSteadyFromALock : ℕ → List Cell → Type 0
IsSteadyFromALock delay [] = Unit {0}
IsSteadyFromALock delay (cell ∷ tape) = RunOnFromALock delay (length_of cell) (cell ∷ tape)

-- a cell of the tape as it is found, where its first transition is found `first` ticks late, its last one `last` ticks
-- late, and the one in its middle, where it has one, within the delay
abbrev pub IsFoundAs : ℕ → ℕ → ℕ → Cell → Cell → Type 0
IsFoundAs delay first last (Zero c) (Zero x) = c + last ≡ first + x
IsFoundAs delay first last (One a b) (One x y) =
    (middle : ℕ) × (middle ≤ delay) × (a + middle ≡ first + x) × (b + last ≡ middle + y)
IsFoundAs delay first last cell found = ⊥

-- the cells of the tape as they are found, where the first transition is found this many ticks late, and each other one
-- within the delay
abbrev pub AreFoundAs : ℕ → ℕ → List Cell → List Cell → Type 0
AreFoundAs delay first [] [] = Unit {0}
AreFoundAs delay first (cell ∷ tape) (found ∷ cells) =
    (last : ℕ) × (last ≤ delay) × IsFoundAs delay first last cell found × AreFoundAs delay last tape cells
AreFoundAs delay first tape cells = ⊥

-- how many delays a cell has to outlast where nothing on the tape drifts by more than a hundredth
abbrev pub delays_of : Profile → ℕ
delays_of Normal = 40
delays_of Worn = 28
delays_of Rough = 11

-- cells behind one of this many ticks, of which each outlasts that many delays, differs from the cell before it by a
-- hundredth of that one at most, and has halves that differ by a hundredth of it at most
abbrev pub RunWithinAHundredth : ℕ → ℕ → ℕ → List Cell → Type 0
RunWithinAHundredth delays delay before [] = Unit {0}
RunWithinAHundredth delays delay before (cell ∷ tape) =
    (delays * delay < length_of cell) × IsWithin 100 (length_of cell) before before
    × (100 * uneven cell ≤ length_of cell) × RunWithinAHundredth delays delay (length_of cell) tape

-- such a tape, from its first cell on
abbrev pub IsWithinAHundredth : ℕ → ℕ → List Cell → Type 0
IsWithinAHundredth delays delay [] = Unit {0}
IsWithinAHundredth delays delay (cell ∷ tape) = RunWithinAHundredth delays delay (length_of cell) (cell ∷ tape)

-- a tape that runs evenly: each zero lasts two halves, and each half of a one lasts as long
abbrev pub RunsEvenly : ℕ → List Cell → Type 0
RunsEvenly half [] = Unit {0}
RunsEvenly half (Zero c ∷ tape) = (c ≡ 2 * half) × RunsEvenly half tape
RunsEvenly half (One a b ∷ tape) = (a ≡ half) × (b ≡ half) × RunsEvenly half tape
