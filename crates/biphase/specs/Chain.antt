-- Cells of biphase mark (SMPTE 12M, linear time code), and the lists of them that keep a profile's tolerance.
use Rattle.std.specs.Prelude.{◌≡◌, ℕ, ◌<◌, ◌≤◌, List, [], ◌∷◌, ◌++◌, flat_map, Bool, true, false, map}
use Rattle.biphase.specs.declared.profile.Profile.{Profile}
use Rattle.biphase.specs.declared.profile.Profile.TheVariants.{Rough}
use Rattle.biphase.specs.declared.cell.Cell.{Cell}
use Rattle.biphase.specs.declared.cell.Cell.TheVariants.{Zero, One}
use Rattle.biphase.specs.Latest.{Latest}
use Rattle.biphase.specs.Pair.{AreEqual, AreUnequal}
use Rattle.biphase.specs.Tolerance.{length_of, kept_at_lock, kept_next, AreHalves, IsNext}

-- the intervals of a cell, in order
abbrev pub intervals_of : Cell → List ℕ
intervals_of (Zero x) = x ∷ []
intervals_of (One a b) = a ∷ b ∷ []

-- the bit that a cell stands for
abbrev pub bit_of : Cell → Bool
bit_of (Zero x) = false
bit_of (One a b) = true

-- the intervals of a list of cells
abbrev pub flat : List Cell → List ℕ
flat cells = flat_map intervals_of cells

-- the bits of a list of cells
abbrev pub bits : List Cell → List Bool
bits cells = map bit_of cells

-- the one list begins the other
abbrev pub Begins : {A : Type 0} → List A → List A → Type 0
Begins {A} front list = (rest : List A) × (list ≡ front ++ rest)

-- what is kept after some cells that follow others
abbrev pub kept_after : Profile → Latest → List Cell → Latest
kept_after profile latest [] = latest
kept_after profile latest (cell ∷ cells) = kept_after profile (kept_next profile latest (length_of cell)) cells

-- what is kept after the cells of a stretch, of which the first is the one at the lock
abbrev pub kept_of : Profile → List Cell → Latest
kept_of profile [] = kept_at_lock profile 0
kept_of profile (cell ∷ cells) = kept_after profile (kept_at_lock profile (length_of cell)) cells

-- a zero of length next may stand directly after a first cell of length c
abbrev pub IsNear : Profile → ℕ → ℕ → Type 0
IsNear profile c next = IsNext profile (kept_at_lock profile c) (Zero next)

-- a cell by itself: each interval lasts a tick or more, and its halves may be those of one cell
abbrev pub IsCell : Profile → Cell → Type 0
IsCell profile (Zero x) = 1 ≤ x
IsCell profile (One a b) = (1 ≤ a) × (1 ≤ b) × AreHalves profile a b

-- cells that may follow others: each may come next after what is kept of those before it
abbrev pub Follow : Profile → Latest → List Cell → Type 0
Follow profile latest [] = Unit {0}
Follow profile latest (cell ∷ cells) =
    IsCell profile cell × IsNext profile latest cell × Follow profile (kept_next profile latest (length_of cell)) cells

-- cells that may follow a first one of length c, as from a lock
abbrev pub IsChainAfter : Profile → ℕ → List Cell → Type 0
IsChainAfter profile c cells = Follow profile (kept_at_lock profile c) cells

-- cells that follow one another from the first of them on
abbrev pub FollowOn : Profile → List Cell → Type 0
FollowOn profile [] = Unit {0}
FollowOn profile (cell ∷ cells) = IsCell profile cell × Follow profile (kept_at_lock profile (length_of cell)) cells

-- from each zero on, as from a lock there, the cells behind it follow
abbrev pub FollowEachZero : Profile → List Cell → Type 0
FollowEachZero profile [] = Unit {0}
FollowEachZero profile (Zero x ∷ cells) = (1 ≤ x) × IsChainAfter profile x cells × FollowEachZero profile cells
FollowEachZero profile (One a b ∷ cells) = FollowEachZero profile cells

-- the halves of a cell are equal
abbrev pub Inner : Profile → Cell → Type 0
Inner profile (Zero x) = Unit {0}
Inner profile (One a b) = AreEqual profile a b

-- where two cells meet, two zeros and two halves are equal, a zero and a half unequal, and the zero is the greater
abbrev pub Meets : Profile → Cell → Cell → Type 0
Meets profile (Zero x) (Zero y) = AreEqual profile x y
Meets profile (Zero x) (One a b) = AreUnequal profile x a × (a < x)
Meets profile (One a b) (Zero y) = AreUnequal profile b y × (b < y)
Meets profile (One a b) (One c d) = AreEqual profile b c

-- so it is everywhere in the cells: the kinds of neighbouring intervals are as the cells say
abbrev pub Kinds : Profile → List Cell → Type 0
Kinds profile [] = Unit {0}
Kinds profile (cell ∷ []) = Inner profile cell
Kinds profile (cell ∷ next ∷ cells) = Inner profile cell × Meets profile cell next × Kinds profile (next ∷ cells)

-- a chain, cells that keep the tolerance of a profile. Where the last cell alone is kept, each cell is near the one
-- before it. If four are kept, the cells follow from each zero on, and the kinds of neighbouring intervals are as
-- the cells say
abbrev pub IsChain : Profile → List Cell → Type 0
IsChain Rough cells = FollowEachZero Rough cells × Kinds Rough cells
IsChain profile cells = FollowOn profile cells

-- after the latest cells, x can be a zero
abbrev pub IsNextZero : Profile → Latest → ℕ → Type 0
IsNextZero profile latest x = IsNext profile latest (Zero x)

-- after the latest cells, x and y can be the halves of a one
abbrev pub IsNextOne : Profile → Latest → ℕ → ℕ → Type 0
IsNextOne profile latest x y = IsNext profile latest (One x y) × AreHalves profile x y
