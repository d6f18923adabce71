-- Whatever was before, cells of a run of even ones are zeros alone or ones alone, and how they may end.
use Rattle.std.proofs.Common.{◌≡◌, ℕ, ◌+◌, ◌*◌, ◌≤◌, ◌⊎◌, List, [], ◌∷◌, ◌++◌, length, inl, inr}
use Rattle.std.proofs.Common.{arith}
use Rattle.biphase.specs.declared.profile.Profile.TheVariants.{Rough}
use Rattle.biphase.specs.declared.cell.Cell.{Cell}
use Rattle.biphase.specs.declared.cell.Cell.TheVariants.{Zero, One}
use Rattle.biphase.specs.Latest.{Latest}
use Rattle.biphase.specs.Tolerance.{kept_next, latest_with, length_of, sum_of, IsFirstHalf, IsNext}
use Rattle.biphase.specs.Chain.{flat, kept_after}
use Rattle.cell_tracker.specs.EvenRun.{IsEvenHalf}

abbrev pub AreEvenHalves : ℕ → List ℕ → Type 0
AreEvenHalves even [] = Unit {0}
AreEvenHalves even (x ∷ xs) = IsEvenHalf even x × AreEvenHalves even xs

-- a half of the run as a zero, or two as a one
abbrev pub IsTaken : ℕ → Cell → Type 0
IsTaken even (Zero x) = IsEvenHalf even x
IsTaken even (One a b) = IsEvenHalf even a × IsEvenHalf even b

-- so a cell of the run is half of the length or more, and not much more than the length
abbrev IsKnown : ℕ → ℕ → Type 0
IsKnown even c = (15 * even ≤ 32 * c) × (32 * c ≤ 34 * even)

pub known : (even : ℕ) (cell : Cell) → IsTaken even cell → IsKnown even (length_of cell)
known even (Zero x) is = omega arith
known even (One a b) is = omega arith

-- ---- zeros alone, or ones alone

abbrev pub IsZeroTaken : ℕ → Cell → Type 0
IsZeroTaken even (Zero x) = IsEvenHalf even x
IsZeroTaken even (One a b) = ⊥

abbrev pub IsOneTaken : ℕ → Cell → Type 0
IsOneTaken even (Zero x) = ⊥
IsOneTaken even (One a b) = IsEvenHalf even a × IsEvenHalf even b

-- of these four none is shorter than a half, and they are too short together for a one to come next
abbrev AreShort : ℕ → Latest → Type 0
AreShort even l = (15 * even ≤ 32 * l.last) × (15 * even ≤ 32 * l.second) × (15 * even ≤ 32 * l.third)
    × (15 * even ≤ 32 * l.fourth) × (48 * sum_of l ≤ 139 * even)

-- of these none is longer than two halves, and they are too long together for a zero to come next
abbrev AreLong : ℕ → Latest → Type 0
AreLong even l = (32 * l.last ≤ 34 * even) × (32 * l.second ≤ 34 * even) × (32 * l.third ≤ 34 * even)
    × (32 * l.fourth ≤ 34 * even) × (23 * even ≤ 8 * sum_of l)

abbrev Decided : (ℕ → Cell → Type 0) → (ℕ → Latest → Type 0) → ℕ → Latest → Cell → Type 0
Decided Kind Are even l cell = Kind even cell × Are even (kept_next Rough l (length_of cell))

-- the first cell behind four of the run decides
pub decides : (even : ℕ) (l : Latest) (cell : Cell) → IsKnown even l.last → IsKnown even l.second → IsKnown even l.third
    → IsKnown even l.fourth → IsTaken even cell → IsNext Rough l cell
    → Decided IsZeroTaken AreShort even l cell ⊎ Decided IsOneTaken AreLong even l cell
decides even l (Zero x) a b c d is fits = inl (is, omega arith)
decides even l (One x y) a b c d is fits = inr (is, omega arith)

-- and the next ones are as it is
pub short_on : (even : ℕ) (l : Latest) (cell : Cell) → 1 ≤ even → AreShort even l → IsTaken even cell
    → IsNext Rough l cell
    → Decided IsZeroTaken AreShort even l cell
short_on even l (Zero x) some all is fits = (is, omega arith)
short_on even l (One a b) some all is fits = absurd (omega arith)

pub long_on : (even : ℕ) (l : Latest) (cell : Cell) → 1 ≤ even → AreLong even l → IsTaken even cell
    → IsNext Rough l cell
    → Decided IsOneTaken AreLong even l cell
long_on even l (Zero x) some all is fits = absurd (omega arith)
long_on even l (One a b) some all is fits = (is, omega arith)

-- ---- how cells may end

-- where cells end in a run: with its last interval or before, and the zero behind it is no first half to them
abbrev pub EndIn : Latest → List Cell → ℕ → List ℕ → Type 0
EndIn latest cells whole hs = (length (flat cells) ≤ length hs)
    × (length (flat cells) ≡ length hs → ¬ IsFirstHalf Rough (kept_after Rough latest cells) whole)

-- what is kept of four ones of these halves, the first of them first
abbrev pub kept_ones : ℕ → ℕ → ℕ → ℕ → ℕ → ℕ → ℕ → ℕ → Latest
kept_ones a b c d e f g h = latest_with (g + h) (e + f) (c + d) (a + b)

-- cells that go on behind a run: they have its zero where it is, and what is kept before it is what is kept of the
-- last four ones of all the run
pub record GoOn (run : List ℕ) (latest : Latest) (cells : List Cell) (whole : ℕ) (hs : List ℕ) : Type 0 where
  pub older : List Cell
  pub newer : List Cell
  pub are : cells ≡ older ++ Zero whole ∷ newer
  pub place : length (flat older) ≡ length hs
  pub front : List ℕ
  pub a : ℕ
  pub b : ℕ
  pub c : ℕ
  pub d : ℕ
  pub e : ℕ
  pub f : ℕ
  pub g : ℕ
  pub h : ℕ
  pub last : run ≡ front ++ (a ∷ b ∷ c ∷ d ∷ e ∷ f ∷ g ∷ h ∷ [])
  pub kept : kept_after Rough latest older ≡ kept_ones a b c d e f g h

-- one or the other
abbrev pub EndOrGoOn : List ℕ → Latest → List Cell → ℕ → List ℕ → Type 0
EndOrGoOn run latest cells whole hs = EndIn latest cells whole hs ⊎ GoOn run latest cells whole hs
