-- A run of even ones, as a sync word has it: where a recording of the rough tolerance is found again, whatever comes
-- before it. The rule is this project's own.
use Rattle.std.specs.Prelude.{◌≡◌, ℕ, ◌+◌, ◌*◌, ◌<◌, ◌≤◌, List, [], ◌∷◌, ◌++◌, length}
use Rattle.biphase.specs.declared.cell.Cell.{Cell}
use Rattle.biphase.specs.declared.cell.Cell.TheVariants.{Zero, One}
use Rattle.biphase.specs.Chain.{flat}

-- an interval lies within a sixteenth of half of a length
abbrev pub IsEvenHalf : ℕ → ℕ → Type 0
IsEvenHalf even x = (15 * even ≤ 32 * x) × (32 * x ≤ 17 * even)

-- an interval lies within an eighth of a length
abbrev pub IsEvenZero : ℕ → ℕ → Type 0
IsEvenZero even x = (7 * even ≤ 8 * x) × (8 * x ≤ 9 * even)

-- ones whose halves are all so
abbrev pub AreEvenOnes : ℕ → List Cell → Type 0
AreEvenOnes even [] = Unit {0}
AreEvenOnes even (Zero x ∷ cells) = ⊥
AreEvenOnes even (One a b ∷ cells) = IsEvenHalf even a × IsEvenHalf even b × AreEvenOnes even cells

-- the recording, which stands in the intervals of these cells from the place `cut` on, has whole in it a zero, nine
-- neighbouring ones or more behind it, and then a zero, which stands in its place `end`. These ones and the zero behind
-- them are even to one length
pub record IsEvenRun (intervals : List ℕ) (cells : List Cell) (cut end : ℕ) : Type 0 where
  pub before : List Cell
  pub first : ℕ
  pub ones : List Cell
  pub whole : ℕ
  pub after : List Cell
  pub are : cells ≡ before ++ (Zero first ∷ (ones ++ Zero whole ∷ after))
  pub many : 9 ≤ length ones
  pub within : cut ≤ length (flat before)
  pub place : cut + end ≡ length (flat before) + 1 + length (flat ones)
  pub inside : end < length intervals
  pub even : ℕ
  pub some : 1 ≤ even
  pub even_ones : AreEvenOnes even ones
  pub even_whole : IsEvenZero even whole
