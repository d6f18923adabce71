-- A run of even ones on a tape that has room for a delay: it stays one as it is found. The rule is this project's own.
use Rattle.std.specs.Prelude.{◌≡◌, ℕ, ◌+◌, ◌-◌, ◌<◌, ◌≤◌, List, [], ◌∷◌, ◌++◌, length}
use Rattle.biphase.specs.declared.cell.Cell.{Cell}
use Rattle.biphase.specs.declared.cell.Cell.TheVariants.{Zero, One}
use Rattle.biphase.specs.Chain.{flat}
use Rattle.cell_tracker.specs.EvenRun.{IsEvenHalf, IsEvenZero}

-- ones whose halves are even to a length, also where each is a delay shorter or longer
abbrev pub AreEvenOnesFor : ℕ → ℕ → List Cell → Type 0
AreEvenOnesFor delay even [] = Unit {0}
AreEvenOnesFor delay even (Zero x ∷ cells) = ⊥
AreEvenOnesFor delay even (One a b ∷ cells) =
    IsEvenHalf even (a - delay) × IsEvenHalf even (a + delay) × IsEvenHalf even (b - delay)
    × IsEvenHalf even (b + delay) × AreEvenOnesFor delay even cells

-- the tape has a zero, nine neighbouring ones or more behind it, and then a zero, and these stand whole in some
-- intervals,
-- which begin with those of the tape from the place `cut` on, the last zero in their place `end`. The ones and the zero
-- behind them are even to one length, even if each interval is a delay shorter or longer
pub record IsEvenRunFor (delay : ℕ) (intervals : List ℕ) (tape : List Cell) (cut end : ℕ) : Type 0 where
  pub before : List Cell
  pub first : ℕ
  pub ones : List Cell
  pub whole : ℕ
  pub after : List Cell
  pub are : tape ≡ before ++ (Zero first ∷ (ones ++ Zero whole ∷ after))
  pub many : 9 ≤ length ones
  pub within : cut ≤ length (flat before)
  pub place : cut + end ≡ length (flat before) + 1 + length (flat ones)
  pub inside : end < length intervals
  pub even : ℕ
  pub some : 1 ≤ even
  pub even_ones : AreEvenOnesFor delay even ones
  pub even_whole : IsEvenZero even (whole - delay) × IsEvenZero even (whole + delay)
