-- A sound that keeps the sides of a tape. Lists of steps and of cells begin with the latest.
use Rattle.std.specs.Prelude.{◌≡◌, ℕ, zero, suc, ◌/◌, ◌%◌, ◌≤◌, pos, ◌<ℤ◌}
use Rattle.std.specs.Prelude.{List, [], ◌∷◌, length, drop}
use Rattle.cell_path.specs.declared.cell.Bit.{Bit}
use Rattle.cell_path.specs.declared.cell.Bit.TheVariants.{Zero, One}
use Rattle.cell_path.specs.declared.cell.Cell.{Cell}
use Rattle.cell_path.specs.declared.cell.Sign.{Sign}
use Rattle.cell_path.specs.declared.cell.Step.{Step}
use Rattle.cell_path.specs.Path.{opposite, signed}

-- the sound of a step is on this side of zero, and the mean size there is one or more
pub record IsOnSide (sign : Sign) (step : Step) : Type 0 where
  pub side : pos 0 <ℤ signed sign step.sound
  pub level : 1 ≤ step.level

-- the latest n steps are on this side, and there are so many
abbrev pub AreOnSide : Sign → ℕ → List Step → Type 0
AreOnSide sign zero steps = Unit {0}
AreOnSide sign (suc n) [] = ⊥
AreOnSide sign (suc n) (step ∷ steps) = IsOnSide sign step × AreOnSide sign n steps

-- The latest n steps are on the sides of a bit with this sign: a zero has one side, and a one,
-- which lasts an even number of steps, the other in its first half.
abbrev pub KeepsSides : Bit → Sign → ℕ → List Step → Type 0
KeepsSides Zero sign n steps = AreOnSide sign n steps
KeepsSides One sign n steps =
    (n % 2 ≡ 0) × AreOnSide sign (n / 2) steps × AreOnSide (opposite sign) (n / 2) (drop (n / 2) steps)

-- a sound keeps the sides of cells of n steps each, the first of which begins with it
abbrev pub KeepsItsSides : ℕ → List Step → List Cell → Type 0
KeepsItsSides n steps [] = length steps ≡ 0
KeepsItsSides n steps (cell ∷ before) =
    KeepsSides cell.bit cell.sign n steps × KeepsItsSides n (drop n steps) before
