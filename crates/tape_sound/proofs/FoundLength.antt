-- A cell as it is found lasts as long as on the tape, but for what its two ends are late by: it is wrong by a delay at
-- most.
use Rattle.std.proofs.Common.{◌≡◌, ℕ, ◌+◌, ◌≤◌, arith}
use Rattle.biphase.specs.declared.cell.Cell.{Cell}
use Rattle.biphase.specs.declared.cell.Cell.TheVariants.{Zero, One}
use Rattle.biphase.specs.Tolerance.{length_of}
use Rattle.tape_sound.specs.Late.{IsFoundAs}

-- the length of a cell is wrong by what its last transition is later than its first one
pub length_found : (delay first last : ℕ) (cell found : Cell) → IsFoundAs delay first last cell found
    → length_of cell + last ≡ first + length_of found
length_found delay first last (Zero c) (Zero x) is = is
length_found delay first last (Zero c) (One x y) is = absurd is
length_found delay first last (One a b) (Zero x) is = absurd is
length_found delay first last (One a b) (One x y) is = omega (arith, is.2, is.3)

-- so it is wrong by the delay at most
pub wrong_by : (delay first last c x : ℕ) → first ≤ delay → last ≤ delay → c + last ≡ first + x
    → (x ≤ c + delay) × (c ≤ x + delay)
wrong_by delay first last c x early late is = (omega arith, omega arith)
