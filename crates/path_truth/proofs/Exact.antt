-- A path whose score is the sum of the sizes counts each step once, with its own sign, and pays
-- nothing.
use Rattle.std.proofs.Common.{◌≡◌, ℕ, ◌+◌, ℤ, pos, ◌+ℤ◌, ◌-ℤ◌, ◌≤ℤ◌, List, [], ◌∷◌, take, drop, arith}
use Rattle.std.proofs.lemmas.Int.{ints}
use Rattle.cell_path.specs.declared.cell.Cell.{Cell}
use Rattle.cell_path.specs.declared.cell.Step.{Step}
use Rattle.cell_path.specs.Lengths.{length_in}
use Rattle.cell_path.specs.Path.{cost, score, signed, sound_in}
use Rattle.cell_path.specs.Unfinished.{sum_of_sizes}
use Rattle.path_truth.proofs.NoGreater.{cost-least, score-most, sizes-parts, sound-most}

-- the cell is worth the sizes of its steps, and pays nothing
pub record IsExact (lengths : List ℕ) (steps : List Step) (cell : Cell) (before : List Cell) : Type 0 where
  pub worth : signed cell.sign (sound_in cell.bit (length_in lengths cell.place) steps)
      ≡ pos (sum_of_sizes (take (length_in lengths cell.place) steps))
  pub free : cost lengths steps (length_in lengths cell.place) cell.place cell.way before ≡ pos 0

abbrev pub AreExact : List ℕ → List Step → List Cell → Type 0
AreExact lengths steps [] = Unit {0}
AreExact lengths steps (cell ∷ before) =
    IsExact lengths steps cell before × AreExact lengths (drop (length_in lengths cell.place) steps) before

-- what is lost nowhere in the whole is lost in no part
record Parts (a c s : ℤ) (m n : ℕ) : Type 0 where
  pub first : a ≡ pos m
  pub free : c ≡ pos 0
  pub rest : s ≡ pos n

nothing_lost : (a c s : ℤ) (k m n : ℕ) → a ≤ℤ pos m → pos 0 ≤ℤ c → s ≤ℤ pos n → k ≡ m + n
    → a +ℤ (s -ℤ c) ≡ pos k → Parts a c s m n
nothing_lost a c s k m n worth paid rest sum is = record {
  first = omega (arith, ints);
  free = omega (arith, ints);
  rest = omega (arith, ints);
}

pub exact : (lengths : List ℕ) (steps : List Step) (path : List Cell)
    → score lengths steps path ≡ pos (sum_of_sizes steps) → AreExact lengths steps path
exact lengths steps [] is = tt
exact lengths steps (cell ∷ before) is =
    let n = length_in lengths cell.place in
    let parts = nothing_lost (signed cell.sign (sound_in cell.bit n steps))
    (cost lengths steps n cell.place cell.way before) (score lengths (drop n steps) before) (sum_of_sizes steps)
    (sum_of_sizes (take n steps)) (sum_of_sizes (drop n steps)) (sound-most cell.bit cell.sign n steps)
    (cost-least lengths steps n cell.place cell.way before) (score-most lengths (drop n steps) before)
    (sizes-parts n steps) is in
    (record { worth = parts.first; free = parts.free }, exact lengths (drop n steps) before parts.rest)
