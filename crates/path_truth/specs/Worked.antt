-- Two worked sounds and their tapes. Lists of steps, of samples and of cells begin with the latest.
use Rattle.std.specs.Prelude.{ℕ, ℤ, pos, neg_ℤ, List, [], ◌∷◌}
use Rattle.cell_path.specs.declared.cell.Bit.TheVariants.{Zero, One}
use Rattle.cell_path.specs.declared.cell.Cell.{Cell}
use Rattle.cell_path.specs.declared.cell.Sign.TheVariants.{Plus, Minus}
use Rattle.cell_path.specs.declared.cell.Step.{Step}
use Rattle.cell_path.specs.declared.cell.Way.TheVariants.{Same, Jump}

-- a step above zero, and one below; the mean size is 8
abbrev pub above : ℕ → Step
above size = record { sound = pos size; level = 8 }

abbrev pub below : ℕ → Step
below size = record { sound = neg_ℤ (pos size); level = 8 }

-- a zero, a one and a zero of four steps each, of the size 8 with noise of up to 7
abbrev pub noisy : List Step
noisy =
    below 4 ∷ below 8 ∷ below 15 ∷ below 1
    ∷ above 1 ∷ above 7 ∷ below 14 ∷ below 2
    ∷ above 9 ∷ above 1 ∷ above 15 ∷ above 3 ∷ []

-- their cells; the length of four steps stands in place 0
abbrev pub noisy_tape : List Cell
noisy_tape =
    record { place = 0; bit = Zero; sign = Minus; way = Same }
    ∷ record { place = 0; bit = One; sign = Plus; way = Same }
    ∷ record { place = 0; bit = Zero; sign = Plus; way = Jump } ∷ []

-- a sample below zero
abbrev pub minus : ℕ → ℤ
minus size = neg_ℤ (pos size)

-- a zero, a one and a zero of eight samples each, of the level 100 with noise of up to 41
abbrev pub noisy_samples : List ℤ
noisy_samples =
    minus 59 ∷ minus 141 ∷ minus 120 ∷ minus 83 ∷ minus 97 ∷ minus 141 ∷ minus 60 ∷ minus 110
    ∷ pos 72 ∷ pos 138 ∷ pos 95 ∷ pos 59 ∷ minus 140 ∷ minus 77 ∷ minus 101 ∷ minus 66
    ∷ pos 88 ∷ pos 141 ∷ pos 59 ∷ pos 100 ∷ pos 123 ∷ pos 70 ∷ pos 115 ∷ pos 92 ∷ []

-- their cells, where each sample is two steps; the length of sixteen steps stands in place 12
abbrev pub sampled_tape : List Cell
sampled_tape =
    record { place = 12; bit = Zero; sign = Minus; way = Same }
    ∷ record { place = 12; bit = One; sign = Plus; way = Same }
    ∷ record { place = 12; bit = Zero; sign = Plus; way = Jump } ∷ []
