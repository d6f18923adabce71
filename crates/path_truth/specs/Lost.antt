-- Sounds whose best path is not the tape, since they lack one thing each. Lists of steps and of
-- cells begin with the latest.
use Rattle.std.specs.Prelude.{pos, List, [], ◌∷◌}
use Rattle.cell_path.specs.declared.cell.Bit.TheVariants.{Zero, One}
use Rattle.cell_path.specs.declared.cell.Cell.{Cell}
use Rattle.cell_path.specs.declared.cell.Sign.TheVariants.{Plus, Minus}
use Rattle.cell_path.specs.declared.cell.Step.{Step}
use Rattle.cell_path.specs.declared.cell.Way.TheVariants.{Same, Jump}
use Rattle.path_truth.specs.Worked.{above, below}

-- a one of eight steps: the sides of two zeros of four
abbrev pub ambiguous : List Step
ambiguous =
    above 8 ∷ above 8 ∷ above 8 ∷ above 8 ∷ below 8 ∷ below 8 ∷ below 8 ∷ below 8 ∷ []

-- the one, with no zero beside it; the length of eight steps stands in place 4
abbrev pub as_a_one : List Cell
as_a_one = record { place = 4; bit = One; sign = Plus; way = Jump } ∷ []

abbrev pub as_zeros : List Cell
as_zeros =
    record { place = 0; bit = Zero; sign = Plus; way = Same }
    ∷ record { place = 0; bit = Zero; sign = Minus; way = Jump } ∷ []

-- a zero and a one of five steps, whose middle step is loud
abbrev pub odd : List Step
odd =
    above 8 ∷ above 8 ∷ below 99 ∷ below 8 ∷ below 8
    ∷ above 8 ∷ above 8 ∷ above 8 ∷ above 8 ∷ above 8 ∷ []

-- the middle step of a one of odd length counts for neither half; the length of five steps stands
-- in place 1
abbrev pub odd_tape : List Cell
odd_tape =
    record { place = 1; bit = One; sign = Plus; way = Same }
    ∷ record { place = 1; bit = Zero; sign = Plus; way = Jump } ∷ []

-- a zero of four steps, all of them silent
abbrev pub silent : List Step
silent = above 0 ∷ above 0 ∷ above 0 ∷ above 0 ∷ []

-- which have no side
abbrev pub silent_tape : List Cell
silent_tape = record { place = 0; bit = Zero; sign = Minus; way = Jump } ∷ []

-- a step of the mean size 0
abbrev pub weightless : Step
weightless = record { sound = pos 8; level = 0 }

-- a zero of eight of them, where nothing costs anything
abbrev pub free : List Step
free =
    weightless ∷ weightless ∷ weightless ∷ weightless ∷ weightless ∷ weightless ∷ weightless ∷ weightless ∷ []

abbrev pub free_tape : List Cell
free_tape = record { place = 4; bit = Zero; sign = Plus; way = Jump } ∷ []
