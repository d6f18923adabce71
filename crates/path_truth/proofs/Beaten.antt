-- A tape is not the best path if another path has a greater score, or the same and comes first.
use Rattle.std.proofs.Common.{inl, inr, List, [], ◌∷◌, rules, arith}
use Rattle.std.proofs.lemmas.Int.{ints}
use Rattle.cell_path.specs.declared.cell.Bit.TheVariants.{Zero}
use Rattle.cell_path.specs.declared.cell.Cell.{Cell}
use Rattle.cell_path.specs.declared.cell.Sign.TheVariants.{Plus, Minus}
use Rattle.cell_path.specs.declared.cell.Way.TheVariants.{Same, Jump}
use Rattle.cell_path.specs.declared.lengths.TheConstants.{LENGTHS}
use Rattle.cell_path.specs.Best.{IsBestOfAll, Wins}
use Rattle.cell_path.specs.Path.{score, total, IsPath}
use Rattle.path_truth.specs.Lost.{free, free_tape, odd, odd_tape, silent, silent_tape}

-- two zeros, the later of them on the side of the loud step
abbrev louder : List Cell
louder =
    record { place = 1; bit = Zero; sign = Minus; way = Same }
    ∷ record { place = 1; bit = Zero; sign = Plus; way = Jump } ∷ []

louder_path : IsPath LENGTHS odd louder
louder_path = search rules

louder_wins : Wins (score LENGTHS odd odd_tape) odd_tape (score LENGTHS odd louder) louder → ⊥
unfolding total
louder_wins (inl less) = omega (arith, ints)
louder_wins (inr same) = omega (arith, ints, same.0)

pub odd_lost : IsBestOfAll LENGTHS odd odd_tape → ⊥
odd_lost best = louder_wins (best.wins louder louder_path)

-- of two silent paths that of plus comes first
abbrev other_side : List Cell
other_side = record { place = 0; bit = Zero; sign = Plus; way = Jump } ∷ []

other_path : IsPath LENGTHS silent other_side
other_path = search rules

other_first : Wins (score LENGTHS silent silent_tape) silent_tape (score LENGTHS silent other_side) other_side → ⊥
unfolding total
other_first (inl less) = omega (arith, ints)
other_first (inr (same, inl first)) = omega arith
other_first (inr (same, inr like)) = omega (arith, like.0)

pub silent_lost : IsBestOfAll LENGTHS silent silent_tape → ⊥
silent_lost best = other_first (best.wins other_side other_path)

-- a jump that costs nothing leads to shorter cells, which come first
abbrev jumping : List Cell
jumping =
    record { place = 0; bit = Zero; sign = Plus; way = Jump }
    ∷ record { place = 0; bit = Zero; sign = Plus; way = Jump } ∷ []

jumping_path : IsPath LENGTHS free jumping
jumping_path = search rules

jumping_first : Wins (score LENGTHS free free_tape) free_tape (score LENGTHS free jumping) jumping → ⊥
unfolding total
jumping_first (inl less) = omega (arith, ints)
jumping_first (inr (same, inl first)) = omega arith
jumping_first (inr (same, inr like)) = omega (arith, like.0)

pub free_lost : IsBestOfAll LENGTHS free free_tape → ⊥
free_lost best = jumping_first (best.wins jumping jumping_path)
