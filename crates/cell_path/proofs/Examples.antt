-- A score by hand: four steps of the sound 5, 5, -3, -3, with the mean size 1, in cells of two steps. All paths have
-- two cells.
use Rattle.std.proofs.Common.{◌≡◌, ℕ, ℤ, pos, negsuc, List, [], ◌∷◌, map, true, false, refl}
use Rattle.cell_path.specs.declared.cell.Bit.{Bit}
use Rattle.cell_path.specs.declared.cell.Bit.TheVariants.{Zero, One}
use Rattle.cell_path.specs.declared.cell.Cell.{Cell}
use Rattle.cell_path.specs.declared.cell.Sign.{Sign}
use Rattle.cell_path.specs.declared.cell.Sign.TheVariants.{Plus, Minus}
use Rattle.cell_path.specs.declared.cell.Step.{Step}
use Rattle.cell_path.specs.declared.cell.Way.{Way}
use Rattle.cell_path.specs.declared.cell.Way.TheVariants.{Same, Jump}
use Rattle.cell_path.specs.declared.placed.Placed.{Placed}
use Rattle.cell_path.specs.Decided.{in_time, joined}
use Rattle.cell_path.specs.Path.{score, total}

abbrev step : ℤ → Step
step sound = record { sound = sound; level = 1 }

-- the latest first
abbrev steps : List Step
steps = step (negsuc 2) ∷ step (negsuc 2) ∷ step (pos 5) ∷ step (pos 5) ∷ []

-- the second cell and its way, behind the first
abbrev two : Bit → Sign → Way → Bit → Sign → List Cell
two bit sign way first first_sign =
    record { place = 0; bit = bit; sign = sign; way = way }
    ∷ record { place = 0; bit = first; sign = first_sign; way = Jump } ∷ []

-- all of them: a zero is worth 10 or -10 on the first two steps, 6 or -6 on the others, and a one nothing; a jump
-- costs 6
abbrev all_paths : List (List Cell)
all_paths =
    two Zero Plus Same Zero Minus
    ∷ two Zero Plus Same One Minus
    ∷ two Zero Plus Jump Zero Plus
    ∷ two Zero Plus Jump Zero Minus
    ∷ two Zero Plus Jump One Plus
    ∷ two Zero Plus Jump One Minus
    ∷ two Zero Minus Same Zero Plus
    ∷ two Zero Minus Same One Plus
    ∷ two Zero Minus Jump Zero Plus
    ∷ two Zero Minus Jump Zero Minus
    ∷ two Zero Minus Jump One Plus
    ∷ two Zero Minus Jump One Minus
    ∷ two One Plus Same Zero Plus
    ∷ two One Plus Same One Plus
    ∷ two One Plus Jump Zero Plus
    ∷ two One Plus Jump Zero Minus
    ∷ two One Plus Jump One Plus
    ∷ two One Plus Jump One Minus
    ∷ two One Minus Same Zero Minus
    ∷ two One Minus Same One Minus
    ∷ two One Minus Jump Zero Plus
    ∷ two One Minus Jump Zero Minus
    ∷ two One Minus Jump One Plus
    ∷ two One Minus Jump One Minus
    ∷ []

-- the best is a zero of plus and then a zero of minus, which changes its sign at the boundary: 10 + 6
scores_by_hand : map (score (2 ∷ []) steps) all_paths ≡
    negsuc 15 ∷ negsuc 5 ∷ negsuc 1 ∷ negsuc 21 ∷ negsuc 11 ∷ negsuc 11
    ∷ pos 16 ∷ pos 6 ∷ pos 10 ∷ negsuc 9 ∷ pos 0 ∷ pos 0
    ∷ pos 10 ∷ pos 0 ∷ pos 4 ∷ negsuc 15 ∷ negsuc 5 ∷ negsuc 5
    ∷ negsuc 9 ∷ pos 0 ∷ pos 4 ∷ negsuc 15 ∷ negsuc 5 ∷ negsuc 5 ∷ []
unfolding total
scores_by_hand = refl

-- ---- jumps by hand, in cells of 20 steps, which are in place 16: a quarter of them is 5 steps

abbrev zero_at : ℕ → Sign → Way → Placed
zero_at end sign way = record { end = end; cell = record { place = 16; bit = Zero; sign = sign; way = way } }

-- the first cell jumps; one that begins where it ended, or 5 steps earlier or later, does not, and 6 steps are too
-- many; nor may a zero have the sign of the zero before it, or come behind a jump of its path
jumps_by_hand : map (λ cell. cell.jumps)
    (in_time (zero_at 180 Minus Same ∷ zero_at 160 Plus Jump ∷ zero_at 140 Minus Same ∷ zero_at 120 Minus Same
    ∷ zero_at 106 Plus Same ∷ zero_at 80 Minus Same ∷ zero_at 65 Plus Same ∷ zero_at 40 Minus Same
    ∷ zero_at 20 Plus Jump ∷ []))
    ≡ true ∷ false ∷ false ∷ false ∷ true ∷ true ∷ true ∷ true ∷ false ∷ []
unfolding joined
jumps_by_hand = refl
