-- Stretches computed, of recordings that show one thing each, under the normal tolerance and, the last one, the rough
-- one.
use Rattle.std.proofs.Common.{◌≡◌, ℕ, zero, suc, ◌/◌, ◌%◌, ◌==◌, Bool, true, false, List, [], ◌∷◌, ◌++◌, map, length}
use Rattle.std.proofs.Common.{replicate, set, Some, None, refl}
use Rattle.biphase.specs.declared.profile.Profile.TheVariants.{Normal, Rough}
use Rattle.biphase.specs.declared.cell.Cell.{Cell}
use Rattle.biphase.specs.declared.cell.Cell.TheVariants.{Zero, One}
use Rattle.biphase.specs.Chain.{flat}
use Rattle.cell_tracker.specs.ChainPiece.{cells_from}
use Rattle.cell_tracker.specs.Stretch.{AreStretches, begun, with_break, with_cell}
use Rattle.cell_tracker.proofs.Computed.{run, stretches_of, computed_are}

-- equal intervals have none
equal_intervals : AreStretches Normal (replicate 400 24) []
unfolding stretches_of run
equal_intervals = computed_are Normal (replicate 400 24) [] refl

-- the lock is at the greater interval, here the second
rising_pair : AreStretches Normal (12 ∷ 24 ∷ []) (begun 1 24 ∷ [])
unfolding stretches_of run
rising_pair = computed_are Normal (12 ∷ 24 ∷ []) (begun 1 24 ∷ []) refl

-- and here the first; the list ends in a half, which waits
ends_in_a_half : AreStretches Normal (24 ∷ 12 ∷ []) (begun 0 24 ∷ [])
unfolding stretches_of run
ends_in_a_half = computed_are Normal (24 ∷ 12 ∷ []) (begun 0 24 ∷ []) refl

-- a zero that breaks at once: the pair is unequal, and the lesser is too long for a half
breaks_at_once : AreStretches Normal (200 ∷ 130 ∷ []) (with_break 1 (begun 0 200) ∷ [])
unfolding stretches_of run
breaks_at_once = computed_are Normal (200 ∷ 130 ∷ []) (with_break 1 (begun 0 200) ∷ []) refl

-- a break at an interval that is neither a zero nor a half
breaks_at_an_interval : AreStretches Normal (12 ∷ 24 ∷ 25 ∷ 30 ∷ [])
    (with_break 3 (with_cell (Zero 25) (begun 1 24)) ∷ [])
unfolding stretches_of run
breaks_at_an_interval =
    computed_are Normal (12 ∷ 24 ∷ 25 ∷ 30 ∷ []) (with_break 3 (with_cell (Zero 25) (begun 1 24)) ∷ []) refl

-- a break behind a waiting half, whose pair with the interval after it is not looked at again
breaks_behind_a_half : AreStretches Normal (24 ∷ 12 ∷ 24 ∷ []) (with_break 2 (begun 0 24) ∷ [])
unfolding stretches_of run
breaks_behind_a_half = computed_are Normal (24 ∷ 12 ∷ 24 ∷ []) (with_break 2 (begun 0 24) ∷ []) refl

-- the bits of a number, the least significant first
bits_of : ℕ → ℕ → List Bool
bits_of zero number = []
bits_of (suc n) number = (number % 2 == 1) ∷ bits_of n (number / 2)

-- cells of 24 ticks
cell_of : Bool → Cell
cell_of false = Zero 24
cell_of true = One 12 12

-- the words 01:00:00:00 to 01:00:00:03 at 25 frames, balanced, after the bits 0 and 1
four_words : List Bool
four_words =
    false ∷ true ∷ bits_of 80 0xbffc0001000000000000 ++ bits_of 80 0xbffc0801000000000001
    ++ bits_of 80 0xbffc0801000000000002
    ++ bits_of 80 0xbffc0001000000000003

recorded : List ℕ
recorded = flat (map cell_of four_words)

-- a recording of four words is one stretch
four_words_are_one : AreStretches Normal recorded (record { lock = 0; cells = map cell_of four_words; broken_at = None }
    ∷ [])
unfolding stretches_of run recorded four_words bits_of cell_of
four_words_are_one =
    computed_are Normal recorded (record { lock = 0; cells = map cell_of four_words; broken_at = None } ∷ []) refl

-- with one interval of 24 ticks made three times as long it breaks there, and goes on behind
one_long_interval : (length recorded ≡ 385) ×
    (map (λ stretch. stretch.broken_at) (stretches_of Normal (set recorded 108 72)) ≡ Some 108 ∷ None ∷ [])
unfolding stretches_of run recorded four_words bits_of cell_of
one_long_interval = (refl, refl)

-- a piece cut inside the second cell has the cells behind it
cut_inside_a_cell : cells_from (Zero 24 ∷ One 12 12 ∷ Zero 24 ∷ One 12 12 ∷ []) 2 (12 ∷ 24 ∷ 12 ∷ []) 0 ≡ Zero 24 ∷ []
cut_inside_a_cell = refl

-- two unequal pairs alone do not find a tape under the rough tolerance: behind 18 and four intervals of 36, a tape of
-- 24 ticks a cell with the bits 0 1 0, twice, is taken for ones of 36
two_pairs_are_too_few : AreStretches Rough (18 ∷ 36 ∷ 36 ∷ 36 ∷ 36 ∷ 24 ∷ 12 ∷ 12 ∷ 24 ∷ 24 ∷ 12 ∷ 12 ∷ 24 ∷ [])
    (record {
      lock = 1;
      cells = replicate 4 (Zero 36) ++ (One 24 12 ∷ One 12 24 ∷ One 24 12 ∷ One 12 24 ∷ []);
      broken_at = None;
    } ∷ [])
unfolding stretches_of run
two_pairs_are_too_few = computed_are Rough (18 ∷ 36 ∷ 36 ∷ 36 ∷ 36 ∷ 24 ∷ 12 ∷ 12 ∷ 24 ∷ 24 ∷ 12 ∷ 12 ∷ 24 ∷ []) _ refl
