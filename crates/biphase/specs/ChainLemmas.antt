-- Laws of chains, for the proofs of the crates above: each next cell is fixed by the intervals, so of two chains at the
-- front of one list one is a front of the other; and a cell has an interval. No promise rests on these proofs.
use Rattle.std.proofs.Common.{◌≡◌, ℕ, ◌+◌, ◌≤◌, List, [], ◌∷◌, ◌++◌, length, length-append}
use Rattle.std.proofs.Common.{◌⊎◌, inl, inr, refl, ap, sym}
use Rattle.std.proofs.Common.{◌∙◌, arith}
use Rattle.biphase.specs.declared.profile.Profile.{Profile}
use Rattle.biphase.specs.declared.cell.Cell.{Cell}
use Rattle.biphase.specs.declared.cell.Cell.TheVariants.{Zero, One}
use Rattle.biphase.specs.Latest.{Latest}
use Rattle.biphase.specs.Tolerance.{kept_next}
use Rattle.biphase.specs.Chain.{flat, intervals_of, Begins, Follow}
use Rattle.biphase.specs.ToleranceLemmas.{zero_is_no_half, first_half}

-- a cell in front of both lists
pub front_with : (cell : Cell) (one two : List Cell) → Begins one two ⊎ Begins two one
    → Begins (cell ∷ one) (cell ∷ two) ⊎ Begins (cell ∷ two) (cell ∷ one)
front_with cell one two (inl (rest, same)) = inl (rest, ap (λ cells. cell ∷ cells) same)
front_with cell one two (inr (rest, same)) = inr (rest, ap (λ cells. cell ∷ cells) same)

pub comparable_after : (profile : Profile) (c : Latest) (one two : List Cell) (rest other : List ℕ)
    → Follow profile c one → Follow profile c two → flat one ++ rest ≡ flat two ++ other
    → Begins one two ⊎ Begins two one
comparable_after profile c [] two rest other ones twos same = inl (two, refl)
comparable_after profile c (cell ∷ one) [] rest other ones twos same = inr (cell ∷ one, refl)
comparable_after profile c (Zero x ∷ one) (Zero y ∷ two) rest other ones twos same =
    let head : x ≡ y = cc in
    let tail : flat one ++ rest ≡ flat two ++ other = cc in
    let twos_too : Follow profile (kept_next profile c x) two = rw head twos.2 in
    let more = comparable_after profile (kept_next profile c x) one two rest other ones.2 twos_too tail in
    rw (← head) (front_with (Zero x) one two more)
comparable_after profile c (Zero x ∷ one) (One a b ∷ two) rest other ones twos same =
    let head : a ≡ x = cc in
    absurd (zero_is_no_half profile c x ones.0 ones.1 (rw (← head) (first_half profile c a b (twos.1, twos.0.2))))
comparable_after profile c (One a b ∷ one) (Zero x ∷ two) rest other ones twos same =
    let head : a ≡ x = cc in
    absurd (zero_is_no_half profile c x twos.0 twos.1 (rw (← head) (first_half profile c a b (ones.1, ones.0.2))))
comparable_after profile c (One a b ∷ one) (One x y ∷ two) rest other ones twos same =
    let first : a ≡ x = cc in
    let second : b ≡ y = cc in
    let tail : flat one ++ rest ≡ flat two ++ other = cc in
    let twos_too : Follow profile (kept_next profile c (a + b)) two = rw (first, second) twos.2 in
    rw (← first, ← second) (front_with (One a b) one two
    (comparable_after profile (kept_next profile c (a + b)) one two rest other ones.2 twos_too tail))

-- the same of the front of a list
pub comparable : (profile : Profile) (c : Latest) (one two : List Cell) (intervals : List ℕ)
    → Follow profile c one → Follow profile c two → Begins (flat one) intervals → Begins (flat two) intervals
    → Begins one two ⊎ Begins two one
comparable profile c one two intervals ones twos front front_too =
    comparable_after profile c one two front.0 front_too.0 ones twos (sym front.1 ∙ front_too.1)

-- ---- cells and their intervals

pub has_intervals : (cell : Cell) → 1 ≤ length (intervals_of cell)
has_intervals (Zero x) = omega arith
has_intervals (One a b) = omega arith

-- so there are no more cells than intervals
pub fewer_cells : (cells : List Cell) → length cells ≤ length (flat cells)
fewer_cells [] = omega arith
fewer_cells (cell ∷ cells) =
    let one = has_intervals cell in
    let rest = fewer_cells cells in
    let parts = length-append (intervals_of cell) (flat cells) in
    omega (arith, parts)
