-- The hissy recording keeps the rough tolerance, which is tested cell by cell, and its first two cells break and_parts
-- others. It is a word.
use Rattle.std.proofs.Common.{◌≡◌, ℕ, ◌+◌, ◌*◌, ◌≤◌, Bool, true, false, not, ◌&&◌, leb, ltb, List, [], ◌∷◌, ◌++◌, take}
use Rattle.std.proofs.Common.{drop, min, max, refl, arith}
use Rattle.std.proofs.lemmas.Bool.{leb-true, le-leb, ltb-true, false≢true, and_parts}
use Rattle.biphase.specs.declared.cell.Cell.{Cell}
use Rattle.biphase.specs.declared.cell.Cell.TheVariants.{Zero, One}
use Rattle.biphase.specs.Latest.{Latest}
use Rattle.biphase.specs.declared.profile.Profile.TheVariants.{Normal, Worn, Rough}
use Rattle.biphase.specs.Tolerance.{length_of, IsNext}
use Rattle.biphase.specs.Chain.{bits, IsCell, Follow, FollowEachZero, IsChain, Inner, Meets, Kinds}
use Rattle.biphase.specs.Pair.{AreEqual, AreUnequal}
use Rattle.biphase.specs.Tolerance.{sum_of, kept_at_lock, kept_next}
use Rattle.ltc_word.specs.declared.word.LtcWord.{LtcWord}
use Rattle.tc_address.specs.declared.direction.Direction.TheVariants.{Forward}
use Rattle.direction_reader.specs.declared.event.Event.TheVariants.{Word}
use Rattle.direction_reader.specs.Hissy.{hissy_cells, taking_turns}
use Rattle.direction_reader.specs.ListEvents.{duration}
use Rattle.direction_reader.specs.Played.{low_bits, events_of_words}

-- ---- the tests

abbrev is_length : ℕ → ℕ → Bool
is_length sum length = leb (3 * sum) (16 * length) && leb (16 * length) (5 * sum)

abbrev is_half : ℕ → ℕ → Bool
is_half sum x = leb (3 * sum) (40 * x) && leb (40 * x) (7 * sum)

abbrev fits : ℕ → Cell → Bool
fits sum (Zero x) = leb 1 x && is_length sum x
fits sum (One a b) = leb 1 a && (leb 1 b && (is_half sum a && (is_half sum b && is_length sum (a + b))))

abbrev follows : Latest → List Cell → Bool
follows latest [] = true
follows latest (cell ∷ cells) = fits (sum_of latest) cell && follows (kept_next Rough latest (length_of cell)) cells

abbrev follows_each : List Cell → Bool
follows_each [] = true
follows_each (Zero x ∷ cells) = leb 1 x && (follows (kept_at_lock Rough x) cells && follows_each cells)
follows_each (One a b ∷ cells) = follows_each cells

abbrev are_equal : ℕ → ℕ → Bool
are_equal a b = leb (2 * max a b) (3 * min a b)

abbrev are_unequal : ℕ → ℕ → Bool
are_unequal a b = not (are_equal a b) && leb (1 * max a b) (3 * min a b)

abbrev inner : Cell → Bool
inner (Zero x) = true
inner (One a b) = are_equal a b

abbrev meet : Cell → Cell → Bool
meet (Zero x) (Zero y) = are_equal x y
meet (Zero x) (One a b) = are_unequal x a && ltb a x
meet (One a b) (Zero y) = are_unequal b y && ltb b y
meet (One a b) (One c d) = are_equal b c

abbrev kinds_fit : List Cell → Bool
kinds_fit [] = true
kinds_fit (cell ∷ []) = inner cell
kinds_fit (cell ∷ next ∷ cells) = inner cell && (meet cell next && kinds_fit (next ∷ cells))

-- ---- what they give

is_length_told : (sum length : ℕ) → is_length sum length ≡ true → (3 * sum ≤ 16 * length) × (16 * length ≤ 5 * sum)
is_length_told sum length holds = let parts = and_parts _ _ holds in (leb-true _ _ parts.0, leb-true _ _ parts.1)

is_half_told : (sum x : ℕ) → is_half sum x ≡ true → (3 * sum ≤ 40 * x) × (40 * x ≤ 7 * sum)
is_half_told sum x holds = let parts = and_parts _ _ holds in (leb-true _ _ parts.0, leb-true _ _ parts.1)

fits_told : (latest : Latest) (cell : Cell) → fits (sum_of latest) cell ≡ true
    → IsCell Rough cell × IsNext Rough latest cell
fits_told latest (Zero x) holds =
    let parts = and_parts _ _ holds in (leb-true 1 x parts.0, is_length_told (sum_of latest) x parts.1)
fits_told latest (One a b) holds =
    let first = and_parts _ _ holds in
    let second = and_parts _ _ first.1 in
    let third = and_parts _ _ second.1 in
    let fourth = and_parts _ _ third.1 in (
      (leb-true 1 a first.0, leb-true 1 b second.0, tt),
      (
        is_half_told (sum_of latest) a third.0,
        is_half_told (sum_of latest) b fourth.0,
        is_length_told (sum_of latest)
            (a + b) fourth.1,
      ),
    )

follows_told : (latest : Latest) (cells : List Cell) → follows latest cells ≡ true → Follow Rough latest cells
follows_told latest [] holds = tt
follows_told latest (cell ∷ cells) holds =
    let parts = and_parts _ _ holds in
    let is = fits_told latest cell parts.0 in
    (is.0, is.1, follows_told (kept_next Rough latest (length_of cell)) cells parts.1)

follows_each_told : (cells : List Cell) → follows_each cells ≡ true → FollowEachZero Rough cells
follows_each_told [] holds = tt
follows_each_told (Zero x ∷ cells) holds =
    let first = and_parts _ _ holds in
    let second = and_parts _ _ first.1 in
    (leb-true 1 x first.0, follows_told (kept_at_lock Rough x) cells second.0, follows_each_told cells second.1)
follows_each_told (One a b ∷ cells) holds = follows_each_told cells holds

equal_told : (a b : ℕ) → are_equal a b ≡ true → AreEqual Rough a b
equal_told a b holds = leb-true _ _ holds

not_told : (p : Bool) → not p ≡ true → p ≡ true → ⊥
not_told true holds is = false≢true holds
not_told false holds is = false≢true is

unequal_told : (a b : ℕ) → are_unequal a b ≡ true → AreUnequal Rough a b
unequal_told a b holds =
    let parts = and_parts _ _ holds in
    (λ equal. not_told (are_equal a b) parts.0 (le-leb (2 * max a b) (3 * min a b) equal), leb-true _ _ parts.1)

inner_told : (cell : Cell) → inner cell ≡ true → Inner Rough cell
inner_told (Zero x) holds = tt
inner_told (One a b) holds = equal_told a b holds

meet_told : (cell next : Cell) → meet cell next ≡ true → Meets Rough cell next
meet_told (Zero x) (Zero y) holds = equal_told x y holds
meet_told (Zero x) (One a b) holds = let parts = and_parts _ _ holds in (unequal_told x a parts.0, ltb-true a x parts.1)
meet_told (One a b) (Zero y) holds = let parts = and_parts _ _ holds in (unequal_told b y parts.0, ltb-true b y parts.1)
meet_told (One a b) (One c d) holds = equal_told b c holds

kinds_told : (cells : List Cell) → kinds_fit cells ≡ true → Kinds Rough cells
kinds_told [] holds = tt
kinds_told (cell ∷ []) holds = inner_told cell holds
kinds_told (cell ∷ next ∷ cells) holds =
    let first = and_parts _ _ holds in
    let second = and_parts _ _ first.1 in
    (inner_told cell first.0, meet_told cell next second.0, kinds_told (next ∷ cells) second.1)

-- ---- the recording

pub hissy_is_rough : IsChain Rough hissy_cells
unfolding taking_turns
hissy_is_rough = (follows_each_told hissy_cells refl, kinds_told hissy_cells refl)

pub hissy_is_not_normal : ¬ IsChain Normal hissy_cells
unfolding taking_turns
hissy_is_not_normal chain = let near = chain.1.1 in omega (arith, near)

pub hissy_is_not_worn : ¬ IsChain Worn hissy_cells
unfolding taking_turns
hissy_is_not_worn chain = let near = chain.1.1 in omega (arith, near)

-- its bits are those of a word that is played forward
pub hissy_bits : bits hissy_cells ≡ false ∷ true ∷ (low_bits 80 0xbffc0800000000000000 ++ [])
unfolding taking_turns low_bits
hissy_bits = refl

-- whose event this is
pub hissy_event : (word : LtcWord)
    → events_of_words (duration (take 2 hissy_cells)) (drop 2 hissy_cells)
    (record { direction = Forward; word = word } ∷ [])
    ≡ Word Forward word 8282 8080 ∷ []
unfolding taking_turns events_of_words
hissy_event word = refl
