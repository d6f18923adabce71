-- The windows of cells, from the first cell on: the window of the first 80, and those of the cells behind the first.
use Rattle.std.proofs.Common.{◌≡◌, ◌≤◌, ℕ, ◌+◌, ◌-◌, zero, suc, List, [], ◌∷◌, ◌++◌, length, take, drop, map, ap, ap₂}
use Rattle.std.proofs.Common.{◌∙◌, arith, refl}
use Rattle.std.specs.List.{range_with_len}
use Rattle.biphase.specs.declared.cell.Cell.{Cell}
use Rattle.direction_reader.specs.Windows.{CellWindow, window_at, windows}
use Rattle.direction_reader.specs.ListEvents.{duration}
use Rattle.direction_reader.specs.PlayedLemmas.{duration-append}

-- a cell and others
pub duration_of : (cell : Cell) (cells : List Cell) → duration (cell ∷ cells) ≡ duration (cell ∷ []) + duration cells
duration_of cell cells = duration-append (cell ∷ []) cells

-- functions that agree on a range one further
map_shift : (f g : ℕ → CellWindow) (a n : ℕ) → ((k : ℕ) → f (k + 1) ≡ g k)
    → map f (range_with_len (a + 1) n) ≡ map g (range_with_len a n)
map_shift f g a zero same = refl
map_shift f g a (suc n) same =
    let join : CellWindow → List CellWindow → List CellWindow = λ w ws. w ∷ ws in
    ap₂ join (same a) (map_shift f g (a + 1) n same)

-- a window behind the first cell
window_behind : (tick : ℕ) (cell : Cell) (cells : List Cell) (k : ℕ)
    → window_at tick (cell ∷ cells) (k + 1) ≡ window_at (tick + duration (cell ∷ [])) cells k
window_behind tick cell cells k =
    let one : k + 1 ≡ suc k = omega arith in
    let eighty : k + 1 + 80 ≡ suc (k + 80) = omega arith in
    let there : drop (k + 1) (cell ∷ cells) ≡ drop k cells = ap (λ n. drop n (cell ∷ cells)) one in
    let front : take (k + 1 + 80) (cell ∷ cells) ≡ cell ∷ take (k + 80) cells =
    ap (λ n. take n (cell ∷ cells)) eighty in
    let end : tick + duration (cell ∷ take (k + 80) cells)
    ≡ tick + duration (cell ∷ []) + duration (take (k + 80) cells) =
    omega (arith, duration_of cell (take (k + 80) cells)) in
    rw (there, front, end) refl

pub windows_cons : (tick : ℕ) (cell : Cell) (cells : List Cell) → 79 ≤ length cells
    → windows tick (cell ∷ cells) ≡ window_at tick (cell ∷ cells) 0 ∷ windows (tick + duration (cell ∷ [])) cells
windows_cons tick cell cells many =
    let count : length (cell ∷ cells) - 79 ≡ suc (length cells - 79) = omega arith in
    ap (λ n. map (window_at tick (cell ∷ cells)) (range_with_len 0 n)) count
    ∙ ap (λ (ws : List CellWindow). window_at tick (cell ∷ cells) 0 ∷ ws)
    (map_shift (window_at tick (cell ∷ cells)) (window_at (tick + duration (cell ∷ [])) cells) 0 (length cells - 79)
    (window_behind tick cell cells))

-- ---- how long fronts of cells last

-- a front of two lists of cells
pub front_most : (n : ℕ) (one two : List Cell) → duration (take n (one ++ two)) ≤ duration one + duration
    (take (n - length one) two)
front_most n [] two =
    let same : n - 0 ≡ n = omega arith in rw same (omega arith)
front_most zero (cell ∷ one) two = omega arith
front_most (suc n) (cell ∷ one) two =
    let fewer : suc n - length (cell ∷ one) ≡ n - length one = omega arith in
    rw fewer (omega (arith, duration_of cell (take n (one ++ two)), duration_of cell one, front_most n one two))

-- a front of as many cells or more lasts as long or longer
pub front_longer : (cells : List Cell) (a b : ℕ) → a ≤ b → duration (take a cells) ≤ duration (take b cells)
front_longer cells zero b fewer = omega arith
front_longer cells (suc a) zero fewer = absurd (omega arith)
front_longer [] (suc a) (suc b) fewer = omega arith
front_longer (cell ∷ cells) (suc a) (suc b) fewer =
    omega (
      arith,
      duration_of cell (take a cells),
      duration_of cell (take b cells),
      front_longer cells a b
          (omega arith),
    )

-- a front is no longer than the cells
pub front_within : (n : ℕ) (cells : List Cell) → duration (take n cells) ≤ duration cells
front_within zero cells = omega arith
front_within (suc n) [] = omega arith
front_within (suc n) (cell ∷ cells) = omega (
  arith,
  duration_of cell (take n cells),
  duration_of cell cells,
  front_within n cells,
)
