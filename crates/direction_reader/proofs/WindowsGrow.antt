-- One cell more ends one window more, if there are 80 cells, and leaves the windows before it as they were.
use Rattle.std.proofs.Common.{◌≡◌, ◌<◌, ◌≤◌, ℕ, ◌+◌, ◌-◌, List, [], ◌∷◌, ◌++◌, length, take, drop, map, ap, ap₂}
use Rattle.std.proofs.Common.{◌∙◌, arith, refl}
use Rattle.std.proofs.Common.{length-append, zero, suc}
use Rattle.std.specs.List.{range_with_len}
use Rattle.std.proofs.lemmas.List.{take-append-le, drop-append-le, length-drop, take_all}
use Rattle.std.proofs.Math.Seq.{drop-append_seam}
use Rattle.std.proofs.lemmas.List.FromFn.{map-range_with_len_more}
use Rattle.biphase.specs.declared.cell.Cell.{Cell}
use Rattle.biphase.specs.Chain.{bits}
use Rattle.direction_reader.specs.Windows.{CellWindow, number_of, window_at, windows}
use Rattle.direction_reader.specs.ListEvents.{duration}

-- functions that agree on a range
map_range : (f g : ℕ → CellWindow) (a n : ℕ) → ((i : ℕ) → i < a + n → f i ≡ g i)
    → map f (range_with_len a n) ≡ map g (range_with_len a n)
map_range f g a zero same = refl
map_range f g a (suc n) same =
    let join : CellWindow → List CellWindow → List CellWindow = λ w ws. w ∷ ws in
    ap₂ join (same a (omega arith)) (map_range f g (a + 1) n (λ i p. same i (omega arith)))

-- a window that was there
window_stays : (tick : ℕ) (cells more : List Cell) (k : ℕ) → k + 80 ≤ length cells
    → window_at tick (cells ++ more) k ≡ window_at tick cells k
window_stays tick cells more k within =
    let later : drop k (cells ++ more) ≡ drop k cells ++ more = drop-append-le k cells more (omega arith) in
    let eighty : 80 ≤ length (drop k cells) = omega (arith, length-drop k cells) in
    let same : take 80 (drop k (cells ++ more)) ≡ take 80 (drop k cells) = ap (λ l. take 80 l) later
    ∙ take-append-le 80 (drop k cells) more eighty in
    let front : take (k + 80) (cells ++ more) ≡ take (k + 80) cells = take-append-le (k + 80) cells more within in
    rw (same, front) refl

-- the windows that were there
pub windows_stay : (tick : ℕ) (cells more : List Cell) →
    map (window_at tick (cells ++ more)) (range_with_len 0 (length cells - 79)) ≡ windows tick cells
windows_stay tick cells more =
    map_range (window_at tick (cells ++ more)) (window_at tick cells) 0 (length cells - 79)
    (λ k p. window_stays tick cells more k (omega arith))

-- fewer than 80 cells have no window
pub few : (tick : ℕ) (cells : List Cell) → length cells < 80 → windows tick cells ≡ []
few tick cells less = let none : length cells - 79 ≡ 0 = omega arith in rw none refl

-- the window of the last 80 cells, if some come before them
pub last_window : (tick : ℕ) (older latest : List Cell) → length latest ≡ 80
    → window_at tick (older ++ latest) (length older)
    ≡ record { bits = number_of (bits latest); end = tick + duration (older ++ latest); length = duration latest }
last_window tick older latest eighty =
    let there : take 80 (drop (length older) (older ++ latest)) ≡ latest =
    ap (λ l. take 80 l) (drop-append_seam older latest) ∙ take_all 80 latest (omega arith) in
    let all : take (length older + 80) (older ++ latest) ≡ older ++ latest =
    take_all (length older + 80) (older ++ latest) (omega (arith, length-append older latest)) in
    rw (there, all) refl

-- one cell more
pub one_more : (tick : ℕ) (cells : List Cell) (cell : Cell) → 79 ≤ length cells →
    windows tick (cells ++ cell ∷ []) ≡ windows tick cells
    ++ window_at tick (cells ++ cell ∷ []) (length cells - 79) ∷ []
one_more tick cells cell many =
    let count : length (cells ++ cell ∷ []) - 79 ≡ (length cells - 79) + 1 =
    omega (arith, length-append cells (cell ∷ [])) in
    let grown = map-range_with_len_more (window_at tick (cells ++ cell ∷ [])) 0 (length cells - 79) (length cells - 79)
    (omega arith) in
    rw (count, grown, windows_stay tick cells (cell ∷ [])) refl
