-- A cell is measured in the sound of its own steps, whatever steps come behind it.
use Rattle.std.proofs.Common.{◌≡◌, ℕ, suc, ◌+◌, ◌-◌, ◌/◌, ◌≤◌, ℤ, List, [], ◌∷◌, ◌++◌, length}
use Rattle.std.proofs.Common.{take}
use Rattle.std.proofs.Common.{drop, replicate, refl, ap, ap₂, ◌∙◌, arith}
use Rattle.std.proofs.lemmas.List.{length-append}
use Rattle.cell_path.specs.declared.placed.Decided.{Decided}
use Rattle.cell_path.specs.declared.placed.Placed.{Placed}
use Rattle.cell_path.specs.Decided.{end_behind, jumps, latest_of}
use Rattle.cell_path.specs.Decisions.{last_end}
use Rattle.cell_path.specs.declared.lengths.TheConstants.{LENGTHS}
use Rattle.cell_path.specs.Lengths.{length_in}
use Rattle.cell_path.specs.Path.{signed}
use Rattle.path_front.specs.declared.group.Sounds.{Sounds}
use Rattle.std.specs.Option.{option_to_list}
use Rattle.step_grid.specs.declared.grid.Grid.{Grid}
use Rattle.step_grid.specs.declared.grid.Grid.TheVariants.{Repeat, Sum}
use Rattle.path_front.specs.Clip.{clip_at, clipped, clipped_to}
use Rattle.path_front.specs.Grid.{due, on_grid}
use Rattle.path_front.specs.Hold.{held_at, loudness_of}
use Rattle.path_front.specs.Steps.{sounds_of, with_held}
use Rattle.path_front.specs.Cells.{cell_behind, measured_cells, plain, EndWithin}
use Rattle.path_front.specs.Latest.{part, squares_of, sum_of}
use Rattle.path_front.specs.Measured.{first_sign, measured_at, measured_of}

-- steps that come behind are passed over
drop_front : (front xs : List ℤ) (k : ℕ) → drop (length front + k) (front ++ xs) ≡ drop k xs
drop_front [] xs k = ap (λ n. drop n xs) (omega arith)
drop_front (x ∷ front) xs k =
    let next : length (x ∷ front) + k ≡ suc (length front + k) = omega arith in
    ap (λ n. drop n (x ∷ (front ++ xs))) next ∙ drop_front front xs k

part_front : (front xs : List ℤ) (ago k n : ℕ) → part (length front + ago + k) n (front ++ xs) ≡ part (ago + k) n xs
part_front front xs ago k n =
    let same : length front + ago + k ≡ length front + (ago + k) = omega arith in
    ap (take n) (ap (λ m. drop m (front ++ xs)) same ∙ drop_front front xs (ago + k))

part_here : (front xs : List ℤ) (ago n : ℕ) → part (length front + ago) n (front ++ xs) ≡ part ago n xs
part_here front xs ago n = ap (take n) (drop_front front xs ago)

measured_front : (decided : Decided) (span ago n : ℕ) (front xs : List ℤ)
    → measured_at decided span (length front + ago) n (front ++ xs) ≡ measured_at decided span ago n xs
measured_front decided span ago n front xs =
    let cell = decided.placed.cell in
    let first = first_sign cell.bit cell.sign in
    let a = part_front front xs ago (n - n / 2) (n / 2) in
    let b = part_front front xs ago (n / 2) (n - n / 2) in
    let c = part_here front xs ago (n / 2) in
    let d = part_here front xs ago (n - n / 2) in
    ap₂ (λ p q. record {
      span = span;
      length = n;
      bit = cell.bit;
      jumps = decided.jumps;
      first = record { sum = signed first (sum_of p); squares = squares_of p };
      second = record { sum = signed cell.sign (sum_of q); squares = squares_of q };
    }) (ap₂ (λ x y. x ++ y) a b) (ap₂ (λ x y. x ++ y) c d)

measured_more : (decided : Decided) (ended : ℕ) (front xs : List ℤ) → decided.placed.end ≤ length xs
    → measured_of decided ended (front ++ xs) ≡ measured_of decided ended xs
measured_more decided ended front xs within =
    let e = decided.placed.end in
    let n = length_in LENGTHS decided.placed.cell.place in
    let many = length-append front xs in
    let ago : length (front ++ xs) - e ≡ length front + (length xs - e) = omega (arith, many) in
    ap (λ a. measured_at decided (e - ended) a n (front ++ xs)) ago
    ∙ measured_front decided (e - ended) (length xs - e) n front xs

plain_more : (front sounds : List Sounds) → plain (front ++ sounds) ≡ plain front ++ plain sounds
plain_more [] sounds = refl
plain_more (s ∷ front) sounds = ap (λ l. s.clipped ∷ l) (plain_more front sounds)

pub plain_length : (sounds : List Sounds) → length (plain sounds) ≡ length sounds
plain_length [] = refl
plain_length (s ∷ sounds) = ap suc (plain_length sounds)

-- a cell that ended in the sound so far
pub cell_more : (front sounds : List Sounds) (placed : Placed) (before : List Placed) → placed.end ≤ length sounds
    → cell_behind (front ++ sounds) placed before ≡ cell_behind sounds placed before
cell_more front sounds placed before within =
    let decided : Decided = record { placed = placed; jumps = jumps (latest_of before) placed } in
    let many = plain_length sounds in
    ap (measured_of decided (end_behind 0 before)) (plain_more front sounds)
    ∙ measured_more decided (end_behind 0 before) (plain front) (plain sounds) (omega (arith, many, within))

pub cells_more : (front sounds : List Sounds) (given : List Placed) → EndWithin (length sounds) given
    → measured_cells (front ++ sounds) given ≡ measured_cells sounds given
unfolding measured_cells
cells_more front sounds [] within = refl
cells_more front sounds (placed ∷ before) within =
    ap₂ (λ c l. c ∷ l) (cell_more front sounds placed before within.0) (cells_more front sounds before within.1)

pub within_more : (count more : ℕ) (given : List Placed) → count ≤ more → EndWithin count given → EndWithin more given
within_more count more [] order within = tt
within_more count more (placed ∷ before) order within =
    (omega (arith, within.0), within_more count more before order within.1)

-- where the cell ended that was given last
pub last_is : (given : List Placed) → last_end (latest_of given) ≡ end_behind 0 given
last_is [] = refl
last_is (placed ∷ before) = refl

-- the next sample brings steps behind those before it
pub sounds_more : (grid : Grid) (least : ℕ) (sample : ℤ) (samples : List ℤ)
    → (extra : List Sounds) × (sounds_of grid least (sample ∷ samples) ≡ extra ++ sounds_of grid least samples)
unfolding clipped with_held on_grid
sounds_more (Repeat repeats) least sample samples =
    let now = clipped_to (clip_at (loudness_of (clipped samples)).peak (sample ∷ samples)) sample in
    (replicate repeats (record { clipped = now; held = held_at least (now ∷ clipped samples) }), refl)
sounds_more (Sum summed) least sample samples =
    let now = clipped_to (clip_at (loudness_of (clipped samples)).peak (sample ∷ samples)) sample in (
      option_to_list (due summed (record { clipped = now; held = held_at least (now ∷ clipped samples) }
          ∷ with_held least (clipped samples))),
      refl,
    )

-- and changes no cell that was given
pub cells_stay : (all now sounds front extra : List Sounds) (given : List Placed) → front ++ sounds ≡ all
    → now ≡ extra ++ all → EndWithin (length sounds) given → measured_cells now given ≡ measured_cells all given
cells_stay all now sounds front extra given all_is now_is within =
    let many = length-append front sounds in
    let same = ap length all_is in
    ap (λ s. measured_cells s given) now_is
    ∙ cells_more extra all given (within_more (length sounds) (length all) given (omega (arith, many, same)) within)
