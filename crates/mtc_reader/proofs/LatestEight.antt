-- Eight numbers are a window. One more takes the place of the oldest.
use Rattle.std.proofs.Common.{◌≡◌, ◌≢◌, ◌≤◌, ℕ, ◌+◌, ◌-◌, Bool, true, false, List}
use Rattle.std.proofs.Common.{[], ◌∷◌, ◌++◌, length, map, drop, slice_index, None, refl, sym, ◌∙◌, ap}
use Rattle.std.proofs.Common.{arith, length-append, length-drop}
use Rattle.std.proofs.Math.Seq.{drop-append-add}
use Rattle.std.specs.Prelude.{reverse}
use Rattle.std.specs.List.{remove}
use Rattle.std.specs.Str.{bytes_eq}
use Rattle.std.proofs.lemmas.List.{drop-drop, drop-append-le, length-map, length-reverse}
use Rattle.std.proofs.lemmas.List.FromFn.{fill_by_all}
use Rattle.std.proofs.lemmas.Slice.Eq.{bytes_eq-Decides}
use Rattle.mtc_reader.specs.declared.eight.TheConstants.{NO_QUARTER}
use Rattle.mtc_reader.specs.Events.{latest_eight, piece_of, pieces, window_event}
use Rattle.mtc_reader.specs.StandsFor.{padded}

pub length-latest_eight : (row : List ℕ) → length (latest_eight row) ≡ length row - (length row - 8)
length-latest_eight row = length-drop (length row - 8) row

-- the row has a window
pub latest_eight-full : (row : List ℕ) (quarter : ℕ) → length (latest_eight row) ≡ 8 →
    remove (latest_eight row) 0 ++ quarter ∷ [] ≡ latest_eight (row ++ quarter ∷ [])
latest_eight-full row quarter full =
    let long : 8 ≤ length row = omega (arith, length-latest_eight row, full) in
    let longer : length (row ++ quarter ∷ []) ≡ length row + 1 = length-append row (quarter ∷ []) in
    let next : length (row ++ quarter ∷ []) - 8 ≡ length row - 8 + 1 = omega (arith, long, longer) in
    let within : length row - 8 + 1 ≤ length row = omega (arith, long) in
    ap (λ ys. ys ++ quarter ∷ []) (drop-drop 1 (length row - 8) row)
    ∙ sym (drop-append-le (length row - 8 + 1) row (quarter ∷ []) within)
    ∙ sym (ap (λ n. drop n (row ++ quarter ∷ [])) next)

-- eight numbers, one by one
pub eight : (xs : List ℕ) → length xs ≡ 8
    → xs ≡ slice_index xs 0 ∷ slice_index xs 1 ∷ slice_index xs 2 ∷ slice_index xs 3 ∷ slice_index xs 4
    ∷ slice_index xs 5 ∷ slice_index xs 6 ∷ slice_index xs 7 ∷ []
eight xs len = fill_by_all (slice_index xs) xs 8 0 len (λ k h. refl)

not_pieces : (xs : List ℕ) → length xs ≢ 8 → (b : Bool) → bytes_eq xs pieces ≡ b → b ≡ false
not_pieces xs other false is = refl
not_pieces xs other true is = absurd (other (ap length ((bytes_eq-Decides xs pieces).0 is)))

-- fewer than eight carry nothing
pub no_window : (xs : List ℕ) (place : ℕ) → length xs ≢ 8 → window_event xs place ≡ None
no_window xs place other =
    let forward : bytes_eq (map piece_of xs) pieces ≡ false =
    not_pieces (map piece_of xs) (λ e. other (sym (length-map xs piece_of) ∙ e)) _ refl in
    let turned : length (map piece_of (reverse xs)) ≡ length xs = length-map (reverse xs) piece_of
    ∙ length-reverse xs in
    let backward : bytes_eq (map piece_of (reverse xs)) pieces ≡ false =
    not_pieces (map piece_of (reverse xs)) (λ e. other (sym turned ∙ e)) _ refl in
    rw (forward, backward) refl

-- one more quarter frame moves the others to the front
pub shifted : (xs row : List ℕ) (quarter : ℕ) → 8 ≤ length row → xs ≡ latest_eight row
    → slice_index xs 1 ∷ slice_index xs 2 ∷ slice_index xs 3
    ∷ slice_index xs 4 ∷ slice_index xs 5 ∷ slice_index xs 6 ∷ slice_index xs 7 ∷ quarter ∷ []
    ≡ latest_eight (row ++ quarter ∷ [])
shifted xs row quarter long is =
    let full : length (latest_eight row) ≡ 8 = omega (arith, long, length-latest_eight row) in
    let with_one = λ (l : List ℕ). remove l 0 ++ quarter ∷ [] in
    ap with_one (sym (eight xs (ap length is ∙ full))) ∙ ap with_one is ∙ latest_eight-full row quarter full

-- ---- which windows carry nothing

pub eight_of : (xs : List ℕ) → map piece_of xs ≡ pieces → length xs ≡ 8
eight_of xs is = sym (length-map xs piece_of) ∙ ap length is

eight_turned : (xs : List ℕ) → map piece_of (reverse xs) ≡ pieces → length xs ≡ 8
eight_turned xs is = sym (length-reverse xs) ∙ eight_of (reverse xs) is

-- a place of a window forward has its own piece, and backward the piece at the place from the other end
pub forward_at : (xs : List ℕ) → map piece_of xs ≡ pieces
    → (piece_of (slice_index xs 0) ≡ 0) × (piece_of (slice_index xs 7) ≡ 7)
forward_at xs is =
    let same = ap (map piece_of) (sym (eight xs (eight_of xs is))) ∙ is in
    (ap (λ l. slice_index l 0) same, ap (λ l. slice_index l 7) same)

pub backward_at : (xs : List ℕ) → map piece_of (reverse xs) ≡ pieces
    → (piece_of (slice_index xs 0) ≡ 7) × (piece_of (slice_index xs 7) ≡ 0)
backward_at xs is =
    let same = ap (λ l. map piece_of (reverse l)) (sym (eight xs (eight_turned xs is))) ∙ is in
    (ap (λ l. slice_index l 7) same, ap (λ l. slice_index l 0) same)

is_false : (xs : List ℕ) → xs ≢ pieces → (b : Bool) → bytes_eq xs pieces ≡ b → b ≡ false
is_false xs other false is = refl
is_false xs other true is = absurd (other ((bytes_eq-Decides xs pieces).0 is))

pub neither : (xs : List ℕ) (place : ℕ) → map piece_of xs ≢ pieces → map piece_of (reverse xs) ≢ pieces
    → window_event xs place ≡ None
neither xs place not_forward not_backward =
    let forward : bytes_eq (map piece_of xs) pieces ≡ false = is_false (map piece_of xs) not_forward _ refl in
    let backward : bytes_eq (map piece_of (reverse xs)) pieces ≡ false =
    is_false (map piece_of (reverse xs)) not_backward _ refl in
    rw (forward, backward) refl

-- the latest quarter frame has another piece than the last of a window
pub another_piece : (xs : List ℕ) (place : ℕ) → piece_of (slice_index xs 7) ≢ 0 → piece_of (slice_index xs 7) ≢ 7
    → window_event xs place ≡ None
another_piece xs place not_zero not_seven =
    neither xs place (λ is. not_seven (forward_at xs is).1) (λ is. not_zero (backward_at xs is).1)

-- the first one did not come yet
no_first : (xs : List ℕ) (place : ℕ) → slice_index xs 0 ≡ NO_QUARTER → window_event xs place ≡ None
no_first xs place is =
    let none : piece_of (slice_index xs 0) ≡ 15 = ap piece_of is in
    neither xs place (λ all. absurd (omega (arith, none, (forward_at xs all).0)))
    (λ all. absurd (omega (arith, none, (backward_at xs all).0)))

-- with what stands for those that did not come there are eight
pub padded_full : (row : List ℕ) → length (latest_eight (padded row)) ≡ 8
padded_full row = omega (arith, length-latest_eight (padded row))

-- a row that is long enough hides what comes before it
latest_eight-padded : (row : List ℕ) → 8 ≤ length row → latest_eight (padded row) ≡ latest_eight row
latest_eight-padded row long =
    let hidden : length (padded row) - 8 ≡ 8 + (length row - 8) = omega (arith, long) in
    ap (λ n. drop n (padded row)) hidden ∙ drop-append-add (padded []) row (length row - 8)

-- what stands for quarter frames that did not come carries nothing
pub padded_event : (row : List ℕ) (place : ℕ) → window_event (latest_eight (padded row)) place
    ≡ window_event (latest_eight row) place
padded_event [] place = no_first (latest_eight (padded [])) place refl
padded_event (a ∷ []) place =
    let row = a ∷ [] in no_first (latest_eight (padded row)) place refl
    ∙ sym (no_window (latest_eight row) place (λ e. absurd cc))
padded_event (a ∷ b ∷ []) place =
    let row = a ∷ b ∷ [] in no_first (latest_eight (padded row)) place refl
    ∙ sym (no_window (latest_eight row) place (λ e. absurd cc))
padded_event (a ∷ b ∷ c ∷ []) place =
    let row = a ∷ b ∷ c ∷ [] in no_first (latest_eight (padded row)) place refl
    ∙ sym (no_window (latest_eight row) place (λ e. absurd cc))
padded_event (a ∷ b ∷ c ∷ d ∷ []) place =
    let row = a ∷ b ∷ c ∷ d ∷ [] in no_first (latest_eight (padded row)) place refl
    ∙ sym (no_window (latest_eight row) place (λ e. absurd cc))
padded_event (a ∷ b ∷ c ∷ d ∷ e ∷ []) place =
    let row = a ∷ b ∷ c ∷ d ∷ e ∷ [] in no_first (latest_eight (padded row)) place refl
    ∙ sym (no_window (latest_eight row) place (λ e. absurd cc))
padded_event (a ∷ b ∷ c ∷ d ∷ e ∷ f ∷ []) place =
    let row = a ∷ b ∷ c ∷ d ∷ e ∷ f ∷ [] in no_first (latest_eight (padded row)) place refl
    ∙ sym (no_window (latest_eight row) place (λ e. absurd cc))
padded_event (a ∷ b ∷ c ∷ d ∷ e ∷ f ∷ g ∷ []) place =
    let row = a ∷ b ∷ c ∷ d ∷ e ∷ f ∷ g ∷ [] in no_first (latest_eight (padded row)) place refl
    ∙ sym (no_window (latest_eight row) place (λ e. absurd cc))
padded_event (a ∷ b ∷ c ∷ d ∷ e ∷ f ∷ g ∷ h ∷ more) place =
    ap (λ l. window_event l place) (latest_eight-padded (a ∷ b ∷ c ∷ d ∷ e ∷ f ∷ g ∷ h ∷ more) (omega arith))

-- the oldest quarter frame has another piece than the first of a window
pub another_first : (xs : List ℕ) (place : ℕ) → piece_of (slice_index xs 0) ≢ 0 → piece_of (slice_index xs 0) ≢ 7
    → window_event xs place ≡ None
another_first xs place not_zero not_seven =
    neither xs place (λ is. not_zero (forward_at xs is).0) (λ is. not_seven (backward_at xs is).0)
