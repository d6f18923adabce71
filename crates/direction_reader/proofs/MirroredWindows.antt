-- The windows of cells in the other order of time are the windows in the other order, each with its bits in the other
-- order.
use Rattle.std.proofs.Common.{◌≡◌, ◌≤◌, ℕ, ◌+◌, ◌-◌, ◌*◌, ◌/◌, ◌%◌, List, [], ◌∷◌, ◌++◌, length, take, drop, map}
use Rattle.std.proofs.Common.{reverse, sum, Bool, true, false}
use Rattle.std.proofs.Common.{ap, arith, append_assoc, append-nil, length-drop, inl, inr, refl, sym, ◌∙◌}
use Rattle.std.specs.Int.{reverse_bits_onto}
use Rattle.std.proofs.lemmas.Bool.{cases_lt}
use Rattle.std.proofs.lemmas.Grind.{reverse_onto}
use Rattle.std.proofs.lemmas.List.{map-append, length-map, length-reverse, reverse-append, take-append-drop}
use Rattle.std.proofs.lemmas.List.{length-take}
use Rattle.std.proofs.lemmas.List.Sums.{sum_by-append, sum_by-cons}
use Rattle.biphase.specs.declared.cell.Cell.{Cell}
use Rattle.biphase.specs.declared.cell.Cell.TheVariants.{Zero, One}
use Rattle.biphase.specs.Chain.{bit_of, bits, flat}
use Rattle.biphase.specs.Mirror.{mirror_of, mirrored}
use Rattle.biphase.specs.MirrorLemmas.{mirrored_cons, flat_mirrored}
use Rattle.ltc_word.specs.Reversal.{reversed_bits}
use Rattle.direction_reader.specs.Windows.{CellWindow, number_of, window_at, windows}
use Rattle.direction_reader.specs.ListEvents.{duration}
use Rattle.direction_reader.specs.Window.{bit_value}
use Rattle.direction_reader.proofs.WindowsFromCells.{duration_of, windows_cons, front_within}
use Rattle.direction_reader.proofs.WindowsGrow.{few, last_window, one_more}

-- a window in the other order of time, in intervals of this sum: its bits in the other order, and the tick at its
-- other end
abbrev pub mirror_window : ℕ → CellWindow → CellWindow
mirror_window total window = record {
  bits = reversed_bits window.bits;
  end = total - window.end + window.length;
  length = window.length;
}

-- ---- sums and numbers in the other order

pub sum_reverse : (xs : List ℕ) → sum (reverse xs) ≡ sum xs
sum_reverse [] = refl
sum_reverse (x ∷ xs) =
    let joined : sum (reverse (x ∷ xs)) ≡ sum (reverse xs) + sum (x ∷ []) =
    ap sum (reverse_onto xs x []) ∙ sum_by-append (λ n. n) (reverse xs) (x ∷ []) in
    omega (arith, joined, sum_reverse xs, sum_by-cons (λ n. n) x xs, sum_by-cons (λ n. n) x [])

pub duration_mirrored : (cells : List Cell) → duration (mirrored cells) ≡ duration cells
duration_mirrored cells = ap sum (flat_mirrored cells) ∙ sum_reverse (flat cells)

length_mirrored : (cells : List Cell) → length (mirrored cells) ≡ length cells
length_mirrored cells = length-reverse (map mirror_of cells) ∙ length-map cells mirror_of

mirrored_append : (one two : List Cell) → mirrored (one ++ two) ≡ mirrored two ++ mirrored one
mirrored_append one two =
    ap (λ (cs : List Cell). reverse cs) (map-append mirror_of one two)
    ∙ reverse-append (map mirror_of one) (map mirror_of two)

same_bit : (cell : Cell) → bit_of (mirror_of cell) ≡ bit_of cell
same_bit (Zero x) = refl
same_bit (One a b) = refl

bits_mirrored : (cells : List Cell) → bits (mirrored cells) ≡ reverse (bits cells)
bits_mirrored [] = refl
bits_mirrored (cell ∷ cells) =
    ap bits (mirrored_cons cell cells) ∙ map-append bit_of (mirrored cells) (mirror_of cell ∷ [])
    ∙ ap (λ (bs : List Bool). bs ++ bit_of (mirror_of cell) ∷ []) (bits_mirrored cells)
    ∙ ap (λ b. reverse (bits cells) ++ b ∷ []) (same_bit cell)
    ∙ sym (reverse_onto (bits cells) (bit_of cell) [])

-- the lowest bit of a number, and the others
lowest : (b : Bool) (n : ℕ) → (bit_value b + 2 * n) % 2 ≡ bit_value b
lowest true n = omega arith
lowest false n = omega arith

others : (b : Bool) (n : ℕ) → (bit_value b + 2 * n) / 2 ≡ n
others true n = omega arith
others false n = omega arith

-- bits as a number, the last first
number_onto : (bs more : List Bool) → reverse_bits_onto (length bs) (number_of bs) (number_of more)
    ≡ number_of (reverse bs ++ more)
unfolding reverse_bits_onto
number_onto [] more = refl
number_onto (b ∷ bs) more =
    let n = number_of bs in
    let place : number_of more * 2 + bit_value b ≡ number_of (b ∷ more) = omega arith in
    let first : reverse_bits_onto (length bs) ((bit_value b + 2 * n) / 2)
    (number_of more * 2 + (bit_value b + 2 * n) % 2)
    ≡ reverse_bits_onto (length bs) n (number_of (b ∷ more)) =
    ap (λ m. reverse_bits_onto (length bs) m (number_of more * 2 + (bit_value b + 2 * n) % 2)) (others b n)
    ∙ ap (λ m. reverse_bits_onto (length bs) n (number_of more * 2 + m)) (lowest b n)
    ∙ ap (λ m. reverse_bits_onto (length bs) n m) place in
    first ∙ number_onto bs (b ∷ more)
    ∙ ap number_of (sym (append_assoc (reverse bs) (b ∷ []) more)
    ∙ ap (λ (xs : List Bool). xs ++ more) (sym (reverse_onto bs b [])))

number_reversed : (bs : List Bool) → length bs ≡ 80 → number_of (reverse bs) ≡ reversed_bits (number_of bs)
number_reversed bs eighty =
    ap number_of (sym (append-nil (reverse bs))) ∙ sym (number_onto bs [])
    ∙ ap (λ k. reverse_bits_onto k (number_of bs) 0) eighty

-- ---- windows

-- the first window is the last one in the other order
first_is_last : (total tick other : ℕ) (cells : List Cell) → 80 ≤ length cells → tick + duration cells + other ≡ total
    → window_at other (mirrored cells) (length cells - 80) ≡ mirror_window total (window_at tick cells 0)
first_is_last total tick other cells many is =
    let front = take 80 cells in
    let behind = drop 80 cells in
    let joined : mirrored cells ≡ mirrored behind ++ mirrored front =
    ap mirrored (sym (take-append-drop 80 cells)) ∙ mirrored_append front behind in
    let eighty : length front ≡ 80 = omega (arith, length-take 80 cells) in
    let latest : length (mirrored front) ≡ 80 = length_mirrored front ∙ eighty in
    let place : length cells - 80 ≡ length (mirrored behind) =
    omega (arith, length_mirrored behind, length-drop 80 cells) in
    let bits_are : number_of (bits (mirrored front)) ≡ reversed_bits (number_of (bits front)) =
    ap number_of (bits_mirrored front) ∙ number_reversed (bits front) (length-map front bit_of ∙ eighty) in
    let whole : duration (mirrored behind ++ mirrored front) ≡ duration cells = ap duration (sym joined)
    ∙ duration_mirrored cells in
    let end_is : other + duration (mirrored behind ++ mirrored front)
    ≡ total - (tick + duration front) + duration front =
    omega (arith, whole, is, front_within 80 cells) in
    let window : ℕ → ℕ → ℕ → CellWindow = λ b e n. record { bits = b; end = e; length = n } in
    ap (λ (cs : List Cell). window_at other cs (length cells - 80)) joined
    ∙ ap (λ k. window_at other (mirrored behind ++ mirrored front) k) place
    ∙ last_window other (mirrored behind) (mirrored front) latest
    ∙ ap (λ b. window b (other + duration (mirrored behind ++ mirrored front)) (duration (mirrored front))) bits_are
    ∙ ap (λ e. window (reversed_bits (number_of (bits front))) e (duration (mirrored front))) end_is
    ∙ ap (λ n. window (reversed_bits (number_of (bits front))) (total - (tick + duration front) + duration front) n)
    (duration_mirrored front)

pub mirrored_windows : (total tick other : ℕ) (cells : List Cell) → tick + duration cells + other ≡ total
    → windows other (mirrored cells) ≡ reverse (map (mirror_window total) (windows tick cells))
mirrored_windows total tick other [] is = refl
mirrored_windows total tick other (cell ∷ cells) is =
    let mine = windows tick (cell ∷ cells) in
    let turn : List CellWindow → List CellWindow = λ ws. reverse (map (mirror_window total) ws) in
    elim (cases_lt (length cells) 79) [
      | inl fewer ↦ few other (mirrored (cell ∷ cells)) (omega (arith, length_mirrored (cell ∷ cells)))
          ∙ ap turn (sym (few tick (cell ∷ cells) (omega arith)))
      | inr many ↦ (
          let begin = tick + duration (cell ∷ []) in
          let long = length_mirrored cells in
          let place : length (mirrored cells) - 79 ≡ length (cell ∷ cells) - 80 = omega arith in
          let first = window_at tick (cell ∷ cells) 0 in
          let rest = mirrored_windows total begin other cells (omega (arith, is, duration_of cell cells)) in
          ap (λ (cs : List Cell). windows other cs) (mirrored_cons cell cells)
          ∙ one_more other (mirrored cells) (mirror_of cell) (omega (arith, long, many))
          ∙ ap (λ (ws : List CellWindow). ws ++ window_at other (mirrored cells ++ mirror_of cell ∷ [])
          (length (mirrored cells) - 79) ∷ []) rest
          ∙ ap (λ (cs : List Cell). turn (windows begin cells)
          ++ window_at other cs (length (mirrored cells) - 79) ∷ []) (sym (mirrored_cons cell cells))
          ∙ ap (λ k. turn (windows begin cells) ++ window_at other (mirrored (cell ∷ cells)) k ∷ []) place
          ∙ ap (λ (w : CellWindow). turn (windows begin cells) ++ w ∷ [])
          (first_is_last total tick other (cell ∷ cells) (omega arith) is)
          ∙ sym (reverse_onto (map (mirror_window total) (windows begin cells)) (mirror_window total first) [])
          ∙ ap turn (sym (windows_cons tick cell cells many)))
    ]
