-- The intervals of the cells of a steady tape are those of its bits, with a tick cut off the front.
use Rattle.std.proofs.Common.{◌≡◌, ℕ, ◌+◌, ◌-◌, ◌*◌, ◌/◌, ◌%◌, ◌<◌, ◌≤◌, min, Bool, true, false, ltb, ◌||◌}
use Rattle.std.proofs.Common.{List, [], ◌∷◌, ◌++◌, length, drop, refl, ap, ap₂, sym, subst, ◌∙◌, arith}
use Rattle.std.proofs.Common.{append-nil}
use Rattle.std.specs.List.{flat_map}
use Rattle.std.specs.Int.{div_ceil}
use Rattle.std.proofs.lemmas.Bool.{le-ltb}
use Rattle.std.proofs.lemmas.Grind.{flat_map-append}
use Rattle.std.proofs.lemmas.List.{length-append}
use Rattle.cell_path.specs.declared.cell.Bit.{Bit}
use Rattle.cell_path.specs.declared.cell.Bit.TheVariants.{Zero, One}
use Rattle.cell_path.specs.declared.cell.Cell.{Cell}
use Rattle.cell_path.specs.declared.cell.Sign.{Sign}
use Rattle.cell_path.specs.declared.cell.Step.{Step}
use Rattle.cell_path.specs.declared.lengths.TheConstants.{LENGTHS}
use Rattle.cell_path.specs.Decided.{placed}
use Rattle.cell_path.specs.Lengths.{length_in}
use Rattle.path_front.specs.declared.gate.Ear.{Ear}
use Rattle.path_front.specs.declared.gate.Judged.{Judged}
use Rattle.path_front.specs.declared.group.Sounds.{Sounds}
use Rattle.path_front.specs.declared.measured.Measured.{Measured}
use Rattle.path_front.specs.Cells.{cell_behind, measured_cells, plain}
use Rattle.path_front.specs.Front.{intervals_before, judgements}
use Rattle.path_front.specs.Gate.{breaks, refuses}
use Rattle.path_front.specs.Tiles.{cut, intervals, tiles_of}
use Rattle.path_truth.specs.Intervals.{intervals_of_bit, intervals_of_tape}
use Rattle.path_truth.specs.Sides.{KeepsSides}
use Rattle.path_truth.specs.Sound.{alone}
use Rattle.path_truth.proofs.FairCells.{AreFair}
use Rattle.path_truth.proofs.MeasuredTape.{at, cell-fair, cells-fair, ends-at, next-tape, only-first-jumps, tape-long}
use Rattle.path_truth.proofs.MeasuredTape.{IsTapeIn}
use Rattle.path_truth.proofs.FairFit.{times}
use Rattle.path_truth.proofs.NoBreak.{neither, refuses-none}
use Rattle.path_truth.proofs.Rising.{length_least}

-- ---- the intervals of one cell

or-false : (a b : Bool) → b ≡ false → (a || b) ≡ a
or-false true b is = refl
or-false false b is = is

two_ticks : (h ticks : ℕ) → 2 ≤ h → 1 ≤ ticks → 2 ≤ h * ticks
two_ticks h ticks some long = let least = times 2 h 1 ticks some long in omega (arith, least)

-- the halves of a one of an even length
record AreHalves (whole half : ℕ) : Type 0 where
  pub second : min half (whole - 2) ≡ whole / 2
  pub first : whole - min half (whole - 2) ≡ whole / 2
  pub room : half + 2 ≤ whole

halves : (n ticks : ℕ) → n % 2 ≡ 0 → 4 ≤ n → 1 ≤ ticks → AreHalves (n * ticks) (div_ceil (n * ticks) 2)
halves n ticks even some long =
    let h = n / 2 in
    let twice : n ≡ h + h = omega arith in
    let whole : n * ticks ≡ h * ticks + h * ticks =
    subst (λ k. k * ticks ≡ h * ticks + h * ticks) (sym twice) (omega arith) in
    let least = two_ticks h ticks (omega (arith, some, twice)) long in
    record {
      second = omega (arith, whole, least);
      first = omega (arith, whole, least);
      room = omega (arith, whole, least);
    }

tiles-by : (bit : Bit) (breaks : Bool) (n ticks : ℕ) → (bit ≡ One → n % 2 ≡ 0) → 4 ≤ n → 1 ≤ ticks
    → intervals bit breaks (n * ticks) (div_ceil (n * ticks) 2) ≡ cut breaks (intervals_of_bit (n * ticks) bit)
tiles-by Zero breaks n ticks even some long = refl
tiles-by One breaks n ticks even some long =
    let whole = n * ticks in
    let half = div_ceil whole 2 in
    let are = halves n ticks (even refl) some long in
    ap (λ b. cut b ((whole - min half (whole - 2)) ∷ min half (whole - 2) ∷ []))
    (or-false breaks (ltb whole (half + 2)) (le-ltb whole (half + 2) are.room))
    ∙ ap₂ (λ a b. cut breaks (a ∷ b ∷ [])) are.first are.second

tiles-of : (ticks n : ℕ) (cell : Measured) (breaks : Bool) → cell.length ≡ n → cell.span ≡ n
    → (cell.bit ≡ One → n % 2 ≡ 0) → 4 ≤ n → 1 ≤ ticks
    → tiles_of ticks (record { cell = cell; breaks = breaks }) ≡ cut breaks (intervals_of_bit (n * ticks) cell.bit)
tiles-of ticks n cell breaks length_is span_is even some long =
    ap₂ (λ s l. intervals cell.bit breaks (s * ticks) (div_ceil (l * ticks) 2)) span_is length_is
    ∙ tiles-by cell.bit breaks n ticks even some long

-- ---- one cell more

flat-one : (ticks : ℕ) (judged : Judged) → flat_map (tiles_of ticks) (judged ∷ []) ≡ tiles_of ticks judged
flat-one ticks judged = append-nil (tiles_of ticks judged)

pushed : (ticks : ℕ) (ear : Ear) (before : List Measured) (cell : Measured) (behind : List Measured)
    → intervals_before ticks ear (cell ∷ before) behind
    ≡ intervals_before ticks ear before (cell ∷ behind)
    ++ tiles_of ticks (record { cell = cell; breaks = breaks ear before cell behind })
unfolding judgements
pushed ticks ear before cell behind =
    let judged : Judged = record { cell = cell; breaks = breaks ear before cell behind } in
    flat_map-append (tiles_of ticks) (judgements ear before (cell ∷ behind)) (judged ∷ [])
    ∙ ap (λ l. intervals_before ticks ear before (cell ∷ behind) ++ l) (flat-one ticks judged)

cut-none : (xs : List ℕ) → cut false xs ≡ xs
cut-none [] = refl
cut-none (x ∷ xs) = refl

-- a tick is cut off the front of the first only
cut-front : (xs ys : List ℕ) → 0 < length xs → cut true (xs ++ ys) ≡ cut true xs ++ ys
cut-front [] ys some = absurd (omega arith)
cut-front (x ∷ xs) ys some = refl

bit-some : (long : ℕ) (bit : Bit) → 0 < length (intervals_of_bit long bit)
bit-some long Zero = omega arith
bit-some long One = omega arith

tape-some : (long : ℕ) (cell : Cell) (before : List Cell) → 0 < length (intervals_of_tape long (cell ∷ before))
unfolding intervals_of_tape
tape-some long cell before =
    let parts = length-append (intervals_of_tape long before) (intervals_of_bit long cell.bit) in
    omega (arith, bit-some long cell.bit, parts)

-- ---- all of them

-- what the gate is told of the sound
pub record IsClear (least low high ticks : ℕ) : Type 0 where
  pub loud : 1 ≤ low
  pub heard : least ≤ low
  pub order : low ≤ high
  pub near : 5 * high ≤ 12 * low
  pub some : 1 ≤ ticks

even-one : (bit : Bit) (sign : Sign) (n : ℕ) (steps : List Step) → KeepsSides bit sign n steps → bit ≡ One
    → n % 2 ≡ 0
even-one Zero sign n steps keeps is = absurd cc
even-one One sign n steps keeps is = keeps.0

-- the cell as it is measured
abbrev measured : ℕ → List Sounds → Cell → List Cell → Measured
measured e sounds cell before = cell_behind sounds (at e cell) (placed (e - length_in LENGTHS cell.place) before)

cell-tiles : (place low high ticks e : ℕ) (sounds : List Sounds) (cell : Cell) (before : List Cell) (breaks : Bool)
    → 1 ≤ ticks → IsTapeIn place low high sounds e (cell ∷ before)
    → tiles_of ticks (record { cell = measured e sounds cell before; breaks = breaks })
    ≡ cut breaks (intervals_of_bit (length_in LENGTHS place * ticks) cell.bit)
cell-tiles place low high ticks e sounds cell before breaks some is =
    let n = length_in LENGTHS place in
    let same : length_in LENGTHS cell.place ≡ n = ap (length_in LENGTHS) is.go.0.place_is in
    let begin = ends-at place low high (e - length_in LENGTHS cell.place) sounds before
    (next-tape place low high e sounds cell before is) in
    let long = tape-long place low high e sounds cell before is in
    tiles-of ticks n (measured e sounds cell before) breaks same (omega (arith, begin, long, same))
    (even-one cell.bit cell.sign n (drop (length (plain sounds) - e) (alone (plain sounds))) is.keeps.0)
    (length_least place is.within) some

-- the gate breaks the sound in front of no other cell
no-break : (place : ℕ) (ear : Ear) (low high ticks e : ℕ) (sounds : List Sounds) (cell last : Cell) (before : List Cell)
    (behind : List Measured) → IsClear ear.least low high ticks → IsTapeIn place low high sounds e (cell ∷ last ∷ before)
    → AreFair low high (length_in LENGTHS place) behind
    → breaks ear (measured_cells sounds (placed (e - length_in LENGTHS cell.place) (last ∷ before)))
    (measured e sounds cell (last ∷ before)) behind ≡ false
unfolding placed measured_cells
no-break place ear low high ticks e sounds cell last before behind clear is come =
    let n = length_in LENGTHS place in
    let from = e - length_in LENGTHS cell.place in
    let next = next-tape place low high e sounds cell (last ∷ before) is in
    let rest = cells-fair place low high from sounds (last ∷ before) next in
    let fair = cell-fair place low high e sounds cell (last ∷ before) is in
    let m = measured e sounds cell (last ∷ before) in
    let previous = measured from sounds last before in
    let others = measured_cells sounds (placed (from - length_in LENGTHS last.place) before) in
    let order = clear.order in
    neither m.jumps (refuses ear (previous ∷ others) m behind) (only-first-jumps place e cell last before is.go)
    (refuses-none ear low high n previous others m behind (omega (arith, clear.heard, order)) clear.near rest fair
    come)

pub tape-intervals : (place : ℕ) (ear : Ear) (low high ticks e : ℕ) (sounds : List Sounds) (cells : List Cell)
    (behind : List Measured) → IsClear ear.least low high ticks → IsTapeIn place low high sounds e cells
    → AreFair low high (length_in LENGTHS place) behind
    → intervals_before ticks ear (measured_cells sounds (placed e cells)) behind
    ≡ cut true (intervals_of_tape (length_in LENGTHS place * ticks) cells)
unfolding placed measured_cells judgements intervals_of_tape
tape-intervals place ear low high ticks e sounds [] behind clear is come = refl
tape-intervals place ear low high ticks e sounds (cell ∷ []) behind clear is come =
    pushed ticks ear [] (measured e sounds cell []) behind
    ∙ cell-tiles place low high ticks e sounds cell [] true clear.some is
tape-intervals place ear low high ticks e sounds (cell ∷ last ∷ before) behind clear is come =
    let n = length_in LENGTHS place in
    let from = e - length_in LENGTHS cell.place in
    let m = measured e sounds cell (last ∷ before) in
    let rest = measured_cells sounds (placed from (last ∷ before)) in
    let fair = cell-fair place low high e sounds cell (last ∷ before) is in
    let next = next-tape place low high e sounds cell (last ∷ before) is in
    let more = tape-intervals place ear low high ticks from sounds (last ∷ before) (m ∷ behind) clear next
    (fair, come) in
    let free = no-break place ear low high ticks e sounds cell last before behind clear is come in
    let one = ap (λ b. tiles_of ticks (record { cell = m; breaks = b })) free
    ∙ cell-tiles place low high ticks e sounds cell (last ∷ before) false clear.some is
    ∙ cut-none (intervals_of_bit (n * ticks) cell.bit) in
    pushed ticks ear rest m behind ∙ ap₂ (λ a b. a ++ b) more one
    ∙ sym (cut-front (intervals_of_tape (n * ticks) (last ∷ before)) (intervals_of_bit (n * ticks) cell.bit)
    (tape-some (n * ticks) last before))
