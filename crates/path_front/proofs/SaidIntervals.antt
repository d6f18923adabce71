-- A cell lasts four ticks or more, and no more than a file can say; so each of its intervals can be said.
use Rattle.std.proofs.Common.{ℕ, ◌+◌, ◌-◌, ◌*◌, ◌≤◌, min, ltb, Bool, true, false, ◌||◌, List, [], ◌∷◌}
use Rattle.std.proofs.Common.{arith}
use Rattle.std.specs.List.{All}
use Rattle.std.specs.Int.{div_ceil}
use Rattle.std.proofs.lemmas.List.Elements.{All-cons, All-nil}
use Rattle.std.proofs.Math.Nat.{mul-le-mul}
use Rattle.cell_path.specs.declared.cell.Bit.{Bit}
use Rattle.cell_path.specs.declared.cell.Bit.TheVariants.{Zero, One}
use Rattle.path_front.specs.declared.gate.Judged.{Judged}
use Rattle.path_front.specs.Measured.{IsMeasured}
use Rattle.path_front.specs.Tiles.{cut, intervals, tiles_of, IsSaid}

one_said : (interval : ℕ) → IsSaid interval → All IsSaid (interval ∷ [])
one_said interval is = All-cons IsSaid interval [] is (All-nil IsSaid)

-- a tick, or none, is cut off
cut_said : (breaks : Bool) (first : ℕ) (more : List ℕ) → 2 ≤ first → first ≤ 16_777_215 → All IsSaid more
    → All IsSaid (cut breaks (first ∷ more))
cut_said false first more least most said = All-cons IsSaid first more (omega (arith, least), most) said
cut_said true first more least most said =
    All-cons IsSaid 1 ((first - 1) ∷ more) (omega arith, omega arith)
    (All-cons IsSaid (first - 1) more (omega (arith, least), omega (arith, most)) said)

intervals_said : (bit : Bit) (breaks : Bool) (whole half : ℕ) → 4 ≤ whole → whole ≤ 16_777_215 → 1 ≤ half
    → All IsSaid (intervals bit breaks whole half)
intervals_said Zero breaks whole half least most some =
    cut_said breaks whole [] (omega (arith, least)) most (All-nil IsSaid)
intervals_said One breaks whole half least most some =
    let second = min half (whole - 2) in
    cut_said (breaks || ltb whole (half + 2)) (whole - second) (second ∷ []) (omega (arith, least))
    (omega (arith, most)) (one_said second (omega (arith, least, some), omega (arith, most)))

-- at most 120 steps of 65,536 ticks
pub span_said : (ticks : ℕ) (judged : Judged) → 2 ≤ ticks → ticks ≤ 65_536 → 2 ≤ judged.cell.span
    → judged.cell.span ≤ 120 → 4 ≤ judged.cell.length → All IsSaid (tiles_of ticks judged)
span_said ticks judged least most least_span most_span least_length =
    let short = mul-le-mul least_span least in
    let long = mul-le-mul most_span most in
    let cell = mul-le-mul least_length least in
    intervals_said judged.cell.bit judged.breaks (judged.cell.span * ticks) (div_ceil (judged.cell.length * ticks) 2)
    (omega (arith, short)) (omega (arith, long)) (omega (arith, cell))

pub tiles_said : (ticks : ℕ) (judged : Judged) → 2 ≤ ticks → ticks ≤ 65_536 → IsMeasured judged.cell
    → All IsSaid (tiles_of ticks judged)
tiles_said ticks judged least most is = span_said ticks judged least most is.least_span is.most_span is.least
