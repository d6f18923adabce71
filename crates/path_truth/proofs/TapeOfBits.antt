-- Cells of one length whose signs change where a cell begins and in the middle of a one go on one behind the other; so
-- any bits with a zero among them make a steady tape, and the zero is early where few cells come before it.
use Rattle.std.proofs.Common.{◌≡◌, ℕ, zero, suc, ◌-◌, ◌/◌, ◌<◌, ◌≤◌, List, [], ◌∷◌, ◌++◌, inl, inr, length, drop}
use Rattle.std.proofs.Common.{refl, ap, arith, ◌∙◌}
use Rattle.std.proofs.Math.Nat.{le-div_iff_mul-le}
use Rattle.std.proofs.lemmas.List.{length-append}
use Rattle.cell_path.specs.declared.cell.Bit.{Bit}
use Rattle.cell_path.specs.declared.cell.Bit.TheVariants.{Zero}
use Rattle.cell_path.specs.declared.cell.Sign.{Sign}
use Rattle.cell_path.specs.declared.lengths.TheConstants.{LENGTHS}
use Rattle.cell_path.specs.Lengths.{length_in}
use Rattle.cell_path.specs.Path.{sign_before}
use Rattle.path_truth.specs.Early.{HasAnEarlyZero}
use Rattle.path_truth.specs.Tape.{tape_of, GoOn, HasAZero, IsSteady}
use Rattle.path_truth.proofs.Rising.{length_least, length_most}

goes_on : (place : ℕ) (sign : Sign) (bits : List Bit) → GoOn place (tape_of place sign bits)
unfolding tape_of
goes_on place sign [] = tt
goes_on place sign (bit ∷ []) = (record { place_is = refl; way = refl; follows = refl }, tt)
goes_on place sign (bit ∷ next ∷ more) =
    (record { place_is = refl; way = refl; follows = (refl, refl) }, goes_on place (sign_before bit sign) (next ∷ more))

-- behind no more cells than come later, the zero is still there
zero_behind : (k place : ℕ) (sign : Sign) (later before : List Bit) → k ≤ length later
    → HasAZero (drop k (tape_of place sign (later ++ Zero ∷ before)))
unfolding tape_of
zero_behind zero place sign [] before few = inl refl
zero_behind zero place sign (bit ∷ later) before few =
    inr (zero_behind zero place (sign_before bit sign) later before (omega arith))
zero_behind (suc k) place sign [] before few = absurd (omega arith)
zero_behind (suc k) place sign (bit ∷ later) before few =
    zero_behind k place (sign_before bit sign) later before (omega (arith, few))

length-tape_of : (place : ℕ) (sign : Sign) (bits : List Bit) → length (tape_of place sign bits) ≡ length bits
unfolding tape_of
length-tape_of place sign [] = refl
length-tape_of place sign (bit ∷ before) = ap suc (length-tape_of place (sign_before bit sign) before)

pub steady_tape : (place : ℕ) (sign : Sign) (later before : List Bit) → place < 45
    → IsSteady place (tape_of place sign (later ++ Zero ∷ before))
steady_tape place sign later before within = record {
  in_list = within;
  cells = goes_on place sign (later ++ Zero ∷ before);
  zero = zero_behind 0 place sign later before (omega arith);
}

-- of the longest cells 21 have ended when the first decision falls due
some_cells : (n : ℕ) → 4 ≤ n → n ≤ 96 → 21 ≤ 2_048 / n
some_cells n some most = (le-div_iff_mul-le {k = n} {x = 21} {y = 2_048} (omega (arith, some))).1 (omega (arith, most))

pub early_zero : (place : ℕ) (sign : Sign) (later before : List Bit) → place < 45 → length before ≤ 20
    → HasAnEarlyZero (length_in LENGTHS place) (tape_of place sign (later ++ Zero ∷ before))
early_zero place sign later before within few =
    let n = length_in LENGTHS place in
    let tape = tape_of place sign (later ++ Zero ∷ before) in
    let cells = some_cells n (length_least place within) (length_most place within) in
    let many = length-tape_of place sign (later ++ Zero ∷ before) ∙ length-append later (Zero ∷ before) in
    zero_behind (length tape - 2_048 / n) place sign later before (omega (arith, many, cells, few))
