-- The bits of a line are 90, and the first of them is 1.
use Rattle.std.proofs.Common.{◌≡◌, ℕ, zero, suc, ◌+◌, ◌-◌, ◌*◌, ◌%◌, ◌^◌, ◌<◌, ◌≤◌, Bool, true, false, cond, ◌&&◌}
use Rattle.std.proofs.Common.{List, [], ◌∷◌, ◌++◌, length, refl, ap, subst, sym, ◌∙◌, arith}
use Rattle.std.proofs.Common.{length-take}
use Rattle.std.specs.List.{flat_map, All}
use Rattle.std.proofs.Math.Nat.{pow-suc}
use Rattle.std.proofs.lemmas.List.Elements.{All-append, All-cons, All-nil, All-take}
use Rattle.luma_row.specs.declared.levels.Levels.{Levels}
use Rattle.luma_row.specs.Choice.{all_of}
use Rattle.luma_row.specs.Levels.{is_clear, is_one, joined, last_bits, number_of, says_bits}
use Rattle.luma_field.specs.declared.found.FoundRow.{FoundRow}
use Rattle.luma_field.specs.Field.{belong, line_of, line_of_pair, line_of_row, line_of_two, pairs, IsLine}
use Rattle.luma_field.specs.Raster.{RasterSize}
use Rattle.luma_field.specs.Rows.{SaysLines}

bit_fits : (b : Bool) → cond b 1 0 ≤ 1
bit_fits true = omega arith
bit_fits false = omega arith

bits_fit : (count : ℕ) (levels : Levels) → last_bits count levels < 2 ^ count
unfolding last_bits
bits_fit zero levels = omega arith
bits_fit (suc count) levels =
    let less = bits_fit count levels in
    let one = bit_fits (is_one levels (89 - count)) in
    let twice = pow-suc 2 count in
    omega (arith, less, one, twice)

one_more_bit : (count : ℕ) (levels : Levels)
    → last_bits (suc count) levels ≡ 2 * last_bits count levels + cond (is_one levels (89 - count)) 1 0
unfolding last_bits
one_more_bit count levels = refl

odd_bit : (b : Bool) (n : ℕ) → b ≡ true → (2 * n + cond b 1 0) % 2 ≡ 1
odd_bit true n is = omega arith
odd_bit false n is = absurd (cc)

first_of_both : (a b : Bool) → (a && b) ≡ true → a ≡ true
first_of_both true b is = refl
first_of_both false b is = absurd (cc)

is_line : (levels : Levels) → says_bits levels ≡ true → IsLine (number_of levels)
is_line levels says =
    let one = first_of_both (is_one levels 0) (all_of 90 (is_clear levels)) says in (
      bits_fit 90 levels,
      ap (λ (n : ℕ). n % 2) (one_more_bit 89 levels) ∙ odd_bit (is_one levels 0) (last_bits 89 levels) one,
    )

one_or_none : (b : Bool) (n : ℕ) → (b ≡ true → IsLine n) → All IsLine (cond b (n ∷ []) [])
one_or_none true n is = All-cons IsLine n [] (is refl) (All-nil IsLine)
one_or_none false n is = All-nil IsLine

lines_are : (levels : Levels) → All IsLine (line_of levels)
lines_are levels = one_or_none (says_bits levels) (number_of levels) (is_line levels)

where_they_belong : (b : Bool) (lines : List ℕ) → All IsLine lines → All IsLine (cond b lines [])
where_they_belong true lines are = are
where_they_belong false lines are = All-nil IsLine

of_two : (width : ℕ) (a b : FoundRow) → All IsLine (line_of_two width a b)
unfolding line_of_two
of_two width a b = where_they_belong (belong width a b) (line_of (joined a.row.levels b.row.levels))
    (lines_are (joined a.row.levels b.row.levels))

of_each : {X : Type 0} (f : X → List ℕ) → ((x : X) → All IsLine (f x)) → (xs : List X) → All IsLine (flat_map f xs)
of_each f are [] = All-nil IsLine
of_each f are (x ∷ xs) = All-append IsLine (f x) (flat_map f xs) (are x) (of_each f are xs)

pub all_lines : (raster : RasterSize) (field lines : List ℕ) → SaysLines raster field lines → All IsLine lines
all_lines raster field lines says =
    let rows = says.found in
    let width = raster.width in
    let of_rows = of_each line_of_row (λ row. lines_are row.row.levels) rows in
    let of_pairs = of_each (line_of_pair width) (λ both. of_two width both.0 both.1) (pairs rows) in
    subst (All IsLine) (sym says.lines)
    (All-take IsLine 20 (flat_map line_of_row rows ++ flat_map (line_of_pair width) (pairs rows))
    (All-append IsLine (flat_map line_of_row rows) (flat_map (line_of_pair width) (pairs rows)) of_rows of_pairs))

pub few_lines : (raster : RasterSize) (field lines : List ℕ) → SaysLines raster field lines → length lines ≤ 20
few_lines raster field lines says =
    let rows = says.found in
    let long = ap length says.lines in
    let cut = length-take 20 (flat_map line_of_row rows ++ flat_map (line_of_pair raster.width) (pairs rows)) in
    omega (arith, long, cut)
