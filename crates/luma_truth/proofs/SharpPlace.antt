-- The place between the edges of a clean drawing lies near the true one, and each of its pairs swings enough: so it is
-- sharp.
use Rattle.std.proofs.Common.{◌≡◌, ℕ, zero, suc, ◌+◌, ◌-◌, ◌*◌, ◌/◌, ◌<◌, ◌≤◌, Bool, true, ◌&&◌, List}
use Rattle.std.proofs.Common.{length, refl, ap₂, arith}
use Rattle.std.specs.Prelude.{leb}
use Rattle.std.proofs.Math.Nat.{mul-le-mul_left}
use Rattle.std.proofs.lemmas.Bool.Decides.{nat_tests}
use Rattle.luma_row.specs.declared.place.Place.{Place}
use Rattle.luma_row.specs.Cells.{cell, cells_of}
use Rattle.luma_row.specs.Choice.{all_of}
use Rattle.luma_row.specs.Edges.{is_in_reach, swings_enough, IsSharp}
use Rattle.luma_row.specs.Light.{darkest, lightest, IsRow}
use Rattle.luma_row.specs.Place.{apart}
use Rattle.luma_row.specs.Width.{grain, narrowest, widest}
use Rattle.luma_truth.specs.Clean.{IsClean}
use Rattle.luma_truth.specs.Drawing.{Drawing, IsDrawn}
use Rattle.luma_truth.specs.Inside.{core, HasMargin, IsEnough, LiesInside}
use Rattle.luma_truth.specs.Near.{IsNear}
use Rattle.luma_truth.proofs.BothEnds.{near_lies_inside}
use Rattle.luma_truth.proofs.CleanDrawing.{between_these, reading_of}
use Rattle.luma_truth.proofs.EdgesOfPairs.{first_edge, leads_to_ninth, FirstWithin, IsAtPair}
use Rattle.luma_truth.proofs.FallingEdges.{IsPlain}
use Rattle.luma_truth.proofs.InCells.{are_lit, cell_is}
use Rattle.luma_truth.proofs.IsCarried.{light_enough, lightest_most}
use Rattle.luma_truth.proofs.Rest.{rest_of}

-- in a clean drawing cells have seven pixels or more
pub is_plain : (drawing : Drawing) (row : List ℕ) → IsDrawn drawing row → IsClean drawing (length row)
    → IsPlain drawing row
is_plain drawing row is clean =
    let narrow = is.of_row.narrow in
    let large = clean.large in
    record { drawn = is; clean = clean; wide = omega (arith, narrow, large) }

-- ---- where it lies

-- the place between two edges that are at the first and at the ninth pair
pub record IsBetween (drawing : Drawing) (place : Place) : Type 0 where
  pub begin : ℕ
  pub end : ℕ
  pub first : place.first ≡ 16 * begin
  pub last : place.last ≡ 16 * end
  pub at_first : IsAtPair drawing 0 begin
  pub at_last : IsAtPair drawing 8 end

pub between_is_near : (drawing : Drawing) (row : List ℕ) (place : Place) → IsPlain drawing row
    → IsBetween drawing place → IsNear drawing place
between_is_near drawing row place is at =
    let wide = is.wide in
    let first = at.first in
    let last = at.last in
    let fl = at.at_first.late in
    let fe = at.at_first.early in
    let ll = at.at_last.late in
    let le = at.at_last.early in
    record {
      in_row = omega (arith, wide, first, last, fl, fe, ll, le);
      first = record { above = omega (arith, wide, first, fl); below = omega (arith, wide, first, fe) };
      last = record { above = omega (arith, wide, last, ll); below = omega (arith, wide, last, le) };
    }

-- how far the ninth pair is from the first, in 640ths of a sixteenth
pub record IsApart (cell apart : ℕ) : Type 0 where
  pub least : 80 * cell ≤ 640 * apart + 12100
  pub most : 640 * apart ≤ 80 * cell + 12100

pub between_is_apart : (drawing : Drawing) (row : List ℕ) (place : Place) → IsPlain drawing row
    → IsBetween drawing place → IsApart drawing.cell (apart place)
between_is_apart drawing row place is at =
    let wide = is.wide in
    let first = at.first in
    let last = at.last in
    let fl = at.at_first.late in
    let fe = at.at_first.early in
    let ll = at.at_last.late in
    let le = at.at_last.early in
    record { least = omega (arith, wide, first, last, fl, le); most = omega (arith, wide, first, last, fe, ll) }

both_true : (a b : Bool) → a ≡ true → b ≡ true → (a && b) ≡ true
both_true a b p q = ap₂ ◌&&◌ p q

at_most : (a b : ℕ) → a ≤ b → leb a b ≡ true
at_most a b h = grind (arith, nat_tests)

pub in_reach : (drawing : Drawing) (row : List ℕ) (place : Place) → IsPlain drawing row
    → IsApart drawing.cell (apart place) → is_in_reach (length row) place ≡ true
in_reach drawing row place is far =
    let width = length row in
    let least = far.least in
    let most = far.most in
    let narrow = is.drawn.of_row.narrow in
    let wide = is.drawn.of_row.wide in
    let large = is.clean.large in
    both_true (leb (narrowest width) (apart place + 2 * grain width))
    (leb (apart place) (widest width + 2 * grain width))
    (at_most (narrowest width) (apart place + 2 * grain width) (omega (arith, least, narrow, large)))
    (at_most (apart place) (widest width + 2 * grain width) (omega (arith, most, wide, large)))

-- ---- how much its pairs swing

long_cores : (cell apart : ℕ) → 72960 ≤ cell → IsApart cell apart → 85 ≤ 6 * apart / 640
long_cores cell apart wide far = let least = far.least in omega (arith, least, wide)

enough_there : (swing noise core : ℕ) → 85 ≤ core → 11 * noise ≤ swing → IsEnough swing noise core
enough_there swing noise core long quiet =
    let m = mul-le-mul_left (2 * core + 3) quiet in
    let n = mul-le-mul_left swing long in
    omega (arith, m, n)

-- The swing of a pair against what the extremes are apart. Noise is a tenth of the swing at most, and a core has 85
-- sixteenths or more.
swings : (swing noise less over core apart contrast one nought : ℕ) → 85 ≤ core → 11 * noise ≤ swing
    → core ≡ 6 * apart / 640 → contrast ≤ swing + noise → 2 * less ≤ noise → 2 * over ≤ noise
    → 2 * (less + swing) * core - (2 * over * (core + 1) + noise * (core + 1) + 16 * swing) ≤ 2 * one
    → 2 * nought ≤ 2 * less * (core + 1) + noise * (core + 1) + 16 * swing - 2 * over * core
    → 3 * (contrast * apart) ≤ 512 * (one - nought)
swings swing noise less over core apart contrast one nought long quiet is extremes few lift ones zeros =
    let far : 6 * apart ≤ 640 * core + 639 = omega (arith, is) in
    let extra = rest_of 85 core long in
    let a = mul-le-mul_left contrast far in
    let b = mul-le-mul_left core extremes in
    let c = mul-le-mul_left core quiet in
    let d = mul-le-mul_left core few in
    let e = mul-le-mul_left core lift in
    let f = mul-le-mul_left swing long in
    omega (arith, a, b, c, d, e, f, quiet, few, lift, ones, zeros, extremes)

each_swings : (drawing : Drawing) (row : List ℕ) (place : Place) → IsPlain drawing row → LiesInside drawing place
    → HasMargin drawing place → 85 ≤ core place → (pair : ℕ) → pair < 9 → swings_enough row place pair ≡ true
each_swings drawing row place is inside enough long pair h =
    let some : 0 < drawing.swing = omega (arith, is.drawn.of_row.levels) in
    let read = reading_of drawing row place is.drawn inside enough some in
    let less = read.less in
    let over = read.over in
    let lit = between_these drawing less over (core place) (cells_of row place)
    (are_lit drawing row place less over read.reading) in
    let one = lit.ones_least (10 * pair) (omega (arith, h)) (is.drawn.of_row.ones pair h) in
    let nought = lit.zeros_most (10 * pair + 1) (omega (arith, h)) (is.drawn.of_row.zeros pair h) in
    let one_is = cell_is row place (10 * pair) (omega (arith, h)) in
    let nought_is = cell_is row place (10 * pair + 1) (omega (arith, h)) in
    let dark = light_enough drawing row is.drawn in
    let light = lightest_most drawing row is.drawn in
    at_most (3 * ((lightest row - darkest row) * apart place))
    (512 * (cell row place (10 * pair) - cell row place (10 * pair + 1)))
    (swings drawing.swing drawing.noise less over (core place) (apart place) (lightest row - darkest row)
    (cell row place (10 * pair)) (cell row place (10 * pair + 1)) long is.clean.quiet refl (omega (arith, dark, light))
    read.few read.reading.quiet (omega (arith, one, one_is)) (omega (arith, nought, nought_is)))

each_true : (n : ℕ) (p : ℕ → Bool) → ((k : ℕ) → k < n → p k ≡ true) → all_of n p ≡ true
unfolding all_of
each_true zero p each = refl
each_true (suc n) p each =
    ap₂ ◌&&◌ (each_true n p (λ k h. each k (omega arith))) (each n (omega arith))

-- what is known of the place of a clean drawing
pub record IsFoundAt (drawing : Drawing) (row : List ℕ) (place : Place) : Type 0 where
  pub sharp : IsSharp row place
  pub near : IsNear drawing place
  pub inside : LiesInside drawing place
  pub margin : HasMargin drawing place

pub is_found_at : FirstWithin → (drawing : Drawing) (row : List ℕ) → IsRow row → IsDrawn drawing row
    → IsClean drawing (length row) → (place : Place) × IsFoundAt drawing row place
is_found_at within drawing row row_is drawn clean =
    let is = is_plain drawing row drawn clean in
    let first = first_edge within drawing row is in
    let last = leads_to_ninth within drawing row 8 0 first.0 is refl first.2 in
    let place : Place = record { first = 16 * first.0; last = 16 * last.0 } in
    let between : IsBetween drawing place = record {
      begin = first.0;
      end = last.0;
      first = refl;
      last = refl;
      at_first = first.2;
      at_last = last.2;
    } in
    let near = between_is_near drawing row place is between in
    let far = between_is_apart drawing row place is between in
    let long = long_cores drawing.cell (apart place) is.wide far in
    let inside = near_lies_inside drawing row place row_is drawn near in
    let margin = enough_there drawing.swing drawing.noise (core place) long clean.quiet in (
      place,
      record {
        sharp = record {
          edges = record {
            begin = first.0;
            end = last.0;
            first_edge = first.1;
            last_edge = last.1;
            first = refl;
            last = refl;
          };
          reach = in_reach drawing row place is far;
          swings = each_true 9 (swings_enough row place) (each_swings drawing row place is inside margin long);
        };
        near = near;
        inside = inside;
        margin = margin;
      },
    )
