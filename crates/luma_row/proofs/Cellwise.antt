-- A fall a cell away from both ends of a row is that of three places in pixels of the row; the sum of nine falls is
-- that of the pixel at which the first of them stands; and the places of a sync pair are found with two divisions.
use Rattle.std.proofs.Common.{◌≡◌, ℕ, ◌+◌, ◌-◌, ◌*◌, ◌/◌, ◌%◌, ◌<◌, ◌≤◌, List, length, ap, ap₂, ◌∙◌, arith}
use Rattle.luma_row.specs.declared.light.TheConstants.{EVEN}
use Rattle.luma_row.specs.declared.place.Place.{Place}
use Rattle.luma_row.specs.Choice.{sum_of}
use Rattle.luma_row.specs.Coarse.{coarse_sum, fall_at, pixel_of, step_to}
use Rattle.luma_row.specs.KeptCoarse.{AreSumsAlong, AreSumsOfStarts}
use Rattle.luma_row.specs.Light.{fall, light, IsRow}
use Rattle.luma_row.specs.Place.{apart, eighth, pair_fall}
use Rattle.luma_row.specs.Width.{start, starts}
use Rattle.luma_row.proofs.Within.{before_last, last_within}

pub fall_of_parts : (row : List ℕ) (reach pixel before here behind : ℕ) → reach / 16 < pixel
    → here ≡ light row (16 * pixel + 0)
    → before ≡ light row (16 * (pixel - reach / 16 - 1) + (16 - reach % 16))
    → behind ≡ light row (16 * (pixel + reach / 16) + reach % 16)
    → EVEN + 2 * here - before - behind ≡ fall row (16 * pixel - reach) (16 * pixel) (16 * pixel + reach)
unfolding fall
fall_of_parts row reach pixel before here behind inside here_is before_is behind_is =
    let first : 16 * (pixel - reach / 16 - 1) + (16 - reach % 16) ≡ 16 * pixel - reach = omega arith in
    let middle : 16 * pixel + 0 ≡ 16 * pixel = omega arith in
    let last : 16 * (pixel + reach / 16) + reach % 16 ≡ 16 * pixel + reach = omega arith in
    ap (λ l. EVEN + 2 * l - before - behind) (here_is ∙ ap (light row) middle)
    ∙ ap₂ (λ (l m : ℕ). EVEN + 2 * light row (16 * pixel) - l - m) (before_is ∙ ap (light row) first)
    (behind_is ∙ ap (light row) last)

-- where the first falls stand at one pixel, the sums are the same
sum_of_pixel : (row : List ℕ) (apart first other : ℕ) → pixel_of first ≡ pixel_of other
    → coarse_sum row apart first ≡ coarse_sum row apart other
unfolding coarse_sum
sum_of_pixel row apart first other same =
    ap (λ (p : ℕ). sum_of 9 (λ pair. fall_at row (p + step_to apart pair))) same

-- the sums up to the pixel of the last start are those of all starts
pub sums_of_all : (row table : List ℕ) (apart last : ℕ) → IsRow row → 12 * length row ≤ apart → apart ≤ 14 * length row
    → last ≡ pixel_of (start (length row) (starts (length row) apart - 1))
    → AreSumsAlong row apart (last + 1) table → AreSumsOfStarts row apart table
sums_of_all row table apart last is narrow wide at t =
    let room = last_within (length row) apart last is narrow wide at in
    record {
      within = λ number h.
          let b = before_last (length row) apart number h in
          omega (arith, b, room, at, is.1);
      sums = λ number h.
          let b = before_last (length row) apart number h in
          let first = start (length row) number in
          let same : (16 * pixel_of first + 8) / 16 ≡ pixel_of first = omega arith in
          t.filled (pixel_of first) (omega (arith, b, at))
          ∙ sum_of_pixel row apart (16 * pixel_of first) first same;
    }

-- the three places of a sync pair, out of so many times the distance of the first to the ninth
before_pair : (first apart pair : ℕ)
    → (80 * first + 10 * (apart * pair) - apart) / 80 ≡ (640 * first + apart * (80 * pair) - 8 * apart) / 640
before_pair first apart pair = omega arith

at_pair : (first apart pair : ℕ)
    → first + apart * pair / 8 ≡ (640 * first + apart * (80 * pair + 8) - 8 * apart) / 640
at_pair first apart pair = omega arith

behind_pair : (first apart pair : ℕ)
    → first + (10 * (apart * pair) + apart) / 80 ≡ (640 * first + apart * (80 * pair + 16) - 8 * apart) / 640
behind_pair first apart pair = omega arith

-- the fall of a pair
pub fall_of_pair : (row : List ℕ) (place : Place) (pair before at behind : ℕ)
    → before ≡ (80 * place.first + 10 * (apart place * pair) - apart place) / 80
    → at ≡ place.first + apart place * pair / 8
    → behind ≡ place.first + (10 * (apart place * pair) + apart place) / 80
    → fall row before at behind ≡ pair_fall row place pair
fall_of_pair row place pair before at behind before_is at_is behind_is =
    ap (λ b. fall row b at behind) (before_is ∙ before_pair place.first (apart place) pair)
    ∙ ap₂ (λ a h. fall row (eighth place (80 * pair)) a h) (at_is ∙ at_pair place.first (apart place) pair)
    (behind_is ∙ behind_pair place.first (apart place) pair)
