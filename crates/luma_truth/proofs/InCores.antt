-- The light of a core that lies in a cell: whole pixels of its level, and at both ends a part of a pixel that the cell
-- may not fill. There the swing lacks the part outside of the cell, over the part inside of the core: no more than
-- a quarter of a pixel's swing.
use Rattle.std.proofs.Common.{◌≡◌, ℕ, ◌+◌, ◌-◌, ◌*◌, ◌/◌, ◌<◌, ◌≤◌, ◌⊎◌, inl, inr, true, false, List}
use Rattle.std.proofs.Common.{length, get_or, ap, arith}
use Rattle.std.proofs.Math.Nat.{mul-le-mul_left}
use Rattle.luma_row.specs.Light.{light}
use Rattle.luma_truth.specs.Drawing.{edge, has_bit, share, Drawing, IsDrawn}
use Rattle.luma_truth.proofs.InPixels.{bright_pixel, dark_pixel, darkest_pixel, lightest_pixel}
use Rattle.luma_truth.proofs.Rest.{rest_of}
use Rattle.luma_truth.proofs.StepByStep.{least_between, most_between}

-- so many sixteenths by what is left of the pixel are the most where both are a half
low_half : (n k outside rest : ℕ) → n + k ≡ 8 → 640 * n + rest ≡ 10240 → outside ≤ rest → n * outside ≤ 40960
low_half n k outside rest e whole few =
    let less = mul-le-mul_left n few in
    let product = ap (λ (m : ℕ). n * m) whole in
    let a = ap (λ (m : ℕ). n * m) e in
    let b = ap (λ (m : ℕ). m * m) e in
    omega (arith, less, product, a, b)

high_half : (n k outside rest : ℕ) → 8 + k ≡ n → 640 * n + rest ≡ 10240 → outside ≤ rest → n * outside ≤ 40960
high_half n k outside rest e whole few =
    let less = mul-le-mul_left n few in
    let product = ap (λ (m : ℕ). n * m) whole in
    let b = ap (λ (m : ℕ). m * m) e in
    omega (arith, less, product, b, e)

half_by_half : (n outside : ℕ) → 640 * n + outside ≤ 10240 → n * outside ≤ 40960
half_by_half n outside within =
    let rest = rest_of (640 * n) 10240 (omega arith) in
    let few : outside ≤ rest.0 = omega (arith, rest.1) in
    let cases : (n ≤ 8) ⊎ (8 ≤ n) = grind arith in
    elim cases [
      | inl low ↦ let k = rest_of n 8 low in low_half n k.0 outside rest.0 k.1 rest.1 few
      | inr high ↦ let k = rest_of 8 n high in high_half n k.0 outside rest.0 k.1 rest.1 few
    ]

swing_by_half : (swing n outside : ℕ) → 640 * n + outside ≤ 10240 → swing * outside * n ≤ 40960 * swing
swing_by_half swing n outside within =
    let h = half_by_half n outside within in
    let m = mul-le-mul_left swing h in
    omega (arith, m)

-- what of a pixel lies before a place, and what behind it
abbrev before_edge : ℕ → ℕ → ℕ
before_edge pixel place = place - 10240 * pixel

abbrev behind_edge : ℕ → ℕ → ℕ
behind_edge pixel place = 10240 * pixel + 10240 - place

covered_left : (drawing : Drawing) (pixel bit : ℕ) → edge drawing bit ≤ 10240 * pixel + 10240
    → 10240 * pixel + 10240 ≤ edge drawing (bit + 1)
    → share drawing pixel bit + before_edge pixel (edge drawing bit) ≡ 10240
unfolding share
covered_left drawing pixel bit a b = omega arith

covered_right : (drawing : Drawing) (pixel bit : ℕ) → edge drawing bit ≤ 10240 * pixel
    → 10240 * pixel ≤ edge drawing (bit + 1)
    → share drawing pixel bit + behind_edge pixel (edge drawing (bit + 1)) ≡ 10240
unfolding share
covered_right drawing pixel bit a b = omega arith

covered_whole : (drawing : Drawing) (pixel bit : ℕ) → edge drawing bit ≤ 10240 * pixel
    → 10240 * pixel + 10240 ≤ edge drawing (bit + 1) → share drawing pixel bit + 0 ≡ 10240
unfolding share
covered_whole drawing pixel bit a b = omega arith

-- A core from some sixteenths before a pixel to some in a later one.
pub record Core (drawing : Drawing) (row : List ℕ) (bit begin left first more last right end : ℕ) : Type 0 where
  pub drawn : IsDrawn drawing row
  pub bit_is : bit < 90
  pub left_is : begin + left ≡ 16 * first
  pub left_few : left < 16
  pub pixels : first + more ≡ last
  pub right_is : 16 * last + right ≡ end
  pub right_few : right < 16
  pub begins : edge drawing bit ≤ 640 * begin
  pub ends : 640 * end ≤ edge drawing (bit + 1)
  pub within : end ≤ 16 * length row

-- the pixel of a sixteenth
at_pixel : (row : List ℕ) (place pixel : ℕ) → place / 16 ≡ pixel → get_or row (place / 16) 0 ≡ get_or row pixel 0
at_pixel row place pixel is = ap (λ (p : ℕ). get_or row p 0) is

-- the light of three parts: as much as is said of each, less what they lack
three_parts : (level noise swing lack_left lack_right l0 l1 l2 l3 left middle right : ℕ)
    → 10240 * l0 + level * left ≤ 10240 * l1 + (swing * lack_left + noise) * left
    → 10240 * l1 + level * middle ≤ 10240 * l2 + noise * middle
    → 10240 * l2 + level * right ≤ 10240 * l3 + (swing * lack_right + noise) * right
    → swing * lack_left * left ≤ 40960 * swing → swing * lack_right * right ≤ 40960 * swing
    → 10240 * l0 + level * (left + middle + right) ≤ 10240 * l3 + noise * (left + middle + right) + 81920 * swing
three_parts level noise swing lack_left lack_right l0 l1 l2 l3 left middle right a b c p q = omega arith

three_parts_most : (level noise swing lack_left lack_right l0 l1 l2 l3 left middle right : ℕ)
    → 10240 * l1 ≤ 10240 * l0 + (level + (swing * lack_left + noise)) * left
    → 10240 * l2 ≤ 10240 * l1 + (level + noise) * middle
    → 10240 * l3 ≤ 10240 * l2 + (level + (swing * lack_right + noise)) * right
    → swing * lack_left * left ≤ 40960 * swing → swing * lack_right * right ≤ 40960 * swing
    → 10240 * l3 ≤ 10240 * l0 + (level + noise) * (left + middle + right) + 81920 * swing
three_parts_most level noise swing lack_left lack_right l0 l1 l2 l3 left middle right a b c p q = omega arith

-- a 1 has its light but for the noise and for eight sixteenths of the swing
pub bright_core : (drawing : Drawing) (row : List ℕ) (bit begin left first more last right end : ℕ)
    → Core drawing row bit begin left first more last right end → has_bit drawing.word bit ≡ true
    → 10240 * light row begin + 10240 * (drawing.dark + drawing.swing) * (left + 16 * more + right)
    ≤ 10240 * light row end + 5120 * drawing.noise * (left + 16 * more + right) + 81920 * drawing.swing
bright_core drawing row bit begin left first more last right end w set =
    let level = 10240 * (drawing.dark + drawing.swing) in
    let noise = 5120 * drawing.noise in
    let lack_left = before_edge (first - 1) (edge drawing bit) in
    let lack_right = behind_edge last (edge drawing (bit + 1)) in
    let on_left = least_between row level (drawing.swing * lack_left + noise) begin left (16 * first) w.left_is
    (omega (arith, w.pixels, w.right_is, w.within))
    (λ place a b.
    let same = at_pixel row place (first - 1) (omega (arith, w.left_is, w.left_few)) in
    let part = covered_left drawing (first - 1) bit (omega (arith, w.left_is, w.begins))
    (omega (arith, w.pixels, w.right_is, w.ends)) in
    let light = bright_pixel drawing row (first - 1) bit lack_left w.drawn
    (omega (arith, w.pixels, w.right_is, w.within)) w.bit_is set part in
    omega (arith, same, light)) in
    let between = least_between row level noise (16 * first) (16 * more) (16 * last) (omega (arith, w.pixels))
    (omega (arith, w.right_is, w.within))
    (λ place a b.
    let part = covered_whole drawing (place / 16) bit (omega (arith, w.left_is, w.begins))
    (omega (arith, w.right_is, w.ends)) in
    let light = bright_pixel drawing row (place / 16) bit 0 w.drawn
    (omega (arith, w.right_is, w.within)) w.bit_is set part in
    omega (arith, light)) in
    let on_right = least_between row level (drawing.swing * lack_right + noise) (16 * last) right end w.right_is
    w.within
    (λ place a b.
    let same = at_pixel row place last (omega (arith, w.right_is, w.right_few)) in
    let part = covered_right drawing last bit (omega (arith, w.left_is, w.pixels, w.begins))
    (omega (arith, w.right_is, w.ends)) in
    let light = bright_pixel drawing row last bit lack_right w.drawn
    (omega (arith, w.right_is, w.within)) w.bit_is set part in
    omega (arith, same, light)) in
    three_parts level noise drawing.swing lack_left lack_right (light row begin) (light row (16 * first))
    (light row (16 * last)) (light row end) left (16 * more) right on_left between on_right
    (swing_by_half drawing.swing left lack_left (omega (arith, w.left_is, w.left_few, w.begins)))
    (swing_by_half drawing.swing right lack_right (omega (arith, w.right_is, w.right_few, w.ends)))

-- a 0 has no more light than its own, but for the same
pub dark_core : (drawing : Drawing) (row : List ℕ) (bit begin left first more last right end : ℕ)
    → Core drawing row bit begin left first more last right end → has_bit drawing.word bit ≡ false
    → 10240 * light row end
    ≤ 10240 * light row begin + (10240 * drawing.dark + 5120 * drawing.noise) * (left + 16 * more + right)
    + 81920 * drawing.swing
dark_core drawing row bit begin left first more last right end w set =
    let level = 10240 * drawing.dark in
    let noise = 5120 * drawing.noise in
    let lack_left = before_edge (first - 1) (edge drawing bit) in
    let lack_right = behind_edge last (edge drawing (bit + 1)) in
    let on_left = most_between row (level + (drawing.swing * lack_left + noise)) begin left (16 * first) w.left_is
    (omega (arith, w.pixels, w.right_is, w.within))
    (λ place a b.
    let same = at_pixel row place (first - 1) (omega (arith, w.left_is, w.left_few)) in
    let part = covered_left drawing (first - 1) bit (omega (arith, w.left_is, w.begins))
    (omega (arith, w.pixels, w.right_is, w.ends)) in
    let light = dark_pixel drawing row (first - 1) bit lack_left w.drawn
    (omega (arith, w.pixels, w.right_is, w.within)) w.bit_is set part in
    omega (arith, same, light)) in
    let between = most_between row (level + noise) (16 * first) (16 * more) (16 * last) (omega (arith, w.pixels))
    (omega (arith, w.right_is, w.within))
    (λ place a b.
    let part = covered_whole drawing (place / 16) bit (omega (arith, w.left_is, w.begins))
    (omega (arith, w.right_is, w.ends)) in
    let light = dark_pixel drawing row (place / 16) bit 0 w.drawn
    (omega (arith, w.right_is, w.within)) w.bit_is set part in
    omega (arith, light)) in
    let on_right = most_between row (level + (drawing.swing * lack_right + noise)) (16 * last) right end w.right_is
    w.within
    (λ place a b.
    let same = at_pixel row place last (omega (arith, w.right_is, w.right_few)) in
    let part = covered_right drawing last bit (omega (arith, w.left_is, w.pixels, w.begins))
    (omega (arith, w.right_is, w.ends)) in
    let light = dark_pixel drawing row last bit lack_right w.drawn
    (omega (arith, w.right_is, w.within)) w.bit_is set part in
    omega (arith, same, light)) in
    three_parts_most level noise drawing.swing lack_left lack_right (light row begin) (light row (16 * first))
    (light row (16 * last)) (light row end) left (16 * more) right on_left between on_right
    (swing_by_half drawing.swing left lack_left (omega (arith, w.left_is, w.left_few, w.begins)))
    (swing_by_half drawing.swing right lack_right (omega (arith, w.right_is, w.right_few, w.ends)))

-- no part of the row is lighter than a 1 or darker than a 0, but for the noise
pub light_at_most : (drawing : Drawing) (row : List ℕ) (begin n end : ℕ) → IsDrawn drawing row → begin + n ≡ end
    → end ≤ 16 * length row
    → 10240 * light row end
    ≤ 10240 * light row begin + (10240 * (drawing.dark + drawing.swing) + 5120 * drawing.noise) * n
light_at_most drawing row begin n end is e within =
    most_between row (10240 * (drawing.dark + drawing.swing) + 5120 * drawing.noise) begin n end e within
    (λ place a b. lightest_pixel drawing row (place / 16) is (omega arith))

pub light_at_least : (drawing : Drawing) (row : List ℕ) (begin n end : ℕ) → IsDrawn drawing row → begin + n ≡ end
    → end ≤ 16 * length row
    → 10240 * light row begin + 10240 * drawing.dark * n ≤ 10240 * light row end + 5120 * drawing.noise * n
light_at_least drawing row begin n end is e within =
    least_between row (10240 * drawing.dark) (5120 * drawing.noise) begin n end e within
    (λ place a b. darkest_pixel drawing row (place / 16) is (omega arith))
