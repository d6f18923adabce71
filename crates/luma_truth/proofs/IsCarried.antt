-- A drawing with a margin has contrast, and its sync pairs count: so the row carries code.
use Rattle.std.proofs.Common.{◌≡◌, ℕ, zero, suc, ◌+◌, ◌-◌, ◌*◌, ◌/◌, ◌<◌, ◌≤◌, ◌⊎◌, inl, inr}
use Rattle.std.proofs.Common.{true, List, [], ◌∷◌, length, get_or, min, max, arith}
use Rattle.std.specs.List.{fold}
use Rattle.std.proofs.Math.Nat.{mul-le-mul_left}
use Rattle.std.proofs.lemmas.Bool.Decides.{nat_tests}
use Rattle.luma_row.specs.Light.{darkest, lightest, IsRow}
use Rattle.luma_row.specs.Row.{has_contrast}
use Rattle.luma_truth.specs.Drawing.{edge, share, Drawing, IsDrawn}
use Rattle.luma_truth.proofs.InPixels.{bright_pixel, dark_pixel, darkest_pixel, lightest_pixel}

max_from : (a : ℕ) (xs : List ℕ) → a ≤ fold max a xs
max_from a [] = omega arith
max_from a (x ∷ xs) = let rest = max_from (max a x) xs in omega (arith, rest)

max_at : (a : ℕ) (xs : List ℕ) (k : ℕ) → get_or xs k 0 ≤ fold max a xs
max_at a [] k = omega arith
max_at a (x ∷ xs) zero = let rest = max_from (max a x) xs in omega (arith, rest)
max_at a (x ∷ xs) (suc k) = max_at (max a x) xs k

min_from : (a : ℕ) (xs : List ℕ) → fold min a xs ≤ a
min_from a [] = omega arith
min_from a (x ∷ xs) = let rest = min_from (min a x) xs in omega (arith, rest)

min_at : (a : ℕ) (xs : List ℕ) (k : ℕ) → k < length xs → fold min a xs ≤ get_or xs k 0
min_at a [] k h = absurd (omega arith)
min_at a (x ∷ xs) zero h = let rest = min_from (min a x) xs in omega (arith, rest)
min_at a (x ∷ xs) (suc k) h = min_at (min a x) xs k (omega arith)

-- a pixel in the midst of a cell
whole_pixel : (drawing : Drawing) (pixel bit : ℕ) → edge drawing bit ≤ 10240 * pixel
    → 10240 * pixel + 10240 ≤ edge drawing (bit + 1) → share drawing pixel bit + 0 ≡ 10240
unfolding share
whole_pixel drawing pixel bit a b = omega arith

-- a margin leaves 8 levels beside the noise
eight_left : (swing noise core : ℕ) → 12 ≤ swing
    → 102 * (noise * (2 * core + 3)) + 2299 * swing ≤ 70 * (swing * core) → noise + 8 ≤ swing
eight_left swing noise core some enough =
    let cases : (noise + 8 ≤ swing) ⊎ (swing ≤ noise + 7) = grind arith in
    elim cases [
      | inl h ↦ h
      | inr loud ↦
          let m = mul-le-mul_left (core + 1) loud in
          let n = mul-le-mul_left core some in
          absurd (omega (arith, m, n))
    ]

-- a pixel in a cell
midst : (drawing : Drawing) (row : List ℕ) (bit : ℕ) → IsDrawn drawing row → 20480 ≤ drawing.cell → bit < 90
    → (pixel : ℕ) × (pixel < length row) × (share drawing pixel bit + 0 ≡ 10240)
midst drawing row bit is wide h =
    let pixel = (edge drawing bit + 10239) / 10240 in
    let few : bit + 1 ≤ 90 = omega arith in
    let m = mul-le-mul_left drawing.cell few in
    let within = is.of_row.within in
    let after : edge drawing bit ≤ 10240 * pixel = omega arith in
    let before : 10240 * pixel + 10240 ≤ edge drawing (bit + 1) = omega (arith, wide) in
    (pixel, omega (arith, m, within, before), whole_pixel drawing pixel bit after before)

pub contrast_is : (drawing : Drawing) (row : List ℕ) (core : ℕ) → IsDrawn drawing row → IsRow row
    → 102 * (drawing.noise * (2 * core + 3)) + 2299 * drawing.swing ≤ 70 * (drawing.swing * core)
    → has_contrast row ≡ true
contrast_is drawing row core is row_is enough =
    let some = is.of_row.levels in
    let left = eight_left drawing.swing drawing.noise core some enough in
    let narrow = is.of_row.narrow in
    let least = row_is.0 in
    let wide : 20480 ≤ drawing.cell = omega (arith, narrow, least) in
    let one = midst drawing row 0 is wide (omega arith) in
    let nought = midst drawing row 1 is wide (omega arith) in
    let light = bright_pixel drawing row one.0 0 0 is one.1 (omega arith) (is.of_row.ones 0 (omega arith)) one.2 in
    let zero_is = is.of_row.zeros 0 (omega arith) in
    let dark = dark_pixel drawing row nought.0 1 0 is nought.1 (omega arith) zero_is nought.2 in
    let high = max_at 0 row one.0 in
    let low = min_at 255 row nought.0 nought.1 in
    let apart : 8 ≤ lightest row - darkest row = omega (arith, light, dark, high, low, left) in
    grind (arith, nat_tests)

-- the darkest pixel is no lighter than a 0, but for the noise
pub dark_enough : (drawing : Drawing) (row : List ℕ) → IsDrawn drawing row → 20480 ≤ drawing.cell
    → 2 * darkest row ≤ 2 * drawing.dark + drawing.noise
dark_enough drawing row is wide =
    let nought = midst drawing row 1 is wide (omega arith) in
    let zero_is = is.of_row.zeros 0 (omega arith) in
    let dark = dark_pixel drawing row nought.0 1 0 is nought.1 (omega arith) zero_is nought.2 in
    let low = min_at 255 row nought.0 nought.1 in
    omega (arith, dark, low)

min_least : (dark noise a : ℕ) (xs : List ℕ) → 2 * dark ≤ 2 * a + noise
    → ((k : ℕ) → k < length xs → 2 * dark ≤ 2 * get_or xs k 0 + noise) → 2 * dark ≤ 2 * fold min a xs + noise
min_least dark noise a [] first each = first
min_least dark noise a (x ∷ xs) first each =
    let here = each 0 (omega arith) in
    min_least dark noise (min a x) xs (omega (arith, first, here)) (λ k h. each (suc k) (omega (arith, h)))

max_most : (light noise a : ℕ) (xs : List ℕ) → 2 * a ≤ light + noise
    → ((k : ℕ) → k < length xs → 2 * get_or xs k 0 ≤ light + noise) → 2 * fold max a xs ≤ light + noise
max_most light noise a [] first each = first
max_most light noise a (x ∷ xs) first each =
    let here = each 0 (omega arith) in
    max_most light noise (max a x) xs (omega (arith, first, here)) (λ k h. each (suc k) (omega (arith, h)))

-- and no darker, wherever it is
pub light_enough : (drawing : Drawing) (row : List ℕ) → IsDrawn drawing row
    → 2 * drawing.dark ≤ 2 * darkest row + drawing.noise
light_enough drawing row is =
    let white = is.of_row.white in
    min_least drawing.dark drawing.noise 255 row (omega (arith, white))
    (λ k h. let dark = darkest_pixel drawing row k is h in omega (arith, dark))

-- the lightest pixel is as light as a 1, but for the noise
pub lightest_least : (drawing : Drawing) (row : List ℕ) → IsDrawn drawing row → 20480 ≤ drawing.cell
    → 2 * (drawing.dark + drawing.swing) ≤ 2 * lightest row + drawing.noise
lightest_least drawing row is wide =
    let one = midst drawing row 0 is wide (omega arith) in
    let light = bright_pixel drawing row one.0 0 0 is one.1 (omega arith) (is.of_row.ones 0 (omega arith)) one.2 in
    let high = max_at 0 row one.0 in
    omega (arith, light, high)

pub lightest_most : (drawing : Drawing) (row : List ℕ) → IsDrawn drawing row
    → 2 * lightest row ≤ 2 * (drawing.dark + drawing.swing) + drawing.noise
lightest_most drawing row is =
    max_most (2 * (drawing.dark + drawing.swing)) drawing.noise 0 row (omega arith)
    (λ k h. let light = lightest_pixel drawing row k is h in omega (arith, light))
