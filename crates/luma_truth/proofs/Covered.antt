-- How much of a pixel the 1s of a drawing cover, and what its level says of that: in a clean drawing a light pixel is
-- covered by more than two fifths, and a dark one by less than three.
use Rattle.std.proofs.Common.{◌≡◌, ℕ, zero, suc, ◌+◌, ◌-◌, ◌*◌, ◌<◌, ◌≤◌, ◌⊎◌, inl, inr, Bool, true, false, List}
use Rattle.std.proofs.Common.{length, get_or, refl, ap, subst, arith}
use Rattle.std.proofs.Math.Nat.{mul-le-mul_left}
use Rattle.std.proofs.lemmas.Bool.Decides.{nat_tests}
use Rattle.luma_row.specs.Choice.{sum_of}
use Rattle.luma_row.specs.Edges.{is_light}
use Rattle.luma_row.specs.Light.{darkest, lightest}
use Rattle.luma_truth.specs.Clean.{IsClean}
use Rattle.luma_truth.specs.Drawing.{has_bit, lit, pixel_light, share, Drawing, IsDrawn}
use Rattle.luma_truth.proofs.InPixels.{dark_part, held_edge, held_up, lit_part, part, parts_within, sum_more}
use Rattle.luma_truth.proofs.InPixels.{few_of}
use Rattle.luma_truth.proofs.IsCarried.{dark_enough, light_enough, lightest_least, lightest_most}

-- two parts that are lit, one behind the other, are among all
two_lit : (places : ℕ → ℕ) (is_lit : ℕ → Bool) → ((k : ℕ) → places k ≤ places (k + 1)) → (k n : ℕ) → k + 1 < n
    → is_lit k ≡ true → is_lit (k + 1) ≡ true → places (k + 2) - places k ≤ sum_of n (part places is_lit)
two_lit places is_lit up k zero h first second = absurd (omega arith)
two_lit places is_lit up k (suc n) h first second =
    let e = sum_more n (part places is_lit) in
    let s : suc n ≡ n + 1 = omega arith in
    let cases : (k + 1 < n) ⊎ (k + 1 ≡ n) = grind arith in
    elim cases [
      | inl less ↦ let before = two_lit places is_lit up k n less first second in rw s (omega (arith, before, e))
      | inr same ↦
          let here : part places is_lit n ≡ places (n + 1) - places n =
          rw (subst (λ m. is_lit m ≡ true) same second) refl in
          let there : places (k + 1) ≡ places n = ap places same in
          let behind : places (k + 2) ≡ places (n + 1) = ap places (omega arith) in
          let before = lit_part places is_lit k n (omega (arith, same)) first in
          let step = up k in
          let next = up n in
          rw s (omega (arith, e, here, there, behind, before, step, next))
    ]

-- and two that are not lit are beside all
two_dark : (places : ℕ → ℕ) (is_lit : ℕ → Bool) → ((k : ℕ) → places k ≤ places (k + 1)) → (k n : ℕ) → k + 1 < n
    → is_lit k ≡ false → is_lit (k + 1) ≡ false
    → sum_of n (part places is_lit) + places 0 + (places (k + 2) - places k) ≤ places n
two_dark places is_lit up k zero h first second = absurd (omega arith)
two_dark places is_lit up k (suc n) h first second =
    let e = sum_more n (part places is_lit) in
    let s : suc n ≡ n + 1 = omega arith in
    let next = up n in
    let cases : (k + 1 < n) ⊎ (k + 1 ≡ n) = grind arith in
    elim cases [
      | inl less ↦
          let before = two_dark places is_lit up k n less first second in
          let few = few_of (is_lit n) (places (n + 1) - places n) in
          rw s (omega (arith, before, few, e, next))
      | inr same ↦
          let here : part places is_lit n ≡ 0 = rw (subst (λ m. is_lit m ≡ false) same second) refl in
          let there : places (k + 1) ≡ places n = ap places same in
          let behind : places (k + 2) ≡ places (n + 1) = ap places (omega arith) in
          let before = dark_part places is_lit up k n (omega (arith, same)) first in
          let step = up k in
          rw s (omega (arith, e, here, there, behind, before, step, next))
    ]

-- how much of a pixel is covered by 1s, in 10,240ths
abbrev pub covered : Drawing → ℕ → ℕ
covered drawing pixel = sum_of 90 (lit drawing pixel)

covered_is : (drawing : Drawing) (pixel : ℕ)
    → covered drawing pixel ≡ sum_of 90 (part (held_edge drawing pixel) (has_bit drawing.word))
unfolding share
covered_is drawing pixel = refl

pub all_covered : (drawing : Drawing) (pixel : ℕ)
    → covered drawing pixel + held_edge drawing pixel 0 ≤ held_edge drawing pixel 90
all_covered drawing pixel =
    let is = covered_is drawing pixel in
    let all = parts_within (held_edge drawing pixel) (has_bit drawing.word) (held_up drawing pixel) 90 in
    omega (arith, is, all)

pub lit_covered : (drawing : Drawing) (pixel bit : ℕ) → bit < 90 → has_bit drawing.word bit ≡ true
    → held_edge drawing pixel (bit + 1) ≤ held_edge drawing pixel bit + covered drawing pixel
lit_covered drawing pixel bit h set =
    let is = covered_is drawing pixel in
    let one = lit_part (held_edge drawing pixel) (has_bit drawing.word) bit 90 h set in
    omega (arith, is, one)

pub two_covered : (drawing : Drawing) (pixel bit : ℕ) → bit < 89 → has_bit drawing.word bit ≡ true
    → has_bit drawing.word (bit + 1) ≡ true
    → held_edge drawing pixel (bit + 2) ≤ held_edge drawing pixel bit + covered drawing pixel
two_covered drawing pixel bit h first second =
    let is = covered_is drawing pixel in
    let both = two_lit (held_edge drawing pixel) (has_bit drawing.word) (held_up drawing pixel) bit 90
    (omega (arith, h)) first second in
    omega (arith, is, both)

pub dark_left : (drawing : Drawing) (pixel bit : ℕ) → bit < 90 → has_bit drawing.word bit ≡ false
    → covered drawing pixel + held_edge drawing pixel 0 + held_edge drawing pixel (bit + 1)
    ≤ held_edge drawing pixel 90 + held_edge drawing pixel bit
dark_left drawing pixel bit h isnt =
    let is = covered_is drawing pixel in
    let up = held_up drawing pixel bit in
    let one = dark_part (held_edge drawing pixel) (has_bit drawing.word) (held_up drawing pixel) bit 90 h isnt in
    omega (arith, is, one, up)

pub two_left : (drawing : Drawing) (pixel bit : ℕ) → bit < 89 → has_bit drawing.word bit ≡ false
    → has_bit drawing.word (bit + 1) ≡ false
    → covered drawing pixel + held_edge drawing pixel 0 + held_edge drawing pixel (bit + 2)
    ≤ held_edge drawing pixel 90 + held_edge drawing pixel bit
two_left drawing pixel bit h first second =
    let is = covered_is drawing pixel in
    let up = held_up drawing pixel bit in
    let next = held_up drawing pixel (bit + 1) in
    let e : bit + 1 + 1 ≡ bit + 2 = omega arith in
    let same = ap (held_edge drawing pixel) e in
    let both = two_dark (held_edge drawing pixel) (has_bit drawing.word) (held_up drawing pixel) bit 90
    (omega (arith, h)) first second in
    omega (arith, is, both, up, next, same)

-- ---- what the level of a pixel says of that

-- 46,080 elevenths of the swing are too many for 4,189
many_covered : (swing part : ℕ) → 0 < swing → 46080 * swing ≤ 11 * (swing * part) → 4190 ≤ part
many_covered swing part some h =
    let cases : (part ≤ 4189) ⊎ (4190 ≤ part) = grind arith in
    elim cases [
      | inl few ↦ let m = mul-le-mul_left swing few in absurd (omega (arith, m, h, some))
      | inr many ↦ many
    ]

few_covered : (swing part : ℕ) → 0 < swing → 11 * (swing * part) < 66560 * swing → part ≤ 6050
few_covered swing part some h =
    let cases : (part ≤ 6050) ⊎ (6051 ≤ part) = grind arith in
    elim cases [
      | inl few ↦ few
      | inr many ↦ let m = mul-le-mul_left swing many in absurd (omega (arith, m, h))
    ]

light_means : (row : List ℕ) (pixel : ℕ) → is_light row pixel ≡ true
    → darkest row + lightest row ≤ 2 * get_or row pixel 0
light_means row pixel is = grind (arith, nat_tests)

dark_means : (row : List ℕ) (pixel : ℕ) → is_light row pixel ≡ false
    → 2 * get_or row pixel 0 < darkest row + lightest row
dark_means row pixel is = grind (arith, nat_tests)

light_of_covered : (drawing : Drawing) (pixel : ℕ)
    → pixel_light drawing pixel ≡ 10240 * drawing.dark + drawing.swing * covered drawing pixel
unfolding pixel_light
light_of_covered drawing pixel = refl

pub light_covers : (drawing : Drawing) (row : List ℕ) (pixel : ℕ) → IsDrawn drawing row
    → IsClean drawing (length row) → 20480 ≤ drawing.cell → pixel < length row → is_light row pixel ≡ true
    → 4190 ≤ covered drawing pixel
light_covers drawing row pixel is clean wide within light =
    let level = light_means row pixel light in
    let some : 0 < drawing.swing = omega (arith, is.of_row.levels) in
    let dark = light_enough drawing row is in
    let bright = lightest_least drawing row is wide in
    let most = is.most pixel within in
    let parts = light_of_covered drawing pixel in
    let quiet = clean.quiet in
    many_covered drawing.swing (covered drawing pixel) some (omega (arith, level, dark, bright, most, parts, quiet))

pub dark_covers : (drawing : Drawing) (row : List ℕ) (pixel : ℕ) → IsDrawn drawing row
    → IsClean drawing (length row) → 20480 ≤ drawing.cell → pixel < length row → is_light row pixel ≡ false
    → covered drawing pixel ≤ 6050
dark_covers drawing row pixel is clean wide within isnt =
    let level = dark_means row pixel isnt in
    let some : 0 < drawing.swing = omega (arith, is.of_row.levels) in
    let dark = dark_enough drawing row is wide in
    let bright = lightest_most drawing row is in
    let least = is.least pixel within in
    let parts = light_of_covered drawing pixel in
    let quiet = clean.quiet in
    few_covered drawing.swing (covered drawing pixel) some (omega (arith, level, dark, bright, least, parts, quiet))
