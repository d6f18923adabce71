-- Starts and distances that are looked at keep the nine sync pairs within the row.
use Rattle.std.proofs.Common.{◌≡◌, ℕ, ◌+◌, ◌-◌, ◌*◌, ◌/◌, ◌<◌, ◌≤◌, ◌⊎◌, inl, inr, ap, arith}
use Rattle.std.proofs.Math.Nat.{mul-le-mul_left, mul-div-le}
use Rattle.luma_row.specs.Coarse.{pixel_of, step_to}
use Rattle.luma_row.specs.KeptWidth.{IsWidth}
use Rattle.luma_row.specs.Width.{earliest, end, grain, start, starts}

-- a sync pair behind the first stands in the row
pub step_within : (width apart pixel pair step : ℕ) → pair < 9 → step ≡ step_to apart pair
    → 16 * pixel + apart + 16 < 16 * width
    → pixel + step < width
step_within width apart pixel pair step h is within =
    let few : pair ≤ 8 = omega arith in
    let m = mul-le-mul_left apart few in
    omega (arith, m, is)

-- room for starts behind the earliest
abbrev room : ℕ → ℕ → ℕ
room width apart = end width - 89 * apart / 80 - earliest width

start_in_room : (width apart number : ℕ) → number < starts width apart → grain width * number ≤ room width apart
start_in_room width apart number h =
    let q : number ≤ room width apart / grain width = omega arith in
    let m = mul-le-mul_left (grain width) q in
    let d = mul-div-le (room width apart) (grain width) in
    omega (arith, m, d)

pub few_starts : (width apart number : ℕ) → IsWidth width → 12 * width ≤ apart → number < starts width apart
    → number ≤ 256
few_starts width apart number is narrow h =
    let r = start_in_room width apart number h in
    let a = is.0 in
    let b = is.1 in
    let many : 257 ≤ number → ⊥ = λ k. let m = mul-le-mul_left (grain width) k in omega (arith, r, m, a, b, narrow) in
    let cases : (number ≤ 256) ⊎ (257 ≤ number) = grind arith in
    elim cases [ inl few ↦ few | inr k ↦ absurd (many k) ]

pub start_early : (width apart number : ℕ) → IsWidth width → 12 * width ≤ apart → number < starts width apart
    → start width number ≤ 4 * width
start_early width apart number is narrow h =
    let r = start_in_room width apart number h in
    let a = is.0 in
    omega (arith, r, a, narrow)

start_within : (width apart number : ℕ) → IsWidth width → 12 * width ≤ apart → apart ≤ 14 * width
    → number < starts width apart
    → start width number + apart + 24 < 16 * width
start_within width apart number is narrow wide h =
    let r = start_in_room width apart number h in
    let a = is.0 in
    omega (arith, r, a, narrow, wide)

-- the word of the last start stands in the row
pub last_within : (width apart last : ℕ) → IsWidth width → 12 * width ≤ apart → apart ≤ 14 * width
    → last ≡ pixel_of (start width (starts width apart - 1))
    → 16 * (last + 1) + apart < 16 * width
last_within width apart last is narrow wide at =
    let h : starts width apart - 1 < starts width apart = omega arith in
    let w = start_within width apart (starts width apart - 1) is narrow wide h in
    omega (arith, w, at)

-- no start is behind the last
pub before_last : (width apart number : ℕ) → number < starts width apart
    → pixel_of (start width number) ≤ pixel_of (start width (starts width apart - 1))
before_last width apart number h =
    let few : number ≤ starts width apart - 1 = omega (arith, h) in
    let m = mul-le-mul_left (grain width) few in
    omega (arith, m)

-- where a grain is a pixel, the starts stand side by side
pub side_by_side : (width number : ℕ) → grain width ≡ 16
    → pixel_of (start width number) ≡ pixel_of (start width 0) + number
side_by_side width number pixel =
    let e : grain width * number ≡ 16 * number = ap (λ g. g * number) pixel in
    omega (arith, e)
