-- The cells of a drawing share a pixel out: so a pixel is as light as the part that a 1 covers makes it, and as dark as
-- the part that a 0 covers.
use Rattle.std.proofs.Common.{◌≡◌, ℕ, zero, suc, ◌+◌, ◌-◌, ◌*◌, ◌<◌, ◌≤◌, ◌⊎◌, inl, inr, Bool, true, false, cond, List}
use Rattle.std.proofs.Common.{length, get_or, refl, ap, subst, arith}
use Rattle.std.proofs.Math.Nat.{mul-le-mul_left}
use Rattle.luma_row.specs.Choice.{sum_of}
use Rattle.luma_truth.specs.Drawing.{edge, has_bit, held, pixel_light, share, Drawing, IsDrawn}

-- a part, if it is lit
abbrev pub part : (ℕ → ℕ) → (ℕ → Bool) → ℕ → ℕ
part places is_lit k = cond (is_lit k) (places (k + 1) - places k) 0

pub few_of : (is_lit : Bool) (x : ℕ) → cond is_lit x 0 ≤ x
few_of true x = omega arith
few_of false x = omega arith

pub sum_more : (n : ℕ) (f : ℕ → ℕ) → sum_of (n + 1) f ≡ sum_of n f + f n
unfolding sum_of
sum_more n f = let e : n + 1 ≡ suc n = omega arith in rw e refl

sum_none : (f : ℕ → ℕ) → sum_of 0 f ≡ 0
unfolding sum_of
sum_none f = refl

-- the parts that are lit are no more than all
pub parts_within : (places : ℕ → ℕ) (is_lit : ℕ → Bool) → ((k : ℕ) → places k ≤ places (k + 1)) → (n : ℕ)
    → sum_of n (part places is_lit) + places 0 ≤ places n
parts_within places is_lit up zero = let e = sum_none (part places is_lit) in omega (arith, e)
parts_within places is_lit up (suc n) =
    let before = parts_within places is_lit up n in
    let step = up n in
    let few = few_of (is_lit n) (places (n + 1) - places n) in
    let e = sum_more n (part places is_lit) in
    let s : suc n ≡ n + 1 = omega arith in
    rw s (omega (arith, before, step, few, e))

up_to : (places : ℕ → ℕ) → ((k : ℕ) → places k ≤ places (k + 1)) → (n : ℕ) → places 0 ≤ places n
up_to places up zero = omega arith
up_to places up (suc n) =
    let before = up_to places up n in
    let step = up n in
    let s : suc n ≡ n + 1 = omega arith in
    rw s (omega (arith, before, step))

-- one that is lit is among them
pub lit_part : (places : ℕ → ℕ) (is_lit : ℕ → Bool) (k n : ℕ) → k < n → is_lit k ≡ true
    → places (k + 1) - places k ≤ sum_of n (part places is_lit)
lit_part places is_lit k zero h is = absurd (omega arith)
lit_part places is_lit k (suc n) h is =
    let e = sum_more n (part places is_lit) in
    let s : suc n ≡ n + 1 = omega arith in
    let cases : (k < n) ⊎ (k ≡ n) = grind arith in
    elim cases [
      | inl less ↦ let before = lit_part places is_lit k n less is in rw s (omega (arith, before, e))
      | inr same ↦
          let here : part places is_lit n ≡ places (n + 1) - places n =
          rw (subst (λ m. is_lit m ≡ true) same is) refl in
          let there : places (k + 1) - places k ≡ places (n + 1) - places n =
          ap (λ m. places (m + 1) - places m) same in
          rw s (omega (arith, e, here, there))
    ]

-- one that is not lit is beside them
pub dark_part : (places : ℕ → ℕ) (is_lit : ℕ → Bool) → ((k : ℕ) → places k ≤ places (k + 1)) → (k n : ℕ) → k < n
    → is_lit k ≡ false → sum_of n (part places is_lit) + places 0 + (places (k + 1) - places k) ≤ places n
dark_part places is_lit up k zero h is = absurd (omega arith)
dark_part places is_lit up k (suc n) h is =
    let e = sum_more n (part places is_lit) in
    let s : suc n ≡ n + 1 = omega arith in
    let step = up n in
    let cases : (k < n) ⊎ (k ≡ n) = grind arith in
    elim cases [
      | inl less ↦
          let before = dark_part places is_lit up k n less is in
          let few = few_of (is_lit n) (places (n + 1) - places n) in
          rw s (omega (arith, before, few, e, step))
      | inr same ↦
          let here : part places is_lit n ≡ 0 = rw (subst (λ m. is_lit m ≡ false) same is) refl in
          let there : places (k + 1) - places k ≡ places (n + 1) - places n =
          ap (λ m. places (m + 1) - places m) same in
          let before = parts_within places is_lit up n in
          rw s (omega (arith, e, here, there, before, step))
    ]

-- the edges of the cells, brought into a pixel
abbrev pub held_edge : Drawing → ℕ → ℕ → ℕ
held_edge drawing pixel bit = held pixel (edge drawing bit)

pub held_up : (drawing : Drawing) (pixel bit : ℕ) → held_edge drawing pixel bit ≤ held_edge drawing pixel (bit + 1)
held_up drawing pixel bit = omega arith

-- a part of a pixel is as light as this, beside what is dark
mixed_light : (dark swing part all : ℕ) → part ≤ all → 10240 * dark + swing * part ≤ 10240 * dark + swing * all
mixed_light dark swing part all few = let m = mul-le-mul_left swing few in omega (arith, m)

mixed_dark : (dark swing part all : ℕ) → all + part ≤ 10240
    → 10240 * dark + swing * all + swing * part ≤ 10240 * (dark + swing)
mixed_dark dark swing part all few = let m = mul-le-mul_left swing few in omega (arith, m)

mixed_within : (dark swing all : ℕ) → all ≤ 10240 → 10240 * dark + swing * all ≤ 10240 * (dark + swing)
mixed_within dark swing all few = let m = mul-le-mul_left swing few in omega (arith, m)

-- what a pixel covers is at least as light as the part of a 1
pub lit_light : (drawing : Drawing) (pixel bit : ℕ) → bit < 90 → has_bit drawing.word bit ≡ true
    → 10240 * drawing.dark + drawing.swing * share drawing pixel bit ≤ pixel_light drawing pixel
unfolding pixel_light share
lit_light drawing pixel bit h is =
    mixed_light drawing.dark drawing.swing (held_edge drawing pixel (bit + 1) - held_edge drawing pixel bit)
    (sum_of 90 (part (held_edge drawing pixel) (has_bit drawing.word)))
    (lit_part (held_edge drawing pixel) (has_bit drawing.word) bit 90 h is)

all_within : (drawing : Drawing) (pixel n : ℕ) → n + held_edge drawing pixel 0 ≤ held_edge drawing pixel 90 → n ≤ 10240
all_within drawing pixel n h = omega arith

-- and at least as dark as that of a 0
pub dark_light : (drawing : Drawing) (pixel bit : ℕ) → bit < 90 → has_bit drawing.word bit ≡ false
    → pixel_light drawing pixel + drawing.swing * share drawing pixel bit ≤ 10240 * (drawing.dark + drawing.swing)
unfolding pixel_light share
dark_light drawing pixel bit h is =
    let places = held_edge drawing pixel in
    let all = sum_of 90 (part (held_edge drawing pixel) (has_bit drawing.word)) in
    let here = held_edge drawing pixel (bit + 1) - held_edge drawing pixel bit in
    let few = dark_part (held_edge drawing pixel) (has_bit drawing.word) (held_up drawing pixel) bit 90 h is in
    mixed_dark drawing.dark drawing.swing here all (all_within drawing pixel (all + here) (omega (arith, few)))

-- it is at least dark and at most light
pub drawn_light : (drawing : Drawing) (pixel : ℕ) → pixel_light drawing pixel ≤ 10240 * (drawing.dark + drawing.swing)
unfolding pixel_light share
drawn_light drawing pixel =
    let all = sum_of 90 (part (held_edge drawing pixel) (has_bit drawing.word)) in
    let few = parts_within (held_edge drawing pixel) (has_bit drawing.word) (held_up drawing pixel) 90 in
    mixed_within drawing.dark drawing.swing all (all_within drawing pixel all few)

pub drawn_dark : (drawing : Drawing) (pixel : ℕ) → 10240 * drawing.dark ≤ pixel_light drawing pixel
unfolding pixel_light
drawn_dark drawing pixel = omega arith

-- what is said of a pixel, where a part of it lies outside of the cell
left_out : (swing part outside : ℕ) → part + outside ≡ 10240 → swing * part + swing * outside ≡ 10240 * swing
left_out swing part outside is = let m = ap (λ (n : ℕ). swing * n) is in omega (arith, m)

pub bright_pixel : (drawing : Drawing) (row : List ℕ) (pixel bit outside : ℕ) → IsDrawn drawing row
    → pixel < length row → bit < 90 → has_bit drawing.word bit ≡ true
    → share drawing pixel bit + outside ≡ 10240
    → 10240 * (drawing.dark + drawing.swing)
    ≤ 10240 * get_or row pixel 0 + (drawing.swing * outside + 5120 * drawing.noise)
bright_pixel drawing row pixel bit outside is within h set rest =
    let light = lit_light drawing pixel bit h set in
    let least = is.least pixel within in
    let m = left_out drawing.swing (share drawing pixel bit) outside rest in
    omega (arith, light, least, m)

pub dark_pixel : (drawing : Drawing) (row : List ℕ) (pixel bit outside : ℕ) → IsDrawn drawing row
    → pixel < length row → bit < 90 → has_bit drawing.word bit ≡ false
    → share drawing pixel bit + outside ≡ 10240
    → 10240 * get_or row pixel 0 ≤ 10240 * drawing.dark + (drawing.swing * outside + 5120 * drawing.noise)
dark_pixel drawing row pixel bit outside is within h set rest =
    let light = dark_light drawing pixel bit h set in
    let most = is.most pixel within in
    let m = left_out drawing.swing (share drawing pixel bit) outside rest in
    omega (arith, light, most, m)

pub lightest_pixel : (drawing : Drawing) (row : List ℕ) (pixel : ℕ) → IsDrawn drawing row → pixel < length row
    → 10240 * get_or row pixel 0 ≤ 10240 * (drawing.dark + drawing.swing) + 5120 * drawing.noise
lightest_pixel drawing row pixel is within =
    let light = drawn_light drawing pixel in
    let most = is.most pixel within in
    omega (arith, light, most)

pub darkest_pixel : (drawing : Drawing) (row : List ℕ) (pixel : ℕ) → IsDrawn drawing row → pixel < length row
    → 10240 * drawing.dark ≤ 10240 * get_or row pixel 0 + 5120 * drawing.noise
darkest_pixel drawing row pixel is within =
    let dark = drawn_dark drawing pixel in
    let least = is.least pixel within in
    omega (arith, dark, least)
