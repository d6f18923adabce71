-- In a clean drawing the light of a row falls where a 1 ends and no 1 follows, and nowhere else: at most six tenths of a
-- pixel away from there.
use Rattle.std.proofs.Common.{◌≡◌, ℕ, zero, suc, ◌+◌, ◌-◌, ◌*◌, ◌/◌, ◌<◌, ◌≤◌, ◌⊎◌, inl, inr, Bool, true, false}
use Rattle.std.proofs.Common.{not, ◌&&◌, List, length, refl, ap₂, subst, sym, arith}
use Rattle.std.proofs.Math.Nat.{mul-le-mul_left}
use Rattle.luma_row.specs.Edges.{is_falling, is_light}
use Rattle.luma_truth.specs.Clean.{IsClean}
use Rattle.luma_truth.specs.Drawing.{edge, has_bit, Drawing, IsDrawn}
use Rattle.luma_truth.proofs.Covered.{all_covered, dark_covers, dark_left, light_covers, lit_covered, two_covered, two_left}

either : (b : Bool) → (b ≡ true) ⊎ (b ≡ false)
either true = inl refl
either false = inr refl

-- a row that is a clean drawing, whose cells have seven pixels or more
pub record IsPlain (drawing : Drawing) (row : List ℕ) : Type 0 where
  pub drawn : IsDrawn drawing row
  pub clean : IsClean drawing (length row)
  pub wide : 72960 ≤ drawing.cell

-- the light falls near where so many cells have ended, of which the last is a 1, and no 1 follows
pub record FallsNear (drawing : Drawing) (pixel cells : ℕ) : Type 0 where
  pub some : 1 ≤ cells
  pub few : cells ≤ 90
  pub one : has_bit drawing.word (cells - 1) ≡ true
  pub zero_next : cells < 90 → has_bit drawing.word cells ≡ false
  pub late : 10240 * pixel ≤ edge drawing cells + 6050
  pub early : edge drawing cells ≤ 10240 * pixel + 6050

-- a falling edge has a light pixel before it
record Falls (row : List ℕ) (before pixel : ℕ) : Type 0 where
  pub next : before + 1 ≡ pixel
  pub light : is_light row before ≡ true
  pub dark : is_light row pixel ≡ false

falls_parts : (a b : Bool) → (a && not b) ≡ true → (a ≡ true) × (b ≡ false)
falls_parts true false is = (refl, refl)
falls_parts true true is = absurd (cc)
falls_parts false b is = absurd (cc)

falls_between : (row : List ℕ) (pixel : ℕ) → is_falling row pixel ≡ true → (before : ℕ) × Falls row before pixel
falls_between row zero is =
    let parts = falls_parts (is_light row 0) (is_light row 0) is in
    let light = parts.0 in
    let dark = parts.1 in
    absurd (cc (light, dark))
falls_between row (suc n) is =
    let e : suc n - 1 ≡ n = omega arith in
    let parts = falls_parts (is_light row (suc n - 1)) (is_light row (suc n)) is in
    (n, record { next = omega arith; light = subst (λ (k : ℕ). is_light row k ≡ true) e parts.0; dark = parts.1 })

pub falls_there : (row : List ℕ) (before pixel : ℕ) → before + 1 ≡ pixel → is_light row before ≡ true
    → is_light row pixel ≡ false → is_falling row pixel ≡ true
falls_there row before pixel next light dark =
    let e : pixel - 1 ≡ before = omega (arith, next) in
    let first = subst (λ (k : ℕ). is_light row k ≡ true) (sym e) light in
    ap₂ (λ (a b : Bool). a && not b) first dark

-- the cell in which a place lies
cell_at : (drawing : Drawing) (place n : ℕ) → edge drawing 0 < place → place ≤ edge drawing n
    → (bit : ℕ) × (bit < n) × (edge drawing bit < place) × (place ≤ edge drawing (bit + 1))
cell_at drawing place zero before behind = absurd (omega (arith, before, behind))
cell_at drawing place (suc n) before behind =
    let s : suc n ≡ n + 1 = omega arith in
    let cases : (place ≤ edge drawing n) ⊎ (edge drawing n < place) = grind arith in
    elim cases [
      | inl inside ↦ let found = cell_at drawing place n before inside in
          let less = found.1 in
          (found.0, omega (arith, less), found.2, found.3)
      | inr here ↦ (n, omega arith, here, subst (λ (k : ℕ). place ≤ edge drawing k) s behind)
    ]

-- the first and the last cell
ends_apart : (drawing : Drawing) → edge drawing 90 ≡ edge drawing 0 + 90 * drawing.cell
ends_apart drawing = omega arith

-- ---- where the light falls in the midst of the word

-- behind the pixel that is light the cell goes on
within_cell : (drawing : Drawing) (row : List ℕ) (before pixel bit : ℕ) → IsPlain drawing row → Falls row before pixel
    → pixel < length row → bit < 90 → edge drawing bit ≤ 10240 * before → 10240 * pixel ≤ edge drawing (bit + 1)
    → FallsNear drawing pixel (bit + 1)
within_cell drawing row before pixel bit is falls within h begins ends =
    let next = falls.next in
    let wide = is.wide in
    let narrow : 20480 ≤ drawing.cell = omega (arith, wide) in
    let much = light_covers drawing row before is.drawn is.clean narrow (omega (arith, within, next)) falls.light in
    let little = dark_covers drawing row pixel is.drawn is.clean narrow within falls.dark in
    let one : has_bit drawing.word bit ≡ true = elim (either (has_bit drawing.word bit)) [
      | inl set ↦ set
      | inr isnt ↦ let left = dark_left drawing before bit h isnt in
          absurd (omega (arith, left, much, begins, ends, next))
    ] in
    let here = lit_covered drawing pixel bit h one in
    let near : edge drawing (bit + 1) ≤ 10240 * pixel + 6050 = omega (arith, here, little, begins, ends, next) in
    record {
      some = omega arith;
      few = omega (arith, h);
      one = let e : bit + 1 - 1 ≡ bit = omega arith in subst (λ (k : ℕ). has_bit drawing.word k ≡ true) (sym e) one;
      zero_next = λ more. elim (either (has_bit drawing.word (bit + 1))) [
        | inr isnt ↦ isnt
        | inl set ↦ let both = two_covered drawing pixel bit (omega (arith, more)) one set in
            absurd (omega (arith, both, little, begins, ends, next, wide))
      ];
      late = omega (arith, ends);
      early = near;
    }

-- a cell begins in the pixel that is light
from_cell : (drawing : Drawing) (row : List ℕ) (before pixel bit : ℕ) → IsPlain drawing row → Falls row before pixel
    → pixel < length row → bit < 90 → 10240 * before < edge drawing bit → edge drawing bit < 10240 * pixel
    → FallsNear drawing pixel bit
from_cell drawing row before pixel zero is falls within h inside begins =
    let next = falls.next in
    let wide = is.wide in
    let narrow : 20480 ≤ drawing.cell = omega (arith, wide) in
    let little = dark_covers drawing row pixel is.drawn is.clean narrow within falls.dark in
    let here = lit_covered drawing pixel 0 h (is.drawn.of_row.ones 0 (omega arith)) in
    absurd (omega (arith, here, little, begins, inside, next, wide))
from_cell drawing row before pixel (suc k) is falls within h inside begins =
    let s : suc k ≡ k + 1 = omega arith in
    let at : edge drawing (suc k) ≡ edge drawing k + drawing.cell = omega arith in
    let more : edge drawing (k + 2) ≡ edge drawing k + 2 * drawing.cell = omega arith in
    let same : edge drawing (k + 1) ≡ edge drawing k + drawing.cell = omega arith in
    let next = falls.next in
    let wide = is.wide in
    let narrow : 20480 ≤ drawing.cell = omega (arith, wide) in
    let much = light_covers drawing row before is.drawn is.clean narrow (omega (arith, within, next)) falls.light in
    let little = dark_covers drawing row pixel is.drawn is.clean narrow within falls.dark in
    let isnt : has_bit drawing.word (k + 1) ≡ false = elim (either (has_bit drawing.word (k + 1))) [
      | inr isnt ↦ isnt
      | inl set ↦ let here = lit_covered drawing pixel (k + 1) (omega (arith, h)) set in
          absurd (omega (arith, here, little, begins, inside, next, wide, at, same))
    ] in
    let one : has_bit drawing.word k ≡ true = elim (either (has_bit drawing.word k)) [
      | inl set ↦ set
      | inr none ↦ let left = two_left drawing before k (omega (arith, h)) none isnt in
          absurd (omega (arith, left, much, begins, inside, next, wide, at, more))
    ] in
    let left = dark_left drawing before (k + 1) (omega (arith, h)) isnt in
    let near : 10240 * before + 4190 ≤ edge drawing (k + 1) =
    omega (arith, left, much, begins, inside, next, wide, at, same) in
    record {
      some = omega arith;
      few = omega (arith, h);
      one = let e : suc k - 1 ≡ k = omega arith in subst (λ (j : ℕ). has_bit drawing.word j ≡ true) (sym e) one;
      zero_next = λ more. subst (λ (j : ℕ). has_bit drawing.word j ≡ false) (sym s) isnt;
      late = omega (arith, near, next, at, same);
      early = omega (arith, begins);
    }

-- ---- before the word and behind it

not_before : (drawing : Drawing) (row : List ℕ) (before pixel : ℕ) → IsPlain drawing row → Falls row before pixel
    → pixel < length row → 10240 * pixel ≤ edge drawing 0 → ⊥
not_before drawing row before pixel is falls within early =
    let next = falls.next in
    let wide = is.wide in
    let narrow : 20480 ≤ drawing.cell = omega (arith, wide) in
    let much = light_covers drawing row before is.drawn is.clean narrow (omega (arith, within, next)) falls.light in
    let all = all_covered drawing before in
    let apart = ends_apart drawing in
    omega (arith, much, all, next, early, apart)

-- the last cell ends in the pixel that is light
at_the_end : (drawing : Drawing) (row : List ℕ) (before pixel : ℕ) → IsPlain drawing row → Falls row before pixel
    → pixel < length row → edge drawing 90 < 10240 * pixel → FallsNear drawing pixel 90
at_the_end drawing row before pixel is falls within late =
    let next = falls.next in
    let wide = is.wide in
    let narrow : 20480 ≤ drawing.cell = omega (arith, wide) in
    let much = light_covers drawing row before is.drawn is.clean narrow (omega (arith, within, next)) falls.light in
    let all = all_covered drawing before in
    let apart = ends_apart drawing in
    let last : edge drawing 90 ≡ edge drawing 89 + drawing.cell = omega arith in
    let one : has_bit drawing.word 89 ≡ true = elim (either (has_bit drawing.word 89)) [
      | inl set ↦ set
      | inr isnt ↦ let left = dark_left drawing before 89 (omega arith) isnt in
          absurd (omega (arith, left, much, all, next, late, apart, last, wide))
    ] in
    record {
      some = omega arith;
      few = omega arith;
      one = one;
      zero_next = λ more. absurd (omega (arith, more));
      late = omega (arith, much, all, next, late, apart, wide);
      early = omega (arith, late);
    }

pub near_an_edge : (drawing : Drawing) (row : List ℕ) (pixel : ℕ) → IsPlain drawing row → pixel < length row
    → is_falling row pixel ≡ true → (cells : ℕ) × FallsNear drawing pixel cells
near_an_edge drawing row pixel is within falling =
    let found = falls_between row pixel falling in
    let before = found.0 in
    let falls = found.1 in
    let next = falls.next in
    let cases : (10240 * pixel ≤ edge drawing 0) ⊎ (edge drawing 0 < 10240 * pixel) = grind arith in
    elim cases [
      | inl early ↦ absurd (not_before drawing row before pixel is falls within early)
      | inr behind ↦
          let others : (10240 * pixel ≤ edge drawing 90) ⊎ (edge drawing 90 < 10240 * pixel) = grind arith in
          elim others [
            | inr late ↦ (90, at_the_end drawing row before pixel is falls within late)
            | inl inside ↦
                let cell = cell_at drawing (10240 * pixel) 90 behind inside in
                let bit = cell.0 in
                let halves : (edge drawing bit ≤ 10240 * before) ⊎ (10240 * before < edge drawing bit) = grind arith in
                elim halves [
                  | inl whole ↦
                      (bit + 1, within_cell drawing row before pixel bit is falls within cell.1 whole cell.3)
                  | inr part ↦ (bit, from_cell drawing row before pixel bit is falls within cell.1 part cell.2)
                ]
          ]
    ]

-- ---- where a 1 ends and a 0 follows the light falls

pub record FallsAt (drawing : Drawing) (row : List ℕ) (cells : ℕ) : Type 0 where
  pub pixel : ℕ
  pub within : pixel < length row
  pub falling : is_falling row pixel ≡ true
  pub late : 10240 * pixel ≤ edge drawing cells + 10240
  pub early : edge drawing cells ≤ 10240 * pixel + 10240

pub falls_at_each : (drawing : Drawing) (row : List ℕ) (bit : ℕ) → IsPlain drawing row → bit < 89
    → has_bit drawing.word bit ≡ true → has_bit drawing.word (bit + 1) ≡ false → FallsAt drawing row (bit + 1)
falls_at_each drawing row bit is h one zero_is =
    let wide = is.wide in
    let narrow : 20480 ≤ drawing.cell = omega (arith, wide) in
    let pixel = edge drawing (bit + 1) / 10240 in
    let begin : edge drawing (bit + 1) ≡ edge drawing bit + drawing.cell = omega arith in
    let end : edge drawing (bit + 2) ≡ edge drawing (bit + 1) + drawing.cell = omega arith in
    let few : bit + 2 ≤ 90 = omega (arith, h) in
    let m = mul-le-mul_left drawing.cell few in
    let room = is.drawn.of_row.within in
    let inside : pixel + 2 ≤ length row = omega (arith, begin, end, m, room, wide) in
    let before : 1 ≤ pixel = omega (arith, begin, wide) in
    let light : is_light row (pixel - 1) ≡ true = elim (either (is_light row (pixel - 1))) [
      | inl set ↦ set
      | inr isnt ↦
          let little = dark_covers drawing row (pixel - 1) is.drawn is.clean narrow (omega (arith, inside)) isnt in
          let here = lit_covered drawing (pixel - 1) bit (omega (arith, h)) one in
          absurd (omega (arith, little, here, begin, before, wide))
    ] in
    let dark : is_light row (pixel + 1) ≡ false = elim (either (is_light row (pixel + 1))) [
      | inr isnt ↦ isnt
      | inl set ↦
          let much = light_covers drawing row (pixel + 1) is.drawn is.clean narrow (omega (arith, inside)) set in
          let left = dark_left drawing (pixel + 1) (bit + 1) (omega (arith, h)) zero_is in
          let e : bit + 1 + 1 ≡ bit + 2 = omega arith in
          absurd (omega (arith, much, left, begin, end, wide, e))
    ] in
    elim (either (is_light row pixel)) [
      | inl set ↦ record {
        pixel = pixel + 1;
        within = omega (arith, inside);
        falling = falls_there row pixel (pixel + 1) refl set dark;
        late = omega arith;
        early = omega arith;
      }
      | inr isnt ↦ record {
        pixel = pixel;
        within = omega (arith, inside);
        falling = falls_there row (pixel - 1) pixel (omega (arith, before)) light isnt;
        late = omega arith;
        early = omega arith;
      }
    ]
