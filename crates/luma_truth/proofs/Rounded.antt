-- A mean that is rounded to the nearest level lies within half a level of it.
use Rattle.std.proofs.Common.{◌≡◌, ℕ, ◌+◌, ◌/◌, ◌<◌, ◌≤◌, length, get_or, sym, subst, arith}
use Rattle.std.proofs.lemmas.List.FromFn.{get_or-map-range_with_len, length-map-range_with_len}
use Rattle.luma_truth.specs.Drawing.{pixel_light, rounded, Drawing, FitsARow, IsDrawn}

pub pixel_is : (drawing : Drawing) (width pixel : ℕ) → pixel < width
    → get_or (rounded drawing width) pixel 0 ≡ (pixel_light drawing pixel + 5120) / 10240
pixel_is drawing width pixel h =
    get_or-map-range_with_len (λ p. (pixel_light drawing p + 5120) / 10240) 0 width pixel pixel 0 h (omega arith)

pub length_is : (drawing : Drawing) (width : ℕ) → length (rounded drawing width) ≡ width
length_is drawing width = length-map-range_with_len (λ p. (pixel_light drawing p + 5120) / 10240) 0 width

pub rounded_is_drawn : (drawing : Drawing) (width : ℕ) → FitsARow drawing width → 1 ≤ drawing.noise
    → IsDrawn drawing (rounded drawing width)
rounded_is_drawn drawing width fits half =
    let long = length_is drawing width in
    record {
      of_row = subst (λ (n : ℕ). FitsARow drawing n) (sym long) fits;
      least = λ pixel h.
          let is = pixel_is drawing width pixel (omega (arith, h, long)) in
          omega (arith, is, half);
      most = λ pixel h.
          let is = pixel_is drawing width pixel (omega (arith, h, long)) in
          omega (arith, is, half);
    }
