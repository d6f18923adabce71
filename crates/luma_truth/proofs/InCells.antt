-- What the cores of a place say of the cells of a word there: how light each is at least and at most.
use Rattle.std.proofs.Common.{◌≡◌, ℕ, ◌+◌, ◌-◌, ◌*◌, ◌/◌, ◌%◌, ◌<◌, ◌≤◌, ◌⊎◌, inl, inr, true, false, List, length}
use Rattle.std.proofs.Common.{get_or, refl, subst, arith}
use Rattle.std.proofs.Math.Nat.{mul-le-mul_left}
use Rattle.std.proofs.lemmas.List.FromFn.{get_or-map-range_with_len}
use Rattle.luma_row.specs.declared.place.Place.{Place}
use Rattle.luma_row.specs.Cells.{cell, cells_of}
use Rattle.luma_row.specs.Light.{darkest, light}
use Rattle.luma_row.specs.Place.{apart, eighth}
use Rattle.luma_truth.specs.Drawing.{edge, has_bit, Drawing, IsDrawn}
use Rattle.luma_truth.specs.Inside.{core, LiesInside}
use Rattle.luma_truth.proofs.InHalves.{bright_least, bright_most, dark_least, dark_most}
use Rattle.luma_truth.proofs.InCores.{bright_core, dark_core, light_at_least, light_at_most, Core}

-- a core has the whole sixteenths of six eighths of a cell, or one more
pub long_enough : (first apart bit : ℕ) → 7 * apart ≤ 640 * first
    → (640 * first + apart * (8 * bit + 1) - 8 * apart) / 640 + 6 * apart / 640
    ≤ (640 * first + apart * (8 * bit + 7) - 8 * apart) / 640
long_enough first apart bit h = omega arith

short_enough : (first apart bit : ℕ) → 7 * apart ≤ 640 * first
    → (640 * first + apart * (8 * bit + 7) - 8 * apart) / 640
    ≤ (640 * first + apart * (8 * bit + 1) - 8 * apart) / 640 + 6 * apart / 640 + 1
short_enough first apart bit h = omega arith

-- A place where a word is read: its cores are long, and lie in the cells. The darkest pixel of the row is `less` levels
-- below the level of a 0, or by the noise `over` levels above it.
pub record Reading (drawing : Drawing) (row : List ℕ) (place : Place) (less over : ℕ) : Type 0 where
  pub drawn : IsDrawn drawing row
  pub inside : LiesInside drawing place
  pub long : 32 ≤ core place
  pub split : drawing.dark + over ≡ darkest row + less
  pub quiet : 2 * over ≤ drawing.noise

-- the last cell ends in the row
ends_in_row : (drawing : Drawing) (row : List ℕ) (bit end : ℕ) → IsDrawn drawing row → bit < 90
    → 640 * end ≤ edge drawing (bit + 1) → end ≤ 16 * length row
ends_in_row drawing row bit end is h before =
    let few : bit + 1 ≤ 90 = omega arith in
    let m = mul-le-mul_left drawing.cell few in
    let within = is.of_row.within in
    omega (arith, m, within)

-- the parts of the core of a bit
core_of : (drawing : Drawing) (row : List ℕ) (place : Place) (less over bit begin end : ℕ)
    → Reading drawing row place less over → bit < 90
    → begin ≡ eighth place (8 * bit + 1) → end ≡ eighth place (8 * bit + 7)
    → Core drawing row bit begin (16 * ((begin + 15) / 16) - begin) ((begin + 15) / 16)
    (end / 16 - (begin + 15) / 16) (end / 16) (end % 16) end
core_of drawing row place less over bit begin end is h begin_is end_is =
    let begins = is.inside.begins bit h in
    let ends = is.inside.ends bit h in
    let at_begin : edge drawing bit ≤ 640 * begin = omega (arith, begins, begin_is) in
    let at_end : 640 * end ≤ edge drawing (bit + 1) = omega (arith, ends, end_is) in
    let long = is.long in
    let enough = long_enough place.first (apart place) bit is.inside.in_row in
    let far : begin + 32 ≤ end = omega (arith, enough, long, begin_is, end_is) in
    record {
      drawn = is.drawn;
      bit_is = h;
      left_is = omega arith;
      left_few = omega arith;
      pixels = omega (arith, far);
      right_is = omega arith;
      right_few = omega arith;
      begins = at_begin;
      ends = at_end;
      within = ends_in_row drawing row bit end is.drawn h at_end;
    }

-- how many sixteenths a core has
pub length_of : (place : Place) (bit begin end : ℕ) → 7 * apart place ≤ 640 * place.first
    → begin ≡ eighth place (8 * bit + 1) → end ≡ eighth place (8 * bit + 7)
    → (begin + (end - begin) ≡ end) × ((end - begin ≡ core place) ⊎ (end - begin ≡ core place + 1))
length_of place bit begin end h begin_is end_is =
    let long = long_enough place.first (apart place) bit h in
    let short = short_enough place.first (apart place) bit h in
    let a : begin + core place ≤ end = omega (arith, long, begin_is, end_is) in
    let b : end ≤ begin + core place + 1 = omega (arith, short, begin_is, end_is) in
    let e : begin + (end - begin) ≡ end = omega (arith, a) in
    let cases : (end - begin ≡ core place) ⊎ (end - begin ≡ core place + 1) = grind (arith, a, b) in
    (e, cases)

-- the light of a cell in the list of all
pub cell_is : (row : List ℕ) (place : Place) (bit : ℕ) → bit < 90
    → get_or (cells_of row place) bit 0 ≡ cell row place bit
cell_is row place bit h = get_or-map-range_with_len (cell row place) 0 90 bit bit 0 h (omega arith)

-- how light the cells are
pub record AreLit (drawing : Drawing) (less over core : ℕ) (cells : List ℕ) : Type 0 where
  pub ones_least : (bit : ℕ) → bit < 90 → has_bit drawing.word bit ≡ true
      → 2 * (less + drawing.swing) * core
      ≤ 2 * get_or cells bit 0 + 2 * over * (core + 1) + drawing.noise * (core + 1) + 16 * drawing.swing
  pub ones_most : (bit : ℕ) → bit < 90 → has_bit drawing.word bit ≡ true
      → 2 * get_or cells bit 0 + 2 * over * core
      ≤ 2 * (less + drawing.swing) * (core + 1) + drawing.noise * (core + 1)
  pub zeros_least : (bit : ℕ) → bit < 90 → has_bit drawing.word bit ≡ false
      → 2 * less * core ≤ 2 * get_or cells bit 0 + 2 * over * (core + 1) + drawing.noise * (core + 1)
  pub zeros_most : (bit : ℕ) → bit < 90 → has_bit drawing.word bit ≡ false
      → 2 * get_or cells bit 0 + 2 * over * core
      ≤ 2 * less * (core + 1) + drawing.noise * (core + 1) + 16 * drawing.swing

parts_are : (begin n end : ℕ) → begin + n ≡ end → begin + 32 ≤ end
    → 16 * ((begin + 15) / 16) - begin + 16 * (end / 16 - (begin + 15) / 16) + end % 16 ≡ n
parts_are begin n end is far = omega arith

one_least : (drawing : Drawing) (row : List ℕ) (place : Place) (less over bit : ℕ)
    → Reading drawing row place less over → bit < 90
    → has_bit drawing.word bit ≡ true
    → 2 * (less + drawing.swing) * core place
    ≤ 2 * get_or (cells_of row place) bit 0 + 2 * over * (core place + 1) + drawing.noise * (core place + 1)
    + 16 * drawing.swing
one_least drawing row place less over bit is h set =
    let begin = eighth place (8 * bit + 1) in
    let end = eighth place (8 * bit + 7) in
    let n = length_of place bit begin end is.inside.in_row refl refl in
    let long = is.long in
    let far : begin + 32 ≤ end = elim n.1 [
      | inl e ↦ omega (arith, n.0, e, long)
      | inr e ↦ omega (arith, n.0, e, long)
    ] in
    let w = core_of drawing row place less over bit begin end is h refl refl in
    let lit = bright_core drawing row bit begin (16 * ((begin + 15) / 16) - begin) ((begin + 15) / 16)
    (end / 16 - (begin + 15) / 16) (end / 16) (end % 16) end w set in
    let parts = parts_are begin (end - begin) end n.0 far in
    let whole = subst (λ (m : ℕ). 10240 * light row begin + 10240 * (drawing.dark + drawing.swing) * m
    ≤ 10240 * light row end + 5120 * drawing.noise * m + 81920 * drawing.swing) parts lit in
    bright_least drawing.dark drawing.swing drawing.noise (darkest row) less over (core place) (end - begin)
    (light row begin) (light row end) (get_or (cells_of row place) bit 0) n.1 is.split whole (cell_is row place bit h)

zero_most : (drawing : Drawing) (row : List ℕ) (place : Place) (less over bit : ℕ)
    → Reading drawing row place less over → bit < 90
    → has_bit drawing.word bit ≡ false
    → 2 * get_or (cells_of row place) bit 0 + 2 * over * core place
    ≤ 2 * less * (core place + 1) + drawing.noise * (core place + 1) + 16 * drawing.swing
zero_most drawing row place less over bit is h set =
    let begin = eighth place (8 * bit + 1) in
    let end = eighth place (8 * bit + 7) in
    let n = length_of place bit begin end is.inside.in_row refl refl in
    let long = is.long in
    let far : begin + 32 ≤ end = elim n.1 [
      | inl e ↦ omega (arith, n.0, e, long)
      | inr e ↦ omega (arith, n.0, e, long)
    ] in
    let w = core_of drawing row place less over bit begin end is h refl refl in
    let lit = dark_core drawing row bit begin (16 * ((begin + 15) / 16) - begin) ((begin + 15) / 16)
    (end / 16 - (begin + 15) / 16) (end / 16) (end % 16) end w set in
    let parts = parts_are begin (end - begin) end n.0 far in
    let whole = subst (λ (m : ℕ). 10240 * light row end
    ≤ 10240 * light row begin + (10240 * drawing.dark + 5120 * drawing.noise) * m + 81920 * drawing.swing) parts lit in
    dark_most drawing.dark drawing.swing drawing.noise (darkest row) less over (core place) (end - begin)
    (light row begin) (light row end) (get_or (cells_of row place) bit 0) n.1 is.split is.quiet whole
    (cell_is row place bit h)

-- the end of the core lies in the row
within_row : (drawing : Drawing) (row : List ℕ) (place : Place) (less over bit : ℕ)
    → Reading drawing row place less over → bit < 90
    → eighth place (8 * bit + 7) ≤ 16 * length row
within_row drawing row place less over bit is h =
    ends_in_row drawing row bit (eighth place (8 * bit + 7)) is.drawn h (is.inside.ends bit h)

one_most : (drawing : Drawing) (row : List ℕ) (place : Place) (less over bit : ℕ)
    → Reading drawing row place less over → bit < 90
    → 2 * get_or (cells_of row place) bit 0 + 2 * over * core place
    ≤ 2 * (less + drawing.swing) * (core place + 1) + drawing.noise * (core place + 1)
one_most drawing row place less over bit is h =
    let begin = eighth place (8 * bit + 1) in
    let end = eighth place (8 * bit + 7) in
    let n = length_of place bit begin end is.inside.in_row refl refl in
    let lit = light_at_most drawing row begin (end - begin) end is.drawn n.0
    (within_row drawing row place less over bit is h) in
    bright_most drawing.dark drawing.swing drawing.noise (darkest row) less over (core place) (end - begin)
    (light row begin) (light row end) (get_or (cells_of row place) bit 0) n.1 is.split is.quiet lit
    (cell_is row place bit h)

zero_least : (drawing : Drawing) (row : List ℕ) (place : Place) (less over bit : ℕ)
    → Reading drawing row place less over → bit < 90
    → 2 * less * core place
    ≤ 2 * get_or (cells_of row place) bit 0 + 2 * over * (core place + 1) + drawing.noise * (core place + 1)
zero_least drawing row place less over bit is h =
    let begin = eighth place (8 * bit + 1) in
    let end = eighth place (8 * bit + 7) in
    let n = length_of place bit begin end is.inside.in_row refl refl in
    let lit = light_at_least drawing row begin (end - begin) end is.drawn n.0
    (within_row drawing row place less over bit is h) in
    dark_least drawing.dark drawing.noise (darkest row) less over (core place) (end - begin) (light row begin)
    (light row end) (get_or (cells_of row place) bit 0) n.1 is.split lit (cell_is row place bit h)

-- the cells of a word at the place are as light as this
pub are_lit : (drawing : Drawing) (row : List ℕ) (place : Place) (less over : ℕ)
    → Reading drawing row place less over → AreLit drawing less over (core place) (cells_of row place)
are_lit drawing row place less over is = record {
  ones_least = λ bit h set. one_least drawing row place less over bit is h set;
  ones_most = λ bit h set. one_most drawing row place less over bit is h;
  zeros_least = λ bit h set. zero_least drawing row place less over bit is h;
  zeros_most = λ bit h set. zero_most drawing row place less over bit is h set;
}

-- a cell is as wide as its core
pub wide_cell : (drawing : Drawing) (place : Place) → LiesInside drawing place → 32 ≤ core place
    → 20480 ≤ drawing.cell
wide_cell drawing place inside long =
    let begins = inside.begins 1 (omega arith) in
    let ends = inside.ends 1 (omega arith) in
    let enough = long_enough place.first (apart place) 1 inside.in_row in
    omega (arith, begins, ends, enough, long)
