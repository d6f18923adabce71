-- The margin of a drawing sets its 1s and 0s far enough apart, so a row that is drawn says its word.
use Rattle.std.proofs.Common.{◌≡◌, ℕ, ◌+◌, ◌-◌, ◌*◌, ◌<◌, ◌≤◌, ◌⊎◌, inl, inr, true, List, refl, sym, subst, arith}
use Rattle.std.proofs.Math.Nat.{mul-le-mul_left}
use Rattle.luma_row.specs.declared.levels.Levels.{Levels}
use Rattle.luma_row.specs.declared.place.Place.{Place}
use Rattle.luma_row.specs.declared.row.CodeRow.{CodeRow}
use Rattle.luma_row.specs.Cells.{cells_of, counts, swing}
use Rattle.luma_row.specs.Heights.{heights_of}
use Rattle.luma_row.specs.Levels.{number_of, says_bits}
use Rattle.luma_row.specs.Light.{darkest, IsRow}
use Rattle.luma_row.specs.Place.{apart}
use Rattle.luma_row.specs.Row.{IsCode, LiesAt}
use Rattle.luma_truth.specs.Drawing.{Drawing, IsDrawn}
use Rattle.luma_truth.specs.Inside.{core, HasMargin, IsEnough, LiesInside}
use Rattle.luma_truth.proofs.AllSay.{all_say, swing_least, AreApart, AreBetween, HasPairs, SayTheWord}
use Rattle.luma_truth.proofs.InCells.{are_lit, wide_cell, AreLit, Reading}
use Rattle.luma_truth.proofs.IsCarried.{contrast_is, dark_enough, light_enough}
use Rattle.luma_truth.proofs.OfBits.{number_is}
use Rattle.luma_truth.proofs.PairsCount.{pairs_count, six_levels}

-- the bounds of the light of a cell, twice
abbrev pub one_least : Drawing → ℕ → ℕ → ℕ → ℕ
one_least drawing less over core = 2 * (less + drawing.swing) * core
    - (2 * over * (core + 1) + drawing.noise * (core + 1) + 16 * drawing.swing)

abbrev pub one_most : Drawing → ℕ → ℕ → ℕ → ℕ
one_most drawing less over core = 2 * (less + drawing.swing) * (core + 1) + drawing.noise * (core + 1)
    - 2 * over * core

abbrev pub zero_least : Drawing → ℕ → ℕ → ℕ → ℕ
zero_least drawing less over core = 2 * less * core - (2 * over * (core + 1) + drawing.noise * (core + 1))

abbrev pub zero_most : Drawing → ℕ → ℕ → ℕ → ℕ
zero_most drawing less over core = 2 * less * (core + 1) + drawing.noise * (core + 1) + 16 * drawing.swing
    - 2 * over * core

-- 1s and 0s are far apart where the darkest pixel is below the level of a 0
below_apart : (swing noise less core : ℕ) → 0 < swing → IsEnough swing noise core → 2 * less ≤ noise
    → AreApart (2 * (less + swing) * core - (2 * 0 * (core + 1) + noise * (core + 1) + 16 * swing))
    (2 * (less + swing) * (core + 1) + noise * (core + 1) - 2 * 0 * core)
    (2 * less * core - (2 * 0 * (core + 1) + noise * (core + 1)))
    (2 * less * (core + 1) + noise * (core + 1) + 16 * swing - 2 * 0 * core)
below_apart swing noise less core some enough few = record {
  far = omega (arith, enough, few);
  shares = omega (arith, enough, few);
  order = omega (arith, some);
}

-- and where the noise lifts it above that
above_apart : (swing noise over core : ℕ) → 0 < swing → IsEnough swing noise core → 2 * over ≤ noise
    → 32 ≤ core
    → AreApart (2 * (0 + swing) * core - (2 * over * (core + 1) + noise * (core + 1) + 16 * swing))
    (2 * (0 + swing) * (core + 1) + noise * (core + 1) - 2 * over * core)
    (2 * 0 * core - (2 * over * (core + 1) + noise * (core + 1)))
    (2 * 0 * (core + 1) + noise * (core + 1) + 16 * swing - 2 * over * core)
above_apart swing noise over core some enough quiet long =
    let q = mul-le-mul_left core quiet in
    let r = mul-le-mul_left over long in
    record {
      far = omega (arith, enough, quiet, q, r);
      shares = omega (arith, enough, quiet, q, r);
      order = omega (arith, some, q);
    }

apart_enough : (drawing : Drawing) (less over core : ℕ) → 0 < drawing.swing
    → IsEnough drawing.swing drawing.noise core → 32 ≤ core → 2 * less ≤ drawing.noise
    → 2 * over ≤ drawing.noise → (over ≡ 0) ⊎ (less ≡ 0)
    → AreApart (one_least drawing less over core) (one_most drawing less over core)
    (zero_least drawing less over core) (zero_most drawing less over core)
apart_enough drawing less over core some enough long few quiet cases = elim cases [
  | inl none ↦
      subst (λ (k : ℕ). AreApart (one_least drawing less k core) (one_most drawing less k core)
      (zero_least drawing less k core) (zero_most drawing less k core)) (sym none)
      (below_apart drawing.swing drawing.noise less core some enough few)
  | inr none ↦
      subst (λ (k : ℕ). AreApart (one_least drawing k over core) (one_most drawing k over core)
      (zero_least drawing k over core) (zero_most drawing k over core)) (sym none)
      (above_apart drawing.swing drawing.noise over core some enough quiet long)
]

pub between_these : (drawing : Drawing) (less over core : ℕ) (cells : List ℕ) → AreLit drawing less over core cells
    → AreBetween drawing.word (one_least drawing less over core) (one_most drawing less over core)
    (zero_least drawing less over core) (zero_most drawing less over core) cells
between_these drawing less over core cells lit = record {
  ones_least = λ bit h set. let l = lit.ones_least bit h set in omega (arith, l);
  ones_most = λ bit h set. let l = lit.ones_most bit h set in omega (arith, l);
  zeros_least = λ bit h set. let l = lit.zeros_least bit h set in omega (arith, l);
  zeros_most = λ bit h set. let l = lit.zeros_most bit h set in omega (arith, l);
}

pub pairs_of : (drawing : Drawing) (row : List ℕ) → IsDrawn drawing row → HasPairs drawing.word
pairs_of drawing row is = record { ones = is.of_row.ones; zeros = is.of_row.zeros }

-- where there is a margin, the cores are long
long_core : (swing noise core : ℕ) → 0 < swing → IsEnough swing noise core → 32 ≤ core
long_core swing noise core some enough =
    let cases : (core ≤ 31) ⊎ (32 ≤ core) = grind arith in
    elim cases [
      | inl few ↦ let m = mul-le-mul_left swing few in absurd (omega (arith, m))
      | inr long ↦ long
    ]

-- how the darkest pixel differs from the level of a 0
pub record IsRead (drawing : Drawing) (row : List ℕ) (place : Place) : Type 0 where
  pub less : ℕ
  pub over : ℕ
  pub reading : Reading drawing row place less over
  pub few : 2 * less ≤ drawing.noise
  pub one : (over ≡ 0) ⊎ (less ≡ 0)

pub reading_of : (drawing : Drawing) (row : List ℕ) (place : Place) → IsDrawn drawing row → LiesInside drawing place
    → HasMargin drawing place → 0 < drawing.swing → IsRead drawing row place
reading_of drawing row place is inside enough some =
    let long = long_core drawing.swing drawing.noise (core place) some enough in
    let dark = dark_enough drawing row is (wide_cell drawing place inside long) in
    let light = light_enough drawing row is in
    let cases : (darkest row ≤ drawing.dark) ⊎ (drawing.dark ≤ darkest row) = grind arith in
    elim cases [
      | inl below ↦ record {
        less = drawing.dark - darkest row;
        over = 0;
        reading = record {
          drawn = is;
          inside = inside;
          long = long;
          split = omega (arith, below);
          quiet = omega arith;
        };
        few = omega (arith, below, light);
        one = inl refl;
      }
      | inr above ↦ record {
        less = 0;
        over = darkest row - drawing.dark;
        reading = record {
          drawn = is;
          inside = inside;
          long = long;
          split = omega (arith, above);
          quiet = omega (arith, above, dark);
        };
        few = omega arith;
        one = inr refl;
      }
    ]

-- levels of the cells at such a place say the word
levels_say : (drawing : Drawing) (row : List ℕ) (place : Place) (levels : Levels) → IsDrawn drawing row
    → LiesInside drawing place → HasMargin drawing place → 0 < drawing.swing
    → levels.swing ≡ swing (cells_of row place) → levels.heights ≡ heights_of (cells_of row place)
    → SayTheWord drawing.word levels
levels_say drawing row place levels is inside enough some swing_is heights_are =
    let read = reading_of drawing row place is inside enough some in
    let less = read.less in
    let over = read.over in
    let between = between_these drawing less over (core place) (cells_of row place)
    (are_lit drawing row place less over read.reading) in
    all_say drawing.word (one_least drawing less over (core place)) (one_most drawing less over (core place))
    (zero_least drawing less over (core place)) (zero_most drawing less over (core place)) (cells_of row place) levels
    between (pairs_of drawing row is)
    (apart_enough drawing less over (core place) some enough read.reading.long read.few read.reading.quiet read.one)
    swing_is heights_are

pub says_its_word : (drawing : Drawing) (row : List ℕ) (code : CodeRow) → IsDrawn drawing row → IsCode row code
    → LiesInside drawing code.place → HasMargin drawing code.place
    → (says_bits code.levels ≡ true) × (number_of code.levels ≡ drawing.word)
says_its_word drawing row code is read inside enough =
    let some : 0 < drawing.swing = omega (arith, is.of_row.levels) in
    let say = levels_say drawing row code.place code.levels is inside enough some read.swing_is read.heights_are in
    (say.said, number_is drawing.word code.levels is.of_row.bits say.bits)

-- the levels of the cells at a place
abbrev pub levels_at : List ℕ → Place → Levels
levels_at row place = record { swing = swing (cells_of row place); heights = heights_of (cells_of row place) }

abbrev pub code_at : List ℕ → Place → CodeRow
code_at row place = record { place = place; levels = levels_at row place }

count_at : (drawing : Drawing) (row : List ℕ) (place : Place) → IsDrawn drawing row → LiesInside drawing place
    → HasMargin drawing place → counts place (cells_of row place) ≡ true
count_at drawing row place is inside enough =
    let some : 0 < drawing.swing = omega (arith, is.of_row.levels) in
    let read = reading_of drawing row place is inside enough some in
    let less = read.less in
    let over = read.over in
    let between = between_these drawing less over (core place) (cells_of row place)
    (are_lit drawing row place less over read.reading) in
    let pairs = pairs_of drawing row is in
    let least = swing_least drawing.word (one_least drawing less over (core place))
    (one_most drawing less over (core place)) (zero_least drawing less over (core place))
    (zero_most drawing less over (core place)) (cells_of row place) between pairs in
    pairs_count drawing.word (one_least drawing less over (core place)) (one_most drawing less over (core place))
    (zero_least drawing less over (core place)) (zero_most drawing less over (core place)) (cells_of row place) place
    between pairs
    (apart_enough drawing less over (core place) some enough read.reading.long read.few read.reading.quiet read.one)
    (six_levels drawing.swing drawing.noise less over (core place) (apart place)
    (swing (cells_of row place)) is.of_row.levels enough read.few read.reading.quiet read.reading.long refl least)

-- a row whose word lies in a drawing carries code, which says the word
pub carries_its_word : (drawing : Drawing) (row : List ℕ) (place : Place) → IsRow row → IsDrawn drawing row
    → LiesAt row place → LiesInside drawing place → HasMargin drawing place
    → (code : CodeRow) × IsCode row code × (code.place ≡ place) × (says_bits code.levels ≡ true)
    × (number_of code.levels ≡ drawing.word)
carries_its_word drawing row place row_is is lies inside enough =
    let code : IsCode row (code_at row place) = record {
      contrast = contrast_is drawing row (core place) is row_is enough;
      lies = lies;
      it_counts = count_at drawing row place is inside enough;
      swing_is = refl;
      heights_are = refl;
    } in
    let says = says_its_word drawing row (code_at row place) is code inside enough in
    (code_at row place, code, refl, says.0, says.1)
