-- Where each 1 is so much lighter than each 0, all bits of the cells are clear, and they are those of the word.
use Rattle.std.proofs.Common.{◌≡◌, ℕ, zero, suc, ◌+◌, ◌-◌, ◌*◌, ◌<◌, ◌≤◌, ℤ, pos, ◌-ℤ◌}
use Rattle.std.proofs.Common.{◌⊎◌, inl, inr, Bool, true, false, ◌&&◌, List, get_or, refl, ap, ap₂}
use Rattle.std.proofs.Common.{sym, subst, ◌∙◌, arith}
use Rattle.std.specs.Prelude.{int_lt, unsigned_abs}
use Rattle.std.proofs.lemmas.Bool.Decides.{nat_tests}
use Rattle.std.proofs.lemmas.Int.{ints}
use Rattle.std.proofs.lemmas.List.FromFn.{get_or-map-range_with_len}
use Rattle.luma_row.specs.declared.levels.Levels.{Levels}
use Rattle.luma_row.specs.Cells.{dark_of, light_of, swing}
use Rattle.luma_row.specs.Choice.{all_of, sum_of}
use Rattle.luma_row.specs.Heights.{above, below, height, heights_of, pair_before, smoothed}
use Rattle.luma_row.specs.Levels.{height_at, is_clear, is_one, says_bits}
use Rattle.luma_truth.specs.Drawing.{has_bit}
use Rattle.luma_truth.proofs.Thresholds.{is_near, AreMiddles}

either : (b : Bool) → (b ≡ true) ⊎ (b ≡ false)
either true = inl refl
either false = inr refl

-- twice the light of each cell lies between these
pub record AreBetween (word one_least one_most zero_least zero_most : ℕ) (cells : List ℕ) : Type 0 where
  pub ones_least : (bit : ℕ) → bit < 90 → has_bit word bit ≡ true → one_least ≤ 2 * get_or cells bit 0
  pub ones_most : (bit : ℕ) → bit < 90 → has_bit word bit ≡ true → 2 * get_or cells bit 0 ≤ one_most
  pub zeros_least : (bit : ℕ) → bit < 90 → has_bit word bit ≡ false → zero_least ≤ 2 * get_or cells bit 0
  pub zeros_most : (bit : ℕ) → bit < 90 → has_bit word bit ≡ false → 2 * get_or cells bit 0 ≤ zero_most

-- the word has its sync pairs
pub record HasPairs (word : ℕ) : Type 0 where
  pub ones : (pair : ℕ) → pair < 9 → has_bit word (10 * pair) ≡ true
  pub zeros : (pair : ℕ) → pair < 9 → has_bit word (10 * pair + 1) ≡ false

-- 1s and 0s are far apart
pub record AreApart (one_least one_most zero_least zero_most : ℕ) : Type 0 where
  pub far : 107 * one_most + 97 * zero_most ≤ 177 * one_least + 27 * zero_least
  pub shares : zero_most + one_least ≤ one_most + zero_least
  pub order : zero_least < one_most

middles_are : (word one_least one_most zero_least zero_most : ℕ) (cells : List ℕ)
    → AreBetween word one_least one_most zero_least zero_most cells → HasPairs word
    → AreMiddles (one_least + zero_least) (one_most + zero_most) cells
middles_are word one_least one_most zero_least zero_most cells are has = record {
  least = λ pair h.
      let one = are.ones_least (10 * pair) (omega arith) (has.ones pair h) in
      let nought = are.zeros_least (10 * pair + 1) (omega arith) (has.zeros pair h) in
      omega (arith, one, nought);
  most = λ pair h.
      let one = are.ones_most (10 * pair) (omega arith) (has.ones pair h) in
      let nought = are.zeros_most (10 * pair + 1) (omega arith) (has.zeros pair h) in
      omega (arith, one, nought);
}

sum_most : (n most : ℕ) (f : ℕ → ℕ) → ((k : ℕ) → k < n → 2 * f k ≤ most) → 2 * sum_of n f ≤ n * most
unfolding sum_of
sum_most zero most f each = omega arith
sum_most (suc n) most f each =
    let before = sum_most n most f (λ k h. each k (omega arith)) in
    let here = each n (omega arith) in
    omega (arith, before, here)

sum_least : (n least : ℕ) (f : ℕ → ℕ) → ((k : ℕ) → k < n → least ≤ 2 * f k) → n * least ≤ 2 * sum_of n f
unfolding sum_of
sum_least zero least f each = omega arith
sum_least (suc n) least f each =
    let before = sum_least n least f (λ k h. each k (omega arith)) in
    let here = each n (omega arith) in
    omega (arith, before, here)

pub swing_most : (word one_least one_most zero_least zero_most : ℕ) (cells : List ℕ)
    → AreBetween word one_least one_most zero_least zero_most cells → HasPairs word
    → AreApart one_least one_most zero_least zero_most → 2 * swing cells + 9 * zero_least ≤ 9 * one_most
unfolding swing
swing_most word one_least one_most zero_least zero_most cells are has apart =
    let ones = sum_most 9 one_most (light_of cells)
    (λ pair h. are.ones_most (10 * pair) (omega arith) (has.ones pair h)) in
    let zeros = sum_least 9 zero_least (dark_of cells)
    (λ pair h. are.zeros_least (10 * pair + 1) (omega arith) (has.zeros pair h)) in
    omega (arith, ones, zeros, apart.order)

pub swing_least : (word one_least one_most zero_least zero_most : ℕ) (cells : List ℕ)
    → AreBetween word one_least one_most zero_least zero_most cells → HasPairs word
    → 9 * one_least ≤ 2 * swing cells + 9 * zero_most
unfolding swing
swing_least word one_least one_most zero_least zero_most cells are has =
    let ones = sum_least 9 one_least (light_of cells)
    (λ pair h. are.ones_least (10 * pair) (omega arith) (has.ones pair h)) in
    let zeros = sum_most 9 zero_most (dark_of cells)
    (λ pair h. are.zeros_most (10 * pair + 1) (omega arith) (has.zeros pair h)) in
    omega (arith, ones, zeros)

-- a difference above nothing, and one below it
above_is : (a b : ℕ) → b < a → int_lt (pos 0) (pos a -ℤ pos b) ≡ true
above_is a b h = grind (arith, ints, nat_tests)

above_size : (a b : ℕ) → b < a → unsigned_abs (pos a -ℤ pos b) ≡ a - b
above_size a b h = grind (arith, ints, nat_tests)

below_is : (a b : ℕ) → a < b → int_lt (pos 0) (pos a -ℤ pos b) ≡ false
below_is a b h = grind (arith, ints, nat_tests)

below_size : (a b : ℕ) → a < b → unsigned_abs (pos a -ℤ pos b) ≡ b - a
below_size a b h = grind (arith, ints, nat_tests)

-- what a bit says
pub record SaysBit (word swing : ℕ) (height : ℤ) (bit : ℕ) : Type 0 where
  pub one : int_lt (pos 0) height ≡ has_bit word bit
  pub clear : 10 * swing ≤ 9 * unsigned_abs height

one_says : (word swing above below bit : ℕ) → has_bit word bit ≡ true → below < above → 10 * swing ≤ 9 * (above - below)
    → SaysBit word swing (pos above -ℤ pos below) bit
one_says word swing above below bit set more enough =
    let size = above_size above below more in
    record { one = above_is above below more ∙ sym set; clear = omega (arith, size, enough) }

zero_says : (word swing above below bit : ℕ) → has_bit word bit ≡ false → above < below
    → 10 * swing ≤ 9 * (below - above) → SaysBit word swing (pos above -ℤ pos below) bit
zero_says word swing above below bit set less enough =
    let size = below_size above below less in
    record { one = below_is above below less ∙ sym set; clear = omega (arith, size, enough) }

-- the numbers of a 1, and those of a 0
one_is_far : (swing cell over more under one_least one_most zero_least zero_most : ℕ)
    → AreApart one_least one_most zero_least zero_most → one_least ≤ 2 * cell
    → 2 * swing + 9 * zero_least ≤ 9 * one_most
    → 2 * under + 17 * (one_least + zero_least) ≤ 2 * (over + more) + 97 * (one_most + zero_most)
    → (under < 160 * cell + over + more) × (10 * swing ≤ 9 * (160 * cell + over + more - under))
one_is_far swing cell over more under one_least one_most zero_least zero_most apart one few near =
    let far = apart.far in
    let order = apart.order in
    (omega arith, omega arith)

zero_is_far : (swing cell over more under one_least one_most zero_least zero_most : ℕ)
    → AreApart one_least one_most zero_least zero_most → 2 * cell ≤ zero_most
    → 2 * swing + 9 * zero_least ≤ 9 * one_most
    → 2 * (over + more) + 97 * (one_least + zero_least) ≤ 2 * under + 17 * (one_most + zero_most)
    → (160 * cell + over + more < under) × (10 * swing ≤ 9 * (under - (160 * cell + over + more)))
zero_is_far swing cell over more under one_least one_most zero_least zero_most apart nought few near =
    let far = apart.far in
    let shares = apart.shares in
    let order = apart.order in
    (omega arith, omega arith)

-- the height of a bit of these cells says the bit of the word
height_says : (word one_least one_most zero_least zero_most : ℕ) (cells : List ℕ) (bit : ℕ)
    → AreBetween word one_least one_most zero_least zero_most cells → HasPairs word
    → AreApart one_least one_most zero_least zero_most → bit < 90
    → SaysBit word (swing cells) (height cells bit) bit
unfolding height
height_says word one_least one_most zero_least zero_most cells bit are has apart h =
    let few = swing_most word one_least one_most zero_least zero_most cells are has apart in
    let middles = middles_are word one_least one_most zero_least zero_most cells are has in
    let near = is_near (one_least + zero_least) (one_most + zero_most) cells bit middles h in
    let pair = pair_before bit in
    let over = (2 * bit - (20 * pair + 21)) * smoothed cells pair in
    let more = (20 * pair + 1 - 2 * bit) * smoothed cells (pair + 1) in
    let under = below cells bit in
    elim (either (has_bit word bit)) [
      | inl set ↦
          let far = one_is_far (swing cells) (get_or cells bit 0) over more under one_least one_most zero_least
          zero_most apart (are.ones_least bit h set) few near.most in
          one_says word (swing cells) (above cells bit) (below cells bit) bit set far.0 far.1
      | inr set ↦
          let far = zero_is_far (swing cells) (get_or cells bit 0) over more under one_least one_most zero_least
          zero_most apart (are.zeros_most bit h set) few near.least in
          zero_says word (swing cells) (above cells bit) (below cells bit) bit set far.0 far.1
    ]

-- the heights of levels
height_is : (levels : Levels) (cells : List ℕ) (bit : ℕ) → levels.heights ≡ heights_of cells → bit < 90
    → height_at levels bit ≡ height cells bit
height_is levels cells bit is h =
    ap (λ (heights : List ℤ). get_or heights bit (pos 0)) is
    ∙ get_or-map-range_with_len (height cells) 0 90 bit bit (pos 0) h (omega arith)

each_true : (n : ℕ) (p : ℕ → Bool) → ((k : ℕ) → k < n → p k ≡ true) → all_of n p ≡ true
unfolding all_of
each_true zero p each = refl
each_true (suc n) p each =
    ap₂ ◌&&◌ (each_true n p (λ k h. each k (omega arith))) (each n (omega arith))

clear_is : (levels : Levels) (bit : ℕ) → 10 * levels.swing ≤ 9 * unsigned_abs (height_at levels bit)
    → is_clear levels bit ≡ true
clear_is levels bit h = grind (arith, nat_tests)

-- levels of these cells say the word
pub record SayTheWord (word : ℕ) (levels : Levels) : Type 0 where
  pub said : says_bits levels ≡ true
  pub bits : (bit : ℕ) → bit < 90 → is_one levels bit ≡ has_bit word bit

pub all_say : (word one_least one_most zero_least zero_most : ℕ) (cells : List ℕ) (levels : Levels)
    → AreBetween word one_least one_most zero_least zero_most cells → HasPairs word
    → AreApart one_least one_most zero_least zero_most
    → levels.swing ≡ swing cells → levels.heights ≡ heights_of cells → SayTheWord word levels
all_say word one_least one_most zero_least zero_most cells levels are has apart swing_is heights_are =
    let says : (bit : ℕ) → bit < 90 → SaysBit word (swing cells) (height_at levels bit) bit = λ bit h.
    subst (λ (z : ℤ). SaysBit word (swing cells) z bit) (sym (height_is levels cells bit heights_are h))
    (height_says word one_least one_most zero_least zero_most cells bit are has apart h) in
    let clear : (bit : ℕ) → bit < 90 → is_clear levels bit ≡ true = λ bit h.
    let enough = (says bit h).clear in
    clear_is levels bit (omega (arith, enough, swing_is)) in
    record {
      said = ap₂ ◌&&◌ ((says 0 (omega arith)).one ∙ has.ones 0 (omega arith)) (each_true 90 (is_clear levels) clear);
      bits = λ bit h. (says bit h).one;
    }
