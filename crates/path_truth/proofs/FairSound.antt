-- The samples of a side, whose sizes lie between two, sum to a size between those.
use Rattle.std.proofs.Common.{◌≡◌, ℕ, zero, suc, ◌+◌, ◌-◌, ◌*◌, ◌≤◌, List, [], ◌∷◌, ◌++◌, take}
use Rattle.std.proofs.Common.{ℤ, pos, negsuc, ◌+ℤ◌, ◌<ℤ◌, unsigned_abs, refl, ap₂, sym, subst, ◌∙◌, arith}
use Rattle.std.specs.List.{AllByRecursion}
use Rattle.std.proofs.lemmas.Int.{ints}
use Rattle.std.proofs.lemmas.List.Sums.{sum_by-append, sum_by-cons}
use Rattle.cell_path.specs.declared.cell.Sign.{Sign}
use Rattle.cell_path.specs.declared.cell.Sign.TheVariants.{Plus, Minus}
use Rattle.cell_path.specs.Path.{signed}
use Rattle.path_front.specs.Grid.{total}
use Rattle.path_front.specs.Latest.{squares_of}
use Rattle.path_truth.specs.Sides.{AreOnSide}
use Rattle.path_truth.specs.Sound.{alone, IsSized}

-- the sum and the squares of n samples
pub record IsSumOf (low high n size squares : ℕ) (sign : Sign) (sum : ℤ) : Type 0 where
  pub sum_is : signed sign sum ≡ pos size
  pub least : low * n ≤ size
  pub most : size ≤ high * n
  pub below : squares + n * (low * high) ≤ (low + high) * size

-- the square of one of them
square-below : (low high x : ℕ) → low ≤ x → x ≤ high → x * x + low * high ≤ (low + high) * x
square-below low high x least most =
    let p = x - low in
    let q = high - x in
    let x_is : x ≡ low + p = omega (arith, least) in
    let high_is : high ≡ low + p + q = omega (arith, least, most) in
    subst (λ h. x * x + low * h ≤ (low + h) * x) (sym high_is)
    (subst (λ y. y * y + low * (low + p + q) ≤ (low + (low + p + q)) * y) (sym x_is) (omega arith))

signed-size : (sign : Sign) (x : ℤ) → pos 0 <ℤ signed sign x → signed sign x ≡ pos (unsigned_abs x)
signed-size Plus (pos n) is = refl
signed-size Plus (negsuc n) is = absurd (omega (arith, ints))
signed-size Minus (pos n) is = absurd (omega (arith, ints))
signed-size Minus (negsuc n) is = omega (arith, ints)

signed-sum : (sign : Sign) (x y : ℤ) → signed sign (x +ℤ y) ≡ signed sign x +ℤ signed sign y
signed-sum Plus x y = refl
signed-sum Minus x y = omega (arith, ints)

signed-none : (sign : Sign) → signed sign (pos 0) ≡ pos 0
signed-none Plus = refl
signed-none Minus = refl

both-sums : (low high m n a b c d : ℕ) (sign : Sign) (x y : ℤ) → IsSumOf low high m a c sign x
    → IsSumOf low high n b d sign y → IsSumOf low high (m + n) (a + b) (c + d) sign (x +ℤ y)
both-sums low high m n a b c d sign x y one two = record {
  sum_is = signed-sum sign x y ∙ ap₂ (λ s t. s +ℤ t) one.sum_is two.sum_is;
  least = omega (arith, one.least, two.least);
  most = omega (arith, one.most, two.most);
  below = omega (arith, one.below, two.below);
}

one-sum : (low high : ℕ) (sign : Sign) (x : ℤ) → IsSized low high x → pos 0 <ℤ signed sign x
    → IsSumOf low high 1 (unsigned_abs x) (unsigned_abs x * unsigned_abs x) sign x
one-sum low high sign x is on = record {
  sum_is = signed-size sign x on;
  least = omega (arith, is.least);
  most = omega (arith, is.most);
  below = omega (arith, square-below low high (unsigned_abs x) is.least is.most);
}

-- the first n samples have such a sum
unfoldable pub HaveSum : ℕ → ℕ → ℕ → Sign → List ℤ → Type 0
HaveSum low high n sign sounds = (size : ℕ) × IsSumOf low high n size (squares_of sounds) sign (total sounds)

total-append : (xs ys : List ℤ) → total (xs ++ ys) ≡ total xs +ℤ total ys
unfolding total
total-append [] ys = omega (arith, ints)
total-append (x ∷ xs) ys = omega (arith, ints, total-append xs ys)

pub sums-append : (low high m n : ℕ) (sign : Sign) (xs ys : List ℤ) → HaveSum low high m sign xs
    → HaveSum low high n sign ys → HaveSum low high (m + n) sign (xs ++ ys)
unfolding HaveSum
sums-append low high m n sign xs ys one two =
    let both = both-sums low high m n one.0 two.0 (squares_of xs) (squares_of ys) sign (total xs) (total ys) one.1
    two.1 in
    let squares = sym (sum_by-append (λ x. unsigned_abs x * unsigned_abs x) xs ys) in (
      one.0 + two.0,
      subst (λ t. IsSumOf low high (m + n) (one.0 + two.0) (squares_of (xs ++ ys)) sign t)
          (sym (total-append xs ys))
          (subst (λ q. IsSumOf low high (m + n) (one.0 + two.0) q sign (total xs +ℤ total ys)) squares both),
    )

no-sum : (low high : ℕ) (sign : Sign) → HaveSum low high 0 sign []
unfolding total HaveSum
no-sum low high sign = (
  0,
  record {
    sum_is = signed-none sign;
    least = omega arith;
    most = omega arith;
    below = omega arith;
  },
)

some-sum : (low high : ℕ) (sign : Sign) (x : ℤ) → IsSized low high x → pos 0 <ℤ signed sign x
    → HaveSum low high 1 sign (x ∷ [])
unfolding total HaveSum
some-sum low high sign x is on =
    let one = one-sum low high sign x is on in
    let same : x ≡ x +ℤ pos 0 = omega (arith, ints) in
    let squares : unsigned_abs x * unsigned_abs x ≡ squares_of (x ∷ []) =
    sym (sum_by-cons (λ y. unsigned_abs y * unsigned_abs y) x [] ∙ omega arith) in (
      unsigned_abs x,
      subst (λ t. IsSumOf low high 1 (unsigned_abs x) (squares_of (x ∷ [])) sign t) same
          (subst (λ q. IsSumOf low high 1 (unsigned_abs x) q sign x) squares one),
    )

pub side-sum : (low high n : ℕ) (sign : Sign) (sounds : List ℤ) → AllByRecursion (IsSized low high) sounds
    → AreOnSide sign n (alone sounds) → HaveSum low high n sign (take n sounds)
side-sum low high zero sign sounds are on = no-sum low high sign
side-sum low high (suc n) sign [] are on = absurd on
side-sum low high (suc n) sign (x ∷ sounds) are on =
    let all = sums-append low high 1 n sign (x ∷ []) (take n sounds) (some-sum low high sign x are.0 on.0.side)
    (side-sum low high n sign sounds are.1 on.1) in
    let more : 1 + n ≡ suc n = omega arith in
    subst (λ k. HaveSum low high k sign (x ∷ take n sounds)) more all
