-- The quotient of a run by a cell, by a product and a shift; and the lower part of the product says how much the
-- division leaves.
use Rattle.std.proofs.Common.{◌≡◌, ℕ, ◌+◌, ◌-◌, ◌*◌, ◌/◌, ◌%◌, ◌^◌, ◌<◌, ◌≤◌, sym, ap, ◌∙◌, arith, inl, inr}
use Rattle.std.proofs.Math.Nat.{div-mul-le_self, div-add-mod, mod-eq-sub-div-mul, mul-div-mul_right}
use Rattle.std.proofs.lemmas.Bool.{cases_lt}
use Rattle.std.proofs.lemmas.Nat.{mul-le}
use Rattle.vitc_reader.specs.KeptLine.{factor_on}
use Rattle.lemmas.specs.Quotients.{behind, by_product}

-- on a line of n ticks
pub by_factor : (n x : ℕ) → 1 ≤ n → n ≤ 65535 → x < 2 ^ 25 → x * (2 ^ 43 / (4 * n) + 1) / 2 ^ 43 ≡ x / (4 * n)
by_factor n x some most small =
    let room : (x + 1) * (4 * n) ≤ 2 ^ 25 * 2 ^ 18 = mul-le (x + 1) (4 * n) (2 ^ 25) (2 ^ 18) (omega (arith, small))
    (omega (arith, most)) in
    by_product (2 ^ 43) x (4 * n) (omega (arith, some)) room

-- ---- what is left of the division, in the lower part of the product

-- the factor is more than any number that is divided, and its multiple by the divisor is a little more than p
record Factor (n m : ℕ) : Type 0 where
  least : 2 ^ 43 ≤ m * (4 * n)
  most : m * (4 * n) ≤ 2 ^ 43 + 4 * n
  great : 2 ^ 25 < m

a_factor : (n : ℕ) → 1 ≤ n → n ≤ 65535 → Factor n (2 ^ 43 / (4 * n) + 1)
a_factor n some most =
    let d = 4 * n in
    let low = div-mul-le_self (2 ^ 43) d in
    let high = behind (2 ^ 43) d (omega (arith, some)) in
    let e : (2 ^ 43 / d + 1) * d ≡ 2 ^ 43 / d * d + d = grind arith in
    let few : (2 ^ 43 / d + 1) * d ≤ (2 ^ 43 / d + 1) * 2 ^ 18 = mul-le (2 ^ 43 / d + 1) d (2 ^ 43 / d + 1) (2 ^ 18)
    (omega arith) (omega (arith, most)) in
    record { least = omega (arith, high); most = omega (arith, low, e); great = omega (arith, high, few) }

-- the product is the quotient's multiple of p, and what is left of it
product_is : (q d r m e p : ℕ) → m * d ≡ p + e → (q * d + r) * m ≡ q * p + (q * e + r * m)
product_is q d r m e p is =
    let a : (q * d + r) * m ≡ q * (m * d) + r * m = grind arith in
    let b : q * (p + e) + r * m ≡ q * p + (q * e + r * m) = grind arith in
    a ∙ ap (λ (y : ℕ). q * y + r * m) is ∙ b

left_over : (p x d q r m e : ℕ) → m * d ≡ p + e → x ≡ q * d + r → x * m / p ≡ q → x * m % p ≡ q * e + r * m
left_over p x d q r m e is split quotient =
    let product : x * m ≡ q * p + (q * e + r * m) = ap (λ (y : ℕ). y * m) split ∙ product_is q d r m e p is in
    let cut : x * m % p ≡ x * m - q * p = rw quotient at (mod-eq-sub-div-mul (x * m) p) in
    omega (arith, cut, product)

-- it is below the multiple of the factor that is one above the rest, and not below that of the rest
at_most : (h r m q e f : ℕ) → f ≡ q * e + r * m → f < (h + 1) * m → r ≤ h
at_most h r m q e f is below =
    elim (cases_lt h r) [
      | inl lt ↦ let more : (h + 1) * m ≤ r * m = mul-le (h + 1) m r m (omega (arith, lt)) (omega arith) in
          absurd (omega (arith, is, below, more))
      | inr le ↦ le
    ]

above : (h r m q e f : ℕ) → f ≡ q * e + r * m → q * e < m → (h + 1) * m ≤ f → h < r
above h r m q e f is small far =
    elim (cases_lt h r) [
      | inl lt ↦ lt
      | inr le ↦
          let more : (r + 1) * m ≤ (h + 1) * m = mul-le (r + 1) m (h + 1) m (omega (arith, le)) (omega arith) in
          let one : (r + 1) * m ≡ r * m + m = grind arith in
          absurd (omega (arith, is, small, far, more, one))
    ]

scaled : (x m s : ℕ) → x * (m * s) ≡ x * m * s
scaled x m s = grind arith

scaled_div : (p x m s : ℕ) → 1 ≤ s → x * (m * s) / (p * s) ≡ x * m / p
scaled_div p x m s some = ap (λ (y : ℕ). y / (p * s)) (scaled x m s)
    ∙ mul-div-mul_right {m = s} (x * m) p (omega (arith, some))

scaled_mod : (p x m s : ℕ) → 1 ≤ s → x * (m * s) % (p * s) ≡ x * m % p * s
scaled_mod p x m s some =
    let cut = mod-eq-sub-div-mul (x * (m * s)) (p * s) in
    let cut' : x * (m * s) % (p * s) ≡ x * (m * s) - x * m / p * (p * s) = rw (scaled_div p x m s some) at cut in
    let parts = div-add-mod (x * m) p in
    let times_s : x * (m * s) ≡ x * m / p * (p * s) + x * m % p * s =
    scaled x m s ∙ ap (λ (y : ℕ). y * s) (sym parts) ∙ by_parts p (x * m / p) (x * m % p) s in
    omega (arith, cut', times_s)
  where
    by_parts : (p q f s : ℕ) → (p * q + f) * s ≡ q * (p * s) + f * s
    by_parts p q f s = grind arith

-- on a line of n ticks: the quotient, and whether what is left of the division is at most half of the divisor
pub record Halved (n x m : ℕ) : Type 0 where
  pub quotient : x * m / 2 ^ 64 ≡ x / (4 * n)
  pub at_most : x * m % 2 ^ 64 < (2 * n + 1) * m → x - 4 * (x / (4 * n) * n) ≤ 2 * n
  pub above : (2 * n + 1) * m ≤ x * m % 2 ^ 64 → 2 * n < x - 4 * (x / (4 * n) * n)

less_scaled : (a b s : ℕ) → a * s < b * s → a < b
less_scaled a b s lt =
    elim (cases_lt a b) [
      | inl lt' ↦ lt'
      | inr le ↦ let more : b * s ≤ a * s = mul-le b s a s le (omega arith) in absurd (omega (arith, lt, more))
    ]

le_scaled : (a b s : ℕ) → 1 ≤ s → a * s ≤ b * s → a ≤ b
le_scaled a b s some le =
    elim (cases_lt b a) [
      | inl lt ↦
          let more : (b + 1) * s ≤ a * s = mul-le (b + 1) s a s (omega (arith, lt)) (omega arith) in
          let one : (b + 1) * s ≡ b * s + s = grind arith in
          absurd (omega (arith, le, more, one, some))
      | inr le' ↦ le'
    ]

halved_by : (p s n x m e q r : ℕ) → 1 ≤ s → m * (4 * n) ≡ p + e → x ≡ q * (4 * n) + r → x * m / p ≡ q → q * e < m
    → (x * (m * s) / (p * s) ≡ q) × (x * (m * s) % (p * s) < (2 * n + 1) * (m * s) → r ≤ 2 * n)
    × ((2 * n + 1) * (m * s) ≤ x * (m * s) % (p * s) → 2 * n < r)
halved_by p s n x m e q r some is split quotient small =
    let left = left_over p x (4 * n) q r m e is split quotient in
    let rest = scaled_mod p x m s some in
    let half = scaled (2 * n + 1) m s in (
      scaled_div p x m s some ∙ quotient,
      (λ below. at_most (2 * n) r m q e (x * m % p) left
          (less_scaled (x * m % p) ((2 * n + 1) * m) s (rw (rest, half) at below))),
      (λ far. above (2 * n) r m q e (x * m % p) left small
          (le_scaled ((2 * n + 1) * m) (x * m % p) s some (rw (rest, half) at far))),
    )

little : (q e d x m : ℕ) → e ≤ d → q * d ≤ x → x < m → q * e < m
little q e d x m le within lt = let more : q * e ≤ q * d = mul-le q e q d (omega arith) le in
    omega (arith, more, within, lt)

split_by : (n x q : ℕ) → q * (4 * n) ≤ x → x ≡ q * (4 * n) + (x - 4 * (q * n))
split_by n x q le = let e : q * (4 * n) ≡ 4 * (q * n) = grind arith in omega (arith, le, e)

pub halved : (n x : ℕ) → 1 ≤ n → n ≤ 65535 → x < 2 ^ 25 → Halved n x ((2 ^ 43 / (4 * n) + 1) * 2 ^ 21)
halved n x some most small =
    let m = 2 ^ 43 / (4 * n) + 1 in
    let q = x / (4 * n) in
    let f = a_factor n some most in
    let least = f.least in
    let greatest = f.most in
    let great = f.great in
    let within = div-mul-le_self x (4 * n) in
    let e = m * (4 * n) - 2 ^ 43 in
    let is : m * (4 * n) ≡ 2 ^ 43 + e = omega (arith, least) in
    let h = halved_by (2 ^ 43) (2 ^ 21) n x m e q (x - 4 * (q * n)) (omega arith) is (split_by n x q within)
    (by_factor n x some most small)
    (little q e (4 * n) x m (omega (arith, greatest)) within (omega (arith, small, great))) in
    record { quotient = h.0; at_most = h.1; above = h.2 }

pub halved_on : (n x m : ℕ) → 1 ≤ n → n ≤ 65535 → x < 2 ^ 25 → m ≡ factor_on n → Halved n x m
halved_on n x m some most small is = rw is (halved n x some most small)

-- half a cell more than a run of whole cells, as what is left of the product
pub half_fits : (n m : ℕ) → n ≤ 65535 → m ≡ (2 ^ 43 / (4 * n) + 1) * 2 ^ 21 → m ≤ 2 ^ 54 → (2 * n + 1) * m < 2 ^ 64
half_fits n m most is few =
    let a : (2 ^ 43 / (4 * n) + 1) * (4 * n) ≤ 2 ^ 43 + 4 * n =
    let low = div-mul-le_self (2 ^ 43) (4 * n) in let e : (2 ^ 43 / (4 * n) + 1) * (4 * n) ≡ 2 ^ 43 / (4 * n) * (4 * n)
    + 4 * n = grind arith
    in omega (arith, low, e) in
    let b : m * (4 * n) ≡ (2 ^ 43 / (4 * n) + 1) * (4 * n) * 2 ^ 21 = ap (λ (y : ℕ). y * (4 * n)) is
    ∙ turned_round (2 ^ 43 / (4 * n) + 1) (2 ^ 21) (4 * n) in
    let c : 2 * ((2 * n + 1) * m) ≡ m * (4 * n) + 2 * m = grind arith in
    omega (arith, a, b, c, few, most)
  where
    turned_round : (a b d : ℕ) → a * b * d ≡ a * d * b
    turned_round a b d = grind arith
