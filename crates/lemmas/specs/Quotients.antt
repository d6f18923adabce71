-- A quotient by a product and a shift, whose factor is so little above the true one that no quotient moves; and a
-- quotient that is rounded up, which is the least whole number that is not below it.
use Rattle.std.proofs.Common.{◌≡◌, ℕ, zero, suc, ◌+◌, ◌*◌, ◌/◌, ◌<◌, ◌≤◌, arith}
use Rattle.std.proofs.Common.{suc-mul, zero-mul, mul-le-mul_left, lt_of_mul-lt-mul_right, mul-pos}
use Rattle.std.proofs.Math.Nat.{div-eq_of_lt-le, div-mul-le_self, le_of_mul-le-mul_left, lt-mul-div-succ}
use Rattle.std.proofs.lemmas.Grind.{div_ceil_times}
use Rattle.std.proofs.lemmas.Nat.{mul-le}
use Rattle.std.specs.Int.{div_ceil}

-- ---- by a product

not_less : (p x d q m : ℕ) → q * d ≤ x → p ≤ m * d → q * p ≤ x * m
not_less p x d q m low factor =
    let a : q * p ≤ q * (m * d) = mul-le q p q (m * d) (omega arith) factor in
    let b : (q * d) * m ≤ x * m = mul-le (q * d) m x m low (omega arith) in
    let same : q * (m * d) ≡ (q * d) * m = grind arith in
    omega (arith, a, b, same)

times : (p x d q m : ℕ) → x + 1 ≤ (q + 1) * d → m * d ≤ p + d → (x + 1) * d ≤ p → d * (x * m + 1) ≤ d * ((q + 1) * p)
times p x d q m high factor room =
    let a : x * (m * d) ≤ x * (p + d) = mul-le x (m * d) x (p + d) (omega arith) factor in
    let b : (x + 1) * p ≤ ((q + 1) * d) * p = mul-le (x + 1) p ((q + 1) * d) p high (omega arith) in
    let one : d * (x * m + 1) ≡ x * (m * d) + d = grind arith in
    let two : x * (p + d) ≡ x * p + x * d = grind arith in
    let three : (x + 1) * p ≡ x * p + p = grind arith in
    let four : ((q + 1) * d) * p ≡ d * ((q + 1) * p) = grind arith in
    let five : (x + 1) * d ≡ x * d + d = grind arith in
    omega (arith, a, b, one, two, three, four, five, room)

is_quotient : (p x d q m : ℕ) → 1 ≤ d → q * d ≤ x → x + 1 ≤ (q + 1) * d → p ≤ m * d → m * d ≤ p + d → (x + 1) * d ≤ p
    → x * m / p ≡ q
is_quotient p x d q m some low high least most room =
    let below = not_less p x d q m low least in
    let above : x * m + 1 ≤ (q + 1) * p = le_of_mul-le-mul_left {m = x * m + 1} {n = (q + 1) * p} {k = d}
    (times p x d q m high most room) some in
    div-eq_of_lt-le p below (omega (arith, above))

-- a number is less than the next multiple of a divisor
pub behind : (x d : ℕ) → 1 ≤ d → x + 1 ≤ (x / d + 1) * d
behind x d some =
    let lt : x < d * (x / d + 1) = lt-mul-div-succ x {b = d} some in
    let same : d * (x / d + 1) ≡ (x / d + 1) * d = grind arith in
    omega (arith, lt, same)

-- the quotient by a factor that is a little above p divided by the divisor
pub by_product : (p x d : ℕ) → 1 ≤ d → (x + 1) * d ≤ p → x * (p / d + 1) / p ≡ x / d
by_product p x d some room =
    let most : (p / d + 1) * d ≤ p + d = let h = div-mul-le_self p d in let e : (p / d + 1) * d ≡ p / d * d + d =
    grind arith in omega (arith, h, e) in
    let least : p ≤ (p / d + 1) * d = let h = behind p d some in omega (arith, h) in
    is_quotient p x d (x / d) (p / d + 1) some (div-mul-le_self x d) (behind x d some) least most room

-- ---- rounded up

pub quotient_least : (x d : ℕ) → 0 < d → x ≤ div_ceil x d * d
quotient_least x d some = (div_ceil_times x d some).0

pub quotient_most : (x d k : ℕ) → 0 < d → x ≤ k * d → div_ceil x d ≤ k
quotient_most x d k some is =
    let below : div_ceil x d * d < suc k * d = omega (arith, suc-mul k d, (div_ceil_times x d some).1, is) in
    let bound : div_ceil x d < suc k = lt_of_mul-lt-mul_right d below in
    omega (arith, bound)

positive_factor : (c d x : ℕ) → 1 ≤ x → x ≤ c * d → 1 ≤ c
positive_factor zero d x some most = let none : zero * d ≡ 0 = zero-mul d in omega arith
positive_factor (suc c) d x some most = omega arith

-- a part r of d, in f ticks, takes from one of them to all of them
pub quotient_within : (f r d : ℕ) → 1 ≤ f → 1 ≤ r → r ≤ d → (1 ≤ div_ceil (f * r) d) × (div_ceil (f * r) d ≤ f)
quotient_within f r d some rises within =
    let product : 0 < f * r = mul-pos {m = f} {n = r} (omega arith) (omega arith) in
    let divisor : 0 < d = omega arith in (
      positive_factor (div_ceil (f * r) d) d (f * r) (omega (arith, product)) (quotient_least (f * r) d divisor),
      quotient_most (f * r) d f divisor (mul-le-mul_left f within),
    )
