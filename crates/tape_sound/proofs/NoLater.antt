-- A bound that is lower by the noise is reached no later by what differs by the noise at most, on a straight line from
-- sample to sample too.
use Rattle.std.proofs.Common.{◌≡◌, ℕ, ◌+◌, ◌-◌, ◌*◌, ◌≤◌, Bool, true, false, cond, ℤ, pos, ◌≤ℤ◌, int_le}
use Rattle.std.proofs.Common.{refl, ap, subst, sym, ◌∙◌, mul-le-mul_left, mul-add, arith}
use Rattle.std.specs.Prelude.{◌+ℤ◌}
use Rattle.std.specs.Int.{div_ceil}
use Rattle.std.proofs.lemmas.Int.{ints}
use Rattle.pcm_front.specs.declared.side.Side.{Side}
use Rattle.pcm_front.specs.declared.side.Side.TheVariants.{High, Low}
use Rattle.pcm_front.specs.Crossing.{apart}
use Rattle.pcm_front.specs.Side.{upward}
use Rattle.tape_sound.specs.Margin.{tick_to_bound}
use Rattle.lemmas.specs.Quotients.{quotient_least, quotient_most, quotient_within}

-- a line that reaches less from nearer, and goes as far beyond, reaches it no later
part_less : (f k r o q p : ℕ) → k ≤ f → f * r ≤ k * (r + o) → q ≤ r → o ≤ p → f * q ≤ k * (q + p)
part_less f k r o q p within reaches nearer further =
    let rest : ℕ = f - k in
    let whole : f ≡ k + rest = omega (arith, within) in
    let one : f * r ≡ k * r + rest * r = ap (λ (n : ℕ). n * r) whole ∙ (grind arith) in
    let two : f * q ≡ k * q + rest * q = ap (λ (n : ℕ). n * q) whole ∙ (grind arith) in
    let less : rest * q ≤ rest * r = mul-le-mul_left rest nearer in
    let more : k * o ≤ k * p = mul-le-mul_left k further in
    omega (arith, reaches, one, two, less, more, mul-add k r o, mul-add k q p)

nearer_part : (t u : ℤ) (n : ℕ) (a x : ℤ) → (u +ℤ pos n) ≤ℤ t → apart a x ≤ n → int_le t a ≡ false → int_le u x ≡ false
    → apart u x ≤ apart t a
nearer_part t u n a x lower near below below_too = grind (arith, ints)

further_part : (t u : ℤ) (n : ℕ) (b y : ℤ) → (u +ℤ pos n) ≤ℤ t → apart b y ≤ n → t ≤ℤ b → apart b t ≤ apart y u
further_part t u n b y lower near above = grind (arith, ints)

-- a step is the way to the bound and the way beyond
two_parts : (t a b : ℤ) → int_le t a ≡ false → t ≤ℤ b → apart b a ≡ apart t a + apart b t
two_parts t a b below above = grind (arith, ints)

some_part : (t a : ℤ) → int_le t a ≡ false → 1 ≤ apart t a
some_part t a below = grind (arith, ints)

-- if the higher bound is reached, so is the lower one
reached_too : (t u : ℤ) (n : ℕ) (a x : ℤ) → (u +ℤ pos n) ≤ℤ t → apart a x ≤ n → int_le t a ≡ true → int_le u x ≡ true
reached_too t u n a x lower near is = grind (arith, ints)

ticks_within : (reached : Bool) (f : ℕ) (t a b : ℤ) → 1 ≤ f → t ≤ℤ b → int_le t a ≡ reached
    → (1 ≤ cond reached 1 (div_ceil (f * apart t a) (apart b a)))
    × (cond reached 1 (div_ceil (f * apart t a) (apart b a)) ≤ f)
ticks_within true f t a b some above is = (omega arith, some)
ticks_within false f t a b some above is =
    let part = some_part t a is in
    let whole = two_parts t a b is above in
    quotient_within f (apart t a) (apart b a) some part (omega (arith, whole))

pub tick_within : (f : ℕ) (t a b : ℤ) → 1 ≤ f → t ≤ℤ b → (1 ≤ tick_to_bound f t a b) × (tick_to_bound f t a b ≤ f)
tick_within f t a b some above = ticks_within (int_le t a) f t a b some above refl

tick_by : (reached reached_there : Bool) (f : ℕ) (t u : ℤ) (n : ℕ) (a b x y : ℤ) → 1 ≤ f → (u +ℤ pos n) ≤ℤ t
    → apart a x ≤ n → apart b y ≤ n
    → t ≤ℤ b → u ≤ℤ y → int_le t a ≡ reached → int_le u x ≡ reached_there
    → cond reached_there 1 (div_ceil (f * apart u x) (apart y x)) ≤ cond reached 1
    (div_ceil (f * apart t a) (apart b a))
tick_by true true f t u n a b x y some lower near_a near_b above above_too is is_too = omega arith
tick_by true false f t u n a b x y some lower near_a near_b above above_too is is_too =
    let no : true ≡ false = sym (reached_too t u n a x lower near_a is) ∙ is_too in absurd (cc)
tick_by false true f t u n a b x y some lower near_a near_b above above_too is is_too =
    let within = ticks_within false f t a b some above is in omega (arith, within.0)
tick_by false false f t u n a b x y some lower near_a near_b above above_too is is_too =
    let within = ticks_within false f t a b some above is in
    let r = apart t a in
    let q = apart u x in
    let o = apart b t in
    let p = apart y u in
    let k = div_ceil (f * r) (apart b a) in
    let part = some_part t a is in
    let part_too = some_part u x is_too in
    let step : apart b a ≡ r + o = two_parts t a b is above in
    let step_too : apart y x ≡ q + p = two_parts u x y is_too above_too in
    let least = quotient_least (f * r) (apart b a) (omega (arith, part, step)) in
    let reaches : f * r ≤ k * (r + o) = subst (λ (s : ℕ). f * r ≤ k * s) step least in
    let less = part_less f k r o q p within.1 reaches (nearer_part t u n a x lower near_a is is_too)
    (further_part t u n b y lower near_b above) in
    quotient_most (f * q) (apart y x) k (omega (arith, part_too, step_too))
    (subst (λ (s : ℕ). f * q ≤ k * s) (sym step_too) less)

-- a bound that is lower by the noise is reached no later
pub tick_less : (f : ℕ) (t u : ℤ) (n : ℕ) (a b x y : ℤ) → 1 ≤ f → (u +ℤ pos n) ≤ℤ t → apart a x ≤ n → apart b y ≤ n
    → t ≤ℤ b → u ≤ℤ y → tick_to_bound f u x y ≤ tick_to_bound f t a b
tick_less f t u n a b x y some lower near_a near_b above above_too =
    tick_by (int_le t a) (int_le u x) f t u n a b x y some lower near_a near_b above above_too refl refl

pub near_upward : (n : ℕ) (x y : ℤ) (side : Side) → apart x y ≤ n → apart (upward side x) (upward side y) ≤ n
near_upward n x y High near = near
near_upward n x y Low near = grind (arith, ints)

pub other_way : (n : ℕ) (x y : ℤ) → apart x y ≤ n → apart y x ≤ n
other_way n x y near = grind (arith, ints)

pub reach : (t x : ℤ) → t ≤ℤ x → int_le t x ≡ true
reach t x above = grind (arith, ints)

pub reached : (t x : ℤ) → int_le t x ≡ true → t ≤ℤ x
reached t x is = grind (arith, ints)

pub lower_reached : (t u : ℤ) (n : ℕ) (x y : ℤ) → (u +ℤ pos n) ≤ℤ t → apart x y ≤ n → t ≤ℤ x → u ≤ℤ y
lower_reached t u n x y lower near above = grind (arith, ints)
