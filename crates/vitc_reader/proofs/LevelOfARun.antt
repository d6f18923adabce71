-- The lowest bits of one level are as many as the trailing ones or zeros.
use Rattle.std.proofs.Common.{◌≡◌, ℕ, zero, suc, ◌+◌, ◌-◌, ◌*◌, ◌/◌, ◌%◌, ◌^◌, ◌<◌, ◌≤◌, refl, sym, ◌∙◌, arith, inl}
use Rattle.std.proofs.Common.{inr}
use Rattle.std.specs.Int.{bit_at, trailing_zeros, trailing_ones, w128}
use Rattle.std.proofs.Math.Nat.{div-eq_of_lt, pow-le-pow_right}
use Rattle.std.proofs.lemmas.Bool.{cases_lt}
use Rattle.std.proofs.lemmas.Nat.{pow-add, pow_pos, mod_below, mul-le, shr_split}
use Rattle.std.proofs.lemmas.Nat.Bits.{bit_at-trailing_zeros, bit_at-trailing_ones, same_from_bits_below}
use Rattle.std.proofs.lemmas.Nat.Bits.{bit_at_ones, bit_at-zero}
use Rattle.lemmas.specs.Bits.{bit_at_low}

-- what the lowest k bits say, if they are all of one level
pub record Level (n k level_bits : ℕ) : Type 0 where
  pub least : 1 ≤ k
  pub within : k ≤ 90
  pub run : n % 2 ^ k ≡ level_bits
  pub some : 2 ^ (k - 1) ≤ n

beyond : (n k : ℕ) → n < 2 ^ 90 → 90 < k → bit_at n (k - 1) ≡ 0
beyond n k width lt =
    let h = pow-le-pow_right {n = 2} (omega arith) {i = 90} {j = k - 1} (omega arith) in
    let e : n / 2 ^ (k - 1) ≡ 0 = div-eq_of_lt (omega (arith, h)) in
    rw e refl

all_ones : (n k : ℕ) → ((i : ℕ) → i < k → bit_at n i ≡ 1) → n % 2 ^ k ≡ 2 ^ k - 1
all_ones n k ones =
    let some = pow_pos k in
    same_from_bits_below k (n % 2 ^ k) (2 ^ k - 1) (mod_below n (2 ^ k) some) (omega (arith, some))
    (λ i lt. bit_at_low n k i lt ∙ ones i lt ∙ sym (bit_at_ones k i lt))

all_zeros : (n k : ℕ) → ((i : ℕ) → i < k → bit_at n i ≡ 0) → n % 2 ^ k ≡ 0
all_zeros n k zeros =
    let some = pow_pos k in
    same_from_bits_below k (n % 2 ^ k) 0 (mod_below n (2 ^ k) some) some
    (λ i lt. bit_at_low n k i lt ∙ zeros i lt ∙ sym (bit_at-zero i))

one_or_more : (n k lowest : ℕ) → bit_at n k ≡ lowest → (n % 2 ≡ lowest → ⊥) → 1 ≤ k
one_or_more n zero lowest at not_lowest = absurd (not_lowest (omega (arith, at)))
one_or_more n (suc k) lowest at not_lowest = omega arith

no_more : (n k : ℕ) → n < 2 ^ 90 → ((i : ℕ) → i < k → bit_at n i ≡ 1) → k ≤ 90
no_more n k width ones =
    elim (cases_lt 90 k) [
      | inl lt ↦ let a = beyond n k width lt in let b = ones (k - 1) (omega (arith, lt)) in absurd (omega (arith, a, b))
      | inr le ↦ le
    ]

-- a set bit of the rest is within it
set_within : (n k : ℕ) → n < 2 ^ 90 → bit_at n k ≡ 1 → k ≤ 90
set_within n k width set =
    elim (cases_lt 90 k) [
      | inl lt ↦
          let h = pow-le-pow_right {n = 2} (omega arith) {i = 90} {j = k} (omega (arith, lt)) in
          let e : n / 2 ^ k ≡ 0 = div-eq_of_lt (omega (arith, h)) in
          let z : bit_at n k ≡ 0 = rw e refl in
          absurd (omega (arith, z, set))
      | inr le ↦ le
    ]

half_of : (k : ℕ) → 1 ≤ k → 2 ^ k ≡ 2 ^ (k - 1) * 2
half_of k some = let e = pow-add 2 (k - 1) 1 in let f : k - 1 + 1 ≡ k = omega (arith, some) in rw f at e

least_ones : (n k : ℕ) → 1 ≤ k → n % 2 ^ k ≡ 2 ^ k - 1 → 2 ^ (k - 1) ≤ n
least_ones n k some e =
    let half = half_of k some in
    let one = pow_pos (k - 1) in
    let split = shr_split n k in
    omega (arith, half, one, split, e)

least_zeros : (n k : ℕ) → 1 ≤ k → n / 2 ^ k % 2 ≡ 1 → 2 ^ (k - 1) ≤ n
least_zeros n k some e =
    let half = half_of k some in
    let one = pow_pos (k - 1) in
    let split = shr_split n k in
    let more : 1 * 2 ^ k ≤ n / 2 ^ k * 2 ^ k = mul-le 1 (2 ^ k) (n / 2 ^ k) (2 ^ k) (omega (arith, e)) (omega arith) in
    omega (arith, half, one, split, more)

pub ones_level : (n : ℕ) → n < 2 ^ 90 → n % 2 ≡ 1 → Level n (trailing_ones w128 n) (2 ^ trailing_ones w128 n - 1)
    × (n / 2 ^ trailing_ones w128 n % 2 ≡ 0)
ones_level n width odd =
    let t = bit_at-trailing_ones w128 n (omega arith) in
    let least = one_or_more n (trailing_ones w128 n) 0 t.1 (λ e. omega (arith, e, odd)) in (
      record {
        least = least;
        within = no_more n (trailing_ones w128 n) width t.2;
        run = all_ones n (trailing_ones w128 n) t.2;
        some = least_ones n (trailing_ones w128 n) least (all_ones n (trailing_ones w128 n) t.2);
      },
      t.1,
    )

pub zeros_level : (n : ℕ) → n < 2 ^ 90 → 1 ≤ n → n % 2 ≡ 0 → Level n (trailing_zeros w128 n) 0
    × (n / 2 ^ trailing_zeros w128 n % 2 ≡ 1)
zeros_level n width some even =
    let t = bit_at-trailing_zeros w128 n some (omega arith) in (
      record {
        least = one_or_more n (trailing_zeros w128 n) 1 t.1 (λ e. omega (arith, e, even));
        within = set_within n (trailing_zeros w128 n) width t.1;
        run = all_zeros n (trailing_zeros w128 n) t.2;
        some = least_zeros n (trailing_zeros w128 n)
            (one_or_more n (trailing_zeros w128 n) 1 t.1 (λ e. omega (arith, e, even))) t.1;
      },
      t.1,
    )

pub not_odd : (n : ℕ) → (n % 2 ≡ 1 → ⊥) → n % 2 ≡ 0
not_odd n h = grind arith
