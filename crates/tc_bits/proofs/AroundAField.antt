-- A register is what is above a field, the field, and what is below it. To write the field
-- is to put these three together again.
use Rattle.std.proofs.Common.{◌≡◌, ℕ, ◌+◌, ◌-◌, ◌*◌, ◌/◌, ◌%◌, ◌^◌, ◌<◌, ◌≤◌, arith, sym, ap, ◌∙◌, ◌⊎◌, inl, inr}
use Rattle.std.proofs.lemmas.Nat.{pow-add, pow_pos, shr-shr, shr_high, mod_low, mul-add-lt, mod_below, shr_split}
use Rattle.std.proofs.Math.Nat.{pow-le-pow_right}
use Rattle.std.proofs.lemmas.Nat.Bits.{bit_at_cat_low}
use Rattle.std.specs.Int.{bit_at}
use Rattle.tc_bits.specs.Register.{field}

-- the new register holds the value in the field, and all other bits as the old one had them
pub record Replaces (old new first width value : ℕ) : Type 0 where
  pub put : field new first width ≡ value
  pub below : new % 2 ^ first ≡ old % 2 ^ first
  pub above : new / 2 ^ (first + width) ≡ old / 2 ^ (first + width)

-- a number of j digits and one of k digits behind it have j + k digits
pub joined_below : (j k high low : ℕ) → high < 2 ^ j → low < 2 ^ k → high * 2 ^ k + low < 2 ^ (j + k)
joined_below j k high low h l = omega (arith, mul-add-lt high (2 ^ k) low (2 ^ j) h l, pow-add 2 j k)

pub pow_bound : (n j k : ℕ) → j ≤ k → n < 2 ^ j → n < 2 ^ k
pow_bound n j k le h = omega (arith, pow-le-pow_right {n = 2} (omega arith) le)

-- the three parts put together hold the value, and the rest as it was
pub put_together : (bits first width value : ℕ) → value < 2 ^ width
    → Replaces bits ((bits / 2 ^ first / 2 ^ width * 2 ^ width + value) * 2 ^ first + bits % 2 ^ first) first width
    value
put_together bits first width value fits =
    let high = bits / 2 ^ first / 2 ^ width in
    let middle = high * 2 ^ width + value in
    let low = bits % 2 ^ first in
    let below : low < 2 ^ first = mod_below bits (2 ^ first) (pow_pos first) in
    let shifted : (middle * 2 ^ first + low) / 2 ^ first ≡ middle = shr_high middle first low below in
    record {
      put = rw shifted (mod_low high width value fits);
      below = mod_low middle first low below;
      above = rw (← shr-shr (middle * 2 ^ first + low) first width, ← shr-shr bits first width, shifted)
          (shr_high high width value fits);
    }

pub bit_of_low : (n k i : ℕ) → i < k → bit_at n i ≡ bit_at (n % 2 ^ k) i
bit_of_low n k i lt = let h = bit_at_cat_low (n / 2 ^ k) k (n % 2 ^ k) i lt in rw (shr_split n k) at h

bit_of_high : (n k i : ℕ) → k ≤ i → bit_at n i ≡ bit_at (n / 2 ^ k) (i - k)
bit_of_high n k i le =
    let e : k + (i - k) ≡ i = omega arith in
    let h : n / 2 ^ k / 2 ^ (i - k) ≡ n / 2 ^ i = rw e at (shr-shr n k (i - k)) in
    ap (λ (m : ℕ). m % 2) (sym h)

-- a bit below the field or above it is as it was
pub other_bits : (old new first width value i : ℕ) → Replaces old new first width value → (i < first)
    ⊎ (first + width ≤ i) → bit_at new i ≡ bit_at old i
other_bits old new first width value i r (inl lt) =
    bit_of_low new first i lt ∙ ap (λ (n : ℕ). bit_at n i) r.below ∙ sym (bit_of_low old first i lt)
other_bits old new first width value i r (inr le) =
    bit_of_high new (first + width) i le ∙ ap (λ (n : ℕ). bit_at n (i - (first + width))) r.above
    ∙ sym (bit_of_high old (first + width) i le)

pub parts_of : (n first width : ℕ) → n ≡ (n / 2 ^ (first + width) * 2 ^ width + field n first width) * 2 ^ first
    + n % 2 ^ first
parts_of n first width =
    let outer = shr_split n first in
    let inner : n / 2 ^ (first + width) * 2 ^ width + field n first width ≡ n / 2 ^ first =
    rw (← shr-shr n first width) (shr_split (n / 2 ^ first) width) in
    rw inner (sym outer)
