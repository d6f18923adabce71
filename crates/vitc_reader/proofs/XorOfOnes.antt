-- An exclusive or with ones alone turns each bit.
use Rattle.std.proofs.Common.{◌≡◌, ℕ, zero, suc, ◌+◌, ◌-◌, ◌/◌, ◌%◌, ◌^◌, ◌<◌, sym, ap, ◌∙◌, arith}
use Rattle.std.specs.Prelude.{bit_xor}
use Rattle.std.specs.Int.{bit_at}
use Rattle.std.proofs.Math.Nat.{pow-suc}
use Rattle.std.proofs.lemmas.Nat.{xor_lt, pow_pos}
use Rattle.std.proofs.lemmas.Nat.Bits.{same_from_bits_below, bit_at_xor, bit_at_ones, bit_at-lt, bit_at-suc}
use Rattle.std.proofs.lemmas.Nat.Bits.{bit_at_lowest}

turned_bit : (k n i : ℕ) → n < 2 ^ k → i < k → bit_at (2 ^ k - 1 - n) i ≡ 1 - bit_at n i
turned_bit zero n i fits within = absurd (omega arith)
turned_bit (suc k) n zero fits within = omega (arith, bit_at_lowest (2 ^ suc k - 1 - n), bit_at_lowest n, pow-suc 2 k)
turned_bit (suc k) n (suc i) fits within =
    let half : (2 ^ suc k - 1 - n) / 2 ≡ 2 ^ k - 1 - n / 2 = omega (arith, pow-suc 2 k) in
    bit_at-suc _ i ∙ ap (λ x. bit_at x i) half ∙ turned_bit k (n / 2) i (omega (arith, pow-suc 2 k)) (omega arith)
    ∙ ap (λ d. 1 - d) (sym (bit_at-suc n i))

one_of_two : (b : ℕ) → b < 2 → (b + 1) % 2 ≡ 1 - b
one_of_two b lt = omega (arith, lt)

pub xor_ones : (k n : ℕ) → n < 2 ^ k → bit_xor n (2 ^ k - 1) ≡ 2 ^ k - 1 - n
xor_ones k n below =
    let some = pow_pos k in
    same_from_bits_below k (bit_xor n (2 ^ k - 1)) (2 ^ k - 1 - n) (xor_lt k n (2 ^ k - 1) below (omega (arith, some)))
    (omega (arith, some)) (λ i lt.
    bit_at_xor n (2 ^ k - 1) i ∙ ap (λ d. (bit_at n i + d) % 2) (bit_at_ones k i lt)
    ∙ one_of_two (bit_at n i) (bit_at-lt n i)
    ∙ sym (turned_bit k n i below lt))
