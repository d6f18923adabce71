-- Bits read the last one first: bit i of the result is the i-th from the end, so that twice is the
-- same again.
use Rattle.std.proofs.Common.{◌≡◌, ℕ, zero, suc, ◌+◌, ◌-◌, ◌*◌, ◌/◌, ◌%◌, ◌^◌, ◌<◌, refl, sym, ap, ◌∙◌, arith}
use Rattle.std.specs.Int.{bit_at, reverse_bits_onto}
use Rattle.std.proofs.lemmas.Nat.{pow_pos, shr_high, mod_below}
use Rattle.std.proofs.lemmas.Nat.Bits.{same_from_bits_below}
use Rattle.std.proofs.Math.Nat.{pow-suc, mod-eq_of_lt}
use Rattle.lemmas.specs.Bits.{halved, bit_at_low}

-- the lowest k bits of n, the last one first
abbrev pub turned : ℕ → ℕ → ℕ
turned k n = reverse_bits_onto k n 0

spread : (a b p : ℕ) → (a * 2 + b) * p ≡ a * (p * 2) + (0 * 2 + b) * p
spread a b p = grind arith

-- what came before moves up by k bits
pub onto_split : (k n a : ℕ) → reverse_bits_onto k n a ≡ a * 2 ^ k + turned k n
unfolding reverse_bits_onto
onto_split zero n a = omega arith
onto_split (suc k) n a =
    let whole : reverse_bits_onto k (n / 2) (a * 2 + n % 2) ≡ (a * 2 + n % 2) * 2 ^ k + turned k (n / 2) =
    onto_split k (n / 2) (a * 2 + n % 2) in
    let low : reverse_bits_onto k (n / 2) (0 * 2 + n % 2) ≡ (0 * 2 + n % 2) * 2 ^ k + turned k (n / 2) =
    onto_split k (n / 2) (0 * 2 + n % 2) in
    let sum : reverse_bits_onto k (n / 2) (a * 2 + n % 2) ≡ a * 2 ^ suc k + reverse_bits_onto k (n / 2) (0 * 2 + n % 2)
    =
    rw (whole, low, pow-suc 2 k, spread a (n % 2) (2 ^ k)) (omega arith) in
    sum

-- the first bit comes to be above the others
pub turned-suc : (k n : ℕ) → turned (suc k) n ≡ n % 2 * 2 ^ k + turned k (n / 2)
unfolding reverse_bits_onto
turned-suc k n =
    let low : reverse_bits_onto k (n / 2) (0 * 2 + n % 2) ≡ (0 * 2 + n % 2) * 2 ^ k + turned k (n / 2) =
    onto_split k (n / 2) (0 * 2 + n % 2) in
    let e : 0 * 2 + n % 2 ≡ n % 2 = omega arith in
    low ∙ ap (λ (b : ℕ). b * 2 ^ k + turned k (n / 2)) e

bit_times : (b p t : ℕ) → b < 2 → t < p → b * p + t < p * 2
bit_times zero p t lt h = omega arith
bit_times (suc zero) p t lt h = omega arith
bit_times (suc (suc b)) p t lt h = absurd (omega arith)

turned_none : (n : ℕ) → turned 0 n < 2 ^ 0
unfolding reverse_bits_onto
turned_none n = omega arith

pub turned_below : (k n : ℕ) → turned k n < 2 ^ k
turned_below zero n = turned_none n
turned_below (suc k) n =
    rw (turned-suc k n, pow-suc 2 k)
    (bit_times (n % 2) (2 ^ k) (turned k (n / 2)) (omega arith) (turned_below k (n / 2)))

-- first j bits, and then k more
pub onto_more : (j k n a : ℕ) → reverse_bits_onto (j + k) n a ≡ reverse_bits_onto k (n / 2 ^ j)
    (reverse_bits_onto j n a)
unfolding reverse_bits_onto
onto_more zero k n a = let e : zero + k ≡ k = omega arith in let d : n / 2 ^ zero ≡ n = omega arith in rw (e, d) refl
onto_more (suc j) k n a =
    let e : suc j + k ≡ suc (j + k) = omega arith in
    rw (e, ← halved n j) (onto_more j k (n / 2) (a * 2 + n % 2))

-- the first j bits come to be above the others
pub turned_parts : (j k n : ℕ) → turned (j + k) n ≡ turned j n * 2 ^ k + turned k (n / 2 ^ j)
turned_parts j k n = onto_more j k n 0 ∙ onto_split k (n / 2 ^ j) (turned j n)

-- the first j bits are what is above
pub turned_high : (j k n : ℕ) → turned (j + k) n / 2 ^ k ≡ turned j n
turned_high j k n = rw (turned_parts j k n)
    (shr_high (turned j n) k (turned k (n / 2 ^ j)) (turned_below k (n / 2 ^ j)))

turned_one_more : (j n : ℕ) → turned (j + 1) n % 2 ≡ bit_at n j
unfolding reverse_bits_onto
turned_one_more j n = omega (arith, turned_parts j 1 n)

-- bit i of the result is the i-th from the end
pub bit_at-turned : (k n i : ℕ) → i < k → bit_at (turned k n) i ≡ bit_at n (k - 1 - i)
bit_at-turned k n i lt =
    let j = k - 1 - i in
    let e : j + 1 + i ≡ k = omega arith in
    let high : turned k n / 2 ^ i ≡ turned (j + 1) n = rw e at (turned_high (j + 1) i n) in
    rw high (turned_one_more j n)

bit_back : (n k i : ℕ) → i < k → bit_at n (k - 1 - (k - 1 - i)) ≡ bit_at (n % 2 ^ k) i
bit_back n k i lt = let e : k - 1 - (k - 1 - i) ≡ i = omega arith in rw e (sym (bit_at_low n k i lt))

-- twice gives the lowest k bits again
pub turned_twice : (k n : ℕ) → turned k (turned k n) ≡ n % 2 ^ k
turned_twice k n = same_from_bits_below k (turned k (turned k n)) (n % 2 ^ k) (turned_below k (turned k n))
    (mod_below n (2 ^ k) (pow_pos k))
    (λ i lt. bit_at-turned k (turned k n) i lt ∙ bit_at-turned k n (k - 1 - i) (omega arith) ∙ bit_back n k i lt)

-- a register of j + k bits, turned as a whole and moved down by k, is its first j bits turned
pub turned_moved : (j k n whole : ℕ) → whole ≡ turned (j + k) n → whole / 2 ^ k ≡ turned j n
turned_moved j k n whole e = rw e (turned_high j k n)

-- what is at the top of 80 bits turned is what was in the first 16, turned
pub top_of_turned : (n : ℕ) → turned 80 n / 2 ^ 64 % 2 ^ 16 ≡ turned 16 n
top_of_turned n = rw (turned_high 16 64 n) (mod-eq_of_lt (turned_below 16 n))

-- the first 16 bits turned are a pattern exactly if they are the pattern turned
pub turned_is : (n pattern back : ℕ) → back ≡ turned 16 pattern → n % 2 ^ 16 ≡ pattern → turned 16 n ≡ back
turned_is n pattern back e h =
    sym (mod-eq_of_lt (turned_below 16 n)) ∙ sym (turned_twice 16 (turned 16 n))
    ∙ ap (turned 16) (turned_twice 16 n ∙ h) ∙ sym e

sync_turned : turned 16 16381 ≡ 49148
unfolding reverse_bits_onto
sync_turned = refl

sync_back : turned 16 49148 ≡ 16381
unfolding reverse_bits_onto
sync_back = refl

-- the bits, turned, end in the sync word if they begin with the sync word turned
pub ends_turned : (n : ℕ) → n % 2 ^ 16 ≡ 16381 → turned 80 n / 2 ^ 64 % 2 ^ 16 ≡ 49148
ends_turned n h = top_of_turned n ∙ turned_is n 16381 49148 (sym sync_turned) h

pub begins_turned : (n : ℕ) → turned 80 n / 2 ^ 64 % 2 ^ 16 ≡ 49148 → n % 2 ^ 16 ≡ 16381
begins_turned n h = sym (turned_twice 16 n) ∙ ap (turned 16) (sym (top_of_turned n) ∙ h) ∙ sync_back
