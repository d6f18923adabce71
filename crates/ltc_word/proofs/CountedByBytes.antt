-- The ones of a number are those of its bytes, and a byte's are counted by computing.
use Rattle.std.proofs.Common.{◌≡◌, ℕ, zero, suc, ◌+◌, ◌-◌, ◌*◌, ◌/◌, ◌%◌, ◌^◌, ◌<◌, refl, lit<, arith, true, false}
use Rattle.std.specs.Prelude.{◌↔◌, IsTrue}
use Rattle.std.specs.Int.RustNames.{count_ones}
use Rattle.std.proofs.lemmas.Nat.{mod_below, ones_cat, shr_split}
use Rattle.std.proofs.Math.Nat.{pow-suc}
use Rattle.ltc_word.specs.Balance.{IsBalanced}

-- the ones of the lowest bytes
unfoldable pub ones_in_bytes : ℕ → ℕ → ℕ
ones_in_bytes zero n = 0
ones_in_bytes (suc k) n = count_ones (n % 2 ^ 8) + ones_in_bytes k (n / 2 ^ 8)

none_left : count_ones 0 ≡ 0
unfolding count_ones
none_left = refl

smaller : (n m : ℕ) → n < m * 2 ^ 8 → n / 2 ^ 8 < m
smaller n m h = omega arith

pub ones_by_bytes : (k n : ℕ) → n < (2 ^ 8) ^ k → count_ones n ≡ ones_in_bytes k n
unfolding ones_in_bytes
ones_by_bytes zero n below = let e : n ≡ 0 = omega arith in rw e none_left
ones_by_bytes (suc k) n below =
    let low : n % 2 ^ 8 < 2 ^ 8 = mod_below n (2 ^ 8) (lit< tt) in
    let parts : count_ones n ≡ count_ones (n / 2 ^ 8) + count_ones (n % 2 ^ 8) =
    rw (shr_split n 8) at (ones_cat 8 (n / 2 ^ 8) (n % 2 ^ 8) low) in
    let rest = ones_by_bytes k (n / 2 ^ 8) (smaller n ((2 ^ 8) ^ k) (rw (pow-suc (2 ^ 8) k) at below)) in
    omega arith

-- an even number of zeros, counted
pub even : (bits : ℕ) → bits < 2 ^ 80 → (80 - ones_in_bytes 10 bits) % 2 ≡ 0 → (IsTrue true ↔ IsBalanced bits)
even bits width counted = (λ t. rw (ones_by_bytes 10 bits width) counted, λ b. refl)

-- an odd number of zeros, counted
pub odd : (bits : ℕ) → bits < 2 ^ 80 → (80 - ones_in_bytes 10 bits) % 2 ≡ 1 → (IsTrue false ↔ IsBalanced bits)
odd bits width counted = (λ t. absurd cc, λ b. let e = ones_by_bytes 10 bits width in absurd (omega arith))
