-- The sync word is right exactly if none of its bits differs from the pattern's.
use Rattle.std.proofs.Common.{◌≡◌, ℕ, ◌+◌, ◌-◌, ◌/◌, ◌%◌, ◌^◌, ◌<◌, false, not}
use Rattle.std.proofs.Common.{None, sym, ap, ◌∙◌, lit<, arith}
use Rattle.std.specs.Int.{bit_at}
use Rattle.std.proofs.lemmas.Bool.{eqb-true, eq-eqb, not-false}
use Rattle.std.proofs.lemmas.Nat.{shr-shr, mod_below}
use Rattle.std.proofs.lemmas.Nat.Bits.{same_from_bits_below}
use Rattle.lemmas.specs.Searches.{find_none, none_found}
use Rattle.tc_bits.specs.Register.{number_in}
use Rattle.ltc_word.specs.declared.places.TheConstants.{SYNC, SYNC_PATTERN}
use Rattle.ltc_word.specs.Fault.{differs, wrong_sync_bit}
use Rattle.lemmas.specs.Bits.{bit_at_low}

-- a bit of the sync word is a bit of the number that it is
sync_bit : (bits i : ℕ) → i < 16 → bit_at bits (64 + i) ≡ bit_at (number_in SYNC bits) i
sync_bit bits i lt = ap (λ (n : ℕ). n % 2) (sym (shr-shr bits 64 i)) ∙ sym (bit_at_low (bits / 2 ^ 64) 16 i lt)

same_bit : (bits i : ℕ) → differs bits (64 + i) ≡ false → bit_at bits (64 + i) ≡ bit_at SYNC_PATTERN i
same_bit bits i e =
    let k : 64 + i - 64 ≡ i = omega arith in
    rw k at (eqb-true (bit_at bits (64 + i)) (bit_at SYNC_PATTERN (64 + i - 64)) (not-false _ e))

pub right_from_none : (bits : ℕ) → wrong_sync_bit bits ≡ None → number_in SYNC bits ≡ SYNC_PATTERN
unfolding wrong_sync_bit
right_from_none bits e =
    same_from_bits_below 16 (number_in SYNC bits) SYNC_PATTERN (mod_below (bits / 2 ^ 64) (2 ^ 16) (lit< tt)) (lit< tt)
    (λ i lt. sym (sync_bit bits i lt) ∙ same_bit bits i (find_none (differs bits) 64 16 e i lt))

pub none_from_right : (bits : ℕ) → number_in SYNC bits ≡ SYNC_PATTERN → wrong_sync_bit bits ≡ None
unfolding wrong_sync_bit
none_from_right bits h =
    none_found (differs bits) 64 16 (λ i lt.
    let k : 64 + i - 64 ≡ i = omega arith in
    let e : bit_at bits (64 + i) ≡ bit_at SYNC_PATTERN (64 + i - 64) =
    rw k (sync_bit bits i lt ∙ ap (λ (n : ℕ). bit_at n i) h) in
    ap not (eq-eqb _ _ e))
