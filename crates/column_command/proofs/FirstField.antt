-- The first part of bytes goes up to the first one that ends a part, and the others are those of the rest.
use Rattle.std.proofs.Common.{◌≡◌, ℕ, ◌+◌, ◌<◌, Bool, true, false, List, [], ◌∷◌, length, drop, take, refl, ap, ◌∙◌, suc, sym}
use Rattle.std.proofs.Common.{arith}
use Rattle.std.specs.List.{position_or_len}
use Rattle.label_columns.specs.Parts.{in_front, part_of, parted}

-- a place behind a byte
one_on : (ends : ℕ → Bool) (byte : ℕ) (bytes : List ℕ) (n : ℕ)
    → part_of (take (1 + n) (byte ∷ bytes)) (take 1 (drop (1 + n) (byte ∷ bytes)))
    ∷ parted ends (drop (1 + n + 1) (byte ∷ bytes))
    ≡ part_of (byte ∷ take n bytes) (take 1 (drop n bytes)) ∷ parted ends (drop (n + 1) bytes)
one_on ends byte bytes n =
    let behind : 1 + n + 1 ≡ suc (n + 1) = omega arith in
    let here : 1 + n ≡ suc n = omega arith in
    rw (behind, here) refl

pub parted_first : (ends : ℕ → Bool) (bytes : List ℕ) → 0 < length bytes
    → parted ends bytes
    ≡ part_of (take (position_or_len ends bytes) bytes) (take 1 (drop (position_or_len ends bytes) bytes))
    ∷ parted ends (drop (position_or_len ends bytes + 1) bytes)
unfolding parted
parted_first ends [] some = absurd (omega (arith, some))
parted_first ends (byte ∷ bytes) some = by_byte (ends byte) refl (parted_first ends bytes)
  where
    by_rest : (rest : List ℕ)
        → (0 < length rest → parted ends rest
        ≡ part_of (take (position_or_len ends rest) rest) (take 1 (drop (position_or_len ends rest) rest))
        ∷ parted ends (drop (position_or_len ends rest + 1) rest))
        → in_front byte (parted ends rest)
        ≡ part_of (byte ∷ take (position_or_len ends rest) rest) (take 1 (drop (position_or_len ends rest) rest))
        ∷ parted ends (drop (position_or_len ends rest + 1) rest)
    by_rest [] first = refl
    by_rest (next ∷ rest) first = ap (in_front byte) (first (omega arith))

    by_byte : (is : Bool) → ends byte ≡ is
        → (0 < length bytes → parted ends bytes
        ≡ part_of (take (position_or_len ends bytes) bytes) (take 1 (drop (position_or_len ends bytes) bytes))
        ∷ parted ends (drop (position_or_len ends bytes + 1) bytes))
        → parted ends (byte ∷ bytes)
        ≡ part_of (take (position_or_len ends (byte ∷ bytes)) (byte ∷ bytes))
        (take 1 (drop (position_or_len ends (byte ∷ bytes)) (byte ∷ bytes)))
        ∷ parted ends (drop (position_or_len ends (byte ∷ bytes) + 1) (byte ∷ bytes))
    by_byte true e first = rw e refl
    by_byte false e first = rw e (by_rest bytes first ∙ sym (one_on ends byte bytes (position_or_len ends bytes)))
