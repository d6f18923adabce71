-- The check of a line (SMPTE 12M, the cyclic redundancy check of the vertical interval time code). The
-- remainder by the generator `x^8 + 1`, from the start value 0, is 0 exactly if each of eight
-- exclusive ors is 0.
use Rattle.std.specs.Prelude.{ℕ, ◌%◌, Bool, ◌==◌, not, List, [], ◌∷◌, Option, map, find, bit_xor}
use Rattle.std.specs.List.{filter, range_with_len}
use Rattle.std.specs.Int.{bit_at}

-- the bits of a line whose number leaves r after a division by 8
abbrev pub bits_of_residue : ℕ → List ℕ
bits_of_residue r = filter (λ i. i % 8 == r) (range_with_len 0 90)

-- the exclusive or of some bits
abbrev pub exclusive_or : List ℕ → ℕ
exclusive_or [] = 0
exclusive_or (bit ∷ bits) = bit_xor bit (exclusive_or bits)

-- the exclusive or of all bits with this residue
unfoldable pub residue : ℕ → ℕ → ℕ
residue r bits = exclusive_or (map (bit_at bits) (bits_of_residue r))

-- the exclusive or is not 0
abbrev pub is_wrong_residue : ℕ → ℕ → Bool
is_wrong_residue bits r = not (residue r bits == 0)

-- the least residue whose exclusive or is not 0
unfoldable pub wrong_residue : ℕ → Option ℕ
wrong_residue bits = find (is_wrong_residue bits) (range_with_len 0 8)

-- a bit is set
abbrev pub is_set_bit : ℕ → ℕ → Bool
is_set_bit sums r = not (bit_at sums r == 0)

-- the first of eight bits that is set
unfoldable pub first_set_bit : ℕ → Option ℕ
first_set_bit sums = find (is_set_bit sums) (range_with_len 0 8)
