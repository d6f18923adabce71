-- An exclusive or of bits is the parity of their sum. To fold a line in two keeps the parity of each
-- residue, and a check behind the line adds one bit to each.
use Rattle.std.proofs.Common.{◌≡◌, ℕ, zero, suc, ◌+◌, ◌/◌, ◌%◌, ◌^◌, ◌<◌, ◌≤◌, List, [], ◌∷◌, map, refl, sym, ap, ◌∙◌}
use Rattle.std.proofs.Common.{lit<, arith}
use Rattle.std.specs.Prelude.{bit_xor}
use Rattle.std.specs.Int.{bit_at}
use Rattle.std.proofs.Math.Nat.{div-eq_of_lt}
use Rattle.std.proofs.lemmas.Nat.{xor_lt, shr-shr, mod_below}
use Rattle.std.proofs.lemmas.Nat.Bits.{bit_at_xor, bit_at-lt}
use Rattle.std.proofs.Math.Nat.{pow-le-pow_right}
use Rattle.vitc_line.specs.CheckBits.{bits_of_residue, exclusive_or, residue}

-- each residue by itself
pub each_residue : (P : ℕ → Type 0) → P 0 → P 1 → P 2 → P 3 → P 4 → P 5 → P 6 → P 7 → (r : ℕ) → r < 8 → P r
each_residue P a b c d e f g h zero lt = a
each_residue P a b c d e f g h (suc zero) lt = b
each_residue P a b c d e f g h (suc (suc zero)) lt = c
each_residue P a b c d e f g h (suc (suc (suc zero))) lt = d
each_residue P a b c d e f g h (suc (suc (suc (suc zero)))) lt = e
each_residue P a b c d e f g h (suc (suc (suc (suc (suc zero))))) lt = f
each_residue P a b c d e f g h (suc (suc (suc (suc (suc (suc zero)))))) lt = g
each_residue P a b c d e f g h (suc (suc (suc (suc (suc (suc (suc zero))))))) lt = h
each_residue P a b c d e f g h (suc (suc (suc (suc (suc (suc (suc (suc r)))))))) lt = absurd (omega arith)

-- the sum of the bits in some places
abbrev pub sum_at : (ℕ → ℕ) → List ℕ → ℕ
sum_at b [] = 0
sum_at b (i ∷ is) = b i + sum_at b is

xor_of_bits : (a b : ℕ) → a < 2 → b < 2 → bit_xor a b ≡ (a + b) % 2
xor_of_bits a b ha hb =
    let h : bit_xor a b / 2 ^ 0 % 2 ≡ (a / 2 ^ 0 % 2 + b / 2 ^ 0 % 2) % 2 = bit_at_xor a b 0 in
    let low : bit_xor a b < 2 ^ 1 = xor_lt 1 a b (omega arith) (omega arith) in
    omega (arith, h, low)

is_parity : (bits : ℕ) (is : List ℕ) → exclusive_or (map (bit_at bits) is) ≡ sum_at (bit_at bits) is % 2
is_parity bits [] = refl
is_parity bits (i ∷ is) =
    let rest = is_parity bits is in
    let below : exclusive_or (map (bit_at bits) is) < 2 = rw rest (mod_below (sum_at (bit_at bits) is) 2 (lit< tt)) in
    let here = xor_of_bits (bit_at bits i) (exclusive_or (map (bit_at bits) is)) (bit_at-lt bits i) below in
    omega (arith, here, rest)

pub residue_is_parity : (r bits : ℕ) → residue r bits ≡ sum_at (bit_at bits) (bits_of_residue r) % 2
unfolding residue
residue_is_parity r bits = is_parity bits (bits_of_residue r)

-- a number folded in two by k bits
abbrev in_two : ℕ → ℕ → ℕ
in_two k n = bit_xor n (n / 2 ^ k)

bit_at-in_two : (k n i : ℕ) → bit_at (in_two k n) i ≡ (bit_at n i + bit_at n (k + i)) % 2
bit_at-in_two k n i =
    let e : n / 2 ^ k / 2 ^ i ≡ n / 2 ^ (k + i) = shr-shr n k i in
    rw (bit_at_xor n (n / 2 ^ k) i, e) refl

abbrev four : (ℕ → ℕ) → ℕ → ℕ
four b i = b i + b (64 + i) + (b (32 + i) + b (64 + (32 + i)))

abbrev sixteen : (ℕ → ℕ) → ℕ → ℕ
sixteen b i = four b i + four b (16 + i) + (four b (8 + i) + four b (16 + (8 + i)))

parity_of_two : (s t a b : ℕ) → a ≡ s % 2 → b ≡ t % 2 → (a + b) % 2 ≡ (s + t) % 2
parity_of_two s t a b p q = omega (arith, p, q)

abbrev in_four : ℕ → ℕ
in_four n = in_two 32 (in_two 64 n)

bit_at-in_four : (n i : ℕ) → bit_at (in_four n) i ≡ four (bit_at n) i % 2
bit_at-in_four n i =
    bit_at-in_two 32 (in_two 64 n) i
    ∙ parity_of_two (bit_at n i + bit_at n (64 + i)) (bit_at n (32 + i) + bit_at n (64 + (32 + i))) _ _
    (bit_at-in_two 64 n i) (bit_at-in_two 64 n (32 + i))

abbrev in_eight : ℕ → ℕ
in_eight n = in_two 16 (in_four n)

bit_at-in_eight : (n i : ℕ) → bit_at (in_eight n) i ≡ (four (bit_at n) i + four (bit_at n) (16 + i)) % 2
bit_at-in_eight n i =
    bit_at-in_two 16 (in_four n) i
    ∙ parity_of_two (four (bit_at n) i) (four (bit_at n) (16 + i)) _ _ (bit_at-in_four n i) (bit_at-in_four n (16 + i))

bit_at-in_sixteen : (n i : ℕ) → bit_at (in_two 8 (in_eight n)) i ≡ sixteen (bit_at n) i % 2
bit_at-in_sixteen n i =
    bit_at-in_two 8 (in_eight n) i
    ∙ parity_of_two (four (bit_at n) i + four (bit_at n) (16 + i))
    (four (bit_at n) (8 + i) + four (bit_at n) (16 + (8 + i))) _ _
    (bit_at-in_eight n i) (bit_at-in_eight n (8 + i))

-- bits behind the line are 0
pub bit_at-behind : (w n i : ℕ) → n < 2 ^ w → w ≤ i → bit_at n i ≡ 0
bit_at-behind w n i below le =
    let h : n < 2 ^ i = omega (arith, pow-le-pow_right {n = 2} (omega arith) le) in
    let e : n / 2 ^ i ≡ 0 = div-eq_of_lt h in
    rw e refl

-- of the sixteen bits of a residue the last ones come behind the line
first_twelve : (a b c d e f g h i j k l m n o p : ℕ) → m ≡ 0 → n ≡ 0 → o ≡ 0 → p ≡ 0
    → (a + i + (e + m)) + (c + k + (g + o)) + ((b + j + (f + n)) + (d + l + (h + p)))
    ≡ a + (b + (c + (d + (e + (f + (g + (h + (i + (j + (k + (l + 0)))))))))))
first_twelve a b c d e f g h i j k l m n o p zm zn zo zp = omega arith

first_eleven : (a b c d e f g h i j k l m n o p : ℕ) → l ≡ 0 → m ≡ 0 → n ≡ 0 → o ≡ 0 → p ≡ 0
    → (a + i + (e + m)) + (c + k + (g + o)) + ((b + j + (f + n)) + (d + l + (h + p)))
    ≡ a + (b + (c + (d + (e + (f + (g + (h + (i + (j + (k + 0))))))))))
first_eleven a b c d e f g h i j k l m n o p zl zm zn zo zp = omega arith

sixteen_are_all : (b : ℕ → ℕ) → ((i : ℕ) → 90 ≤ i → b i ≡ 0) → (r : ℕ) → r < 8
    → sixteen b r ≡ sum_at b (bits_of_residue r)
sixteen_are_all b behind = each_residue (λ r. sixteen b r ≡ sum_at b (bits_of_residue r))
    (first_twelve (b 0) (b 8) (b 16) (b 24) (b 32) (b 40) (b 48) (b 56) (b 64) (b 72) (b 80) (b 88) (b 96) (b 104)
    (b 112) (b 120)
    (behind 96 (lit< tt)) (behind 104 (lit< tt)) (behind 112 (lit< tt)) (behind 120 (lit< tt)))
    (first_twelve (b 1) (b 9) (b 17) (b 25) (b 33) (b 41) (b 49) (b 57) (b 65) (b 73) (b 81) (b 89) (b 97) (b 105)
    (b 113) (b 121)
    (behind 97 (lit< tt)) (behind 105 (lit< tt)) (behind 113 (lit< tt)) (behind 121 (lit< tt)))
    (first_eleven (b 2) (b 10) (b 18) (b 26) (b 34) (b 42) (b 50) (b 58) (b 66) (b 74) (b 82) (b 90) (b 98) (b 106)
    (b 114) (b 122)
    (behind 90 (lit< tt)) (behind 98 (lit< tt)) (behind 106 (lit< tt)) (behind 114 (lit< tt)) (behind 122 (lit< tt)))
    (first_eleven (b 3) (b 11) (b 19) (b 27) (b 35) (b 43) (b 51) (b 59) (b 67) (b 75) (b 83) (b 91) (b 99) (b 107)
    (b 115) (b 123)
    (behind 91 (lit< tt)) (behind 99 (lit< tt)) (behind 107 (lit< tt)) (behind 115 (lit< tt)) (behind 123 (lit< tt)))
    (first_eleven (b 4) (b 12) (b 20) (b 28) (b 36) (b 44) (b 52) (b 60) (b 68) (b 76) (b 84) (b 92) (b 100) (b 108)
    (b 116) (b 124)
    (behind 92 (lit< tt)) (behind 100 (lit< tt)) (behind 108 (lit< tt)) (behind 116 (lit< tt)) (behind 124 (lit< tt)))
    (first_eleven (b 5) (b 13) (b 21) (b 29) (b 37) (b 45) (b 53) (b 61) (b 69) (b 77) (b 85) (b 93) (b 101) (b 109)
    (b 117) (b 125)
    (behind 93 (lit< tt)) (behind 101 (lit< tt)) (behind 109 (lit< tt)) (behind 117 (lit< tt)) (behind 125 (lit< tt)))
    (first_eleven (b 6) (b 14) (b 22) (b 30) (b 38) (b 46) (b 54) (b 62) (b 70) (b 78) (b 86) (b 94) (b 102) (b 110)
    (b 118) (b 126)
    (behind 94 (lit< tt)) (behind 102 (lit< tt)) (behind 110 (lit< tt)) (behind 118 (lit< tt)) (behind 126 (lit< tt)))
    (first_eleven (b 7) (b 15) (b 23) (b 31) (b 39) (b 47) (b 55) (b 63) (b 71) (b 79) (b 87) (b 95) (b 103) (b 111)
    (b 119) (b 127)
    (behind 95 (lit< tt)) (behind 103 (lit< tt)) (behind 111 (lit< tt)) (behind 119 (lit< tt)) (behind 127 (lit< tt)))

-- the folded line, as a number of eight bits
abbrev pub folded_in_sixteen : ℕ → ℕ
folded_in_sixteen bits = in_two 8 (in_eight bits) % 256

low_bit : (n r : ℕ) → r < 8 → bit_at (n % 256) r ≡ bit_at n r
low_bit n = each_residue (λ r. bit_at (n % 256) r ≡ bit_at n r)
    (omega arith) (omega arith) (omega arith) (omega arith) (omega arith) (omega arith) (omega arith) (omega arith)

-- each bit of it is the exclusive or of its residue
pub bit_at-folded : (bits r : ℕ) → bits < 2 ^ 90 → r < 8 → bit_at (folded_in_sixteen bits) r ≡ residue r bits
bit_at-folded bits r width lt =
    low_bit (in_two 8 (in_eight bits)) r lt ∙ bit_at-in_sixteen bits r
    ∙ ap (λ (n : ℕ). n % 2) (sixteen_are_all (bit_at bits) (λ i le. bit_at-behind 90 bits i width le) r lt)
    ∙ sym (residue_is_parity r bits)
