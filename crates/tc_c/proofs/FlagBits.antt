-- Six flags are the bits of a number below 64, and each is read from its own.
use Rattle.std.proofs.Common.{◌≡◌, ℕ, zero, suc, ◌/◌, ◌%◌, ◌<◌, Bool, true, false, refl, arith}
use Rattle.std.proofs.Common.{lit<}
use Rattle.std.specs.Prelude.{◌==◌}
use Rattle.tc_bits.specs.declared.flags.Flags.{Flags}
use Rattle.tc_bits.specs.Fields.{flags}
use Rattle.tc_c.specs.CEvent.{bit, flag_bits}
use Rattle.tc_c.specs.CWord.{flags_in}

bit_below : (flag : Bool) → bit flag < 2
bit_below true = lit< tt
bit_below false = lit< tt

read_bit : (m : ℕ) (flag : Bool) → m ≡ bit flag → (m == 1) ≡ flag
read_bit m true e = rw e refl
read_bit m false e = rw e refl

bit_read : (m : ℕ) → m < 2 → bit (m == 1) ≡ m
bit_read zero lt = refl
bit_read (suc zero) lt = refl
bit_read (suc (suc m)) lt = absurd (omega arith)

same_flags : (a b c d e a' b' c' d' e' : Bool) → a ≡ a' → b ≡ b' → c ≡ c' → d ≡ d' → e ≡ e'
    → flags a b c d e ≡ flags a' b' c' d' e'
same_flags a b c d e a' b' c' d' e' ha hb hc hd he = cc

-- flags are read from the number of their bits
pub flags_read : (f : Flags) (balanced : Bool) (n : ℕ) → flag_bits f balanced ≡ n → flags_in n ≡ f
flags_read f balanced n e =
    let a = bit_below f.drop_frame in let b = bit_below f.colour_frame in let c = bit_below f.group_flag_zero in
    let d = bit_below f.group_flag_one in let g = bit_below f.group_flag_two in let h = bit_below balanced in
    same_flags _ _ _ _ _ f.drop_frame f.colour_frame f.group_flag_zero f.group_flag_one f.group_flag_two
    (read_bit (n % 2) f.drop_frame (omega arith)) (read_bit (n / 2 % 2) f.colour_frame (omega arith))
    (read_bit (n / 4 % 2) f.group_flag_zero (omega arith)) (read_bit (n / 8 % 2) f.group_flag_one (omega arith))
    (read_bit (n / 16 % 2) f.group_flag_two (omega arith))

-- and so is the balance
pub balance_read : (f : Flags) (balanced : Bool) (n : ℕ) → flag_bits f balanced ≡ n → (n / 32 == 1) ≡ balanced
balance_read f balanced n e =
    let a = bit_below f.drop_frame in let b = bit_below f.colour_frame in let c = bit_below f.group_flag_zero in
    let d = bit_below f.group_flag_one in let g = bit_below f.group_flag_two in let h = bit_below balanced in
    read_bit (n / 32) balanced (omega arith)

-- the number is below 64
pub bits_below : (f : Flags) (balanced : Bool) (n : ℕ) → flag_bits f balanced ≡ n → n < 64
bits_below f balanced n e =
    let a = bit_below f.drop_frame in let b = bit_below f.colour_frame in let c = bit_below f.group_flag_zero in
    let d = bit_below f.group_flag_one in let g = bit_below f.group_flag_two in let h = bit_below balanced in
    omega arith

-- what is read from a number below 64 has it
pub number_read : (n : ℕ) → n < 64 → flag_bits (flags_in n) (n / 32 == 1) ≡ n
number_read n lt =
    let a = bit_read (n % 2) (omega arith) in let b = bit_read (n / 2 % 2) (omega arith) in
    let c = bit_read (n / 4 % 2) (omega arith) in let d = bit_read (n / 8 % 2) (omega arith) in
    let g = bit_read (n / 16 % 2) (omega arith) in let h = bit_read (n / 32) (omega arith) in
    omega arith
