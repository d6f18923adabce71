-- How far a kind of bytes goes on, and where the last of another kind stands.
use Rattle.std.proofs.Common.{◌≡◌, ℕ, ◌+◌, ◌-◌, ◌<◌, ◌≤◌, true, false, List, [], ◌∷◌}
use Rattle.std.proofs.Common.{◌++◌, length, take, get_or, refl, ap, ◌∙◌, arith}
use Rattle.std.proofs.Math.Bool.{and-false}
use Rattle.std.proofs.lemmas.Bool.{ne_eqb}
use Rattle.std.proofs.lemmas.List.{length-take-le, take_more}
use Rattle.label_columns.specs.Columns.{is_blank, up_to_last}

-- a blank more at the end
blank_behind : (bytes : List ℕ) (byte : ℕ) → is_blank byte ≡ true → up_to_last (bytes ++ byte ∷ []) ≡ up_to_last bytes
unfolding up_to_last
blank_behind [] byte is = rw is refl
blank_behind (first ∷ bytes) byte is = rw (blank_behind bytes byte is) refl

-- another byte at the end
other_behind : (bytes : List ℕ) (byte : ℕ) → is_blank byte ≡ false
    → up_to_last (bytes ++ byte ∷ []) ≡ length bytes + 1
unfolding up_to_last
other_behind [] byte is = rw is refl
other_behind (first ∷ bytes) byte is =
    rw (other_behind bytes byte is, ne_eqb (length bytes + 1) 0 (omega arith), and-false (is_blank first))
    (omega arith)

pub nothing_left : (bytes : List ℕ) → up_to_last (take 0 bytes) ≡ 0
unfolding up_to_last
nothing_left bytes = refl

-- the bytes up to a place, and those up to the one before it
pub one_back : (bytes : List ℕ) (end : ℕ) → 0 < end → end ≤ length bytes
    → is_blank (get_or bytes (end - 1) 0) ≡ true → up_to_last (take end bytes) ≡ up_to_last (take (end - 1) bytes)
one_back bytes end some within is =
    let last : end ≡ (end - 1) + 1 = omega (arith, some) in
    ap (λ (n : ℕ). up_to_last (take n bytes)) last
    ∙ ap up_to_last (take_more bytes (end - 1) 0 (omega (arith, some, within)))
    ∙ blank_behind (take (end - 1) bytes) (get_or bytes (end - 1) 0) is

pub last_of_all : (bytes : List ℕ) (end : ℕ) → 0 < end → end ≤ length bytes
    → is_blank (get_or bytes (end - 1) 0) ≡ false → up_to_last (take end bytes) ≡ end
last_of_all bytes end some within is =
    let last : end ≡ (end - 1) + 1 = omega (arith, some) in
    ap (λ (n : ℕ). up_to_last (take n bytes)) last
    ∙ ap up_to_last (take_more bytes (end - 1) 0 (omega (arith, some, within)))
    ∙ other_behind (take (end - 1) bytes) (get_or bytes (end - 1) 0) is
    ∙ omega (arith, some, within, length-take-le (end - 1) bytes (omega (arith, within)))
