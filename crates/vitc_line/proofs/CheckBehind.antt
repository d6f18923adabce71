-- A check behind the line adds one bit to each residue, so it is one number that makes all of them even.
use Rattle.std.proofs.Common.{◌≡◌, ℕ, ◌+◌, ◌*◌, ◌/◌, ◌%◌, ◌^◌, ◌<◌, true, List, [], ◌∷◌, ◌++◌, refl, sym, ap, ap₂}
use Rattle.std.proofs.Common.{◌∙◌, lit<, arith}
use Rattle.std.specs.Prelude.{◌==◌, nat_lt}
use Rattle.std.specs.List.{filter, range_with_len, list_all}
use Rattle.std.specs.Int.{bit_at}
use Rattle.std.proofs.lemmas.Nat.{shr-shr, shr_high, mod_below}
use Rattle.std.proofs.lemmas.Nat.Bits.{bit_at_cat_low, bit_at-lt, same_from_bits_below}
use Rattle.std.proofs.lemmas.Bool.{and_parts}
use Rattle.vitc_line.specs.CheckBits.{bits_of_residue, residue}
use Rattle.vitc_line.specs.Spelled.{check_sum}
use Rattle.vitc_line.proofs.FoldedCheck.{each_residue, sum_at, residue_is_parity, bit_at-behind}

-- the bits of a residue before the check, and the bit of the check that has this residue
abbrev before_check : ℕ → List ℕ
before_check r = filter (λ i. i % 8 == r) (range_with_len 0 82)

abbrev check_bit : ℕ → ℕ
check_bit r = (r + 6) % 8

one_in_the_check : (r : ℕ) → r < 8 → bits_of_residue r ≡ before_check r ++ (82 + check_bit r) ∷ []
one_in_the_check = each_residue (λ r. bits_of_residue r ≡ before_check r ++ (82 + check_bit r) ∷ []) refl refl refl refl
    refl refl refl refl

are_before : (r : ℕ) → r < 8 → list_all (λ i. nat_lt i 82) (before_check r) ≡ true
are_before = each_residue (λ r. list_all (λ i. nat_lt i 82) (before_check r) ≡ true) refl refl refl refl refl refl refl
    refl

sum_at-last : (b : ℕ → ℕ) (is : List ℕ) (i : ℕ) → sum_at b (is ++ i ∷ []) ≡ sum_at b is + b i
sum_at-last b [] i = omega arith
sum_at-last b (j ∷ is) i = let h = sum_at-last b is i in omega (arith, h)

split_sum : (b : ℕ → ℕ) (all is : List ℕ) (i : ℕ) → all ≡ is ++ i ∷ [] → sum_at b all ≡ sum_at b is + b i
split_sum b all is i e = ap (sum_at b) e ∙ sum_at-last b is i

same_sum : (b g : ℕ → ℕ) (is : List ℕ) → ((i : ℕ) → i < 82 → b i ≡ g i) → list_all (λ i. nat_lt i 82) is ≡ true
    → sum_at b is ≡ sum_at g is
same_sum b g [] same all = refl
same_sum b g (i ∷ is) same all =
    let h = and_parts (nat_lt i 82) (list_all (λ i. nat_lt i 82) is) all in
    let lt : i < 82 = grind (arith, h.0) in
    ap₂ (λ (x y : ℕ). x + y) (same i lt) (same_sum b g is same h.1)

-- the bits of a line with its check behind it
low_bits : (body check i : ℕ) → body < 2 ^ 82 → i < 82 → bit_at (body + check * 2 ^ 82) i ≡ bit_at body i
low_bits body check i below lt =
    let e : body + check * 2 ^ 82 ≡ check * 2 ^ 82 + body = omega arith in
    rw e (bit_at_cat_low check 82 body i lt)

high_bits : (body check k : ℕ) → body < 2 ^ 82 → bit_at (body + check * 2 ^ 82) (82 + k) ≡ bit_at check k
high_bits body check k below =
    let e : body + check * 2 ^ 82 ≡ check * 2 ^ 82 + body = omega arith in
    let s : (check * 2 ^ 82 + body) / 2 ^ 82 ≡ check = shr_high check 82 body below in
    let h = shr-shr (check * 2 ^ 82 + body) 82 k in
    let h' : check / 2 ^ k ≡ (check * 2 ^ 82 + body) / 2 ^ (82 + k) = rw s at h in
    rw (e, ← h') refl

none_added : (all before last : ℕ) → all ≡ before + last → last ≡ 0 → all % 2 ≡ before % 2
none_added all before last e none = omega (arith, e, none)

-- without a check a residue has its bits before the check alone
residue_before : (body r : ℕ) → body < 2 ^ 82 → r < 8 → residue r body ≡ sum_at (bit_at body) (before_check r) % 2
residue_before body r below lt =
    residue_is_parity r body
    ∙ none_added (sum_at (bit_at body) (bits_of_residue r)) (sum_at (bit_at body) (before_check r))
    (bit_at body (82 + check_bit r))
    (split_sum (bit_at body) (bits_of_residue r) (before_check r) (82 + check_bit r) (one_in_the_check r lt))
    (bit_at-behind 82 body (82 + check_bit r) below (omega arith))

one_added : (all kept before last check parity : ℕ) → all ≡ kept + last → kept ≡ before → last ≡ check
    → parity ≡ before % 2 → all % 2 ≡ (parity + check) % 2
one_added all kept before last check parity e same is p = omega (arith, e, same, is, p)

-- the check adds its bit
pub residue_with_check : (body check r : ℕ) → body < 2 ^ 82 → r < 8
    → residue r (body + check * 2 ^ 82) ≡ (residue r body + bit_at check (check_bit r)) % 2
residue_with_check body check r below lt =
    let whole = body + check * 2 ^ 82 in
    residue_is_parity r whole
    ∙ one_added (sum_at (bit_at whole) (bits_of_residue r)) (sum_at (bit_at whole) (before_check r))
    (sum_at (bit_at body) (before_check r))
    (bit_at whole (82 + check_bit r)) (bit_at check (check_bit r)) (residue r body)
    (split_sum (bit_at whole) (bits_of_residue r) (before_check r) (82 + check_bit r) (one_in_the_check r lt))
    (same_sum (bit_at whole) (bit_at body) (before_check r) (λ i h. low_bits body check i below h) (are_before r lt))
    (high_bits body check (check_bit r) below)
    (residue_before body r below lt)

-- the folded bits, turned so that each is where the check has its residue
turned_bit : (sums r : ℕ) → sums < 256 → r < 8 → bit_at (sums / 4 + sums % 4 * 64) (check_bit r) ≡ bit_at sums r
turned_bit sums r below = each_residue (λ r. bit_at (sums / 4 + sums % 4 * 64) (check_bit r) ≡ bit_at sums r)
    (omega arith) (omega arith) (omega arith) (omega arith) (omega arith) (omega arith) (omega arith) (omega arith) r

doubled : (n : ℕ) → (n + n) % 2 ≡ 0
doubled n = omega arith

-- this check makes each residue even
pub check_holds : (body sums : ℕ) → body < 2 ^ 82 → sums < 2 ^ 8 → ((r : ℕ) → r < 8 → bit_at sums r ≡ residue r body)
    → (r : ℕ) → r < 8 → residue r (body + (sums / 4 + sums % 4 * 64) * 2 ^ 82) ≡ 0
check_holds body sums below width are r lt =
    let e = turned_bit sums r width lt ∙ are r lt in
    residue_with_check body (sums / 4 + sums % 4 * 64) r below lt ∙ ap (λ (n : ℕ). (residue r body + n) % 2) e
    ∙ doubled (residue r body)

parity_is : (n bit : ℕ) → n < 2 → bit < 2 → (n + bit) % 2 ≡ 0 → bit ≡ n
parity_is n bit low low' e = omega arith

residue_below : (r bits : ℕ) → residue r bits < 2
residue_below r bits = rw (residue_is_parity r bits) (mod_below (sum_at (bit_at bits) (bits_of_residue r)) 2 (lit< tt))

-- a bit of a check that holds is the exclusive or of its residue
bit_of_check : (body check r : ℕ) → body < 2 ^ 82 → r < 8 → residue r (body + check * 2 ^ 82) ≡ 0
    → bit_at check (check_bit r) ≡ residue r body
bit_of_check body check r below lt holds =
    parity_is (residue r body) (bit_at check (check_bit r)) (residue_below r body) (bit_at-lt check (check_bit r))
    (sym (residue_with_check body check r below lt) ∙ holds)

-- so there is one check
pub one_check : (body a b : ℕ) → body < 2 ^ 82 → a < 2 ^ 8 → b < 2 ^ 8
    → ((r : ℕ) → r < 8 → residue r (body + a * 2 ^ 82) ≡ 0) → ((r : ℕ) → r < 8 → residue r (body + b * 2 ^ 82) ≡ 0)
    → a ≡ b
one_check body a b below wa wb ha hb =
    same_from_bits_below 8 a b wa wb (λ k lt.
    let r = (k + 2) % 8 in
    let within : r < 8 = mod_below (k + 2) 8 (lit< tt) in
    let turned : check_bit r ≡ k = omega arith in
    let e = bit_of_check body a r below within (ha r within) ∙ sym (bit_of_check body b r below within (hb r within)) in
    rw turned at e)

-- ---- the check that is made

made_bit : (a b c d e f g h : ℕ) → a < 2 → b < 2 → c < 2 → d < 2 → e < 2 → f < 2 → g < 2 → h < 2
    → (bit_at (a + 2 * b + 4 * c + 8 * d + 16 * e + 32 * f + 64 * g + 128 * h) 0 ≡ a)
    × (bit_at (a + 2 * b + 4 * c + 8 * d + 16 * e + 32 * f + 64 * g + 128 * h) 1 ≡ b)
    × (bit_at (a + 2 * b + 4 * c + 8 * d + 16 * e + 32 * f + 64 * g + 128 * h) 2 ≡ c)
    × (bit_at (a + 2 * b + 4 * c + 8 * d + 16 * e + 32 * f + 64 * g + 128 * h) 3 ≡ d)
    × (bit_at (a + 2 * b + 4 * c + 8 * d + 16 * e + 32 * f + 64 * g + 128 * h) 4 ≡ e)
    × (bit_at (a + 2 * b + 4 * c + 8 * d + 16 * e + 32 * f + 64 * g + 128 * h) 5 ≡ f)
    × (bit_at (a + 2 * b + 4 * c + 8 * d + 16 * e + 32 * f + 64 * g + 128 * h) 6 ≡ g)
    × (bit_at (a + 2 * b + 4 * c + 8 * d + 16 * e + 32 * f + 64 * g + 128 * h) 7 ≡ h)
made_bit a b c d e f g h la lb lc ld le lf lg lh =
    (omega arith, omega arith, omega arith, omega arith, omega arith, omega arith, omega arith, omega arith)

-- its bits are the exclusive ors of the residues
check_bits : (body r : ℕ) → r < 8 → bit_at (check_sum body) (check_bit r) ≡ residue r body
check_bits body r lt =
    let b = made_bit (residue 2 body) (residue 3 body) (residue 4 body) (residue 5 body) (residue 6 body)
    (residue 7 body) (residue 0 body) (residue 1 body)
    (residue_below 2 body) (residue_below 3 body) (residue_below 4 body) (residue_below 5 body) (residue_below 6 body)
    (residue_below 7 body)
    (residue_below 0 body) (residue_below 1 body) in
    each_residue (λ r. bit_at (check_sum body) (check_bit r) ≡ residue r body) b.6 b.7 b.0 b.1 b.2 b.3 b.4 b.5 r lt

pub check_made : (body : ℕ) → body < 2 ^ 82 → (r : ℕ) → r < 8 → residue r (body + check_sum body * 2 ^ 82) ≡ 0
check_made body below r lt =
    residue_with_check body (check_sum body) r below lt
    ∙ ap (λ (n : ℕ). (residue r body + n) % 2) (check_bits body r lt) ∙ doubled (residue r body)

pub check_less : (body : ℕ) → check_sum body < 2 ^ 8
check_less body =
    let a = residue_below 0 body in
    let b = residue_below 1 body in
    let c = residue_below 2 body in
    let d = residue_below 3 body in
    let e = residue_below 4 body in
    let f = residue_below 5 body in
    let g = residue_below 6 body in
    let h = residue_below 7 body in
    omega (arith, a, b, c, d, e, f, g, h)
