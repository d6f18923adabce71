-- In words that are played one after another, in any directions, twelve ones in a row are only in their sync words.
use Rattle.direction_reader.specs.Windows.{number_of}
use Rattle.std.proofs.Common.{◌≡◌, ℕ, zero, suc, ◌+◌, ◌-◌, ◌*◌, ◌/◌, ◌%◌, ◌^◌, ◌<◌, ◌≤◌, Bool, true, false, List, []}
use Rattle.std.proofs.Common.{◌∷◌, ◌++◌, length, get_or, take}
use Rattle.std.proofs.Common.{drop, refl, sym, ap, ◌∙◌, inl, inr, arith}
use Rattle.std.specs.Prelude.{◌==◌}
use Rattle.std.specs.Int.{bit_at}
use Rattle.std.proofs.lemmas.Bool.{cases_lt}
use Rattle.std.proofs.lemmas.List.{get_or-take, get_or-drop, get_or_append_left, get_or-append_right}
use Rattle.std.proofs.lemmas.Nat.{shr-shr}
use Rattle.std.proofs.lemmas.Nat.Bits.{bit_at-zero}
use Rattle.direction_reader.specs.PlayedLemmas.{length-low_bits}
use Rattle.lemmas.specs.Bits.{halved}
use Rattle.ltc_word.specs.declared.word.LtcWord.{LtcWord}
use Rattle.ltc_word.specs.Reversal.{reversed_bits, EndsInSync, HasTwelveOnes}
use Rattle.ltc_word.specs.Spelling.{Spells}
use Rattle.tc_address.specs.declared.direction.Direction.{Direction}
use Rattle.tc_address.specs.declared.direction.Direction.TheVariants.{Forward, Backward}
use Rattle.tc_address.specs.declared.system.System.{System}
use Rattle.tc_address.specs.declared.system.System.TheVariants.{F24, F25, F30}
use Rattle.direction_reader.specs.Played.{in_time, low_bits}
use Rattle.direction_reader.specs.Window.{bit_value}
use Rattle.direction_reader.proofs.BitsShift.{bit_value-least}

-- what the laws of ltc_word say
pub record WordLaws : Type 0 where
  pub one : (system : System) (word : LtcWord) (bits i : ℕ) → Spells system word bits → i ≤ 68 → HasTwelveOnes bits i
      → i ≡ 66
  pub turned : (bits i : ℕ) → i < 80 → bit_at (reversed_bits bits) i ≡ bit_at bits (79 - i)
  pub width : (bits : ℕ) → reversed_bits bits < 2 ^ 80
  pub twice : (bits : ℕ) → bits < 2 ^ 80 → reversed_bits (reversed_bits bits) ≡ bits

-- ---- bits of lists

abbrev pub at : List Bool → ℕ → Bool
at list i = get_or list i false

pub true_of_one : (b : Bool) → bit_value b ≡ 1 → b ≡ true
true_of_one true e = refl
true_of_one false e = absurd (omega arith)

pub false_of_zero : (b : Bool) → bit_value b ≡ 0 → b ≡ false
false_of_zero true e = absurd (omega arith)
false_of_zero false e = refl

one_of_true : (b : Bool) → b ≡ true → bit_value b ≡ 1
one_of_true b e = ap bit_value e

bit_of_number : (list : List Bool) (i : ℕ) → bit_at (number_of list) i ≡ bit_value (at list i)
bit_of_number [] i = bit_at-zero i
bit_of_number (b ∷ list) zero = let low = bit_value-least b in omega arith
bit_of_number (b ∷ list) (suc i) =
    let low = bit_value-least b in
    let half : (bit_value b + 2 * number_of list) / 2 ≡ number_of list = omega arith in
    let e = halved (bit_value b + 2 * number_of list) i in
    let f : number_of list / 2 ^ i ≡ (bit_value b + 2 * number_of list) / 2 ^ suc i = rw half at e in
    ap (λ (n : ℕ). n % 2) (sym f) ∙ bit_of_number list i

bit_test : (m : ℕ) → m < 2 → bit_value (m == 1) ≡ m
bit_test zero lt = refl
bit_test (suc zero) lt = refl
bit_test (suc (suc m)) lt = absurd (omega arith)

at-low_bits : (count n i : ℕ) → i < count → bit_value (at (low_bits count n) i) ≡ bit_at n i
unfolding low_bits
at-low_bits zero n i lt = absurd (omega arith)
at-low_bits (suc count) n zero lt = let e = bit_test (n % 2) (omega arith) in omega arith
at-low_bits (suc count) n (suc i) lt = at-low_bits count (n / 2) i (omega arith) ∙ ap (λ (m : ℕ). m % 2) (halved n i)

pub number-low_bits : (count n : ℕ) → n < 2 ^ count → number_of (low_bits count n) ≡ n
unfolding low_bits
number-low_bits zero n lt = omega arith
number-low_bits (suc count) n lt =
    let bit = bit_test (n % 2) (omega arith) in
    let half : n / 2 < 2 ^ count = omega arith in
    let rest = number-low_bits count (n / 2) half in
    omega arith

-- ---- one word

-- twelve ones in a row, from bit i on
abbrev pub Twelve : List Bool → ℕ → Type 0
Twelve list i = (k : ℕ) → k < 12 → at list (i + k) ≡ true

-- where they begin in a word as it is played
abbrev pub sync_place : Direction → ℕ
sync_place Forward = 66
sync_place Backward = 2

-- the bit by which the sync words of both directions differ where their ones are the same
abbrev pub IsMarked : Direction → List Bool → Type 0
IsMarked Forward list = at list 64 ≡ false
IsMarked Backward list = at list 0 ≡ true

-- four ones at the front
abbrev pub Starts : List Bool → Type 0
Starts list = at list 0 ≡ true → at list 1 ≡ true → at list 2 ≡ true → at list 3 ≡ true → ⊥

-- the bits of a played word
pub record Plays (direction : Direction) (list : List Bool) : Type 0 where
  pub count : length list ≡ 80
  pub inside : (i : ℕ) → i ≤ 68 → Twelve list i → i ≡ sync_place direction
  pub begins : Starts list
  pub ends : at list 76 ≡ true → at list 77 ≡ true → at list 78 ≡ true → at list 79 ≡ true → ⊥
  pub marked : IsMarked direction list

set_in : (n i : ℕ) → i < 80 → at (low_bits 80 n) i ≡ true → bit_at n i ≡ 1
set_in n i lt e = sym (at-low_bits 80 n i lt) ∙ one_of_true _ e

units : (n : ℕ) → n / 2 ^ 0 % 2 ^ 4 < 10 → bit_at n 1 ≡ 1 → bit_at n 3 ≡ 1 → ⊥
units n low b d = omega arith

units_low : (system : System) (word : LtcWord) (n : ℕ) → Spells system word n → n / 2 ^ 0 % 2 ^ 4 < 10
units_low F24 word n s = let a = s.address in omega arith
units_low F25 word n s = let a = s.address in omega arith
units_low F30 word n s = let a = s.address in omega arith

pub sync_bit : (n k : ℕ) → bit_at n (64 + k) ≡ n / 2 ^ 64 / 2 ^ k % 2
sync_bit n k = ap (λ (m : ℕ). m % 2) (sym (shr-shr n 64 k))

pub clear_78 : (n : ℕ) → EndsInSync n → bit_at n 78 ≡ 1 → ⊥
clear_78 n sync one = let e = sync_bit n 14 in let m = n / 2 ^ 64 in let h : m % 2 ^ 16 ≡ 49148 = sync in
    omega (arith, e, one)

pub clear_64 : (n : ℕ) → EndsInSync n → bit_at n 64 ≡ 0
clear_64 n sync = let e = sync_bit n 0 in let m = n / 2 ^ 64 in let h : m % 2 ^ 16 ≡ 49148 = sync in omega (arith, e)

pub set_79 : (n : ℕ) → EndsInSync n → bit_at n 79 ≡ 1
set_79 n sync = let e = sync_bit n 15 in let m = n / 2 ^ 64 in let h : m % 2 ^ 16 ≡ 49148 = sync in omega (arith, e)

plays_forward : WordLaws → (system : System) (word : LtcWord) (n : ℕ) → Spells system word n
    → Plays Forward (low_bits 80 n)
plays_forward laws system word n s = record {
  count = length-low_bits 80 n;
  inside = λ i le ones. laws.one system word n i s le (λ k lt. set_in n (i + k) (omega arith) (ones k lt));
  begins = λ a b c d. units n (units_low system word n s) (set_in n 1 (omega arith) b) (set_in n 3 (omega arith) d);
  ends = λ a b c d. clear_78 n s.sync (set_in n 78 (omega arith) c);
  marked = false_of_zero _ (at-low_bits 80 n 64 (omega arith) ∙ clear_64 n s.sync);
}

set_turned : WordLaws → (n i : ℕ) → i < 80 → at (low_bits 80 (reversed_bits n)) i ≡ true → bit_at n (79 - i) ≡ 1
set_turned laws n i lt e = sym (laws.turned n i lt) ∙ set_in (reversed_bits n) i lt e

turned_ones : WordLaws → (n i : ℕ) → i ≤ 68 → Twelve (low_bits 80 (reversed_bits n)) i → HasTwelveOnes n (68 - i)
turned_ones laws n i le ones k lt =
    let j : 11 - k < 12 = omega arith in
    let h = set_turned laws n (i + (11 - k)) (omega arith) (ones (11 - k) j) in
    let e : 79 - (i + (11 - k)) ≡ 68 - i + k = omega arith in
    rw e at h

plays_backward : WordLaws → (system : System) (word : LtcWord) (n : ℕ) → Spells system word n
    → Plays Backward (low_bits 80 (reversed_bits n))
plays_backward laws system word n s = record {
  count = length-low_bits 80 (reversed_bits n);
  inside = λ i le ones. let place = laws.one system word n (68 - i) s (omega arith) (turned_ones laws n i le ones) in
      omega arith;
  begins = λ a b c d. clear_78 n s.sync (set_turned laws n 1 (omega arith) b);
  ends = λ a b c d. units n (units_low system word n s) (set_turned laws n 78 (omega arith) c)
      (set_turned laws n 76 (omega arith) a);
  marked = true_of_one _ (at-low_bits 80 (reversed_bits n) 0 (omega arith) ∙ laws.turned n 0 (omega arith)
      ∙ set_79 n s.sync);
}

pub plays : WordLaws → (direction : Direction) (system : System) (word : LtcWord) (n : ℕ) → Spells system word n
    → Plays direction (low_bits 80 (in_time direction n))
plays laws Forward system word n s = plays_forward laws system word n s
plays laws Backward system word n s = plays_backward laws system word n s

-- ---- two words

pub at_left : (w r : List Bool) (i : ℕ) → length w ≡ 80 → i < 80 → at (w ++ r) i ≡ at w i
at_left w r i count lt = get_or_append_left w r false i (omega arith)

pub at_right : (w r : List Bool) (i : ℕ) → length w ≡ 80 → at (w ++ r) (80 + i) ≡ at r i
at_right w r i count = let e : 80 + i - 80 ≡ i = omega arith in
    get_or-append_right w r 80 (80 + i) false count (omega arith) ∙ ap (λ (j : ℕ). at r j) e

one_at : (list : List Bool) (i j : ℕ) → Twelve list i → i ≤ j → j < i + 12 → at list j ≡ true
one_at list i j ones le lt = let e : i + (j - i) ≡ j = omega arith in rw e at (ones (j - i) (omega arith))

pub only_sync : (direction : Direction) (w r : List Bool) → Plays direction w → Starts r → (i : ℕ) → i < 80
    → Twelve (w ++ r) i
    → i ≡ sync_place direction
only_sync direction w r p starts i lt ones = elim (cases_lt i 69) [
  | inl low ↦ p.inside i (omega arith) (λ k less. sym (at_left w r (i + k) p.count (omega arith)) ∙ ones k less)
  | inr high ↦ elim (cases_lt i 77) [
    | inl mid ↦ let left : (j : ℕ) → 76 ≤ j → j < 80 → at w j ≡ true =
        λ j le less. sym (at_left w r j p.count less) ∙ one_at (w ++ r) i j ones (omega arith) (omega arith) in
        absurd (p.ends (left 76 (omega arith) (omega arith)) (left 77 (omega arith) (omega arith))
        (left 78 (omega arith) (omega arith)) (left 79 (omega arith) (omega arith)))
    | inr late ↦ let right : (j : ℕ) → j < 4 → at r j ≡ true =
        λ j less. sym (at_right w r j p.count) ∙ one_at (w ++ r) i (80 + j) ones (omega arith) (omega arith) in
        absurd (starts (right 0 (omega arith)) (right 1 (omega arith)) (right 2 (omega arith)) (right 3 (omega arith)))
  ]
]

-- ---- candidates

ones_of_sync : (n k : ℕ) → EndsInSync n → k < 12 → bit_at n (66 + k) ≡ 1
ones_of_sync n zero sync lt =
    let e = sync_bit n 2 in let m = n / 2 ^ 64 in let h : m % 2 ^ 16 ≡ 49148 = sync in omega (arith, e)
ones_of_sync n (suc zero) sync lt =
    let e = sync_bit n 3 in let m = n / 2 ^ 64 in let h : m % 2 ^ 16 ≡ 49148 = sync in omega (arith, e)
ones_of_sync n (suc (suc zero)) sync lt =
    let e = sync_bit n 4 in let m = n / 2 ^ 64 in let h : m % 2 ^ 16 ≡ 49148 = sync in omega (arith, e)
ones_of_sync n (suc (suc (suc zero))) sync lt =
    let e = sync_bit n 5 in let m = n / 2 ^ 64 in let h : m % 2 ^ 16 ≡ 49148 = sync in omega (arith, e)
ones_of_sync n (suc (suc (suc (suc zero)))) sync lt =
    let e = sync_bit n 6 in let m = n / 2 ^ 64 in let h : m % 2 ^ 16 ≡ 49148 = sync in omega (arith, e)
ones_of_sync n (suc (suc (suc (suc (suc zero))))) sync lt =
    let e = sync_bit n 7 in let m = n / 2 ^ 64 in let h : m % 2 ^ 16 ≡ 49148 = sync in omega (arith, e)
ones_of_sync n (suc (suc (suc (suc (suc (suc zero)))))) sync lt =
    let e = sync_bit n 8 in let m = n / 2 ^ 64 in let h : m % 2 ^ 16 ≡ 49148 = sync in omega (arith, e)
ones_of_sync n (suc (suc (suc (suc (suc (suc (suc zero))))))) sync lt =
    let e = sync_bit n 9 in let m = n / 2 ^ 64 in let h : m % 2 ^ 16 ≡ 49148 = sync in omega (arith, e)
ones_of_sync n (suc (suc (suc (suc (suc (suc (suc (suc zero)))))))) sync lt =
    let e = sync_bit n 10 in let m = n / 2 ^ 64 in let h : m % 2 ^ 16 ≡ 49148 = sync in omega (arith, e)
ones_of_sync n (suc (suc (suc (suc (suc (suc (suc (suc (suc zero))))))))) sync lt =
    let e = sync_bit n 11 in let m = n / 2 ^ 64 in let h : m % 2 ^ 16 ≡ 49148 = sync in omega (arith, e)
ones_of_sync n (suc (suc (suc (suc (suc (suc (suc (suc (suc (suc zero)))))))))) sync lt =
    let e = sync_bit n 12 in let m = n / 2 ^ 64 in let h : m % 2 ^ 16 ≡ 49148 = sync in omega (arith, e)
ones_of_sync n (suc (suc (suc (suc (suc (suc (suc (suc (suc (suc (suc zero))))))))))) sync lt =
    let e = sync_bit n 13 in let m = n / 2 ^ 64 in let h : m % 2 ^ 16 ≡ 49148 = sync in omega (arith, e)
ones_of_sync n (suc (suc (suc (suc (suc (suc (suc (suc (suc (suc (suc (suc k)))))))))))) sync lt = absurd (omega arith)

at_window : (list : List Bool) (j m : ℕ) → m < 80 → at (take 80 (drop j list)) m ≡ at list (j + m)
at_window list j m lt = get_or-take 80 (drop j list) m false lt ∙ get_or-drop j list m false

-- the bits of a window from place j on
abbrev pub window_bits : List Bool → ℕ → ℕ
window_bits list j = number_of (take 80 (drop j list))

pub bit_of_window : (list : List Bool) (j m : ℕ) → m < 80 → bit_at (window_bits list j) m ≡ bit_value (at list (j + m))
bit_of_window list j m lt = bit_of_number (take 80 (drop j list)) m ∙ ap bit_value (at_window list j m lt)

pub forward_ones : (list : List Bool) (j : ℕ) → EndsInSync (window_bits list j) → Twelve list (j + 66)
forward_ones list j sync k lt =
    let e : j + (66 + k) ≡ j + 66 + k = omega arith in
    rw (← e) (true_of_one _ (sym (bit_of_window list j (66 + k) (omega arith))
    ∙ ones_of_sync (window_bits list j) k sync lt))

pub forward_clear : (list : List Bool) (j : ℕ) → EndsInSync (window_bits list j) → at list (j + 64) ≡ false
forward_clear list j sync = false_of_zero _ (sym (bit_of_window list j 64 (omega arith))
    ∙ clear_64 (window_bits list j) sync)

pub backward_ones : WordLaws → (list : List Bool) (j : ℕ) → EndsInSync (reversed_bits (window_bits list j))
    → Twelve list (j + 2)
backward_ones laws list j sync k lt =
    let n = window_bits list j in
    let one : bit_at (reversed_bits n) (66 + (11 - k)) ≡ 1 =
    ones_of_sync (reversed_bits n) (11 - k) sync (omega arith) in
    let back : bit_at n (79 - (66 + (11 - k))) ≡ 1 = sym (laws.turned n (66 + (11 - k)) (omega arith)) ∙ one in
    let m : 79 - (66 + (11 - k)) ≡ 2 + k = omega arith in
    let e : j + (2 + k) ≡ j + 2 + k = omega arith in
    rw (← e) (true_of_one _ (sym (bit_of_window list j (2 + k) (omega arith)) ∙ rw m at back))

pub backward_set : WordLaws → (list : List Bool) (j : ℕ) → EndsInSync (reversed_bits (window_bits list j))
    → at list (j + 0) ≡ true
backward_set laws list j sync =
    let n = window_bits list j in
    let back : bit_at n 0 ≡ 1 = sym (laws.turned n 79 (omega arith)) ∙ set_79 (reversed_bits n) sync in
    true_of_one _ (sym (bit_of_window list j 0 (omega arith)) ∙ back)
