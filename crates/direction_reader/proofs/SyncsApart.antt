-- Two sync words in one direction are at least sixteen cells apart: laid over each other at any less, a one of the
-- one
-- falls on a zero of the other. So behind a word that is played backward at most one window is a candidate in each
-- direction, until its witness is there.
use Rattle.std.proofs.Common.{◌≡◌, ℕ, ◌+◌, ◌-◌, ◌%◌, ◌/◌, ◌^◌, ◌<◌, ◌≤◌, Bool, true, false, List, sym, ◌∙◌, arith}
use Rattle.std.proofs.Common.{inl, inr, subst}
use Rattle.std.specs.Int.{bit_at}
use Rattle.std.proofs.lemmas.Bool.{cases_lt}
use Rattle.ltc_word.specs.Reversal.{reversed_bits, EndsInSync}
use Rattle.direction_reader.proofs.SyncInTime.{WordLaws, at, window_bits, sync_bit, clear_64, set_79}
use Rattle.direction_reader.proofs.SyncInTime.{bit_of_window}
use Rattle.direction_reader.proofs.SyncInTime.{true_of_one, false_of_zero, forward_ones, forward_clear, backward_ones}
use Rattle.direction_reader.proofs.SyncInTime.{backward_set}
use Rattle.direction_reader.proofs.SyncOverWords.{true_false}

clear_65 : (n : ℕ) → EndsInSync n → bit_at n 65 ≡ 0
clear_65 n sync = let e = sync_bit n 1 in let m = n / 2 ^ 64 in let h : m % 2 ^ 16 ≡ 49148 = sync in omega (arith, e)

zero_78 : (n : ℕ) → EndsInSync n → bit_at n 78 ≡ 0
zero_78 n sync = let e = sync_bit n 14 in let m = n / 2 ^ 64 in let h : m % 2 ^ 16 ≡ 49148 = sync in omega (arith, e)

-- a bit of a list that is both
never : (list : List Bool) (i j : ℕ) → i ≡ j → at list i ≡ true → at list j ≡ false → ⊥
never list i j same one zero = true_false (at list j) (subst (λ (n : ℕ). at list n ≡ true) same one) zero

-- ---- of words that are played forward

abbrev Ends : List Bool → ℕ → Type 0
Ends list k = EndsInSync (window_bits list k)

second_clear : (list : List Bool) (k : ℕ) → Ends list k → at list (k + 65) ≡ false
second_clear list k sync = false_of_zero _ (sym (bit_of_window list k 65 (omega arith))
    ∙ clear_65 (window_bits list k) sync)

last_set : (list : List Bool) (k : ℕ) → Ends list k → at list (k + 79) ≡ true
last_set list k sync = true_of_one _ (sym (bit_of_window list k 79 (omega arith)) ∙ set_79 (window_bits list k) sync)

forward_middle : (list : List Bool) (j k : ℕ) → j + 2 ≤ k → k < j + 14 → Ends list j → Ends list k → ⊥
forward_middle list j k low high one two =
    never list (j + 66 + (k - j - 2)) (k + 64) (omega arith) (forward_ones list j one (k - j - 2) (omega arith))
    (forward_clear list k two)

forward_last : (list : List Bool) (j k : ℕ) → j + 14 ≤ k → k < j + 16 → Ends list j → Ends list k → ⊥
forward_last list j k low high one two = elim (cases_lt k (j + 15)) [
  | inl fourteen ↦ never list (j + 79) (k + 65) (omega arith) (last_set list j one) (second_clear list k two)
  | inr fifteen ↦ never list (j + 79) (k + 64) (omega arith) (last_set list j one) (forward_clear list k two)
]

pub forwards_apart : (list : List Bool) (j k : ℕ) → j < k → k < j + 16 → Ends list j → Ends list k → ⊥
forwards_apart list j k low high one two = elim (cases_lt k (j + 2)) [
  | inl next ↦ never list (j + 66 + 0) (k + 65) (omega arith) (forward_ones list j one 0 (omega arith)) (second_clear
      list k two)
  | inr more ↦ elim (cases_lt k (j + 14)) [
    | inl middle ↦ forward_middle list j k (omega arith) middle one two
    | inr last ↦ forward_last list j k (omega arith) high one two
  ]
]

-- ---- of words that are played backward

abbrev Begins : List Bool → ℕ → Type 0
Begins list k = EndsInSync (reversed_bits (window_bits list k))

-- a bit of the window, from its end
turned_clear : WordLaws → (list : List Bool) (k i : ℕ) → i < 80
    → bit_at (reversed_bits (window_bits list k)) (79 - i) ≡ 0
    → at list (k + i) ≡ false
turned_clear laws list k i lt zero =
    let n = window_bits list k in
    let place : 79 - (79 - i) ≡ i = omega arith in
    let back : bit_at n (79 - (79 - i)) ≡ 0 = sym (laws.turned n (79 - i) (omega arith)) ∙ zero in
    false_of_zero _ (sym (bit_of_window list k i lt) ∙ rw place at back)

pub next_clear : WordLaws → (list : List Bool) (k : ℕ) → Begins list k → at list (k + 1) ≡ false
next_clear laws list k sync = turned_clear laws list k 1 (omega arith) (zero_78 (reversed_bits (window_bits list k))
    sync)

pub fourteenth_clear : WordLaws → (list : List Bool) (k : ℕ) → Begins list k → at list (k + 14) ≡ false
fourteenth_clear laws list k sync = turned_clear laws list k 14 (omega arith) (clear_65 (reversed_bits (window_bits
    list k)) sync)

pub fifteenth_clear : WordLaws → (list : List Bool) (k : ℕ) → Begins list k → at list (k + 15) ≡ false
fifteenth_clear laws list k sync = turned_clear laws list k 15 (omega arith) (clear_64 (reversed_bits (window_bits list
    k)) sync)

backward_middle : WordLaws → (list : List Bool) (j k : ℕ) → j + 2 ≤ k → k < j + 13 → Begins list j → Begins list k → ⊥
backward_middle laws list j k low high one two =
    never list (j + 2 + (k - j - 1)) (k + 1) (omega arith) (backward_ones laws list j one (k - j - 1) (omega arith))
    (next_clear laws list k two)

backward_last : WordLaws → (list : List Bool) (j k : ℕ) → j + 13 ≤ k → k < j + 16 → Begins list j → Begins list k → ⊥
backward_last laws list j k low high one two = elim (cases_lt k (j + 14)) [
  | inl thirteen ↦ never list (k + 2 + 0) (j + 15) (omega arith) (backward_ones laws list k two 0 (omega arith))
      (fifteenth_clear laws list j one)
  | inr more ↦ elim (cases_lt k (j + 15)) [
    | inl fourteen ↦ never list (k + 0) (j + 14) (omega arith) (backward_set laws list k two) (fourteenth_clear laws
        list j one)
    | inr fifteen ↦ never list (k + 0) (j + 15) (omega arith) (backward_set laws list k two) (fifteenth_clear laws list
        j one)
  ]
]

pub backwards_apart : WordLaws → (list : List Bool) (j k : ℕ) → j < k → k < j + 16 → Begins list j → Begins list k → ⊥
backwards_apart laws list j k low high one two = elim (cases_lt k (j + 2)) [
  | inl next ↦ never list (k + 0) (j + 1) (omega arith) (backward_set laws list k two) (next_clear laws list j one)
  | inr more ↦ elim (cases_lt k (j + 13)) [
    | inl middle ↦ backward_middle laws list j k (omega arith) middle one two
    | inr last ↦ backward_last laws list j k (omega arith) high one two
  ]
]
