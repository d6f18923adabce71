-- One bit more turns the balance, so the polarity correction gives either balance.
use Rattle.std.proofs.Common.{◌≡◌, ℕ, ◌+◌, ◌*◌, ◌/◌, ◌%◌, ◌^◌, ◌<◌, Bool, true, false, cond, refl, ◌∙◌, lit<, arith}
use Rattle.std.specs.Prelude.{◌↔◌, ◌==◌, IsTrue}
use Rattle.std.specs.Int.RustNames.{count_ones}
use mathlib.Core.Bool.{beq}
use Rattle.std.proofs.lemmas.Nat.{mod_below, pow_pos, ones_cat, ones-le, shr_split}
use Rattle.std.proofs.lemmas.Bool.{eqb-true, eq-eqb}
use Rattle.tc_address.specs.declared.system.System.{System}
use Rattle.tc_address.specs.Count.{system_with}
use Rattle.tc_bits.specs.declared.table.Table.{Table}
use Rattle.tc_bits.specs.Fields.{IsFields}
use Rattle.tc_bits.specs.Row.{sum_of, SumHolds}
use Rattle.tc_bits.specs.Spelling.{AreExact}
use Rattle.tc_bits.specs.Table.{row_of}
use Rattle.ltc_word.specs.declared.places.TheConstants as places
use Rattle.ltc_word.specs.declared.word.LtcWord.{LtcWord}
use Rattle.ltc_word.specs.Balance.{zeros, IsBalanced}
use Rattle.ltc_word.specs.Places.{polarity_bit, table_of}
use Rattle.ltc_word.specs.Spelled.{bits_with, spelling_of}
use Rattle.ltc_word.specs.Spelling.{Spells}
use Rattle.ltc_word.proofs.RowOfAWord.{stands, spells_with}

ones_of_even : (n : ℕ) → count_ones (n * 2 + 1) ≡ count_ones (n * 2) + 1
unfolding count_ones
ones_of_even n =
    let one : count_ones 1 ≡ 1 = refl in
    let none : count_ones 0 ≡ 0 = refl in
    let odd : count_ones (n * 2 + 1) ≡ count_ones n + count_ones 1 = ones_cat 1 n 1 (lit< tt) in
    let even : count_ones (n * 2 + 0) ≡ count_ones n + count_ones 0 = ones_cat 1 n 0 (lit< tt) in
    let e : n * 2 + 0 ≡ n * 2 = omega arith in
    let even' = rw e at even in
    omega arith

-- to set a bit that was not set makes one more
pub ones_of_set : (n place : ℕ) → n / 2 ^ place % 2 ≡ 0 → count_ones (n + 2 ^ place) ≡ count_ones n + 1
ones_of_set n place clear =
    let high = n / 2 ^ place in
    let low = n % 2 ^ place in
    let below : low < 2 ^ place = mod_below n (2 ^ place) (pow_pos place) in
    let half = high / 2 in
    let even : half * 2 ≡ high = omega arith in
    let parts : high * 2 ^ place + low ≡ n = shr_split n place in
    let more : (high + 1) * 2 ^ place + low ≡ n + 2 ^ place = grind arith in
    let more_ones : count_ones (n + 2 ^ place) ≡ count_ones (high + 1) + count_ones low = rw more at
    (ones_cat place (high + 1) low below) in
    let without : count_ones n ≡ count_ones high + count_ones low = rw parts at (ones_cat place high low below) in
    let one : count_ones (high + 1) ≡ count_ones high + 1 = rw even at (ones_of_even half) in
    omega arith

-- 80 bits with one bit more are balanced if they were not
pub balance_turns : (n place : ℕ) → n + 2 ^ place < 2 ^ 80 → n / 2 ^ place % 2 ≡ 0
    → (IsBalanced n → IsBalanced (n + 2 ^ place) → ⊥) × ((IsBalanced n → ⊥) → IsBalanced (n + 2 ^ place))
balance_turns n place width clear =
    let within = ones-le 80 (n + 2 ^ place) width in
    let more = ones_of_set n place clear in
    (λ p q. omega arith, λ p. omega arith)

other_truth : (a b : Bool) (P Q : Type 0) → beq a b ≡ false → (IsTrue a ↔ P) → (P → Q → ⊥) → ((P → ⊥) → Q)
    → (IsTrue b ↔ Q)
other_truth true true P Q e p apart either = absurd cc
other_truth true false P Q e p apart either = (λ t. absurd cc, λ q. absurd (apart (p.0 refl) q))
other_truth false true P Q e p apart either = (λ t. either (λ h. let t : false ≡ true = p.1 h in absurd cc), λ q. refl)
other_truth false false P Q e p apart either = absurd cc

same_truth : (a b : Bool) (P : Type 0) → beq a b ≡ true → (IsTrue a ↔ P) → (IsTrue b ↔ P)
same_truth true true P e p = p
same_truth true false P e p = absurd cc
same_truth false true P e p = absurd cc
same_truth false false P e p = p

-- what is made of the fields and the sync word is the word with no correction
pub made_of : (word : LtcWord) (system : System) (t : Table) (sync fields : ℕ)
    → system ≡ system_with word.fields.label.count → t ≡ table_of system
    → sync ≡ places.SYNC_PATTERN * 2 ^ places.SYNC.first → fields ≡ sum_of (row_of t word.fields)
    → sync + fields ≡ bits_with word 0
made_of word system t sync fields system_is table_is sync_is fields_are =
    rw (sync_is, fields_are, table_is, system_is) (omega arith)

-- the bits have the balance of the word already
pub spells_as_is : SumHolds → AreExact → (word : LtcWord) (bits : ℕ) (answer : Bool) → IsFields word.fields
    → word.fields.user < 2 ^ 32
    → bits ≡ bits_with word 0 → (IsTrue answer ↔ IsBalanced bits) → beq answer word.balanced ≡ true
    → Spells (system_with word.fields.label.count) word bits
spells_as_is law exact word bits answer valid eight sum told same =
    spells_with law exact word 0 bits valid eight (lit< tt) sum
    (same_truth answer word.balanced (IsBalanced bits) same told)

-- the correction gives them the balance of the word
pub spells_corrected : SumHolds → AreExact → (word : LtcWord) (plain bits : ℕ) (answer : Bool) → IsFields word.fields
    → word.fields.user < 2 ^ 32
    → plain ≡ bits_with word 0 → bits ≡ plain + 2 ^ polarity_bit (system_with word.fields.label.count)
    → (IsTrue answer ↔ IsBalanced plain) → beq answer word.balanced ≡ false
    → Spells (system_with word.fields.label.count) word bits
spells_corrected law exact word plain bits answer valid eight sum more told other =
    let first = polarity_bit (system_with word.fields.label.count) in
    let before = rw (← sum) at (stands law exact word 0 valid (lit< tt)) in
    let after = stands law exact word 1 valid (lit< tt) in
    let is : plain + 2 ^ first ≡ bits_with word 1 = omega (arith, sum) in
    let turns = balance_turns plain first (rw is after.1) before.0.0 in
    spells_with law exact word 1 bits valid eight (lit< tt) (more ∙ is)
    (rw more (other_truth answer word.balanced (IsBalanced plain) (IsBalanced (plain + 2 ^ first)) other told turns.0
    turns.1))

-- ---- the spelling

even_tells : (n : ℕ) → IsTrue (n == 0) ↔ (n ≡ 0)
even_tells n = (λ t. eqb-true n 0 t, λ e. eq-eqb n 0 e)

spelled_by : SumHolds → AreExact → (word : LtcWord) → IsFields word.fields → word.fields.user < 2 ^ 32
    → (same : Bool) → beq (zeros (bits_with word 0) % 2 == 0) word.balanced ≡ same
    → Spells (system_with word.fields.label.count) word (cond same (bits_with word 0) (bits_with word 1))
spelled_by law exact word valid eight true told =
    spells_as_is law exact word (bits_with word 0) _ valid eight refl (even_tells _) told
spelled_by law exact word valid eight false told =
    spells_corrected law exact word (bits_with word 0) (bits_with word 1) _ valid eight refl (omega arith)
    (even_tells _) told

-- each word has its spelling
pub spelled : SumHolds → AreExact → (word : LtcWord) → IsFields word.fields → word.fields.user < 2 ^ 32
    → Spells (system_with word.fields.label.count) word (spelling_of word)
unfolding spelling_of
spelled law exact word valid eight = spelled_by law exact word valid eight _ refl
