-- A word has one spelling: only the polarity correction is left to choose, and the balance chooses it.
use Rattle.std.proofs.Common.{◌≡◌, ℕ, zero, suc, ◌+◌, ◌*◌, ◌/◌, ◌%◌, ◌^◌, ◌<◌, Bool, true, false, refl, arith}
use Rattle.std.specs.Prelude.{◌↔◌, IsTrue}
use Rattle.tc_address.specs.declared.system.System.{System}
use Rattle.tc_bits.specs.Register.{field}
use Rattle.tc_bits.specs.Row.{OnlySumHolds}
use Rattle.tc_bits.specs.Spelling.{AreExact}
use Rattle.ltc_word.specs.declared.word.LtcWord.{LtcWord}
use Rattle.ltc_word.specs.Balance.{IsBalanced}
use Rattle.ltc_word.specs.Places.{polarity_bit}
use Rattle.ltc_word.specs.Spelling.{Spells}
use Rattle.ltc_word.proofs.OneBitMore.{balance_turns}
use Rattle.ltc_word.proofs.RowOfAWord.{is_sum}

-- the balance can't be that of both
opposed : (told : Bool) (P Q : Type 0) → (IsTrue told ↔ P) → (IsTrue told ↔ Q) → (P → Q → ⊥) → ((P → ⊥) → Q) → ⊥
opposed true P Q p q apart either = apart (p.0 refl) (q.0 refl)
opposed false P Q p q apart either =
    let t : false ≡ true = q.1 (either (λ h. let f : false ≡ true = p.1 h in absurd cc)) in
    absurd cc

one_more : (told : Bool) (a b place : ℕ) → a < 2 ^ 80 → b < 2 ^ 80 → a / 2 ^ place % 2 ≡ 0 → b ≡ a + 2 ^ place
    → (IsTrue told ↔ IsBalanced a) → (IsTrue told ↔ IsBalanced b) → ⊥
one_more told a b place wa wb clear e p q =
    let turns = balance_turns a place (rw e at wb) clear in
    opposed told (IsBalanced a) (IsBalanced (a + 2 ^ place)) p (rw e at q) turns.0 turns.1

by_balance : (told : Bool) (a b place da db : ℕ) → a < 2 ^ 80 → b < 2 ^ 80 → a / 2 ^ place % 2 ≡ da
    → b / 2 ^ place % 2 ≡ db
    → a + db * 2 ^ place ≡ b + da * 2 ^ place → (IsTrue told ↔ IsBalanced a) → (IsTrue told ↔ IsBalanced b) → a ≡ b
by_balance told a b place zero zero wa wb ea eb e p q = omega arith
by_balance told a b place zero (suc zero) wa wb ea eb e p q =
    absurd (one_more told a b place wa wb ea (omega arith) p q)
by_balance told a b place (suc zero) zero wa wb ea eb e p q =
    absurd (one_more told b a place wb wa eb (omega arith) q p)
by_balance told a b place (suc zero) (suc zero) wa wb ea eb e p q = omega arith
by_balance told a b place (suc (suc da)) db wa wb ea eb e p q = absurd (omega arith)
by_balance told a b place zero (suc (suc db)) wa wb ea eb e p q = absurd (omega arith)
by_balance told a b place (suc zero) (suc (suc db)) wa wb ea eb e p q = absurd (omega arith)

differ_there : (rest weight a b da db : ℕ) → a ≡ da * weight + rest → b ≡ db * weight + rest
    → a + db * weight ≡ b + da * weight
differ_there rest weight a b da db x y = omega (arith, x, y)

-- a word has one spelling
pub one_spelling : OnlySumHolds → AreExact → (system : System) (word : LtcWord) (a b : ℕ) → Spells system word a
    → Spells system word b → a ≡ b
one_spelling law exact system word a b p q =
    let first = polarity_bit system in
    by_balance word.balanced a b first (field a first 1) (field b first 1) p.width q.width refl refl
    (differ_there _ (2 ^ first) a b _ _ (is_sum law exact system word a p) (is_sum law exact system word b q))
    p.balance q.balance
