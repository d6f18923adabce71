-- A number of 90 bits is that of its last bits: each further one doubles it.
use Rattle.std.proofs.Common.{◌≡◌, ℕ, zero, suc, ◌+◌, ◌-◌, ◌*◌, ◌/◌, ◌%◌, ◌^◌, ◌<◌, ◌≤◌}
use Rattle.std.proofs.Common.{◌⊎◌, inl, inr, ◌==◌, Bool, cond, ap, sym, ◌∙◌, arith}
use Rattle.std.proofs.Math.Nat.{div-one}
use Rattle.std.proofs.lemmas.Nat.{shr-shr}
use Rattle.luma_row.specs.declared.levels.Levels.{Levels}
use Rattle.luma_row.specs.Levels.{is_one, last_bits, number_of}
use Rattle.luma_truth.specs.Drawing.{has_bit}

-- a number is twice its half, and its last bit
doubled : (n : ℕ) → 2 * (n / 2) + cond (n % 2 == 1) 1 0 ≡ n
doubled n =
    let cases : (n % 2 ≡ 0) ⊎ (n % 2 ≡ 1) = grind arith in
    elim cases [
      | inl even ↦ rw even (omega arith)
      | inr odd ↦ rw odd (omega arith)
    ]

half : (word k : ℕ) → word / 2 ^ (k + 1) ≡ word / 2 ^ k / 2
half word k = sym (shr-shr word k 1)

last_is : (word n : ℕ) (levels : Levels) → word < 2 ^ 90 → n ≤ 90
    → ((bit : ℕ) → bit < 90 → is_one levels bit ≡ has_bit word bit)
    → last_bits n levels ≡ word / 2 ^ (90 - n)
unfolding last_bits
last_is word zero levels few h bits = let e : word / 2 ^ 90 ≡ 0 = omega arith in sym e
last_is word (suc n) levels few h bits =
    let before = last_is word n levels few (omega arith) bits in
    let here : is_one levels (89 - n) ≡ has_bit word (89 - n) = bits (89 - n) (omega arith) in
    let more : 90 - n ≡ (89 - n) + 1 = omega arith in
    let less : 90 - suc n ≡ 89 - n = omega arith in
    let halved : word / 2 ^ (90 - n) ≡ word / 2 ^ (89 - n) / 2 =
    ap (λ (m : ℕ). word / 2 ^ m) more ∙ half word (89 - n) in
    ap (λ (m : ℕ). 2 * m + cond (is_one levels (89 - n)) 1 0) (before ∙ halved)
    ∙ ap (λ (b : Bool). 2 * (word / 2 ^ (89 - n) / 2) + cond b 1 0) here
    ∙ doubled (word / 2 ^ (89 - n))
    ∙ ap (λ (m : ℕ). word / 2 ^ m) (sym less)

-- levels whose bits are those of a word say its number
pub number_is : (word : ℕ) (levels : Levels) → word < 2 ^ 90
    → ((bit : ℕ) → bit < 90 → is_one levels bit ≡ has_bit word bit) → number_of levels ≡ word
number_is word levels few bits = last_is word 90 levels few (omega arith) bits ∙ div-one word
