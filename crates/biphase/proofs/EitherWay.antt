-- The difference of two lengths is within a bound if neither is more than the other and the bound.
use Rattle.std.proofs.Common.{◌≡◌, ℕ, ◌+◌, ◌-◌, ◌*◌, ◌≤◌, ap, sym, ◌∙◌, inl, inr, arith}
use Rattle.std.specs.Int.{abs_diff}
use Rattle.std.proofs.lemmas.Bool.{cases_lt}

-- a multiple of a sum
times_sum : (n a d : ℕ) → n * (a + d) ≡ n * a + n * d
times_sum n a d = grind arith

-- the multiple of what the one is more
times_more : (n a b : ℕ) → a ≤ b → n * b ≡ n * a + n * (b - a)
times_more n a b less =
    let e : a + (b - a) ≡ b = omega (arith, less) in
    ap (λ (k : ℕ). n * k) (sym e) ∙ times_sum n a (b - a)

-- the difference of two multiples is the multiple of the difference
pub times_apart : (n a b : ℕ) → n * abs_diff a b ≡ abs_diff (n * a) (n * b)
times_apart n a b = elim (cases_lt a b) [
  | inl less ↦ let t : abs_diff a b ≡ b - a = omega (arith, less) in
      let m = times_more n a b (omega (arith, less)) in
      let s : n * (b - a) ≡ abs_diff (n * a) (n * b) = omega (arith, m) in
      ap (λ (k : ℕ). n * k) t ∙ s
  | inr more ↦ let t : abs_diff a b ≡ a - b = omega (arith, more) in
      let m = times_more n b a more in
      let s : n * (a - b) ≡ abs_diff (n * a) (n * b) = omega (arith, m) in
      ap (λ (k : ℕ). n * k) t ∙ s
]
