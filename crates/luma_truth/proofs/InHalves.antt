-- The light of a core beyond that of the darkest pixel, in halves of a level, out of the light of its row in 10,240ths.
-- The darkest pixel is `black`: `less` levels below the level of a 0, or by the noise `over` levels above it.
use Rattle.std.proofs.Common.{◌≡◌, ℕ, ◌+◌, ◌-◌, ◌*◌, ◌≤◌, ◌⊎◌, inl, inr, ap, arith}
use Rattle.std.proofs.Math.Nat.{mul-le-mul_left}

pub bright_least : (dark swing noise black less over core n before behind cell : ℕ)
    → (n ≡ core) ⊎ (n ≡ core + 1) → dark + over ≡ black + less
    → 10240 * before + 10240 * (dark + swing) * n ≤ 10240 * behind + 5120 * noise * n + 81920 * swing
    → cell ≡ behind - before - black * n
    → 2 * (less + swing) * core ≤ 2 * cell + 2 * over * (core + 1) + noise * (core + 1) + 16 * swing
bright_least dark swing noise black less over core n before behind cell cases split light is = elim cases [
  | inl same ↦
      let b = ap (λ (m : ℕ). m * n) split in
      let d = ap (λ (m : ℕ). (less + swing) * m) same in
      let o = ap (λ (m : ℕ). over * m) same in
      let e = ap (λ (m : ℕ). noise * m) same in
      omega (arith, light, is, b, d, o, e)
  | inr more ↦
      let b = ap (λ (m : ℕ). m * n) split in
      let d = ap (λ (m : ℕ). (less + swing) * m) more in
      let o = ap (λ (m : ℕ). over * m) more in
      let e = ap (λ (m : ℕ). noise * m) more in
      omega (arith, light, is, b, d, o, e)
]

pub bright_most : (dark swing noise black less over core n before behind cell : ℕ)
    → (n ≡ core) ⊎ (n ≡ core + 1) → dark + over ≡ black + less → 2 * over ≤ noise
    → 10240 * behind ≤ 10240 * before + (10240 * (dark + swing) + 5120 * noise) * n
    → cell ≡ behind - before - black * n
    → 2 * cell + 2 * over * core ≤ 2 * (less + swing) * (core + 1) + noise * (core + 1)
bright_most dark swing noise black less over core n before behind cell cases split quiet light is =
    let q = mul-le-mul_left core quiet in
    elim cases [
      | inl same ↦
          let b = ap (λ (m : ℕ). m * n) split in
          let d = ap (λ (m : ℕ). (less + swing) * m) same in
          let o = ap (λ (m : ℕ). over * m) same in
          let e = ap (λ (m : ℕ). noise * m) same in
          omega (arith, light, is, b, d, o, e, q)
      | inr more ↦
          let b = ap (λ (m : ℕ). m * n) split in
          let d = ap (λ (m : ℕ). (less + swing) * m) more in
          let o = ap (λ (m : ℕ). over * m) more in
          let e = ap (λ (m : ℕ). noise * m) more in
          omega (arith, light, is, b, d, o, e, q)
    ]

pub dark_least : (dark noise black less over core n before behind cell : ℕ)
    → (n ≡ core) ⊎ (n ≡ core + 1) → dark + over ≡ black + less
    → 10240 * before + 10240 * dark * n ≤ 10240 * behind + 5120 * noise * n
    → cell ≡ behind - before - black * n
    → 2 * less * core ≤ 2 * cell + 2 * over * (core + 1) + noise * (core + 1)
dark_least dark noise black less over core n before behind cell cases split light is = elim cases [
  | inl same ↦
      let b = ap (λ (m : ℕ). m * n) split in
      let d = ap (λ (m : ℕ). less * m) same in
      let o = ap (λ (m : ℕ). over * m) same in
      let e = ap (λ (m : ℕ). noise * m) same in
      omega (arith, light, is, b, d, o, e)
  | inr more ↦
      let b = ap (λ (m : ℕ). m * n) split in
      let d = ap (λ (m : ℕ). less * m) more in
      let o = ap (λ (m : ℕ). over * m) more in
      let e = ap (λ (m : ℕ). noise * m) more in
      omega (arith, light, is, b, d, o, e)
]

pub dark_most : (dark swing noise black less over core n before behind cell : ℕ)
    → (n ≡ core) ⊎ (n ≡ core + 1) → dark + over ≡ black + less → 2 * over ≤ noise
    → 10240 * behind ≤ 10240 * before + (10240 * dark + 5120 * noise) * n + 81920 * swing
    → cell ≡ behind - before - black * n
    → 2 * cell + 2 * over * core ≤ 2 * less * (core + 1) + noise * (core + 1) + 16 * swing
dark_most dark swing noise black less over core n before behind cell cases split quiet light is =
    let q = mul-le-mul_left core quiet in
    elim cases [
      | inl same ↦
          let b = ap (λ (m : ℕ). m * n) split in
          let d = ap (λ (m : ℕ). less * m) same in
          let o = ap (λ (m : ℕ). over * m) same in
          let e = ap (λ (m : ℕ). noise * m) same in
          omega (arith, light, is, b, d, o, e, q)
      | inr more ↦
          let b = ap (λ (m : ℕ). m * n) split in
          let d = ap (λ (m : ℕ). less * m) more in
          let o = ap (λ (m : ℕ). over * m) more in
          let e = ap (λ (m : ℕ). noise * m) more in
          omega (arith, light, is, b, d, o, e, q)
    ]
