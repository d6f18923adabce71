-- Four numbers in a row are read from a ring as they stand, since the first four stand behind it once more.
use Rattle.std.proofs.Common.{◌≡◌, ◌⊎◌, inl, inr, ℕ, ◌+◌, ◌-◌, ◌%◌, ◌<◌, ◌≤◌, List, [], ◌∷◌, get_or, refl, ap, ◌∙◌}
use Rattle.std.proofs.Common.{arith}
use Rattle.cell_path.specs.Four.{at_step}
use Rattle.cell_path.specs.Kept.{IsRing}
use Rattle.cell_path.proofs.Lowest.{at_each_step}

-- four in a row are read as they stand
pub read_on : (ring : List ℕ) (at step place : ℕ) → IsRing ring → at < 128 → step < 4 → place ≡ at + step
    → get_or ring place 0 ≡ get_or ring ((at + step) % 128) 0
read_on ring at step place is low few here =
    let cases : (at + step < 128) ⊎ (128 ≤ at + step) = grind arith in
    elim cases [
      | inl within ↦ let e : place ≡ (at + step) % 128 = omega (arith, here, within) in ap (λ n. get_or ring n 0) e
      | inr over ↦
          let rest = at + step - 128 in
          let a : place ≡ 128 + rest = omega (arith, here, over) in
          let b : rest ≡ (at + step) % 128 = omega (arith, over, low, few) in
          ap (λ n. get_or ring n 0) a ∙ is.again rest (omega (arith, over, low, few)) ∙ ap (λ n. get_or ring n 0) b
    ]

pub read_four : (ring : List ℕ) (at : ℕ) → IsRing ring → at < 128 → (step : ℕ) → step < 4
    → at_step (get_or ring at 0 ∷ get_or ring (at + 1) 0 ∷ get_or ring (at + 2) 0 ∷ get_or ring (at + 3) 0 ∷ []) step
    ≡ get_or ring ((at + step) % 128) 0
read_four ring at is low =
    at_each_step (λ step. at_step
    (get_or ring at 0 ∷ get_or ring (at + 1) 0 ∷ get_or ring (at + 2) 0 ∷ get_or ring (at + 3) 0 ∷ []) step
    ≡ get_or ring ((at + step) % 128) 0)
    (read_on ring at 0 at is low (omega arith) (omega arith))
    (read_on ring at 1 (at + 1) is low (omega arith) refl) (read_on ring at 2 (at + 2) is low (omega arith) refl)
    (read_on ring at 3 (at + 3) is low (omega arith) refl)
