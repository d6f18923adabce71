-- The threshold of a bit is a mean of the middles of the sync pairs. Between the first and the last middle it is no
-- lower than the lowest and no higher than the highest of them; beyond, it goes on by 17 eightieths of what lies
-- between.
use Rattle.std.proofs.Common.{◌≡◌, ℕ, ◌+◌, ◌-◌, ◌*◌, ◌<◌, ◌≤◌, ◌⊎◌, inl, inr, List}
use Rattle.std.proofs.Common.{min, ap, sym, subst, arith}
use Rattle.std.proofs.Math.Nat.{mul-le-mul_left}
use Rattle.luma_row.specs.Heights.{middle, pair_before, smoothed}
use Rattle.luma_truth.proofs.Rest.{rest_of}

-- twice the middles of the pairs lie between these
pub record AreMiddles (low high : ℕ) (cells : List ℕ) : Type 0 where
  pub least : (pair : ℕ) → pair < 9 → low ≤ 2 * middle cells pair
  pub most : (pair : ℕ) → pair < 9 → 2 * middle cells pair ≤ high

-- where the threshold of a bit lies, which stands behind this pair: what is taken away for it, and what is not
pub record IsNear (low high : ℕ) (cells : List ℕ) (bit pair : ℕ) : Type 0 where
  pub most : 2 * ((20 * pair + 21 - 2 * bit) * smoothed cells pair
      + (2 * bit - (20 * pair + 1)) * smoothed cells (pair + 1)) + 17 * low
      ≤ 2 * ((2 * bit - (20 * pair + 21)) * smoothed cells pair
      + (20 * pair + 1 - 2 * bit) * smoothed cells (pair + 1)) + 97 * high
  pub least : 2 * ((2 * bit - (20 * pair + 21)) * smoothed cells pair
      + (20 * pair + 1 - 2 * bit) * smoothed cells (pair + 1)) + 97 * low
      ≤ 2 * ((20 * pair + 21 - 2 * bit) * smoothed cells pair
      + (2 * bit - (20 * pair + 1)) * smoothed cells (pair + 1)) + 17 * high

smoothed_least : (low high : ℕ) (cells : List ℕ) (pair : ℕ) → AreMiddles low high cells → pair < 9
    → 4 * low ≤ 2 * smoothed cells pair
smoothed_least low high cells pair are h =
    let before = are.least (pair - 1) (omega arith) in
    let here = are.least pair h in
    let behind = are.least (min (pair + 1) 8) (omega arith) in
    omega (arith, before, here, behind)

smoothed_most : (low high : ℕ) (cells : List ℕ) (pair : ℕ) → AreMiddles low high cells → pair < 9
    → 2 * smoothed cells pair ≤ 4 * high
smoothed_most low high cells pair are h =
    let before = are.most (pair - 1) (omega arith) in
    let here = are.most pair h in
    let behind = are.most (min (pair + 1) 8) (omega arith) in
    omega (arith, before, here, behind)

-- Between two pairs: the weights make 20, and none is left over.
weighed : (low high near next over under here there : ℕ) → near + next ≡ 20 → over ≡ 0 → under ≡ 0
    → 4 * low ≤ 2 * here → 2 * here ≤ 4 * high → 4 * low ≤ 2 * there → 2 * there ≤ 4 * high
    → (2 * (near * here + next * there) + 17 * low ≤ 2 * (over * here + under * there) + 97 * high)
    × (2 * (over * here + under * there) + 97 * low ≤ 2 * (near * here + next * there) + 17 * high)
weighed low high near next over under here there all no_over no_under a b c d =
    let p = mul-le-mul_left near a in
    let q = mul-le-mul_left near b in
    let r = mul-le-mul_left next c in
    let s = mul-le-mul_left next d in
    let lows = ap (λ (m : ℕ). m * low) all in
    let highs = ap (λ (m : ℕ). m * high) all in
    let nothing = ap (λ (m : ℕ). m * here) no_over in
    let none = ap (λ (m : ℕ). m * there) no_under in (
      omega (arith, p, q, r, s, lows, highs, nothing, none, a, b),
      omega (arith, p, q, r, s, lows, highs, nothing, none, a, b),
    )

-- Behind the last pair: the last three middles, of which the first counts against.
weighed_behind : (low high near next over under m6 m7 m8 rest gap : ℕ) → near ≡ 0 → under ≡ 0 → next ≡ over + 20
    → over ≤ 17 → over + rest ≡ 20 → low + gap ≡ high → low ≤ 2 * m6 → 2 * m6 ≤ high
    → low ≤ 2 * m7 → 2 * m7 ≤ high → low ≤ 2 * m8 → 2 * m8 ≤ high
    → (2 * (near * (m6 + 2 * m7 + m8) + next * (m7 + 2 * m8 + m8)) + 17 * low
    ≤ 2 * (over * (m6 + 2 * m7 + m8) + under * (m7 + 2 * m8 + m8)) + 97 * high)
    × (2 * (over * (m6 + 2 * m7 + m8) + under * (m7 + 2 * m8 + m8)) + 97 * low
    ≤ 2 * (near * (m6 + 2 * m7 + m8) + next * (m7 + 2 * m8 + m8)) + 17 * high)
weighed_behind low high near next over under m6 m7 m8 rest gap no_near no_under next_is few rest_is gap_is a b c d e f =
    let first_least = mul-le-mul_left over a in
    let first_most = mul-le-mul_left over b in
    let second_least = mul-le-mul_left rest c in
    let second_most = mul-le-mul_left rest d in
    let third_least = mul-le-mul_left over e in
    let third_most = mul-le-mul_left over f in
    let few_gaps = mul-le-mul_left gap few in
    let seconds = ap (λ (m : ℕ). m * m7) rest_is in
    let lows = ap (λ (m : ℕ). m * low) rest_is in
    let highs = ap (λ (m : ℕ). m * high) rest_is in
    let gaps = ap (λ (m : ℕ). over * m) gap_is in
    let nothing = ap (λ (m : ℕ). m * (m6 + 2 * m7 + m8)) no_near in
    let none = ap (λ (m : ℕ). m * (m7 + 2 * m8 + m8)) no_under in
    let nexts = ap (λ (m : ℕ). m * (m7 + 2 * m8 + m8)) next_is in (
      omega (arith, first_least, second_most, third_most, few_gaps, seconds, highs, gaps, nothing, none, nexts, f),
      omega (arith, first_most, second_least, third_least, few_gaps, seconds, lows, gaps, nothing, none, nexts, e),
    )

near_first : (low high : ℕ) (cells : List ℕ) → AreMiddles low high cells → IsNear low high cells 0 0
near_first low high cells are =
    let a = are.least 0 (omega arith) in
    let b = are.most 0 (omega arith) in
    let c = are.least 1 (omega arith) in
    let d = are.most 1 (omega arith) in
    let e = are.least 2 (omega arith) in
    let f = are.most 2 (omega arith) in
    record { most = omega (arith, a, b, c, d, e, f); least = omega (arith, a, b, c, d, e, f) }

near_between : (low high : ℕ) (cells : List ℕ) (bit pair : ℕ) → AreMiddles low high cells → pair < 8
    → 20 * pair + 1 ≤ 2 * bit → 2 * bit ≤ 20 * pair + 21 → IsNear low high cells bit pair
near_between low high cells bit pair are h after before =
    let w = weighed low high (20 * pair + 21 - 2 * bit) (2 * bit - (20 * pair + 1)) (2 * bit - (20 * pair + 21))
    (20 * pair + 1 - 2 * bit) (smoothed cells pair) (smoothed cells (pair + 1)) (omega arith) (omega arith)
    (omega arith) (smoothed_least low high cells pair are (omega arith))
    (smoothed_most low high cells pair are (omega arith))
    (smoothed_least low high cells (pair + 1) are (omega arith))
    (smoothed_most low high cells (pair + 1) are (omega arith)) in
    record { most = w.0; least = w.1 }

near_behind : (low high : ℕ) (cells : List ℕ) (bit : ℕ) → AreMiddles low high cells → 81 ≤ bit → bit < 90
    → IsNear low high cells bit 7
near_behind low high cells bit are after h =
    let least = are.least 6 (omega arith) in
    let most = are.most 6 (omega arith) in
    let rest = rest_of (2 * bit - (20 * 7 + 21)) 20 (omega arith) in
    let gap = rest_of low high (omega (arith, least, most)) in
    let w = weighed_behind low high (20 * 7 + 21 - 2 * bit) (2 * bit - (20 * 7 + 1)) (2 * bit - (20 * 7 + 21))
    (20 * 7 + 1 - 2 * bit) (middle cells 6) (middle cells 7) (middle cells 8) rest.0 gap.0 (omega arith) (omega arith)
    (omega arith) (omega arith) rest.1 gap.1 least most (are.least 7 (omega arith))
    (are.most 7 (omega arith)) (are.least 8 (omega arith)) (are.most 8 (omega arith)) in
    record { most = w.0; least = w.1 }

-- the threshold of each bit lies there
pub is_near : (low high : ℕ) (cells : List ℕ) (bit : ℕ) → AreMiddles low high cells → bit < 90
    → IsNear low high cells bit (pair_before bit)
is_near low high cells bit are h =
    let cases : (bit ≡ 0) ⊎ (1 ≤ bit) = grind arith in
    elim cases [
      | inl zero_is ↦ subst (λ (b : ℕ). IsNear low high cells b (pair_before b)) (sym zero_is)
          (near_first low high cells are)
      | inr some ↦
          let others : (bit ≤ 80) ⊎ (81 ≤ bit) = grind arith in
          elim others [
            | inl between ↦ near_between low high cells bit (pair_before bit) are (omega arith) (omega arith)
                (omega arith)
            | inr behind ↦
                let last : pair_before bit ≡ 7 = omega arith in
                subst (λ (p : ℕ). IsNear low high cells bit p) (sym last) (near_behind low high cells bit are behind h)
          ]
    ]
