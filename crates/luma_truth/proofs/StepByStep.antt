-- The light of a row grows by the level of the pixel with each sixteenth of it.
use Rattle.std.proofs.Common.{◌≡◌, ℕ, zero, suc, ◌+◌, ◌*◌, ◌/◌, ◌%◌, ◌<◌, ◌≤◌, ◌⊎◌, inl, inr}
use Rattle.std.proofs.Common.{List, length, get_or, take, ap, arith}
use Rattle.std.specs.List.{sum}
use Rattle.std.proofs.lemmas.List.Sums.{sum_by_more}
use Rattle.luma_row.specs.Light.{light}

sum_more : (row : List ℕ) (n : ℕ) → n < length row → sum (take (n + 1) row) ≡ sum (take n row) + get_or row n 0
sum_more row n h = sum_by_more (λ x. x) row n 0 h

-- one sixteenth further
one_step : (row : List ℕ) (place : ℕ) → place < 16 * length row
    → light row (place + 1) ≡ light row place + get_or row (place / 16) 0
unfolding light
one_step row place within =
    let cases : (place % 16 < 15) ⊎ (place % 16 ≡ 15) = grind arith in
    elim cases [
      | inl less ↦
          let p : (place + 1) / 16 ≡ place / 16 = omega arith in
          let r : (place + 1) % 16 ≡ place % 16 + 1 = omega arith in
          rw (p, r) (omega arith)
      | inr last ↦
          let p : (place + 1) / 16 ≡ place / 16 + 1 = omega arith in
          let r : (place + 1) % 16 ≡ 0 = omega arith in
          let next = sum_more row (place / 16) (omega arith) in
          rw (p, r, next, last) (omega arith)
    ]

-- each pixel of a stretch has so much light or more, but for some
least_of_steps : (row : List ℕ) (low more begin n : ℕ) → begin + n ≤ 16 * length row
    → ((place : ℕ) → begin ≤ place → place < begin + n → low ≤ 10240 * get_or row (place / 16) 0 + more)
    → 10240 * light row begin + low * n ≤ 10240 * light row (begin + n) + more * n
least_of_steps row low more begin zero within each =
    let e : light row (begin + zero) ≡ light row begin = ap (light row) (omega arith) in
    omega (arith, e)
least_of_steps row low more begin (suc n) within each =
    let before = least_of_steps row low more begin n (omega arith) (λ place a b. each place a (omega arith)) in
    let here = each (begin + n) (omega arith) (omega arith) in
    let step = one_step row (begin + n) (omega arith) in
    let e : light row (begin + suc n) ≡ light row (begin + n + 1) = ap (light row) (omega arith) in
    omega (arith, before, here, step, e)

-- and so much or less
most_of_steps : (row : List ℕ) (high begin n : ℕ) → begin + n ≤ 16 * length row
    → ((place : ℕ) → begin ≤ place → place < begin + n → 10240 * get_or row (place / 16) 0 ≤ high)
    → 10240 * light row (begin + n) ≤ 10240 * light row begin + high * n
most_of_steps row high begin zero within each =
    let e : light row (begin + zero) ≡ light row begin = ap (light row) (omega arith) in
    omega (arith, e)
most_of_steps row high begin (suc n) within each =
    let before = most_of_steps row high begin n (omega arith) (λ place a b. each place a (omega arith)) in
    let here = each (begin + n) (omega arith) (omega arith) in
    let step = one_step row (begin + n) (omega arith) in
    let e : light row (begin + suc n) ≡ light row (begin + n + 1) = ap (light row) (omega arith) in
    omega (arith, before, here, step, e)

-- the same from one place to another
pub least_between : (row : List ℕ) (low more begin n end : ℕ) → begin + n ≡ end → end ≤ 16 * length row
    → ((place : ℕ) → begin ≤ place → place < end → low ≤ 10240 * get_or row (place / 16) 0 + more)
    → 10240 * light row begin + low * n ≤ 10240 * light row end + more * n
least_between row low more begin n end is within each =
    let all = least_of_steps row low more begin n (omega arith) (λ place a b. each place a (omega arith)) in
    let e : light row (begin + n) ≡ light row end = ap (light row) is in
    omega (arith, all, e)

pub most_between : (row : List ℕ) (high begin n end : ℕ) → begin + n ≡ end → end ≤ 16 * length row
    → ((place : ℕ) → begin ≤ place → place < end → 10240 * get_or row (place / 16) 0 ≤ high)
    → 10240 * light row end ≤ 10240 * light row begin + high * n
most_between row high begin n end is within each =
    let all = most_of_steps row high begin n (omega arith) (λ place a b. each place a (omega arith)) in
    let e : light row (begin + n) ≡ light row end = ap (light row) is in
    omega (arith, all, e)
