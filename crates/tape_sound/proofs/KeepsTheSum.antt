-- If a cell is compared with the sum of the four before it, each of the four is wrong by a delay at most, and
-- together they differ from four times the next cell by ten drifts: what a cell needs leaves room for both.
use Rattle.std.proofs.Common.{◌≡◌, ℕ, ◌+◌, ◌*◌, ◌<◌, ◌≤◌, List, [], ◌∷◌, arith}
use Rattle.biphase.specs.declared.cell.Cell.{Cell}
use Rattle.biphase.specs.declared.cell.Cell.TheVariants.{Zero, One}
use Rattle.biphase.specs.declared.profile.Profile.TheVariants.{Rough}
use Rattle.biphase.specs.declared.profile.TheConstants.{ROUGH}
use Rattle.biphase.specs.Chain.{Follow, FollowEachZero, FollowOn, IsCell}
use Rattle.biphase.specs.Latest.{Latest}
use Rattle.biphase.specs.Tolerance.{kept_at_lock, kept_next, length_of, sum_of, FollowsSum, IsNext}
use Rattle.tape_sound.specs.Late.{drift_from, AreFoundAs, IsFoundAs, IsSteady, IsSteadyFromALock}
use Rattle.tape_sound.specs.Late.{OutlastsFromALock, RunOn, RunOnFromALock}
use Rattle.tape_sound.proofs.FoundLength.{length_found, wrong_by}
use Rattle.tape_sound.proofs.KeepsTheLast.{is_cell}
use Rattle.tape_sound.proofs.LastsLong.{cell_drift, half_drift, steady_rest}

-- a number differs from another by a delay at most
abbrev IsNear : ℕ → ℕ → ℕ → Type 0
IsNear delay a b = (a ≤ b + delay) × (b ≤ a + delay)

-- a cell of c ticks comes behind one of p, and outlasts what the sum needs
abbrev IsBehind : ℕ → ℕ → ℕ → Type 0
IsBehind delay c p = (12 * c + 9 * delay ≤ 12 * p + c) × (12 * p + 9 * delay ≤ 12 * c + c)

-- the latest four cells as they are found, and those of the tape, the last one first
record Behind (delay : ℕ) (latest : Latest) (p q r s : ℕ) : Type 0 where
  last : IsNear delay latest.last p
  second : IsNear delay latest.second q
  third : IsNear delay latest.third r
  fourth : IsNear delay latest.fourth s
  to_second : IsBehind delay p q
  to_third : IsBehind delay q r
  to_fourth : IsBehind delay r s

behind_by : (delay drift c p : ℕ) → c ≤ p + drift → p ≤ c + drift → 12 * drift + 9 * delay < c → IsBehind delay c p
behind_by delay drift c p more less long = (omega arith, omega arith)

-- the sum of the four lies between 16 fifths and 16 thirds of the next cell, with room for the delay
four_least : (delay c p q r s : ℕ) → 9 * delay ≤ c → IsBehind delay c p → IsBehind delay p q → IsBehind delay q r
    → IsBehind delay r s → 16 * c + 36 * delay ≤ 5 * (p + q + r + s)
four_least delay c p q r s nine cp pq qr rs = omega (arith, nine, cp.0, cp.1, pq.0, pq.1, qr.0, qr.1, rs.0, rs.1)

four_most : (delay c p q r s : ℕ) → 9 * delay ≤ c → IsBehind delay c p → IsBehind delay p q → IsBehind delay q r
    → IsBehind delay r s → 3 * (p + q + r + s) + 28 * delay ≤ 16 * c
four_most delay c p q r s nine cp pq qr rs = omega (arith, nine, cp.0, cp.1, pq.0, pq.1, qr.0, qr.1, rs.0, rs.1)

-- so does the sum of the four as they are found, which is wrong by four delays at most
record SumBounds (delay c sum : ℕ) : Type 0 where
  least : 16 * c + 16 * delay ≤ 5 * sum
  most : 3 * sum + 16 * delay ≤ 16 * c

sum_bounds : (delay c p q r s : ℕ) (latest : Latest) → Behind delay latest p q r s → 9 * delay ≤ c → IsBehind delay c p
    → SumBounds delay c (sum_of latest)
sum_bounds delay c p q r s latest b nine near = record {
  least =
      let four = four_least delay c p q r s nine near b.to_second b.to_third b.to_fourth in
      omega (arith, four, b.last.1, b.second.1, b.third.1, b.fourth.1);
  most =
      let four = four_most delay c p q r s nine near b.to_second b.to_third b.to_fourth in
      omega (arith, four, b.last.0, b.second.0, b.third.0, b.fourth.0);
}

-- a cell is as long as the sum needs
cell_follows : (delay first last c x sum : ℕ) → first ≤ delay → last ≤ delay → c + last ≡ first + x
    → SumBounds delay c sum → FollowsSum ROUGH sum (Zero x)
cell_follows delay first last c x sum early late is b = let least = b.least in let most = b.most in
    (omega arith, omega arith)

-- so is a half, which is half a cell but for half a drift
half_follows : (delay drift first last c a x sum : ℕ) → first ≤ delay → last ≤ delay → a + last ≡ first + x
    → 12 * drift + 9 * delay < c → c ≤ 2 * a + drift → 2 * a ≤ c + drift
    → SumBounds delay c sum → (3 * sum ≤ 40 * x) × (40 * x ≤ 7 * sum)
half_follows delay drift first last c a x sum early late is nine low high b =
    let least = b.least in let most = b.most in (omega arith, omega arith)

-- a cell of the tape, as it is found, may come next
cell_next : (delay first last p q r s : ℕ) (latest : Latest) (cell found : Cell) → first ≤ delay → last ≤ delay
    → Behind delay latest p q r s → OutlastsFromALock delay (drift_from p cell) (length_of cell)
    → IsFoundAs delay first last cell found → IsNext Rough latest found
cell_next delay first last p q r s latest (Zero c) (Zero x) early late b long is =
    let drift = cell_drift p (Zero c) in
    let bounds = sum_bounds delay c p q r s latest b (omega (arith, long))
    (behind_by delay (drift_from p (Zero c)) c p drift.0 drift.1 long) in
    cell_follows delay first last c x (sum_of latest) early late is bounds
cell_next delay first last p q r s latest (One m n) (One x y) early late b long is =
    let drift : ℕ = drift_from p (One m n) in
    let apart = half_drift p m n in
    let cell = cell_drift p (One m n) in
    let bounds = sum_bounds delay (m + n) p q r s latest b (omega (arith, long))
    (behind_by delay drift (m + n) p cell.0 cell.1 long) in (
      half_follows delay drift first is.0 (m + n) m x (sum_of latest) early is.1 is.2 long
          (omega (arith, apart.1)) (omega (arith, apart.0)) bounds,
      half_follows delay drift is.0 last (m + n) n y (sum_of latest) is.1 late is.3 long
          (omega (arith, apart.0)) (omega (arith, apart.1)) bounds,
      cell_follows delay first last (m + n) (x + y) (sum_of latest) early late (omega (arith, is.2, is.3)) bounds,
    )
cell_next delay first last p q r s latest (Zero c) (One x y) early late b long is = absurd is
cell_next delay first last p q r s latest (One m n) (Zero x) early late b long is = absurd is

-- the four, with one cell more
one_more : (delay first last p q r s x : ℕ) (latest : Latest) (cell : Cell) → first ≤ delay → last ≤ delay
    → Behind delay latest p q r s → OutlastsFromALock delay (drift_from p cell) (length_of cell)
    → length_of cell + last ≡ first + x → Behind delay (kept_next Rough latest x) (length_of cell) p q r
one_more delay first last p q r s x latest cell early late b long is =
    let drift = cell_drift p cell in record {
      last = wrong_by delay first last (length_of cell) x early late is;
      second = b.last;
      third = b.second;
      fourth = b.third;
      to_second = behind_by delay (drift_from p cell) (length_of cell) p drift.0 drift.1 long;
      to_third = b.to_second;
      to_fourth = b.to_third;
    }

-- each half of a one lasts a tick or more
some_halves : (delay drift first middle last a b x y : ℕ) → first ≤ delay → middle ≤ delay → a + middle ≡ first + x
    → b + last ≡ middle + y → a ≤ b + drift → b ≤ a + drift → 12 * drift + 9 * delay < a + b → (1 ≤ x) × (1 ≤ y)
some_halves delay drift first middle last a b x y early mid left right more less long = (omega arith, omega arith)

rough_cell : (delay before first last : ℕ) (cell found : Cell) → first ≤ delay → last ≤ delay
    → OutlastsFromALock delay (drift_from before cell) (length_of cell) → IsFoundAs delay first last cell found
    → IsCell Rough found
rough_cell delay before first last (Zero c) (Zero x) early late long is = omega (arith, long, early, is)
rough_cell delay before first last (One a b) (One x y) early late long is =
    let apart = half_drift before a b in
    let some = some_halves delay (drift_from before (One a b)) first is.0 last a b x y early is.1 is.2 is.3 apart.0
    apart.1 long in
    (some.0, some.1, tt)
rough_cell delay before first last (Zero c) (One x y) early late long is = absurd is
rough_cell delay before first last (One a b) (Zero x) early late long is = absurd is

follow_rough : (delay first p q r s : ℕ) (latest : Latest) (tape cells : List Cell) → first ≤ delay
    → Behind delay latest p q r s → RunOnFromALock delay p tape → AreFoundAs delay first tape cells
    → Follow Rough latest cells
follow_rough delay first p q r s latest [] [] early b runs found = tt
follow_rough delay first p q r s latest [] (x ∷ cells) early b runs found = absurd found
follow_rough delay first p q r s latest (cell ∷ tape) [] early b runs found = absurd found
follow_rough delay first p q r s latest (cell ∷ tape) (x ∷ cells) early b runs found =
    let last = found.0 in
    let length = length_found delay first last cell x found.2 in (
      rough_cell delay p first last cell x early found.1 runs.0 found.2,
      cell_next delay first last p q r s latest cell x early found.1 b runs.0 found.2,
      follow_rough delay last (length_of cell) p q r (kept_next Rough latest (length_of x)) tape cells found.1
          (one_more delay first last p q r s (length_of x) latest cell early found.1 b runs.0 length) runs.1 found.3,
    )

-- at a lock the one cell there stands for four
at_lock : (delay first last c x : ℕ) → first ≤ delay → last ≤ delay → c + last ≡ first + x → 9 * delay < c
    → Behind delay (kept_at_lock Rough x) c c c c
at_lock delay first last c x early late is long =
    let near = wrong_by delay first last c x early late is in
    let same : IsBehind delay c c = (omega arith, omega arith) in
    record {
      last = near;
      second = near;
      third = near;
      fourth = near;
      to_second = same;
      to_third = same;
      to_fourth =
          same;
    }

-- from a lock at its first cell on a tape follows as it is found
pub from_a_lock : (delay first : ℕ) (tape cells : List Cell) → first ≤ delay → IsSteadyFromALock delay tape
    → AreFoundAs delay first tape cells → FollowOn Rough cells
from_a_lock delay first [] [] early steady found = tt
from_a_lock delay first [] (x ∷ cells) early steady found = absurd found
from_a_lock delay first (cell ∷ tape) [] early steady found = absurd found
from_a_lock delay first (cell ∷ tape) (x ∷ cells) early steady found =
    let length = length_found delay first found.0 cell x found.2 in
    let long : 9 * delay < length_of cell = omega (arith, steady.0) in (
      rough_cell delay (length_of cell) first found.0 cell x early found.1 steady.0 found.2,
      follow_rough delay found.0 (length_of cell) (length_of cell) (length_of cell) (length_of cell)
          (kept_at_lock Rough (length_of x)) tape cells found.1
          (at_lock delay first found.0 (length_of cell) (length_of x) early found.1 length long) steady.1 found.3,
    )

-- a tape that is steady runs on so from each of its cells
from_each : (delay before : ℕ) (tape : List Cell) → RunOn Rough delay before tape → RunOnFromALock delay before tape
from_each delay before [] runs = tt
from_each delay before (cell ∷ tape) runs = (runs.0.1, from_each delay (length_of cell) tape runs.1)

-- from each zero on the cells follow
pub each_zero : (delay first : ℕ) (tape cells : List Cell) → first ≤ delay → IsSteady Rough delay tape
    → AreFoundAs delay first tape cells → FollowEachZero Rough cells
each_zero delay first [] [] early steady found = tt
each_zero delay first [] (x ∷ cells) early steady found = absurd found
each_zero delay first (cell ∷ tape) [] early steady found = absurd found
each_zero delay first (Zero c ∷ tape) (Zero x ∷ cells) early steady found =
    let long = steady.0 in (
      is_cell Rough delay c first found.0 (Zero c) (Zero x) early found.1 steady.0 found.2,
      follow_rough delay found.0 c c c c (kept_at_lock Rough x) tape cells found.1
          (at_lock delay first found.0 c x early found.1 found.2 (omega (arith, long.1)))
          (from_each delay c tape steady.1) found.3,
      each_zero delay found.0 tape cells found.1 (steady_rest Rough delay c tape steady.1) found.3,
    )
each_zero delay first (One a b ∷ tape) (One x y ∷ cells) early steady found =
    each_zero delay found.0 tape cells found.1 (steady_rest Rough delay (a + b) tape steady.1) found.3
each_zero delay first (Zero c ∷ tape) (One x y ∷ cells) early steady found = absurd found.2
each_zero delay first (One a b ∷ tape) (Zero x ∷ cells) early steady found = absurd found.2
