-- Of two neighbouring intervals, as they are found, one is nearly as long as the other if both are zeros or both are
-- halves, and nearly half of it if they are a zero and a half: the transition between them is late for both.
use Rattle.std.proofs.Common.{◌≡◌, ℕ, ◌+◌, ◌*◌, ◌<◌, ◌≤◌, List, [], ◌∷◌, arith}
use Rattle.biphase.specs.declared.cell.Cell.{Cell}
use Rattle.biphase.specs.declared.cell.Cell.TheVariants.{Zero, One}
use Rattle.biphase.specs.declared.profile.Profile.TheVariants.{Rough}
use Rattle.biphase.specs.Chain.{Inner, Kinds, Meets}
use Rattle.biphase.specs.Pair.{AreEqual, AreUnequal}
use Rattle.biphase.specs.Tolerance.{length_of}
use Rattle.tape_sound.specs.Late.{drift_from, AreFoundAs, IsFoundAs, IsSteady, Outlasts, RunOn}
use Rattle.tape_sound.proofs.LastsLong.{cell_drift, half_drift}

-- ---- three transitions, and the two intervals between them

-- intervals of one length but for a third
two_equal : (delay first middle last a b x y : ℕ) → first ≤ delay → middle ≤ delay → last ≤ delay
    → a + middle ≡ first + x → b + last ≡ middle + y → 2 * a + 5 * delay ≤ 3 * b → 2 * b + 5 * delay ≤ 3 * a
    → AreEqual Rough x y
two_equal delay first middle last a b x y early mid late left right low high = omega arith

-- a zero and a half
falls : (delay first middle last c a x y : ℕ) → first ≤ delay → middle ≤ delay → last ≤ delay
    → c + middle ≡ first + x → a + last ≡ middle + y → 3 * a + 5 * delay < 2 * c → c + 4 * delay ≤ 3 * a
    → AreUnequal Rough x y × (y < x)
falls delay first middle last c a x y early mid late left right low high =
    ((λ equal. omega arith, omega arith), omega arith)

-- a half and a zero
rises : (delay first middle last a c x y : ℕ) → first ≤ delay → middle ≤ delay → last ≤ delay
    → a + middle ≡ first + x → c + last ≡ middle + y → 3 * a + 5 * delay < 2 * c → c + 4 * delay ≤ 3 * a
    → AreUnequal Rough x y × (x < y)
rises delay first middle last a c x y early mid late left right low high =
    ((λ equal. omega arith, omega arith), omega arith)

-- ---- intervals of a steady tape

-- a half, twice, is its cell but for the drift
record IsHalf (drift c a : ℕ) : Type 0 where
  low : c ≤ 2 * a + drift
  high : 2 * a ≤ c + drift

halves : (before a b : ℕ) → IsHalf (drift_from before (One a b)) (a + b) a × IsHalf (drift_from before (One a b))
    (a + b) b
halves before a b =
    let apart = half_drift before a b in (
      record { low = omega (arith, apart.1); high = omega (arith, apart.0) },
      record { low = omega (arith, apart.0); high = omega (arith, apart.1) },
    )

-- two neighbouring cells, each of which outlasts its drift
record Meet (delay drift c drift_there there : ℕ) : Type 0 where
  long : 8 * drift + 10 * delay < c
  long_there : 8 * drift_there + 10 * delay < there
  more : there ≤ c + drift_there
  less : c ≤ there + drift_there

meet : (delay before : ℕ) (cell next : Cell) → Outlasts Rough delay (drift_from before cell) (length_of cell)
    → Outlasts Rough delay (drift_from (length_of cell) next) (length_of next)
    → Meet delay (drift_from before cell) (length_of cell) (drift_from (length_of cell) next) (length_of next)
meet delay before cell next long long_there =
    let drift = cell_drift (length_of cell) next in
    record { long = long.0; long_there = long_there.0; more = drift.0; less = drift.1 }

-- the zeros, the halves, and a zero and a half of neighbours
zeros_near : (delay d c e g : ℕ) → Meet delay d c e g → (2 * c + 5 * delay ≤ 3 * g) × (2 * g + 5 * delay ≤ 3 * c)
zeros_near delay d c e g m = (omega (arith, m.long_there, m.less), omega (arith, m.long_there, m.more))

halves_near : (delay d c a e g b : ℕ) → Meet delay d c e g → IsHalf d c a → IsHalf e g b
    → (2 * a + 5 * delay ≤ 3 * b) × (2 * b + 5 * delay ≤ 3 * a)
halves_near delay d c a e g b m half half_there = (
  omega (arith, m.long, m.long_there, m.less, half.high, half_there.low),
  omega (arith, m.long, m.long_there, m.more, half.low, half_there.high),
)

zero_and_half : (delay d c e g b : ℕ) → Meet delay d c e g → IsHalf e g b
    → (3 * b + 5 * delay < 2 * c) × (c + 4 * delay ≤ 3 * b)
zero_and_half delay d c e g b m half = (
  omega (arith, m.long_there, m.more, half.high),
  omega (arith, m.long_there, m.less, half.low),
)

half_and_zero : (delay d c a e g : ℕ) → Meet delay d c e g → IsHalf d c a
    → (3 * a + 5 * delay < 2 * g) × (g + 4 * delay ≤ 3 * a)
half_and_zero delay d c a e g m half = (
  omega (arith, m.long, m.long_there, m.less, half.high),
  omega (arith, m.long, m.long_there, m.more, half.low),
)

-- ---- the cells as they are found

inner_found : (delay before first last : ℕ) (cell found : Cell) → first ≤ delay → last ≤ delay
    → Outlasts Rough delay (drift_from before cell) (length_of cell) → IsFoundAs delay first last cell found
    → Inner Rough found
inner_found delay before first last (Zero c) (Zero x) early late long is = tt
inner_found delay before first last (One a b) (One x y) early late long is =
    let apart = half_drift before a b in
    let ten = long.0 in
    two_equal delay first is.0 last a b x y early is.1 late is.2 is.3 (omega (arith, ten, apart.0))
    (omega (arith, ten, apart.1))
inner_found delay before first last (Zero c) (One x y) early late long is = absurd is
inner_found delay before first last (One a b) (Zero x) early late long is = absurd is

meets_found : (delay before first middle last : ℕ) (cell found next there : Cell) → first ≤ delay → middle ≤ delay
    → last ≤ delay → Outlasts Rough delay (drift_from before cell) (length_of cell)
    → Outlasts Rough delay (drift_from (length_of cell) next) (length_of next)
    → IsFoundAs delay first middle cell found → IsFoundAs delay middle last next there → Meets Rough found there
meets_found delay before first middle last (Zero c) (Zero x) (Zero g) (Zero y) early mid late long long_there is
    is_there =
    let near = zeros_near delay _ c _ g (meet delay before (Zero c) (Zero g) long long_there) in
    two_equal delay first middle last c g x y early mid late is is_there near.0 near.1
meets_found delay before first middle last (Zero c) (Zero x) (One a b) (One y z) early mid late long long_there is
    is_there =
    let m = meet delay before (Zero c) (One a b) long long_there in
    let near = zero_and_half delay _ c _ (a + b) a m (halves c a b).0 in
    falls delay first middle is_there.0 c a x y early mid is_there.1 is is_there.2 near.0 near.1
meets_found delay before first middle last (One a b) (One x y) (Zero g) (Zero z) early mid late long long_there is
    is_there =
    let m = meet delay before (One a b) (Zero g) long long_there in
    let near = half_and_zero delay _ (a + b) b _ g m (halves before a b).1 in
    rises delay is.0 middle last b g y z is.1 mid late is.3 is_there near.0 near.1
meets_found delay before first middle last (One a b) (One x y) (One p q) (One z w) early mid late long long_there is
    is_there =
    let m = meet delay before (One a b) (One p q) long long_there in
    let near = halves_near delay _ (a + b) b _ (p + q) p m (halves before a b).1 (halves (a + b) p q).0 in
    two_equal delay is.0 middle is_there.0 b p y z is.1 mid is_there.1 is.3 is_there.2 near.0 near.1
meets_found delay before first middle last (Zero c) (One x y) next there early mid late long long_there is is_there =
    absurd is
meets_found delay before first middle last (One a b) (Zero x) next there early mid late long long_there is is_there =
    absurd is
meets_found delay before first middle last (Zero c) (Zero x) (Zero g) (One y z) early mid late long long_there is
    is_there =
    absurd is_there
meets_found delay before first middle last (Zero c) (Zero x) (One p q) (Zero y) early mid late long long_there is
    is_there =
    absurd is_there
meets_found delay before first middle last (One a b) (One x y) (Zero g) (One z w) early mid late long long_there is
    is_there =
    absurd is_there
meets_found delay before first middle last (One a b) (One x y) (One p q) (Zero z) early mid late long long_there is
    is_there =
    absurd is_there

kinds_on : (delay before first last : ℕ) (cell found : Cell) (tape cells : List Cell) → first ≤ delay → last ≤ delay
    → Outlasts Rough delay (drift_from before cell) (length_of cell) → IsFoundAs delay first last cell found
    → RunOn Rough delay (length_of cell) tape → AreFoundAs delay last tape cells → Kinds Rough (found ∷ cells)
kinds_on delay before first last cell found [] [] early late long is runs are =
    inner_found delay before first last cell found early late long is
kinds_on delay before first last cell found [] (x ∷ cells) early late long is runs are = absurd are
kinds_on delay before first last cell found (next ∷ tape) [] early late long is runs are = absurd are
kinds_on delay before first last cell found (next ∷ tape) (x ∷ cells) early late long is runs are = (
  inner_found delay before first last cell found early late long is,
  meets_found delay before first last are.0 cell found next x early late are.1 long runs.0 is are.2,
  kinds_on delay (length_of cell) last are.0 next x tape cells late are.1 runs.0 are.2 runs.1 are.3,
)

-- a steady tape, as it is found, has neighbours of the kinds that its cells say
pub kinds_found : (delay first : ℕ) (tape cells : List Cell) → first ≤ delay → IsSteady Rough delay tape
    → AreFoundAs delay first tape cells → Kinds Rough cells
kinds_found delay first [] [] early steady found = tt
kinds_found delay first [] (x ∷ cells) early steady found = absurd found
kinds_found delay first (cell ∷ tape) [] early steady found = absurd found
kinds_found delay first (cell ∷ tape) (x ∷ cells) early steady found =
    kinds_on delay (length_of cell) first found.0 cell x tape cells early found.1 steady.0 found.2 steady.1 found.3
