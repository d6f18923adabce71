-- Crossings are in rising places, none of them the first, and their moments rise with them.
use Rattle.std.proofs.Common.{◌≡◌, ℕ, zero, suc, ◌+◌, ◌-◌, ◌*◌, ◌<◌, ◌≤◌, Bool, true, false, cond, ℤ, List, [], ◌∷◌}
use Rattle.std.proofs.Common.{length, map, Option, Some, None}
use Rattle.std.proofs.Common.{refl, ap₂, mul-le-mul_left, mul-suc, one-mul, arith}
use Rattle.std.specs.List.{filter, range_with_len, All}
use Rattle.std.proofs.lemmas.List.Elements.{All-cons}
use Rattle.pcm_front.specs.declared.side.Side.{Side}
use Rattle.pcm_front.specs.declared.side.Side.TheVariants.{High, Low}
use Rattle.pcm_front.specs.declared.start.Start.{Start}
use Rattle.pcm_front.specs.declared.start.Start.TheVariants.{Crossing, Tick}
use Rattle.pcm_front.specs.declared.threshold.Threshold.{Threshold}
use Rattle.pcm_front.specs.Level.{threshold_at}
use Rattle.pcm_front.specs.Side.{sample_at, side_at, side_after, differs}
use Rattle.pcm_front.specs.Crossing.{is_crossing, crossings, tick_at, moment, moments}
use Rattle.pcm_front.specs.Distance.{gaps, gaps_after, distances, distances_by, distances_since}
use Rattle.pcm_front.specs.Settings.{Settings}
use Rattle.pcm_front.specs.Sums.{sums}
use Rattle.pcm_front.proofs.Rounding.{tick_to-within}

-- places from a on, each greater than the one before, that pass the test
abbrev pub AreRising : (ℕ → Bool) → ℕ → List ℕ → Type 0
AreRising p a [] = Unit {0}
AreRising p a (i ∷ is) = (a ≤ i) × (p i ≡ true) × AreRising p (i + 1) is

rising-from : (p : ℕ → Bool) (a b : ℕ) (is : List ℕ) → a ≤ b → AreRising p b is → AreRising p a is
rising-from p a b [] h rising = tt
rising-from p a b (i ∷ is) h rising = (omega (arith, rising.0), rising.1, rising.2)

rising-cond : (p : ℕ → Bool) (b : Bool) (a : ℕ) (is : List ℕ) → p a ≡ b → AreRising p (a + 1) is
    → AreRising p a (cond b (a ∷ is) is)
rising-cond p true a is passes rising = (omega arith, passes, rising)
rising-cond p false a is passes rising = rising-from p a (a + 1) is (omega arith) rising

rising-filter : (p : ℕ → Bool) (a n : ℕ) → AreRising p a (filter p (range_with_len a n))
rising-filter p a zero = tt
rising-filter p a (suc n) = rising-cond p (p a) a (filter p (range_with_len (a + 1) n)) refl (rising-filter p (a + 1) n)

pub crossings-rise : (threshold : Threshold) (xs : List ℤ)
    → AreRising (is_crossing threshold xs) 0 (crossings threshold xs)
crossings-rise threshold xs = rising-filter (is_crossing threshold xs) 0 (length xs)

pub side_of_crossing : (before now : Option Side) → differs before now ≡ true → (side : Side) × (now ≡ Some side)
side_of_crossing None now is = absurd (cc)
side_of_crossing (Some High) None is = absurd (cc)
side_of_crossing (Some Low) None is = absurd (cc)
side_of_crossing (Some before) (Some side) is = (side, refl)

-- a crossing has a sample before it
pub after_first : (threshold : Threshold) (xs : List ℤ) (i : ℕ) → is_crossing threshold xs i ≡ true → 1 ≤ i
after_first threshold xs zero is = absurd (cc)
after_first threshold xs (suc i) is = omega arith

-- its tick is one of those in the step to it
pub tick_at-within : (f : ℕ) (threshold : Threshold) (xs : List ℤ) (i : ℕ) → 1 ≤ f → is_crossing threshold xs i ≡ true →
    (1 ≤ tick_at f threshold xs i) × (tick_at f threshold xs i ≤ f)
tick_at-within f threshold xs i some is =
    let (side, found) = side_of_crossing (side_after threshold xs i) (side_at threshold xs i) is in
    let within = tick_to-within side f (threshold_at threshold xs i) (sample_at xs (i - 1)) (sample_at xs i) some found
    in
    rw found within

-- a later crossing has a later moment
pub moment-later : (f : ℕ) (threshold : Threshold) (xs : List ℤ) (i j : ℕ) → 1 ≤ f → is_crossing threshold xs i ≡ true →
    is_crossing threshold xs j ≡ true → i + 1 ≤ j → moment f threshold xs i < moment f threshold xs j
moment-later f threshold xs i j some is is_too h =
    let first = after_first threshold xs i is in
    let tick = tick_at-within f threshold xs i some is in
    let tick_too = tick_at-within f threshold xs j some is_too in
    let behind : f * suc (i - 1) ≤ f * (j - 1) = mul-le-mul_left f (omega arith) in
    omega (arith, mul-suc f (i - 1))

gaps_after-some : (f : ℕ) (threshold : Threshold) (xs : List ℤ) (i : ℕ) (is : List ℕ) → 1 ≤ f
    → is_crossing threshold xs i ≡ true →
    AreRising (is_crossing threshold xs) (i + 1) is →
    All (λ d. 1 ≤ d) (gaps_after (moment f threshold xs i) (map (moment f threshold xs) is))
gaps_after-some f threshold xs i [] some is_crossing_i rising = λ k d h. absurd (omega arith)
gaps_after-some f threshold xs i (j ∷ js) some is_crossing_i rising =
    let later = moment-later f threshold xs i j some is_crossing_i rising.1 rising.0 in
    All-cons (λ d. 1 ≤ d) (moment f threshold xs j - moment f threshold xs i)
    (gaps_after (moment f threshold xs j) (map (moment f threshold xs) js))
    (omega arith) (gaps_after-some f threshold xs j js some rising.1 rising.2)

gaps-some : (f : ℕ) (threshold : Threshold) (xs : List ℤ) (is : List ℕ) → 1 ≤ f
    → AreRising (is_crossing threshold xs) 0 is →
    All (λ d. 1 ≤ d) (gaps (map (moment f threshold xs) is))
gaps-some f threshold xs [] some rising = λ k d h. absurd (omega arith)
gaps-some f threshold xs (i ∷ is) some rising = gaps_after-some f threshold xs i is some rising.1 rising.2

-- no distance is 0: moments rise
pub distances-some : (f : ℕ) (threshold : Threshold) (xs : List ℤ) → 1 ≤ f → All (λ d. 1 ≤ d) (distances f threshold xs)
distances-some f threshold xs some = gaps-some f threshold xs (crossings threshold xs) some
    (crossings-rise threshold xs)

-- nor is that of the first crossing from tick 0
from_start-by : (f : ℕ) (threshold : Threshold) (xs : List ℤ) (is : List ℕ) → 1 ≤ f
    → AreRising (is_crossing threshold xs) 0 is →
    All (λ d. 1 ≤ d) (gaps_after 0 (map (moment f threshold xs) is))
from_start-by f threshold xs [] some rising = λ k d h. absurd (omega arith)
from_start-by f threshold xs (i ∷ is) some rising =
    let tick = tick_at-within f threshold xs i some rising.1 in
    All-cons (λ d. 1 ≤ d) (moment f threshold xs i - 0)
    (gaps_after (moment f threshold xs i) (map (moment f threshold xs) is))
    (omega (arith, tick.0)) (gaps_after-some f threshold xs i is some rising.1 rising.2)

since-some : (start : Start) (f : ℕ) (threshold : Threshold) (xs : List ℤ) → 1 ≤ f
    → All (λ d. 1 ≤ d) (distances_since start f threshold xs)
since-some Crossing f threshold xs some = distances-some f threshold xs some
since-some Tick f threshold xs some = from_start-by f threshold xs (crossings threshold xs) some
    (crossings-rise threshold xs)

pub sliced-some : (s : Settings) (xs : List ℤ) → 1 ≤ s.fineness → All (λ d. 1 ≤ d) (distances_by s xs)
sliced-some s xs some = since-some s.start s.fineness s.threshold (sums s.smooth xs) some

-- the distances from tick 0 are the first moment, and then those from moment to moment
pub from_start-is : (ms : List ℕ) (first : ℕ) (more : List ℕ) → ms ≡ first ∷ more → gaps_after 0 ms ≡ first ∷ gaps ms
from_start-is ms first more are = rw are (ap₂ (λ d ds. d ∷ ds) (omega arith) refl)

-- with one tick a sample, the moment of a crossing is its place
pub moment-whole : (threshold : Threshold) (xs : List ℤ) (i : ℕ) → is_crossing threshold xs i ≡ true
    → moment 1 threshold xs i ≡ i
moment-whole threshold xs i is =
    let first = after_first threshold xs i is in
    let tick = tick_at-within 1 threshold xs i (omega arith) is in
    omega (arith, one-mul (i - 1))

moments-whole_from : (threshold : Threshold) (xs : List ℤ) (a : ℕ) (is : List ℕ)
    → AreRising (is_crossing threshold xs) a is →
    map (moment 1 threshold xs) is ≡ is
moments-whole_from threshold xs a [] rising = refl
moments-whole_from threshold xs a (i ∷ is) rising =
    ap₂ (λ m more. m ∷ more) (moment-whole threshold xs i rising.1)
    (moments-whole_from threshold xs (i + 1) is rising.2)

pub moments-whole : (threshold : Threshold) (xs : List ℤ) → moments 1 threshold xs ≡ crossings threshold xs
moments-whole threshold xs = moments-whole_from threshold xs 0 (crossings threshold xs) (crossings-rise threshold xs)
