-- Sound of one size is sliced into its intervals at a threshold that follows its level too. Its peak is at most its
-- size, so that half of the height of the peak above the mean is at most half of the size: a least threshold of that or
-- more is the threshold at each sample.
use Rattle.std.proofs.Common.{◌≡◌, ℕ, zero, suc, ◌+◌, ◌-◌, ◌*◌, ◌≤◌, ℤ, pos, List, [], ◌∷◌, length, take}
use Rattle.std.proofs.Common.{drop, map, filter, replicate, Option}
use Rattle.std.proofs.Common.{ap, ap₂, arith, refl, ◌∙◌}
use Rattle.std.specs.Option.{option_or}
use Rattle.std.specs.Prelude.{unsigned_abs}
use Rattle.std.specs.List.{AllByRecursion, range_with_len}
use Rattle.std.proofs.Math.Nat.{max-eq_left}
use Rattle.std.proofs.Math.Path.{fun_ext}
use Rattle.lemmas.specs.Lists.{front_keeps}
use Rattle.pcm_front.specs.declared.level.Level.{Level}
use Rattle.pcm_front.specs.declared.side.Side.{Side}
use Rattle.pcm_front.specs.declared.side.Side.TheVariants.{High, Low}
use Rattle.pcm_front.specs.declared.threshold.Threshold.{Threshold}
use Rattle.pcm_front.specs.declared.threshold.Threshold.TheVariants.{Fixed, Follow, Deep}
use Rattle.pcm_front.specs.Crossing.{crossings, is_crossing, moment, moments, tick_to}
use Rattle.pcm_front.specs.Distance.{distances, distances_from_start, gaps, gaps_after, IsInterval}
use Rattle.pcm_front.specs.Level.{half_height, level_of, quarter_height, threshold_at}
use Rattle.pcm_front.specs.Runs.{joined}
use Rattle.pcm_front.specs.Side.{differs, other_side, sample_at, side_after, side_at, side_of, upward}
use Rattle.pcm_front.specs.Sound.{sound, sound_runs}
use Rattle.pcm_front.proofs.Bounds.{level_of-within}
use Rattle.pcm_front.proofs.ReadBack.{all_both, all_same, size_of}
use Rattle.pcm_front.proofs.SlicedAgain.{sliced_again}

-- ---- two thresholds that are the same at each sample

abbrev AreAlike : Threshold → Threshold → List ℤ → Type 0
AreAlike one other samples = (place : ℕ) → threshold_at one samples place ≡ threshold_at other samples place

alike_side : (one other : Threshold) (samples : List ℤ) → AreAlike one other samples → (place : ℕ)
    → side_at one samples place ≡ side_at other samples place
alike_side one other samples alike place = ap (λ t. side_of t (sample_at samples place)) (alike place)

alike_after : (one other : Threshold) (samples : List ℤ) → AreAlike one other samples → (n : ℕ)
    → side_after one samples n ≡ side_after other samples n
alike_after one other samples alike zero = refl
alike_after one other samples alike (suc n) =
    ap₂ (λ (now before : Option Side). option_or now before) (alike_side one other samples alike n)
    (alike_after one other samples alike n)

alike_crossings : (one other : Threshold) (samples : List ℤ) → AreAlike one other samples
    → crossings one samples ≡ crossings other samples
alike_crossings one other samples alike =
    let same : is_crossing one samples ≡ is_crossing other samples =
    fun_ext (λ place. ap₂ differs (alike_after one other samples alike place)
    (alike_side one other samples alike place)) in
    ap (λ crosses. filter crosses (range_with_len 0 (length samples))) same

alike_moment : (fineness : ℕ) (one other : Threshold) (samples : List ℤ) → AreAlike one other samples → (place : ℕ)
    → moment fineness one samples place ≡ moment fineness other samples place
alike_moment fineness one other samples alike place =
    let from = sample_at samples (place - 1) in
    let to = sample_at samples place in
    ap₂ (λ (side : Option Side) (t : ℕ). fineness * (place - 1) + tick_to side fineness t from to)
    (alike_side one other samples alike place) (alike place)

alike_distances : (fineness : ℕ) (one other : Threshold) (samples : List ℤ) → AreAlike one other samples
    → distances fineness one samples ≡ distances fineness other samples
alike_distances fineness one other samples alike =
    let same : moment fineness one samples ≡ moment fineness other samples =
    fun_ext (alike_moment fineness one other samples alike) in
    ap (λ at. gaps (map at (crossings one samples))) same
    ∙ ap (λ places. gaps (map (moment fineness other samples) places)) (alike_crossings one other samples alike)

-- ---- the level of a sound of one size

-- no sample is larger
abbrev IsWithinSize : ℕ → ℤ → Type 0
IsWithinSize size sample = unsigned_abs sample ≤ size

runs_within : (size : ℕ) (side : Side) (xs : List ℕ)
    → AllByRecursion (IsWithinSize size) (joined (sound_runs size side xs))
runs_within size side [] = (omega (arith, size_of side size), tt)
runs_within size side (x ∷ xs) =
    all_both (IsWithinSize size) (replicate x (upward side (pos size))) (joined (sound_runs size (other_side side) xs))
    (all_same (IsWithinSize size) x (upward side (pos size)) (omega (arith, size_of side size)))
    (runs_within size (other_side side) xs)

sound_within : (size : ℕ) (xs : List ℕ) → AllByRecursion (IsWithinSize size) (sound size xs)
sound_within size xs = (omega (arith, size_of Low size), runs_within size High xs)

-- its peak after some samples
peak_within : (size : ℕ) (xs : List ℕ) (n : ℕ) → (level_of (take n (sound size xs))).peak ≤ size
peak_within size xs n =
    (level_of-within size (take n (sound size xs))
    (front_keeps (IsWithinSize size) n (sound size xs) (sound_within size xs))).0

half_below : (size t : ℕ) (level : Level) → level.peak ≤ size → size ≤ 2 * t → half_height level ≤ t
half_below size t level peak half = omega (arith, peak, half)

quarter_below : (size t : ℕ) (level : Level) → level.peak ≤ size → size ≤ 2 * t → quarter_height level ≤ t
quarter_below size t level peak half = omega (arith, peak, half)

pub followed : (f t size : ℕ) (xs : List ℕ) → 1 ≤ t → t ≤ size → size ≤ 2 * t → AllByRecursion IsInterval xs
    → distances f (Follow t) (sound size xs) ≡ map (λ x. f * x) xs
followed f t size xs some above half are =
    let level : ℕ → Level = λ place. level_of (take (place + 1) (sound size xs)) in
    alike_distances f (Follow t) (Fixed t) (sound size xs)
    (λ place. max-eq_left (half_below size t (level place) (peak_within size xs (place + 1)) half))
    ∙ sliced_again f t size xs some above are

pub followed_deep : (f t size : ℕ) (xs : List ℕ) → 1 ≤ t → t ≤ size → size ≤ 2 * t → AllByRecursion IsInterval xs
    → distances f (Deep t) (sound size xs) ≡ map (λ x. f * x) xs
followed_deep f t size xs some above half are =
    let level : ℕ → Level = λ place. level_of (take (place + 1) (sound size xs)) in
    alike_distances f (Deep t) (Fixed t) (sound size xs)
    (λ place. max-eq_left (quarter_below size t (level place) (peak_within size xs (place + 1)) half))
    ∙ sliced_again f t size xs some above are

-- ---- behind the first distance

gaps_behind : (ms : List ℕ) → drop 1 (gaps_after 0 ms) ≡ gaps ms
gaps_behind [] = refl
gaps_behind (m ∷ ms) = refl

pub behind_the_first : (f : ℕ) (t : Threshold) (samples : List ℤ) → drop 1 (distances_from_start f t samples)
    ≡ distances f t samples
behind_the_first f t samples = gaps_behind (moments f t samples)
