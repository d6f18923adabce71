-- Sound that is turned over, each sample into its negative, has the same crossings at the same moments.
use Rattle.std.proofs.Common.{◌≡◌, ℕ, zero, suc, ◌+◌, ◌-◌, ◌*◌, ◌≤◌, Bool, true, false, cond, ℤ, pos, negsuc, neg_ℤ}
use Rattle.std.proofs.Common.{◌+ℤ◌, int_le}
use Rattle.std.proofs.Common.{List, [], ◌∷◌, ◌++◌, length, map, take, drop, replicate, Option, Some, None}
use Rattle.std.proofs.Common.{refl, sym, ap, ap₂, ◌∙◌, arith}
use Rattle.std.specs.Prelude.{unsigned_abs}
use Rattle.std.specs.List.{filter, flat_map, fold, range_with_len}
use Rattle.std.specs.Option.{option_or}
use Rattle.std.proofs.lemmas.Int.{ints}
use Rattle.std.proofs.lemmas.List.{drop-map}
use Rattle.pcm_front.specs.declared.level.Level.{Level}
use Rattle.pcm_front.specs.declared.pace.Pace.{Pace}
use Rattle.pcm_front.specs.declared.side.Side.{Side}
use Rattle.pcm_front.specs.declared.side.Side.TheVariants.{High, Low}
use Rattle.pcm_front.specs.declared.threshold.Threshold.{Threshold}
use Rattle.pcm_front.specs.declared.threshold.Threshold.TheVariants.{Fixed, Follow, Deep}
use Rattle.pcm_front.specs.declared.start.Start.{Start}
use Rattle.pcm_front.specs.declared.start.Start.TheVariants.{Crossing, Tick}
use Rattle.pcm_front.specs.Crossing.{crossings, is_crossing, moment, moments, tick_in_step, tick_to}
use Rattle.pcm_front.specs.Distance.{distances_by, distances_since, gaps, gaps_after, latest_moment, pieces_in}
use Rattle.pcm_front.specs.Level.{least_of, level_after, level_of, silent, threshold_at, threshold_by}
use Rattle.pcm_front.specs.Pace.{begun, intervals_at, longest, passed_by, passed_since, ticks_since}
use Rattle.pcm_front.specs.Settings.{Settings}
use Rattle.pcm_front.specs.Side.{differs, other_side, sample_at, side_after, side_at, side_of, upward}
use Rattle.pcm_front.specs.Sums.{latest, sum_at, sums, total, up_to}

-- ---- numbers

neg_neg : (z : ℤ) → neg_ℤ (neg_ℤ z) ≡ z
neg_neg (pos zero) = refl
neg_neg (pos (suc n)) = refl
neg_neg (negsuc n) = refl

abs_neg : (z : ℤ) → unsigned_abs (neg_ℤ z) ≡ unsigned_abs z
abs_neg (pos zero) = refl
abs_neg (pos (suc n)) = refl
abs_neg (negsuc n) = refl

neg_sum : (a b : ℤ) → neg_ℤ (a +ℤ b) ≡ neg_ℤ a +ℤ neg_ℤ b
neg_sum a b = grind (arith, ints)

-- the negative of each
abbrev over : List ℤ → List ℤ
over samples = map neg_ℤ samples

-- ---- the level and the threshold

level_one : (level : Level) (x : ℤ) → level_after level (neg_ℤ x) ≡ level_after level x
level_one level x = rw (abs_neg x) refl

level_over : (level : Level) (samples : List ℤ) → fold level_after level (over samples) ≡ fold level_after level samples
level_over level [] = refl
level_over level (x ∷ xs) =
    ap (λ (l : Level). fold level_after l (over xs)) (level_one level x)
    ∙ level_over (level_after level x) xs

take_over : (n : ℕ) (xs : List ℤ) → take n (over xs) ≡ over (take n xs)
take_over zero xs = refl
take_over (suc n) [] = refl
take_over (suc n) (x ∷ xs) = ap (λ (l : List ℤ). neg_ℤ x ∷ l) (take_over n xs)

threshold_over : (threshold : Threshold) (samples : List ℤ) (place : ℕ)
    → threshold_at threshold (over samples) place ≡ threshold_at threshold samples place
threshold_over threshold samples place =
    ap (threshold_by threshold) (ap level_of (take_over (place + 1) samples)
    ∙ level_over silent (take (place + 1) samples))

some_threshold : (threshold : Threshold) (level : Level) → 1 ≤ least_of threshold → 1 ≤ threshold_by threshold level
some_threshold (Fixed t) level some = some
some_threshold (Follow t) level some = omega (arith, some)
some_threshold (Deep t) level some = omega (arith, some)

-- ---- the sides

abbrev turned : Option Side → Option Side
turned None = None
turned (Some side) = Some (other_side side)

side_by : (h l : Bool) (t : ℕ) (x : ℤ) → 1 ≤ t → int_le (pos t) x ≡ h → int_le x (neg_ℤ (pos t)) ≡ l
    → cond l (Some High) (cond h (Some Low) None) ≡ turned (cond h (Some High) (cond l (Some Low) None))
side_by true true t x some above below = absurd (grind (arith, ints))
side_by true false t x some above below = refl
side_by false true t x some above below = refl
side_by false false t x some above below = refl

above_over : (t : ℕ) (x : ℤ) → int_le (pos t) (neg_ℤ x) ≡ int_le x (neg_ℤ (pos t))
above_over t x = grind (arith, ints)

below_over : (t : ℕ) (x : ℤ) → int_le (neg_ℤ x) (neg_ℤ (pos t)) ≡ int_le (pos t) x
below_over t x = grind (arith, ints)

side_over : (t : ℕ) (x : ℤ) → 1 ≤ t → side_of t (neg_ℤ x) ≡ turned (side_of t x)
side_over t x some =
    ap₂ (λ (h l : Bool). cond h (Some High) (cond l (Some Low) None)) (above_over t x) (below_over t x)
    ∙ side_by (int_le (pos t) x) (int_le x (neg_ℤ (pos t))) t x some refl refl

sample_over : (samples : List ℤ) (place : ℕ) → sample_at (over samples) place ≡ neg_ℤ (sample_at samples place)
sample_over [] place = refl
sample_over (x ∷ xs) zero = refl
sample_over (x ∷ xs) (suc place) = sample_over xs place

at_over : (threshold : Threshold) (samples : List ℤ) (place : ℕ) → 1 ≤ least_of threshold
    → side_at threshold (over samples) place ≡ turned (side_at threshold samples place)
at_over threshold samples place some =
    ap₂ side_of (threshold_over threshold samples place) (sample_over samples place)
    ∙ side_over (threshold_at threshold samples place) (sample_at samples place)
    (some_threshold threshold (level_of (take (place + 1) samples)) some)

or_turned : (now before : Option Side) → option_or (turned now) (turned before) ≡ turned (option_or now before)
or_turned None before = refl
or_turned (Some side) before = refl

after_over : (threshold : Threshold) (samples : List ℤ) (n : ℕ) → 1 ≤ least_of threshold
    → side_after threshold (over samples) n ≡ turned (side_after threshold samples n)
after_over threshold samples zero some = refl
after_over threshold samples (suc n) some =
    ap₂ option_or (at_over threshold samples n some) (after_over threshold samples n some)
    ∙ or_turned (side_at threshold samples n) (side_after threshold samples n)

differs_turned : (before now : Option Side) → differs (turned before) (turned now) ≡ differs before now
differs_turned None None = refl
differs_turned None (Some High) = refl
differs_turned None (Some Low) = refl
differs_turned (Some High) None = refl
differs_turned (Some Low) None = refl
differs_turned (Some High) (Some High) = refl
differs_turned (Some High) (Some Low) = refl
differs_turned (Some Low) (Some High) = refl
differs_turned (Some Low) (Some Low) = refl

crossing_over : (threshold : Threshold) (samples : List ℤ) (place : ℕ) → 1 ≤ least_of threshold
    → is_crossing threshold (over samples) place ≡ is_crossing threshold samples place
crossing_over threshold samples place some =
    ap₂ differs (after_over threshold samples place some) (at_over threshold samples place some)
    ∙ differs_turned (side_after threshold samples place) (side_at threshold samples place)

-- ---- the moments

upward_over : (side : Side) (x : ℤ) → upward (other_side side) (neg_ℤ x) ≡ upward side x
upward_over High x = neg_neg x
upward_over Low x = refl

tick_over : (side : Option Side) (fineness t : ℕ) (a b : ℤ)
    → tick_to (turned side) fineness t (neg_ℤ a) (neg_ℤ b) ≡ tick_to side fineness t a b
tick_over None fineness t a b = refl
tick_over (Some side) fineness t a b = ap₂ (tick_in_step fineness t) (upward_over side a) (upward_over side b)

moment_over : (fineness : ℕ) (threshold : Threshold) (samples : List ℤ) (place : ℕ) → 1 ≤ least_of threshold
    → moment fineness threshold (over samples) place ≡ moment fineness threshold samples place
moment_over fineness threshold samples place some =
    ap (λ (n : ℕ). fineness * (place - 1) + n) (
    ap (λ (side : Option Side). tick_to side fineness (threshold_at threshold (over samples) place)
    (sample_at (over samples) (place - 1)) (sample_at (over samples) place)) (at_over threshold samples place some)
    ∙ ap (λ (t : ℕ). tick_to (turned (side_at threshold samples place)) fineness t
    (sample_at (over samples) (place - 1)) (sample_at (over samples) place)) (threshold_over threshold samples place)
    ∙ ap₂ (λ (a b : ℤ). tick_to (turned (side_at threshold samples place)) fineness
    (threshold_at threshold samples place)
    a b) (sample_over samples (place - 1)) (sample_over samples place)
    ∙ tick_over (side_at threshold samples place) fineness (threshold_at threshold samples place)
    (sample_at samples (place - 1)) (sample_at samples place))

length_over : (samples : List ℤ) → length (over samples) ≡ length samples
length_over [] = refl
length_over (x ∷ xs) = ap suc (length_over xs)

filter_by : (p q : ℕ → Bool) → ((n : ℕ) → p n ≡ q n) → (ns : List ℕ) → filter p ns ≡ filter q ns
filter_by p q same [] = refl
filter_by p q same (n ∷ ns) = ap₂ (λ (b : Bool) (l : List ℕ). cond b (n ∷ l) l) (same n) (filter_by p q same ns)

map_by : (f g : ℕ → ℕ) → ((n : ℕ) → f n ≡ g n) → (ns : List ℕ) → map f ns ≡ map g ns
map_by f g same [] = refl
map_by f g same (n ∷ ns) = ap₂ (λ (m : ℕ) (l : List ℕ). m ∷ l) (same n) (map_by f g same ns)

moments_over : (fineness : ℕ) (threshold : Threshold) (samples : List ℤ) → 1 ≤ least_of threshold
    → moments fineness threshold (over samples) ≡ moments fineness threshold samples
moments_over fineness threshold samples some =
    map_by (moment fineness threshold (over samples)) (moment fineness threshold samples)
    (λ place. moment_over fineness threshold samples place some) (crossings threshold (over samples))
    ∙ ap (map (moment fineness threshold samples)) (
    filter_by (is_crossing threshold (over samples)) (is_crossing threshold samples)
    (λ place. crossing_over threshold samples place some) (range_with_len 0 (length (over samples)))
    ∙ ap (λ (n : ℕ). filter (is_crossing threshold samples) (range_with_len 0 n)) (length_over samples))

-- ---- the sums

total_over : (numbers : List ℤ) → total (over numbers) ≡ neg_ℤ (total numbers)
unfolding total
total_over [] = refl
total_over (x ∷ xs) = ap (λ (z : ℤ). neg_ℤ x +ℤ z) (total_over xs) ∙ sym (neg_sum x (total xs))

zeros_over : (n : ℕ) → over (replicate n (pos 0)) ≡ replicate n (pos 0)
zeros_over zero = refl
zeros_over (suc n) = ap (λ (l : List ℤ). pos 0 ∷ l) (zeros_over n)

joined_over : (xs ys : List ℤ) → over (xs ++ ys) ≡ over xs ++ over ys
joined_over [] ys = refl
joined_over (x ∷ xs) ys = ap (λ (l : List ℤ). neg_ℤ x ∷ l) (joined_over xs ys)

up_to_over : (smooth : ℕ) (samples : List ℤ) (place : ℕ)
    → up_to smooth (over samples) place ≡ over (up_to smooth samples place)
up_to_over smooth samples place =
    ap₂ (λ (a b : List ℤ). a ++ b) (sym (zeros_over smooth)) (take_over (place + 1) samples)
    ∙ sym (joined_over (replicate smooth (pos 0)) (take (place + 1) samples))

latest_over : (n : ℕ) (numbers : List ℤ) → latest n (over numbers) ≡ over (latest n numbers)
latest_over n numbers =
    ap (λ (k : ℕ). drop (k - n) (over numbers)) (length_over numbers) ∙ drop-map neg_ℤ (length numbers - n) numbers

sum_over : (smooth : ℕ) (samples : List ℤ) (place : ℕ)
    → sum_at smooth (over samples) place ≡ neg_ℤ (sum_at smooth samples place)
sum_over smooth samples place =
    ap (λ (l : List ℤ). total (latest smooth l)) (up_to_over smooth samples place)
    ∙ ap total (latest_over smooth (up_to smooth samples place))
    ∙ total_over (latest smooth (up_to smooth samples place))

all_sums : (f g : ℕ → ℤ) → ((n : ℕ) → f n ≡ neg_ℤ (g n)) → (ns : List ℕ) → map f ns ≡ over (map g ns)
all_sums f g same [] = refl
all_sums f g same (n ∷ ns) = ap₂ (λ (z : ℤ) (l : List ℤ). z ∷ l) (same n) (all_sums f g same ns)

sums_over : (smooth : ℕ) (samples : List ℤ) → sums smooth (over samples) ≡ over (sums smooth samples)
sums_over smooth samples =
    ap (λ (n : ℕ). map (sum_at smooth (over samples)) (range_with_len 0 n)) (length_over samples)
    ∙ all_sums (sum_at smooth (over samples)) (sum_at smooth samples) (sum_over smooth samples)
    (range_with_len 0 (length samples))

-- ---- the intervals

since_over : (start : Start) (fineness : ℕ) (threshold : Threshold) (samples : List ℤ) → 1 ≤ least_of threshold
    → distances_since start fineness threshold (over samples) ≡ distances_since start fineness threshold samples
since_over Crossing fineness threshold samples some = ap gaps (moments_over fineness threshold samples some)
since_over Tick fineness threshold samples some = ap (gaps_after 0) (moments_over fineness threshold samples some)

passed_over : (start : Start) (fineness : ℕ) (threshold : Threshold) (samples : List ℤ) → 1 ≤ least_of threshold
    → passed_since start fineness threshold (over samples) ≡ passed_since start fineness threshold samples
passed_over start fineness threshold samples some =
    ap₂ (λ (ms : List ℕ) (n : ℕ). ticks_since (latest_moment start ms) (fineness * (n - 1)))
    (moments_over fineness threshold samples some) (length_over samples)

pub intervals_over : (pace : Pace) (s : Settings) (samples : List ℤ) → 1 ≤ least_of s.threshold
    → intervals_at pace s (over samples) ≡ intervals_at pace s samples
intervals_over pace s samples some =
    let sliced = sums s.smooth samples in
    let turn = sums_over s.smooth samples in
    let distances : distances_by s (over samples) ≡ distances_by s samples =
    ap (distances_since s.start s.fineness s.threshold) turn ∙ since_over s.start s.fineness s.threshold sliced some in
    let passed : passed_by s (over samples) ≡ passed_by s samples =
    ap (passed_since s.start s.fineness s.threshold) turn ∙ passed_over s.start s.fineness s.threshold sliced some in
    ap₂ (λ (ds : List ℕ) (n : ℕ). flat_map (pieces_in (longest pace)) ds ++ begun pace n) distances passed
