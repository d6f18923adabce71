-- Crossings that are found as after some sums are found, after one more, as after those with the one at their end,
-- and so is what is new in the distances.
use Rattle.std.proofs.Common.{◌≡◌, ℕ, zero, suc, ◌+◌, ◌-◌, ◌*◌, ◌≤◌, Bool, true, false, cond, max, ℤ, pos, List, []}
use Rattle.std.proofs.Common.{◌∷◌, ◌++◌, length, take, Option}
use Rattle.std.proofs.Common.{Some, None, refl, ap, ap₂, sym, ◌∙◌, append-nil, add-one, mul-suc, arith}
use Rattle.std.specs.List.{last_or}
use Rattle.std.specs.Option.{option_or, option_to_list, option_map}
use Rattle.std.proofs.lemmas.List.{take_all, get_or_push, length_push, get_or_append_left}
use Rattle.std.proofs.lemmas.List.Sums.{fold_push}
use Rattle.pcm_front.specs.declared.level.Level.{Level}
use Rattle.pcm_front.specs.declared.start.Start.{Start}
use Rattle.pcm_front.specs.declared.start.Start.TheVariants.{Crossing, Tick}
use Rattle.pcm_front.specs.declared.threshold.Threshold.{Threshold}
use Rattle.pcm_front.specs.declared.threshold.Threshold.TheVariants.{Fixed, Follow, Deep}
use Rattle.pcm_front.specs.Level.{silent, level_after, level_of, half_height, quarter_height, next_level, threshold_by}
use Rattle.pcm_front.specs.Level.{threshold_at}
use Rattle.pcm_front.specs.Side.{side_of, side_at, side_after, differs}
use Rattle.pcm_front.specs.Crossing.{is_crossing, tick_to, tick_at, moment, moments}
use Rattle.pcm_front.specs.Distance.{gaps, gaps_after, distances_since, latest_moment}
use Rattle.pcm_front.specs.State.{FinderState, between, level_in, crossing_in, state_after, distance_at}
use Rattle.pcm_front.specs.StandsFor.{IsLevelFor, Finds}
use Rattle.pcm_front.proofs.OneMore.{side_after-front, same_tick, moments-more, last_or-more, gaps-more}
use Rattle.pcm_front.proofs.OneMore.{gaps_after-more}

-- the level goes on, if the threshold follows it
level-more : (threshold : Threshold) (level : Level) (xs : List ℤ) (s : ℤ) → IsLevelFor threshold level xs →
    IsLevelFor threshold (next_level threshold level s) (xs ++ s ∷ [])
level-more (Fixed t) level xs s is = tt
level-more (Follow t) level xs s is = rw is (sym (fold_push level_after silent xs s))
level-more (Deep t) level xs s is = rw is (sym (fold_push level_after silent xs s))

-- so does the threshold
threshold-now : (threshold : Threshold) (level : Level) (xs : List ℤ) (s : ℤ) → IsLevelFor threshold level xs →
    threshold_by threshold (next_level threshold level s) ≡ threshold_at threshold (xs ++ s ∷ []) (length xs)
threshold-now (Fixed t) level xs s is = refl
threshold-now (Follow t) level xs s is =
    let all : take (length xs + 1) (xs ++ s ∷ []) ≡ xs ++ s ∷ [] =
    take_all (length xs + 1) (xs ++ s ∷ []) (omega (arith, length_push xs s)) in
    let now : level_after level s ≡ level_of (xs ++ s ∷ []) = rw is (sym (fold_push level_after silent xs s)) in
    ap (λ l. max t (half_height l)) (now ∙ ap level_of (sym all))
threshold-now (Deep t) level xs s is =
    let all : take (length xs + 1) (xs ++ s ∷ []) ≡ xs ++ s ∷ [] =
    take_all (length xs + 1) (xs ++ s ∷ []) (omega (arith, length_push xs s)) in
    let now : level_after level s ≡ level_of (xs ++ s ∷ []) = rw is (sym (fold_push level_after silent xs s)) in
    ap (λ l. max t (quarter_height l)) (now ∙ ap level_of (sym all))

side-now : (threshold : Threshold) (level : Level) (xs : List ℤ) (s : ℤ) → IsLevelFor threshold level xs →
    side_of (threshold_by threshold (next_level threshold level s)) s ≡ side_at threshold (xs ++ s ∷ []) (length xs)
side-now threshold level xs s is = ap₂ side_of (threshold-now threshold level xs s is)
    (sym (get_or_push xs s (pos 0) (length xs) refl))

-- the first sample is no crossing, so before one there is a sample
before-crossing : (threshold : Threshold) (xs : List ℤ) (s : ℤ) → is_crossing threshold (xs ++ s ∷ []) (length xs)
    ≡ true → 1 ≤ length xs
before-crossing threshold [] s is = absurd (cc)
before-crossing threshold (x ∷ xs) s is = omega arith

-- a moment counted from the sample itself is late by a sample
late : (f n e : ℕ) → 1 ≤ n → f * n + e ≡ f * (n - 1) + e + f
late f zero e h = absurd (omega arith)
late f (suc n) e h = let back : suc n - 1 ≡ n = omega arith in rw back (omega (arith, mul-suc f n))

cond_some : (b : Bool) (m k : ℕ) → (b ≡ true → m ≡ k) → cond b (Some m) None ≡ cond b (Some k) None
cond_some true m k same = ap (λ x. Some x) (same refl)
cond_some false m k same = refl

-- the crossing that a slicer finds is that of the definition, late by a sample
crossing-is : (state : FinderState) (xs : List ℤ) (s : ℤ) → Finds state xs →
    crossing_in state s ≡ cond (is_crossing state.threshold (xs ++ s ∷ []) (length xs))
    (Some (moment state.fineness state.threshold (xs ++ s ∷ []) (length xs) + state.fineness)) None
crossing-is state xs s stands =
    let n : ℕ = length xs in
    let threshold = state.threshold in
    let f = state.fineness in
    let t : ℕ = threshold_by threshold (level_in state s) in
    let now = side-now threshold state.level xs s stands.level in
    let before : state.side ≡ side_after threshold (xs ++ s ∷ []) n =
    stands.side ∙ sym (side_after-front threshold xs (s ∷ []) n (omega arith)) in
    let found : differs state.side (side_of t s) ≡ is_crossing threshold (xs ++ s ∷ []) n = ap₂ differs before now in
    let tick : (1 ≤ n) → tick_to (side_of t s) f t state.before s ≡ tick_at f threshold (xs ++ s ∷ []) n =
    λ some. same_tick f _ _ _ _ _ _ _ _ now (threshold-now threshold state.level xs s stands.level)
    (stands.before ∙ sym (get_or_append_left xs (s ∷ []) (pos 0) (n - 1) (omega arith)))
    (sym (get_or_push xs s (pos 0) n refl)) in
    ap (λ b. cond b (Some (state.tick + tick_to (side_of t s) f t state.before s)) None) found
    ∙ cond_some (is_crossing threshold (xs ++ s ∷ []) n) _ _ (λ is.
    let some = before-crossing threshold xs s is in
    ap₂ ◌+◌ stands.tick (tick some) ∙ late f n (tick_at f threshold (xs ++ s ∷ []) n) some)

-- the last moment, with that of one sample more
latest-by : (f : ℕ) (o : Option ℕ) (b : Bool) (m : ℕ) (ms : List ℕ) →
    option_or (cond b (Some (m + f)) None) (option_map (λ moment. moment + f) (last_or o ms))
    ≡ option_map (λ moment. moment + f) (last_or o (ms ++ cond b (m ∷ []) []))
latest-by f o true m ms = ap (option_map (λ moment. moment + f)) (sym (last_or-more o ms m))
latest-by f o false m ms = ap (λ all. option_map (λ moment. moment + f) (last_or o all)) (sym (append-nil ms))

latest-more : (start : Start) (f : ℕ) (b : Bool) (m : ℕ) (ms : List ℕ) →
    option_or (cond b (Some (m + f)) None) (option_map (λ moment. moment + f) (latest_moment start ms))
    ≡ option_map (λ moment. moment + f) (latest_moment start (ms ++ cond b (m ∷ []) []))
latest-more Crossing f b m ms = latest-by f None b m ms
latest-more Tick f b m ms = latest-by f (Some 0) b m ms

pub stands_still : (state : FinderState) (xs : List ℤ) (s : ℤ) → Finds state xs
    → Finds (state_after state s) (xs ++ s ∷ [])
stands_still state xs s stands =
    let n : ℕ = length xs in
    let f = state.fineness in
    let threshold = state.threshold in
    let long : length (xs ++ s ∷ []) ≡ suc n = length_push xs s ∙ add-one n in
    let before : state.side ≡ side_after threshold (xs ++ s ∷ []) n =
    stands.side ∙ sym (side_after-front threshold xs (s ∷ []) n (omega arith)) in
    record {
      tick = rw (long, stands.tick) (sym (mul-suc f n));
      before = let last : length (xs ++ s ∷ []) - 1 ≡ n = omega (arith, long) in
          rw last (sym (get_or_push xs s (pos 0) n refl));
      level = level-more threshold state.level xs s stands.level;
      side = rw long (ap₂ option_or (side-now threshold state.level xs s stands.level) before);
      latest = ap₂ option_or (crossing-is state xs s stands) stands.latest
          ∙ latest-more state.start f (is_crossing threshold (xs ++ s ∷ []) n) (moment f threshold (xs ++ s ∷ []) n)
          (moments f threshold xs)
          ∙ ap (λ ms. option_map (λ moment. moment + f) (latest_moment state.start ms))
          (sym (moments-more f threshold xs s));
    }

pub between-none : (o : Option ℕ) → between o None ≡ None
between-none None = refl
between-none (Some x) = refl

-- moments that are late alike are as far apart
between-late : (o : Option ℕ) (m f : ℕ) → between (option_map (λ moment. moment + f) o) (Some (m + f)) ≡ between o
    (Some m)
between-late None m f = refl
between-late (Some x) m f = ap (λ d. Some d) (omega arith)

-- the distances of moments, if the first one begins there
abbrev gaps_since : Start → List ℕ → List ℕ
gaps_since Crossing moments = gaps moments
gaps_since Tick moments = gaps_after 0 moments

since-is : (start : Start) (f : ℕ) (threshold : Threshold) (xs : List ℤ)
    → distances_since start f threshold xs ≡ gaps_since start (moments f threshold xs)
since-is Crossing f threshold xs = refl
since-is Tick f threshold xs = refl

gaps_since-more : (start : Start) (ms : List ℕ) (m : ℕ) →
    gaps_since start (ms ++ m ∷ []) ≡ gaps_since start ms ++ option_to_list (between (latest_moment start ms) (Some m))
gaps_since-more Crossing ms m = gaps-more ms m
gaps_since-more Tick ms m = gaps_after-more 0 ms m

distance-more : (start : Start) (f : ℕ) (b : Bool) (m : ℕ) (ms : List ℕ) → gaps_since start (ms ++ cond b (m ∷ []) [])
    ≡ gaps_since start ms
    ++ option_to_list (between (option_map (λ moment. moment + f) (latest_moment start ms))
    (cond b (Some (m + f)) None))
distance-more start f true m ms = gaps_since-more start ms m
    ∙ ap (λ d. gaps_since start ms ++ option_to_list d) (sym (between-late (latest_moment start ms) m f))
distance-more start f false m ms = ap (gaps_since start) (append-nil ms) ∙ sym (append-nil (gaps_since start ms))
    ∙ ap (λ d. gaps_since start ms ++ option_to_list d)
    (sym (between-none (option_map (λ moment. moment + f) (latest_moment start ms))))

pub brings_distance : (state : FinderState) (xs : List ℤ) (s : ℤ) → Finds state xs →
    distances_since state.start state.fineness state.threshold (xs ++ s ∷ [])
    ≡ distances_since state.start state.fineness state.threshold xs ++ option_to_list (distance_at state s)
brings_distance state xs s stands =
    let f = state.fineness in
    let threshold = state.threshold in
    let start = state.start in
    let n : ℕ = length xs in
    let ms = moments f threshold xs in
    since-is start f threshold (xs ++ s ∷ [])
    ∙ ap (gaps_since start) (moments-more f threshold xs s)
    ∙ distance-more start f (is_crossing threshold (xs ++ s ∷ []) n) (moment f threshold (xs ++ s ∷ []) n) ms
    ∙ ap (λ d. gaps_since start ms ++ option_to_list d)
    (sym (ap₂ between stands.latest (crossing-is state xs s stands)))
    ∙ ap (λ ds. ds ++ option_to_list (distance_at state s)) (sym (since-is start f threshold xs))
