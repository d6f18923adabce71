-- Samples that were taken one after another, and the distance that they brought.
use Rattle.std.proofs.Common.{◌≡◌, true, ℕ, zero, suc, ◌+◌, ◌*◌, ◌<◌, ◌≤◌, ℤ, pos, List, [], ◌∷◌, ◌++◌, length, take}
use Rattle.std.proofs.Common.{drop, get_or, ◌^◌, Option, None}
use Rattle.std.proofs.Common.{refl, ap, subst, sym, ◌∙◌, append-nil, append_assoc, add-one, mul-add, mul-suc}
use Rattle.std.proofs.Common.{mul-le-mul_left, arith}
use Rattle.std.specs.Option.{option_to_list}
use Rattle.std.proofs.lemmas.List.{length-append, length-take-le}
use Rattle.pcm_front.specs.Distance.{distances_since}
use Rattle.pcm_front.specs.KeptRuns.{RunsTo}
use Rattle.pcm_front.specs.Level.{threshold_by}
use Rattle.pcm_front.specs.Side.{side_of, stays}
use Rattle.pcm_front.specs.StandsFor.{distances_in, Finds, Stand}
use Rattle.pcm_front.specs.State.{distance_at, level_in, state_after, state_of, window_after, FinderState}
use Rattle.pcm_front.specs.State.{IsAlone, WindowState}
use Rattle.pcm_front.specs.Sums.{sums, total}
use Rattle.pcm_front.proofs.Sides.{stays_apart, stays_there}
use Rattle.pcm_front.proofs.StandsStill.{brings_distance, stands_still, between-none}
use Rattle.pcm_front.proofs.SumsStay.{alone, sums-more}
use Rattle.pcm_front.proofs.Windows.{kept-more, sum-now}

-- no sample
pub none_yet : (state : FinderState) (window : WindowState) → RunsTo state state window window [] None
none_yet state window = record {
  fineness = refl;
  threshold = refl;
  start = refl;
  smooth = refl;
  tick = omega arith;
  stands = λ front stands. subst (Stand state window) (sym (append-nil front)) stands;
  brings = λ front stands. ap (distances_in state window) (append-nil front)
      ∙ sym (append-nil (distances_in state window front));
}

-- the sums with one sample more
one_sum : (window : WindowState) (front : List ℤ) (s y : ℤ) (state : FinderState) → 1 ≤ window.smooth
    → y ≡ total (window.kept ++ s ∷ [])
    → Stand state window front → sums window.smooth (front ++ s ∷ []) ≡ sums window.smooth front ++ y ∷ []
one_sum window front s y state some is stands =
    sums-more window.smooth front s
    ∙ ap (λ sum. sums window.smooth front ++ sum ∷ [])
    (sym (is ∙ sum-now window.smooth window.kept front s some stands.kept))

-- one sample
pub one_step : (state : FinderState) (window : WindowState) (s y : ℤ) → 1 ≤ window.smooth
    → y ≡ total (window.kept ++ s ∷ [])
    → RunsTo state (state_after state y) window (window_after window s) (s ∷ []) (distance_at state y)
one_step state window s y some is = record {
  fineness = refl;
  threshold = refl;
  start = refl;
  smooth = refl;
  tick = omega arith;
  stands = λ front stands. record {
    kept = kept-more window.smooth window.kept front s stands.kept;
    finds = subst (Finds (state_after state y)) (sym (one_sum window front s y state some is stands))
        (stands_still state (sums window.smooth front) y stands.finds);
  };
  brings = λ front stands.
      ap (distances_since state.start state.fineness state.threshold) (one_sum window front s y state some is stands)
      ∙ brings_distance state (sums window.smooth front) y stands.finds;
}

-- the distances are found alike
same_distances : (a b : FinderState) (w v : WindowState) (xs : List ℤ) → b.fineness ≡ a.fineness
    → b.threshold ≡ a.threshold → b.start ≡ a.start
    → v.smooth ≡ w.smooth → distances_in b v xs ≡ distances_in a w xs
same_distances a b w v xs fineness threshold start smooth = rw (fineness, threshold, start, smooth) refl

-- samples that brought nothing, and then more
pub runs_then : (a b c : FinderState) (w v u : WindowState) (first second : List ℤ) (distance : Option ℕ)
    → RunsTo a b w v first None
    → RunsTo b c v u second distance → RunsTo a c w u (first ++ second) distance
runs_then a b c w v u first second distance runs more =
    let same : (xs : List ℤ) → distances_in b v xs ≡ distances_in a w xs =
    λ xs. same_distances a b w v xs runs.fineness runs.threshold runs.start runs.smooth in
    let joined : (front : List ℤ) → front ++ (first ++ second) ≡ (front ++ first) ++ second =
    λ front. sym (append_assoc front first second) in
    let long : a.fineness * length (first ++ second) ≡ a.fineness * length first + a.fineness * length second =
    ap (λ n. a.fineness * n) (length-append first second) ∙ mul-add a.fineness (length first) (length second) in
    let later : c.tick ≡ b.tick + a.fineness * length second = more.tick
    ∙ ap (λ f. b.tick + f * length second) runs.fineness in
    record {
      fineness = more.fineness ∙ runs.fineness;
      threshold = more.threshold ∙ runs.threshold;
      start = more.start ∙ runs.start;
      smooth = more.smooth ∙ runs.smooth;
      tick = omega (arith, runs.tick, later, long);
      stands = λ front stands. subst (Stand c u) (sym (joined front))
          (more.stands (front ++ first) (runs.stands front stands));
      brings = λ front stands.
          ap (distances_in a w) (joined front) ∙ sym (same ((front ++ first) ++ second))
          ∙ more.brings (front ++ first) (runs.stands front stands)
          ∙ ap (λ ds. ds ++ option_to_list distance)
          (same (front ++ first) ∙ runs.brings front stands ∙ append-nil (distances_in a w front));
    }

-- ---- samples with which the sound stays on its side

-- the sound stays on its side at this sum
abbrev pub IsStill : FinderState → ℤ → Type 0
IsStill state sum = stays state.side (side_of (threshold_by state.threshold (level_in state sum)) sum) ≡ true

-- what is kept then
abbrev pub still_after : FinderState → ℤ → FinderState
still_after state sum = state_of state.fineness state.threshold state.start (state.tick + state.fineness) sum
    (level_in state sum) state.side state.latest

state_still : (state : FinderState) (sum : ℤ) → IsStill state sum → state_after state sum ≡ still_after state sum
state_still state sum is =
    let side = side_of (threshold_by state.threshold (level_in state sum)) sum in
    rw (stays_there state.side side is, stays_apart state.side side is) refl

none_still : (state : FinderState) (sum : ℤ) → IsStill state sum → distance_at state sum ≡ None
none_still state sum is =
    let side = side_of (threshold_by state.threshold (level_in state sum)) sum in
    rw (stays_apart state.side side is) (between-none state.latest)

-- one of them more
pub still_on : (start state : FinderState) (window after : WindowState) (taken : List ℤ) (s y : ℤ) → 1 ≤ after.smooth
    → y ≡ total (after.kept ++ s ∷ []) → IsStill state y → RunsTo start state window after taken None
    → RunsTo start (still_after state y) window (window_after after s) (taken ++ s ∷ []) None
still_on start state window after taken s y some is still runs =
    let step = one_step state after s y some is in
    let still_step : RunsTo state (still_after state y) after (window_after after s) (s ∷ []) None =
    rw (state_still state y still, none_still state y still) at step in
    runs_then start state (still_after state y) window after (window_after after s) taken (s ∷ []) None runs still_step

-- the samples up to a place, and one more
pub take-more : (at : ℕ) (xs : List ℤ) → at < length xs → take (at + 1) xs ≡ take at xs ++ get_or xs at (pos 0) ∷ []
take-more at [] within = absurd (omega arith)
take-more zero (x ∷ xs) within = refl
take-more (suc at) (x ∷ xs) within =
    let one : suc at + 1 ≡ suc (at + 1) = omega arith in
    ap (λ n. take n (x ∷ xs)) one ∙ ap (λ more. x ∷ more) (take-more at xs (omega arith))

-- after `at` of them there is room for one more
pub room_for_one : (f tick start at : ℕ) (xs : List ℤ) → at < length xs → tick ≡ start + f * length (take at xs)
    → start + f * length xs ≤ 2 ^ 62
    → tick + f ≤ 2 ^ 62
room_for_one f tick start at xs within is room =
    let all : f * (at + 1) ≤ f * length xs = mul-le-mul_left f (omega (arith, within)) in
    let one : f * (at + 1) ≡ f * at + f = ap (λ n. f * n) (add-one at) ∙ mul-suc f at in
    let now : tick ≡ start + f * at = is ∙ ap (λ n. start + f * n) (length-take-le at xs (omega (arith, within))) in
    omega (arith, all, one, now, room)

-- one sample, as a step takes it
pub one_taken : (state now : FinderState) (window pushed : WindowState) (s y : ℤ) (distance : Option ℕ)
    → 1 ≤ window.smooth
    → y ≡ total (window.kept ++ s ∷ []) → pushed ≡ window_after window s → now ≡ state_after state y
    → distance ≡ distance_at state y
    → RunsTo state now window pushed (s ∷ []) distance
one_taken state now window pushed s y distance some is pushed_is now_is distance_is =
    rw (pushed_is, now_is, distance_is) (one_step state window s y some is)

-- ---- the same if each sample stands for itself

pub one_sample : (window : WindowState) (s : ℤ) → IsAlone window → s ≡ total (window.kept ++ s ∷ [])
one_sample window s is = sym (ap (λ kept. total (kept ++ s ∷ [])) is.1 ∙ alone s)

pub none_kept : (window : WindowState) (s : ℤ) → IsAlone window → window_after window s ≡ window
none_kept window s is = ap (λ kept. record { smooth = window.smooth; kept = drop 1 (kept ++ s ∷ []) }) is.1
    ∙ ap (λ kept. record { smooth = window.smooth; kept = kept }) (sym is.1)
