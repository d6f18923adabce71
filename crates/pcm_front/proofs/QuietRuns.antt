-- If the sound stays on its side at the least threshold, it stays at every one, so a run of such samples brings
-- nothing.
use Rattle.std.proofs.Common.{◌≡◌, true, false, ℕ, suc, ◌+◌, ◌-◌, ◌*◌, ◌<◌, ◌≤◌, ℤ, pos, List, [], ◌∷◌, ◌++◌, length}
use Rattle.std.proofs.Common.{take, drop, length-drop, get_or, Bool, cond, Option, Some, None}
use Rattle.std.proofs.Common.{refl, ap, subst, sym, ◌∙◌, mul-suc, arith}
use Rattle.std.specs.Prelude.{slice_range}
use Rattle.std.proofs.lemmas.List.{get_or-drop, length-take-le}
use Rattle.std.proofs.lemmas.List.Sums.{fold_push}
use Rattle.std.specs.List.{fold, prefix_len, AllByRecursion}
use Rattle.std.proofs.lemmas.Int.{ints}
use Rattle.pcm_front.specs.declared.level.Level.{Level}
use Rattle.pcm_front.specs.declared.quiet.Band.{Band}
use Rattle.pcm_front.specs.declared.side.Side.{Side}
use Rattle.pcm_front.specs.declared.side.Side.TheVariants.{High, Low}
use Rattle.pcm_front.specs.declared.threshold.Threshold.{Threshold}
use Rattle.pcm_front.specs.declared.threshold.Threshold.TheVariants.{Fixed, Follow, Deep}
use Rattle.pcm_front.specs.KeptRuns.{latest, RunsTo}
use Rattle.pcm_front.specs.Level.{least_of, next_level, threshold_by}
use Rattle.pcm_front.specs.Quiet.{lies_in, run_from, IsQuiet}
use Rattle.pcm_front.specs.Side.{side_of, stays}
use Rattle.pcm_front.specs.State.{level_in, state_of, window_after, FinderState, IsAlone, WindowState}
use Rattle.pcm_front.specs.Sums.{total}
use Rattle.pcm_front.proofs.Together.{none_kept, none_yet, one_sample, runs_then, still_after, still_on, take-more}
use Rattle.pcm_front.proofs.Together.{IsStill}

-- a threshold that lies higher lets the sound stay too
pub stays_higher : (side : Option Side) (low high : ℕ) (s : ℤ) → 1 ≤ low → low ≤ high
    → stays side (side_of low s) ≡ true → stays side (side_of high s) ≡ true
stays_higher None low high s some higher is = grind (arith, ints)
stays_higher (Some High) low high s some higher is = grind (arith, ints)
stays_higher (Some Low) low high s some higher is = grind (arith, ints)

pub least_below : (threshold : Threshold) (level : Level) → least_of threshold ≤ threshold_by threshold level
least_below (Fixed threshold) level = omega arith
least_below (Follow least) level = omega arith
least_below (Deep least) level = omega arith

-- so does every level
pub quiet_still : (state : FinderState) (s : ℤ) → 1 ≤ least_of state.threshold
    → stays state.side (side_of (least_of state.threshold) s) ≡ true
    → IsStill state s
quiet_still state s some is = stays_higher state.side (least_of state.threshold) _ s some
    (least_below state.threshold _) is

-- what is kept after quiet samples
abbrev pub quiet_after : FinderState → List ℤ → FinderState
quiet_after state xs = record state {
  tick = state.tick + state.fineness * length xs;
  before = fold latest state.before xs;
  level = fold (next_level state.threshold) state.level xs;
}

one_alone : (state : FinderState) (window : WindowState) (s : ℤ) → IsAlone window → IsStill state s
    → RunsTo state (still_after state s) window window (s ∷ []) None
one_alone state window s alone still =
    let step = still_on state state window window [] s s (omega (arith, alone.0)) (one_sample window s alone) still
    (none_yet state window) in
    subst (λ (w : WindowState). RunsTo state (still_after state s) window w (s ∷ []) None) (none_kept window s alone)
    step

pub quiet_run : (state : FinderState) (window : WindowState) (xs : List ℤ) → IsAlone window
    → 1 ≤ least_of state.threshold
    → AllByRecursion (λ s. stays state.side (side_of (least_of state.threshold) s) ≡ true) xs
    → RunsTo state (quiet_after state xs) window window xs None
quiet_run state window [] alone some all =
    subst (λ n. RunsTo state (record state { tick = n }) window window [] None) (omega arith) (none_yet state window)
quiet_run state window (x ∷ xs) alone some all =
    let still = quiet_still state x some all.0 in
    let next = still_after state x in
    let rest = quiet_run next window xs alone some all.1 in
    let tick : (state.tick + state.fineness) + state.fineness * length xs ≡ state.tick + state.fineness
    * suc (length xs) =
    omega (arith, mul-suc state.fineness (length xs)) in
    subst (λ n. RunsTo state (record (quiet_after state (x ∷ xs)) { tick = n }) window window (x ∷ xs) None) tick
    (runs_then state next (quiet_after next xs) window window window (x ∷ []) xs None
    (one_alone state window x alone still) rest)

front_step : (side : Option Side) (threshold : ℕ) (band : Band) (x : ℤ) (xs : List ℤ) (n : ℕ) (b : Bool)
    → lies_in band x ≡ b → IsQuiet side threshold band
    → AllByRecursion (λ s. stays side (side_of threshold s) ≡ true) (take n xs)
    → AllByRecursion (λ s. stays side (side_of threshold s) ≡ true) (take (cond b (1 + n) 0) (x ∷ xs))
front_step side threshold band x xs n true is quiet more =
    let one : suc n ≡ 1 + n = omega arith in
    subst (λ k. AllByRecursion (λ s. stays side (side_of threshold s) ≡ true) (take k (x ∷ xs))) one (quiet x is, more)
front_step side threshold band x xs n false is quiet more = tt

-- the samples of a run lie in its band, so they are such
pub in_run : (side : Option Side) (threshold : ℕ) (band : Band) (xs : List ℤ) → IsQuiet side threshold band
    → AllByRecursion (λ s. stays side (side_of threshold s) ≡ true) (take (prefix_len (lies_in band) xs) xs)
in_run side threshold band [] quiet = tt
in_run side threshold band (x ∷ xs) quiet =
    front_step side threshold band x xs (prefix_len (lies_in band) xs) (lies_in band x) refl quiet
    (in_run side threshold band xs quiet)

-- ---- samples in some places of a list

pub length-range : (xs : List ℤ) (at end : ℕ) → end ≤ length xs → length (slice_range xs at end) ≡ end - at
length-range xs at end within = length-take-le (end - at) (drop at xs) (omega (arith, within, length-drop at xs))

-- and the one behind them
pub range-more : (xs : List ℤ) (at end : ℕ) → at ≤ end → end < length xs
    → slice_range xs at (end + 1) ≡ slice_range xs at end ++ get_or xs end (pos 0) ∷ []
range-more xs at end order within =
    let one : (end + 1) - at ≡ (end - at) + 1 = omega (arith, order) in
    let place : at + (end - at) ≡ end = omega (arith, order) in
    ap (λ k. take k (drop at xs)) one
    ∙ take-more (end - at) (drop at xs) (omega (arith, order, within, length-drop at xs))
    ∙ ap (λ x. slice_range xs at end ++ x ∷ []) (get_or-drop at xs (end - at) (pos 0)
    ∙ ap (λ k. get_or xs k (pos 0)) place)

pub fold_range : {Y : Type 0} (f : Y → ℤ → Y) (a : Y) (xs : List ℤ) (at end : ℕ) → at ≤ end → end < length xs
    → fold f a (slice_range xs at (end + 1)) ≡ f (fold f a (slice_range xs at end)) (get_or xs end (pos 0))
fold_range f a xs at end order within =
    ap (fold f a) (range-more xs at end order within) ∙ fold_push f a (slice_range xs at end) (get_or xs end (pos 0))

-- the latest of them
pub last-of : (before : ℤ) (xs : List ℤ) (at end : ℕ) → at < end → end ≤ length xs
    → fold latest before (slice_range xs at end) ≡ get_or xs (end - 1) (pos 0)
last-of before xs at end some within =
    let one : (end - 1) + 1 ≡ end = omega (arith, some) in
    ap (λ k. fold latest before (slice_range xs at k)) (sym one)
    ∙ fold_range latest before xs at (end - 1) (omega (arith, some)) (omega (arith, some, within))

-- what is kept after the samples of a run
pub quiet_to : (start : FinderState) (band : Band) (xs : List ℤ) (at end f tick : ℕ) (before : ℤ) (level : Level)
    → end ≤ length xs
    → 1 ≤ least_of start.threshold → IsQuiet start.side (least_of start.threshold) band → end ≡ at + run_from band xs at
    → f ≡ start.fineness → tick ≡ start.tick + f * (end - at)
    → before ≡ fold latest start.before (slice_range xs at end)
    → level ≡ fold (next_level start.threshold) start.level (slice_range xs at end)
    → (window : WindowState) → IsAlone window
    → RunsTo start (record start { tick = tick; before = before; level = level }) window window (slice_range xs at end)
    None
quiet_to start band xs at end f tick before level within some quiet end_is f_is tick_is before_is level_is window alone
    =
    let run = slice_range xs at end in
    let count : run_from band xs at ≡ end - at = omega (arith, end_is) in
    let all = subst (λ n. AllByRecursion (λ s. stays start.side (side_of (least_of start.threshold) s) ≡ true)
    (take n (drop at xs))) count
    (in_run start.side (least_of start.threshold) band (drop at xs) quiet) in
    let ticks : start.tick + start.fineness * length run ≡ tick =
    ap (λ n. start.tick + start.fineness * n) (length-range xs at end within)
    ∙ ap (λ g. start.tick + g * (end - at)) (sym f_is) ∙ sym tick_is in
    rw (before_is, level_is)
    (subst (λ n. RunsTo start (record (quiet_after start run) { tick = n }) window window run None) ticks
    (quiet_run start window run alone some all))

-- ---- sums with which the sound stays on its side

-- one of them more
pub still_range : (start state : FinderState) (window after pushed : WindowState) (xs : List ℤ) (at end f : ℕ) (s y : ℤ)
    (next : Level) → at ≤ end
    → end < length xs → s ≡ get_or xs end (pos 0) → 1 ≤ after.smooth → y ≡ total (after.kept ++ s ∷ [])
    → IsStill state y → f ≡ state.fineness
    → next ≡ level_in state y → pushed ≡ window_after after s → RunsTo start state window after (slice_range xs at end)
    None
    → RunsTo start (state_of state.fineness state.threshold state.start (state.tick + f) y next state.side state.latest)
    window pushed
    (slice_range xs at (end + 1)) None
still_range start state window after pushed xs at end f s y next order within s_is some y_is still f_is next_is
    pushed_is runs =
    rw (f_is, next_is, pushed_is, range-more xs at end order within, sym s_is)
    (still_on start state window after (slice_range xs at end) s y some y_is still runs)
