-- Sums with which the sound stays on its side, one after another, from whatever was kept before them.
use Rattle.std.proofs.Common.{◌≡◌, true, ℕ, ◌+◌, ◌-◌, ◌*◌, ◌<◌, ◌≤◌, ℤ, pos, List, [], ◌∷◌, ◌++◌, length, take, drop}
use Rattle.std.proofs.Common.{get_or, Option, None}
use Rattle.std.proofs.Common.{refl, ap, ap₂, subst, sym, ◌∙◌, add-one, mul-suc, arith}
use Rattle.std.specs.Prelude.{slice_range}
use Rattle.pcm_front.specs.declared.level.Level.{Level}
use Rattle.pcm_front.specs.declared.side.Side.{Side}
use Rattle.pcm_front.specs.declared.threshold.Threshold.{Threshold}
use Rattle.pcm_front.specs.KeptRuns.{still_at, IsAt, RunsTo}
use Rattle.pcm_front.specs.Level.{least_of, next_level}
use Rattle.pcm_front.specs.Side.{side_of, stays}
use Rattle.pcm_front.specs.State.{level_in, window_after, FinderState, WindowState}
use Rattle.pcm_front.specs.Sums.{total}
use Rattle.pcm_front.proofs.QuietRuns.{quiet_still, still_range}
use Rattle.pcm_front.proofs.Together.{none_yet}

-- none
pub none_passed : (state : FinderState) (side : Option Side) (threshold : Threshold) (before : ℤ) (level : Level)
    (window : WindowState)
    (xs : List ℤ) (at : ℕ) → IsAt state side threshold before level
    → RunsTo state (still_at state (at - at) before level) window window (slice_range xs at at) None
none_passed state side threshold before level window xs at is =
    let none : at - at ≡ 0 = omega arith in
    let tick : state.tick ≡ state.tick + state.fineness * 0 = omega arith in
    let runs : RunsTo state (still_at state 0 before level) window window [] None =
    subst (λ b. RunsTo state (still_at state 0 b level) window window [] None) is.before_is
    (subst (λ l. RunsTo state (still_at state 0 state.before l) window window [] None) is.level_is
    (subst (λ n. RunsTo state (record state { tick = n }) window window [] None) tick (none_yet state window))) in
    subst (λ n. RunsTo state (still_at state n before level) window window (take n (drop at xs)) None) (sym none) runs

-- one more
pub one_passed : (state : FinderState) (side : Option Side) (threshold : Threshold) (first last : ℤ)
    (before level next : Level)
    (window after pushed : WindowState) (xs : List ℤ) (at end : ℕ) (s y : ℤ) → IsAt state side threshold first before
    → at ≤ end → end < length xs
    → s ≡ get_or xs end (pos 0) → 1 ≤ after.smooth → y ≡ total (after.kept ++ s ∷ []) → 1 ≤ least_of threshold
    → stays side (side_of (least_of threshold) y) ≡ true → next ≡ next_level threshold level y
    → pushed ≡ window_after after s
    → RunsTo state (still_at state (end - at) last level) window after (slice_range xs at end) None
    → RunsTo state (still_at state ((end + 1) - at) y next) window pushed (slice_range xs at (end + 1)) None
one_passed state side threshold first last before level next window after pushed xs at end s y is order within s_is some
    y_is least still next_is
    pushed_is runs =
    let mid = still_at state (end - at) last level in
    let low : 1 ≤ least_of state.threshold = subst (λ t. 1 ≤ least_of t) (sym is.threshold_is) least in
    let quiet : stays state.side (side_of (least_of state.threshold) y) ≡ true =
    ap₂ (λ o t. stays o (side_of (least_of t) y)) is.side_is is.threshold_is ∙ still in
    let level_is : next ≡ level_in mid y = next_is ∙ ap (λ t. next_level t level y) (sym is.threshold_is) in
    let one : (end + 1) - at ≡ (end - at) + 1 = omega (arith, order) in
    let more : state.fineness * ((end + 1) - at) ≡ state.fineness * (end - at) + state.fineness =
    ap (λ n. state.fineness * n) (one ∙ add-one (end - at)) ∙ mul-suc state.fineness (end - at) in
    let tick : (state.tick + state.fineness * (end - at)) + state.fineness ≡ state.tick + state.fineness
    * ((end + 1) - at) = omega (arith, more) in
    subst (λ n. RunsTo state (record state { tick = n; before = y; level = next }) window pushed
    (slice_range xs at (end + 1)) None) tick
    (still_range state mid window after pushed xs at end state.fineness s y next order within s_is some y_is
    (quiet_still mid y low quiet) refl
    level_is pushed_is runs)
