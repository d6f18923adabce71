use Rattle.biphase.specs.Tolerance.{IsFirstHalf}
use Rattle.std.proofs.Common.{◌≡◌, Bool, false, IsTrue, [], ◌∷◌, ◌++◌, ◌-◌, length, refl, subst, sym}
use Rattle.biphase.specs.Pair.{AreUnequal}
use Rattle.biphase.specs.Tolerance.{kept_at_lock}
use Rattle.biphase.specs.ToleranceLemmas.{other_kind}
use Rattle.cell_tracker.specs.State.{AtCellState, MidCellState, at_cell_with, mid_cell_with}
use Rattle.cell_tracker.specs.Stretch.{begun, with_break}
use Rattle.cell_tracker.specs.StandsFor.{HuntingStandsFor, AtCellStandsFor, MidCellStandsFor}
use Rattle.cell_tracker.proofs.BeginsAtTheLock.{hunt_first, hunt_equal, start_at, start_mid, start_broken}
use Rattle.cell_tracker.proofs.hunting.Hunting.feed.Goals as goal

-- what is false is not true
not_both : (told : Bool) → told ≡ false → IsTrue told → ⊥
not_both told is_false is_true = cc

pub returns-in_default-clause-stands : goal.returns-in_default-clause-stands
returns-in_default-clause-stands c = λ intervals stretches stands.
    let is = subst (λ state. HuntingStandsFor state intervals stretches) (sym c.self.view_is) stands in
    subst (λ state. HuntingStandsFor state (intervals ++ c.args.x ∷ []) stretches) (sym c.after-hunting.ensures)
    (hunt_first _ intervals stretches c.args.x is c.in_default.is)

-- the pair is of another kind, so the search goes on
pub returns-in-Same-clause-stands : goal.returns-in-Same-clause-stands
returns-in-Same-clause-stands c = λ intervals stretches stands.
    let is = subst (λ state. HuntingStandsFor state intervals stretches) (sym c.self.view_is) stands in
    let other : ¬ AreUnequal c.self.inside.profile c.in-Some.before c.args.x =
    other_kind c.self.inside.profile c.in-Some.before c.args.x c.kind.result c.kind.ensures c.in-Same.is in
    subst (λ state. HuntingStandsFor state (intervals ++ c.args.x ∷ []) stretches) (sym c.after-hunting.ensures)
    (hunt_equal _ intervals stretches c.in-Some.before c.args.x is c.in-Some.is other)

pub returns-then-before-x-clause-stands : goal.returns-then-before-x-clause-stands
returns-then-before-x-clause-stands c = λ intervals stretches stands.
    let is = subst (λ state. HuntingStandsFor state intervals stretches) (sym c.self.view_is) stands in
    let profile = c.self.inside.profile in
    let state : AtCellState = record { profile = profile; latest = kept_at_lock profile c.args.x } in
    let same : state ≡ at_cell_with c.new.result c.at_lock.new.four = rw (c.new.ensures, c.at_lock.ensures.kept) refl in
    subst (λ state. AtCellStandsFor state (intervals ++ c.args.x ∷ []) stretches
    (begun (length intervals) c.args.x)) same
    (start_at _ intervals stretches c.in-Some.before c.args.x is c.in-Some.is c.in-Step.ensures c.if-before-x.true)

pub returns-then-may_begin_one-clause-stands : goal.returns-then-may_begin_one-clause-stands
returns-then-may_begin_one-clause-stands c = λ intervals stretches stands.
    let is = subst (λ state. HuntingStandsFor state intervals stretches) (sym c.self.view_is) stands in
    let profile = c.self.inside.profile in
    let latest = kept_at_lock profile c.in-Some.before in
    let state : MidCellState = record { profile = profile; latest = latest; half = c.args.x } in
    let same : state ≡ mid_cell_with c.new-then-may_begin_one.result c.at_lock-reference.new.four =
    rw (c.new-then-may_begin_one.ensures, c.at_lock-reference.ensures.kept) refl in
    let half : IsFirstHalf profile latest c.args.x =
    (c.may_begin_one.ensures latest (sym c.at_lock-reference.ensures.reference)).0 c.if-may_begin_one.true in
    subst (λ state. MidCellStandsFor state (intervals ++ c.args.x ∷ []) stretches
    (begun (length intervals - 1) c.in-Some.before)) same
    (start_mid _ intervals stretches c.in-Some.before c.args.x is c.in-Some.is c.in-Step.ensures c.if-before-x.false
    half)

pub returns-else-may_begin_one-clause-stands : goal.returns-else-may_begin_one-clause-stands
returns-else-may_begin_one-clause-stands c = λ intervals stretches stands.
    let is = subst (λ state. HuntingStandsFor state intervals stretches) (sym c.self.view_is) stands in
    let profile = c.self.inside.profile in
    let latest = kept_at_lock profile c.in-Some.before in
    let no_half : ¬ IsFirstHalf profile latest c.args.x =
    λ half. not_both c.may_begin_one.result c.if-may_begin_one.false
    ((c.may_begin_one.ensures latest (sym c.at_lock-reference.ensures.reference)).1 half) in
    subst (λ state. HuntingStandsFor state (intervals ++ c.args.x ∷ [])
    (stretches ++ with_break (length intervals) (begun (length intervals - 1) c.in-Some.before) ∷ []))
    (sym c.after-hunting.ensures)
    (start_broken _ intervals stretches c.in-Some.before c.args.x is c.in-Some.is c.in-Step.ensures c.if-before-x.false
    no_half)
