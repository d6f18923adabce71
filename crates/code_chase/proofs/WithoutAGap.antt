-- Over code without a gap a chase that is locked stays locked, and within its window.
use Rattle.std.proofs.Common.{◌≡◌, ℕ, zero, suc, ◌+◌, ◌-◌, ◌≤◌, inl, inr, List}
use Rattle.std.proofs.Common.{Option, Some, None, slice_get, refl, sym, subst, arith}
use Rattle.std.specs.Prelude.{unsigned_abs}
use Rattle.std.proofs.lemmas.Int.{ints}
use Rattle.tc_address.specs.declared.count.Count.{Count}
use Rattle.tc_address.specs.Label.{Address, IsLabel}
use Rattle.chase_core.specs.declared.command.Command.TheVariants.{Play}
use Rattle.chase_core.specs.declared.mode.Mode.TheVariants.{Locked}
use Rattle.chase_core.specs.declared.report.Loss.{Loss}
use Rattle.chase_core.specs.declared.report.Loss.TheVariants.{NoCode, Window}
use Rattle.chase_core.specs.declared.report.State.TheVariants as states
use Rattle.chase_core.specs.Step.{kept}
use Rattle.chase_core.specs.Trace.{IsSteadyFromTo, Row, Traced}
use Rattle.chase_core.specs.Trace.{lock_bound, loop_at}
use Rattle.chase_core.specs.Trace.{starts_at, traced}
use Rattle.flywheel.specs.declared.frame.Frame.{Frame}
use Rattle.flywheel.specs.GoOn.{GoOn}
use Rattle.code_chase.specs.CodeTrace.{code_trace, rows_of, slip_of}
use Rattle.code_chase.specs.Lock.{AreWhole, BringsNoCode, HaveLabels, IsApart, IsCauseOf}
use Rattle.code_chase.proofs.RowsOfFrames.{DayLaws, are_rows, row_at}
use Rattle.code_chase.proofs.CausesOfALoss.{HasLine, HoldsOverASlip, StaysLocked, cause, on_the_day, reads_on_at}
use Rattle.code_chase.proofs.CausesOfALoss.{steadily}
use Rattle.code_chase.proofs.KindsOfALoss.{Stays, decide, line_row, row_before}

-- ---- code without a gap

none_of : (loss : Option Loss) → ((l : Loss) → loss ≡ Some l → ⊥) → loss ≡ None
none_of None h = refl
none_of (Some x) h = absurd (h x refl)

slip_within : (bound value : ℕ) → unsigned_abs (slip_of bound value) ≤ bound
slip_within bound value = omega (arith, ints)

whole_slip : (count : Count) (bound seed most : ℕ) (frames : List Frame) (i : ℕ) (row : Row) → bound ≤ most →
    slice_get (rows_of count seed bound frames) i ≡ Some row → unsigned_abs row.slip ≤ most
whole_slip count bound seed most frames i row small here =
    let at = row_at count bound seed (Some Play) frames i row here in
    let within : unsigned_abs row.slip ≤ bound = subst (λ (r : Row). unsigned_abs r.slip ≤ bound) (sym at.is)
    (slip_within bound at.value) in
    omega (arith, within, small)

never_lost : (count : Count) (frame : Frame) (before : Row) (loss : Loss) → IsCauseOf loss count frame before
    → (BringsNoCode count frame → ⊥) →
    (IsApart frame → ⊥) → unsigned_abs before.slip ≤ 24 → ⊥
never_lost count frame before NoCode why code together slip = code why
never_lost count frame before (Window e) why code together slip = elim why.1 [
  | inl apart ↦ together apart
  | inr far ↦ absurd (omega (arith, slip, far))
]

pub whole_no_loss : (laws : DayLaws) (over : HoldsOverASlip) (has_line : HasLine) (label : Address) (seed bound : ℕ)
    (frames : List Frame) (j : ℕ)
    (line : Traced) →
    IsLabel label → HaveLabels frames → GoOn None frames → AreWhole label.count frames → bound ≤ 24 →
    slice_get (code_trace label seed bound frames) j ≡ Some line → line.report.loss ≡ None
whole_no_loss laws over has_line label seed bound frames j line is have on whole small at =
    none_of line.report.loss (λ loss loses.
    let why = cause laws over has_line label seed bound frames j line loss is have on at loses in
    let there = subst (λ k. slice_get frames k ≡ Some why.frame) why.behind why.there in
    let never = whole why.i why.frame there in
    never_lost label.count why.frame why.before loss why.is never.0 never.1
    (whole_slip label.count bound seed 24 frames why.i why.before small why.at))

stays_whole : (count : Count) (frame : Frame) (before : Row) → (BringsNoCode count frame → ⊥) × (IsApart frame → ⊥) →
    unsigned_abs before.slip ≤ 24 → Stays count frame before
stays_whole count frame before never slip = elim (decide count frame before) [
  | inl (inl none) ↦ absurd (never.0 none)
  | inl (inr (inl apart)) ↦ absurd (never.1 apart)
  | inl (inr (inr far)) ↦ absurd (omega (arith, slip, far))
  | inr stay ↦ stay
]

-- the line is Locked, within half a frame
abbrev IsNear : Traced → Type 0
IsNear line = (line.report.state ≡ states.Locked) × (unsigned_abs line.report.error ≤ 40)

near_step : (a b : ℕ) → a ≤ 16 + b → b ≤ 24 → a ≤ 40
near_step a b p q = omega (arith, p, q)

near_from : (laws : DayLaws) (stays : StaysLocked) (over : HoldsOverASlip) (has_line : HasLine) (label : Address)
    (seed bound : ℕ) (frames : List Frame)
    (first : ℕ) (leaves : Traced) → IsLabel label → HaveLabels frames → GoOn None frames → AreWhole label.count frames
    → bound ≤ 24 →
    slice_get (code_trace label seed bound frames) first ≡ Some leaves → leaves.report.state ≡ states.Locked →
    (d : ℕ) (line : Traced) → slice_get (code_trace label seed bound frames) (first + d) ≡ Some line → IsNear line
near_from laws stays over has_line label seed bound frames first leaves is have on whole small at_first locked zero line
    at =
    let here : slice_get (code_trace label seed bound frames) first ≡ Some line =
    subst (λ n. slice_get (code_trace label seed bound frames) n ≡ Some line) (omega arith) at in
    let kept = stays (starts_at label) (rows_of label.count seed bound frames) first first first leaves line
    (on_the_day laws label is)
    (are_rows laws label.count bound seed (Some Play) frames have)
    (λ k row next low high. absurd (omega (arith, low, high)))
    at_first locked (omega arith) (omega arith) here in
    let none : first - first ≡ 0 = omega arith in
    let most : unsigned_abs line.report.error ≤ lock_bound 0 =
    subst (λ n. unsigned_abs line.report.error ≤ lock_bound n) none kept.2 in
    (kept.0, most)
near_from laws stays over has_line label seed bound frames first leaves is have on whole small at_first locked
    (suc d) line at =
    let rows = rows_of label.count seed bound frames in
    let loop = starts_at label in
    let i = first + d in
    let here : slice_get (code_trace label seed bound frames) (suc i) ≡ Some line =
    subst (λ n. slice_get (code_trace label seed bound frames) n ≡ Some line) (omega arith) at in
    let (next, later, same) = line_row loop rows (suc i) line here in
    let (row, now) = row_before rows i next later in
    let before = traced (loop_at loop rows i) row in
    let at_before = has_line loop rows i row now in
    let near = near_from laws stays over has_line label seed bound frames first leaves is have on whole small at_first
    locked d before at_before in
    let after = row_at label.count bound seed (Some Play) frames (suc i) next later in
    let slip = whole_slip label.count bound seed 24 frames i row small now in
    let stay = stays_whole label.count after.frame row (whole i after.frame after.there) slip in
    let reads = reads_on_at laws label.count bound seed frames i row next after.frame on now later after.there stay.on
    stay.has in
    let kept = over loop rows i row next before line (on_the_day laws label is)
    (are_rows laws label.count bound seed (Some Play) frames have) now later reads slip at_before near.0 here in
    (kept.0, near_step (unsigned_abs line.report.error) (unsigned_abs row.slip) kept.2 slip)

pub whole_near : (laws : DayLaws) (stays : StaysLocked) (over : HoldsOverASlip) (has_line : HasLine) (label : Address)
    (seed bound : ℕ)
    (frames : List Frame) (first j : ℕ) (leaves line : Traced) →
    IsLabel label → HaveLabels frames → GoOn None frames → AreWhole label.count frames → bound ≤ 24 →
    slice_get (code_trace label seed bound frames) first ≡ Some leaves → leaves.report.state ≡ states.Locked →
    first ≤ j → slice_get (code_trace label seed bound frames) j ≡ Some line →
    (line.report.state ≡ states.Locked) × (unsigned_abs line.report.error ≤ 40)
whole_near laws stays over has_line label seed bound frames first j leaves line is have on whole small at_first locked
    least at =
    let there : slice_get (code_trace label seed bound frames) (first + (j - first)) ≡ Some line =
    subst (λ n. slice_get (code_trace label seed bound frames) n ≡ Some line) (omega (arith, least)) at in
    near_from laws stays over has_line label seed bound frames first leaves is have on whole small at_first locked
    (j - first) line there

pub whole_nearer : (laws : DayLaws) (stays : StaysLocked) (label : Address) (seed bound : ℕ) (frames : List Frame)
    (first j : ℕ) (leaves line : Traced) →
    IsLabel label → HaveLabels frames → GoOn None frames → AreWhole label.count frames → bound ≤ 8 →
    slice_get (code_trace label seed bound frames) first ≡ Some leaves → leaves.report.state ≡ states.Locked →
    first ≤ j → slice_get (code_trace label seed bound frames) j ≡ Some line
    → unsigned_abs line.report.error ≤ lock_bound (j - first)
whole_nearer laws stays label seed bound frames first j leaves line is have on whole small at_first locked least at =
    let rows = rows_of label.count seed bound frames in
    let steady : IsSteadyFromTo label.count rows first j = λ i row next low high here later.
    let after = row_at label.count bound seed (Some Play) frames (suc i) next later in
    let slip = whole_slip label.count bound seed 8 frames i row small here in
    let stay = stays_whole label.count after.frame row (whole i after.frame after.there) (omega (arith, slip)) in
    steadily label.count row next (reads_on_at laws label.count bound seed frames i row next after.frame on here later
    after.there stay.on stay.has) slip in
    let kept = stays (starts_at label) rows first j j leaves line (on_the_day laws label is)
    (are_rows laws label.count bound seed (Some Play) frames have) steady at_first locked least (omega arith) at in
    kept.2
