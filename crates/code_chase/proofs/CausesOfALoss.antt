-- Only a locked chase loses its lock: of no code if the row has no master, and else out of the window. One that the
-- step before left locked keeps it if the next row reads on and the transport slipped by 24 subframes at most: so a
-- loss of the window needs a row that does not.
use Rattle.std.proofs.Common.{◌≡◌, ℕ, zero, suc, ◌+◌, ◌-◌, ◌≤◌, true, List}
use Rattle.std.proofs.Common.{Option, Some, None, slice_get, refl, sym, ◌∙◌, ap, subst, arith}
use Rattle.std.specs.Prelude.{unsigned_abs}
use Rattle.chase_core.specs.StepLemmas.{state_locked}
use Rattle.tc_address.specs.declared.count.Count.{Count}
use Rattle.tc_address.specs.Label.{Address, IsLabel}
use Rattle.chase_core.specs.declared.command.Command.TheVariants.{Play}
use Rattle.chase_core.specs.declared.command.Master.{Master}
use Rattle.chase_core.specs.declared.mode.Mode.{Mode}
use Rattle.chase_core.specs.declared.mode.Mode.TheVariants.{Waiting, Pulling, Locked}
use Rattle.chase_core.specs.declared.command.Command.{Command}
use Rattle.chase_core.specs.NextRow.{ReadsOn}
use Rattle.chase_core.specs.declared.report.Loss.{Loss}
use Rattle.chase_core.specs.declared.report.Loss.TheVariants.{NoCode}
use Rattle.chase_core.specs.declared.report.State.TheVariants as states
use Rattle.chase_core.specs.Step.{after_command, kept, outcome_of, state_of}
use Rattle.chase_core.specs.Trace.{AreRowsOf, GoesOn, IsOnTheDay, IsSteadyFromTo, Loop, Row, Traced}
use Rattle.chase_core.specs.Trace.{after_rows, lock_bound, loop_at}
use Rattle.chase_core.specs.Trace.{starts_at, trace, traced}
use Rattle.flywheel.specs.declared.frame.Frame.{Frame}
use Rattle.flywheel.specs.GoOn.{GoOn, goes_on}
use Rattle.code_chase.specs.CodeTrace.{code_trace, master_of, row_of, rows_of}
use Rattle.code_chase.specs.Lock.{BringsNoCode, HasCauseOfLoss, HaveLabels}
use Rattle.code_chase.proofs.RowsOfFrames.{DayLaws, HasCount, are_rows, command_at, follows_at, row_at}
use Rattle.code_chase.proofs.RowsOfFrames.{row_reads_on}
use Rattle.code_chase.proofs.KindsOfALoss.{IsKind, is_cause, line_row, loop_next, none_told, outcome_kind, row_before}
use Rattle.code_chase.proofs.KindsOfALoss.{some_loss, was_locked}

-- a locked chase stays locked: the law of the closed loop
abbrev pub StaysLocked : Type 0
StaysLocked = (loop : Loop) (rows : List Row) (first last i : ℕ) (leaves line : Traced)
    → IsOnTheDay loop → AreRowsOf loop.chase.count rows → IsSteadyFromTo loop.chase.count rows first last
    → slice_get (trace loop rows) first ≡ Some leaves → leaves.report.state ≡ states.Locked
    → first ≤ i → i ≤ last → slice_get (trace loop rows) i ≡ Some line
    → (line.report.state ≡ states.Locked) × (line.report.loss ≡ None)
    × (unsigned_abs line.report.error ≤ lock_bound (i - first))

-- and so it does over a slip that is less than the window
abbrev pub HoldsOverASlip : Type 0
HoldsOverASlip = (loop : Loop) (rows : List Row) (i : ℕ) (row next : Row) (leaves line : Traced)
    → IsOnTheDay loop → AreRowsOf loop.chase.count rows → slice_get rows i ≡ Some row
    → slice_get rows (suc i) ≡ Some next
    → ReadsOn loop.chase.count row next → unsigned_abs row.slip ≤ 24
    → slice_get (trace loop rows) i ≡ Some leaves → leaves.report.state ≡ states.Locked
    → slice_get (trace loop rows) (suc i) ≡ Some line
    → (line.report.state ≡ states.Locked) × (line.report.loss ≡ None)
    × (unsigned_abs line.report.error ≤ 16 + unsigned_abs row.slip)

-- each row has its line
abbrev pub HasLine : Type 0
HasLine = (loop : Loop) (rows : List Row) (i : ℕ) (row : Row) → slice_get rows i ≡ Some row
    → slice_get (trace loop rows) i ≡ Some (traced (loop_at loop rows i) row)

-- ---- rows that go on

one_frame : (frames : Option Frame) (a b : Frame) → frames ≡ Some a → frames ≡ Some b → a ≡ b
one_frame frames a b p q = cc

-- the row behind one reads on if its frame goes on and has the count
pub reads_on_at : (laws : DayLaws) (count : Count) (bound seed : ℕ) (frames : List Frame) (i : ℕ) (row next : Row)
    (frame : Frame) → GoOn None frames →
    slice_get (rows_of count seed bound frames) i ≡ Some row
    → slice_get (rows_of count seed bound frames) (suc i) ≡ Some next →
    slice_get frames (suc i) ≡ Some frame → goes_on frame ≡ true → HasCount count frame → ReadsOn count row next
reads_on_at laws count bound seed frames i row next frame on here later there goes has =
    let at = row_at count bound seed (Some Play) frames i row here in
    let after = row_at count bound seed (Some Play) frames (suc i) next later in
    let same : after.frame ≡ frame = one_frame _ _ _ after.there there in
    let follows = follows_at None frames i at.frame frame on at.there there in
    let reads = row_reads_on laws count bound (command_at
    (Some Play) i) at.value after.value at.frame frame follows goes has in
    let next_is : row_of count bound None after.value frame ≡ next = ap (row_of count bound None after.value) (sym same)
    ∙ sym after.is in
    subst (λ r. ReadsOn count row r) next_is (subst (λ r. ReadsOn count r (row_of count bound None after.value frame))
    (sym at.is) reads)

-- and it goes on steadily if the transport keeps its bound
pub steadily : (count : Count) (row next : Row) → ReadsOn count row next → unsigned_abs row.slip ≤ 8
    → GoesOn count row next
steadily count row next on slip =
    record { no_command = on.no_command; master = on.master; reads = on.reads; steady = on.steady; slip = slip }

pub on_the_day : (laws : DayLaws) (label : Address) → IsLabel label → IsOnTheDay (starts_at label)
on_the_day laws label is = omega (arith, laws.below label is)

-- ---- the causes

mode_behind : (loop : Loop) (rows : List Row) (i : ℕ) (row next : Row) → slice_get rows i ≡ Some row
    → next.command ≡ None →
    after_command next.command (loop_at loop rows (suc i)).chase.mode ≡ Locked
    → (traced (loop_at loop rows i) row).report.state ≡ states.Locked
mode_behind loop rows i row next here none locked =
    let moved = ap (λ (l : Loop). l.chase.mode) (loop_next loop rows i row here) in
    let plain : (loop_at loop rows (suc i)).chase.mode ≡ Locked =
    subst (λ c. after_command c (loop_at loop rows (suc i)).chase.mode ≡ Locked) none locked in
    ap state_of (sym moved ∙ plain)

pub cause : (laws : DayLaws) (over : HoldsOverASlip) (has_line : HasLine) (label : Address) (seed bound : ℕ)
    (frames : List Frame) (j : ℕ)
    (line : Traced) (loss : Loss) →
    IsLabel label → HaveLabels frames → GoOn None frames → slice_get (code_trace label seed bound frames) j ≡ Some line
    → line.report.loss ≡ Some loss →
    HasCauseOfLoss label seed bound frames j loss
unfolding after_rows
cause laws over has_line label seed bound frames zero line loss is have on at loses =
    let rows = rows_of label.count seed bound frames in
    let (row, here, same) = line_row (starts_at label) rows zero line at in
    let the = row_at label.count bound seed (Some Play) frames zero row here in
    let lost = subst (λ (l : Traced). l.report.loss ≡ Some loss) same loses in
    let locked = was_locked label.count (after_command row.command Waiting) row.master (starts_at label).position
    (λ none. some_loss _ loss lost none) in
    let pulling : Pulling ≡ Locked = subst (λ (r : Row). after_command r.command Waiting ≡ Locked) the.is locked in
    absurd (cc)
cause laws over has_line label seed bound frames (suc i) line loss is have on at loses =
    let rows = rows_of label.count seed bound frames in
    let loop = starts_at label in
    let (next, later, same) = line_row loop rows (suc i) line at in
    let (row, here) = row_before rows i next later in
    let after = row_at label.count bound seed (Some Play) frames (suc i) next later in
    let lost = subst (λ (l : Traced). l.report.loss ≡ Some loss) same loses in
    let there = loop_at loop rows (suc i) in
    let locked = was_locked _ (after_command next.command there.chase.mode) next.master _
    (λ none. some_loss _ loss lost none) in
    let left = mode_behind loop rows i row next here (ap (λ (r : Row). r.command) after.is) locked in
    let plain = subst (λ (m : Mode). (outcome_of there.chase.count m next.master there.position).loss
    ≡ Some loss) locked lost in
    let kind = outcome_kind there.chase.count next.master there.position loss plain in
    let told : IsKind loss (master_of label.count after.frame) =
    subst (λ (m : Option Master). IsKind loss m) (ap (λ (r : Row). r.master) after.is) kind in
    record {
      i = i;
      behind = refl;
      frame = after.frame;
      there = after.there;
      before = row;
      at = here;
      is = is_cause label.count after.frame row loss told (λ stay.
          let reads = reads_on_at laws label.count bound seed frames i row next after.frame on here later after.there
          stay.on stay.has in
          let kept = over loop rows i row next (traced (loop_at loop rows i) row) line (on_the_day laws label is)
          (are_rows laws label.count bound seed (Some Play) frames have) here later reads stay.slip
          (has_line loop rows i row here) left at in
          some_loss line.report.loss loss loses kept.1);
    }

-- ---- no code

-- a locked chase that reads nothing and has no command says that there is no code
tells_no_code : (count : Count) (mode : Mode) (command : Option Command) (master : Option Master) (position : ℕ)
    → mode ≡ Locked → command ≡ None
    → master ≡ None → (outcome_of count (after_command command mode) master position).loss ≡ Some NoCode
tells_no_code count mode command master position locked no_command no_code = rw (locked, no_command, no_code) refl

pub no_code : (has_line : HasLine) (label : Address) (seed bound : ℕ) (frames : List Frame) (i : ℕ)
    (leaves line : Traced) (frame : Frame) →
    slice_get (code_trace label seed bound frames) i ≡ Some leaves → leaves.report.state ≡ states.Locked
    → slice_get frames (suc i) ≡ Some frame →
    BringsNoCode label.count frame → slice_get (code_trace label seed bound frames) (suc i) ≡ Some line
    → line.report.loss ≡ Some NoCode
no_code has_line label seed bound frames i leaves line frame at_leaves locked there brings at =
    let rows = rows_of label.count seed bound frames in
    let loop = starts_at label in
    let (next, later, same) = line_row loop rows (suc i) line at in
    let (row, here, same_leaves) = line_row loop rows i leaves at_leaves in
    let after = row_at label.count bound seed (Some Play) frames (suc i) next later in
    let is_frame : after.frame ≡ frame = one_frame _ _ _ after.there there in
    let mode = state_locked _ (subst (λ (l : Traced). l.report.state ≡ states.Locked) same_leaves locked) in
    let behind : (loop_at loop rows (suc i)).chase.mode ≡ Locked =
    ap (λ (l : Loop). l.chase.mode) (loop_next loop rows i row here) ∙ mode in
    let master = ap (λ (r : Row). r.master) after.is ∙ none_told label.count after.frame
    (subst (λ (f : Frame). BringsNoCode label.count f) (sym is_frame) brings) in
    let told = tells_no_code (loop_at loop rows (suc i)).chase.count
    (loop_at loop rows (suc i)).chase.mode next.command next.master
    (loop_at loop rows (suc i)).position behind (ap (λ (r : Row). r.command) after.is) master in
    ap (λ (l : Traced). l.report.loss) same ∙ told
