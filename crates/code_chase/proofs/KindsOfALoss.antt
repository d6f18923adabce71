-- Which kinds of loss there are, by the row: no code without a master, and else the window.
use Rattle.std.proofs.Common.{◌≡◌, ◌≢◌, ℕ, zero, suc, ◌≤◌, ◌⊎◌, inl, inr, Bool, true, false, nat_le, ℤ, List}
use Rattle.std.proofs.Common.{[], ◌∷◌}
use Rattle.std.proofs.Common.{Option, Some, None, slice_get, refl, sym, ◌∙◌, ap, arith}
use Rattle.std.specs.Prelude.{unsigned_abs, if◌then◌else◌}
use Rattle.std.proofs.lemmas.Bool.Decides.{nat_tests}
use Rattle.std.proofs.lemmas.Grind.{common_steps}
use Rattle.std.proofs.lemmas.Option.{same_Some}
use Rattle.chase_core.specs.StepLemmas.{pulled_quiet}
use Rattle.tc_address.specs.declared.count.Count.{Count}
use Rattle.tc_address.specs.declared.direction.Direction.{Direction}
use Rattle.tc_address.specs.Label.{Address}
use Rattle.chase_core.specs.declared.command.Master.{Master}
use Rattle.chase_core.specs.declared.mode.Mode.{Mode}
use Rattle.chase_core.specs.declared.mode.Mode.TheVariants.{Waiting, Locating, Pulling, Locked}
use Rattle.chase_core.specs.declared.report.Loss.{Loss}
use Rattle.chase_core.specs.declared.report.Loss.TheVariants.{NoCode, Window}
use Rattle.chase_core.specs.Step.{error_to, kept, located, outcome_of}
use Rattle.chase_core.specs.Trace.{Loop, Row, Traced, after_row}
use Rattle.chase_core.specs.Trace.{after_rows, loop_at}
use Rattle.chase_core.specs.Trace.{trace, traced}
use Rattle.flywheel.specs.declared.frame.Frame.{Frame}
use Rattle.flywheel.specs.declared.frame.Frame.TheVariants.{Heard, Invented, Gone}
use Rattle.flywheel.specs.Frames.{is_same_count}
use Rattle.flywheel.specs.GoOn.{goes_on}
use Rattle.code_chase.specs.CodeTrace.{master_of}
use Rattle.code_chase.specs.Lock.{BringsNoCode, HasOtherCount, IsApart, IsCauseOf}
use Rattle.code_chase.specs.Lock.{SlippedFar}
use Rattle.code_chase.proofs.RowsOfFrames.{HasCount, other_count}
use Rattle.code_chase.proofs.RowsOfFrames.{same_count}

-- ---- lines and rows

line_is : (a b : Traced) → Some a ≡ Some b → b ≡ a
line_is a b e = cc

-- each line is that of a row
pub line_row : (loop : Loop) (rows : List Row) (j : ℕ) (line : Traced) → slice_get (trace loop rows) j ≡ Some line →
    (row : Row) × (slice_get rows j ≡ Some row) × (line ≡ traced (loop_at loop rows j) row)
unfolding trace after_rows
line_row loop [] j line e = absurd (cc)
line_row loop (r ∷ rows) zero line e = (r, refl, line_is (traced loop r) line e)
line_row loop (r ∷ rows) (suc j) line e = line_row (after_row loop r) rows j line e

-- the loop behind a row
pub loop_next : (loop : Loop) (rows : List Row) (i : ℕ) (row : Row) → slice_get rows i ≡ Some row →
    loop_at loop rows (suc i) ≡ after_row (loop_at loop rows i) row
unfolding after_rows
loop_next loop [] i row e = absurd (cc)
loop_next loop (r ∷ rows) zero row e = ap (after_row loop) (same_Some r row e)
loop_next loop (r ∷ rows) (suc i) row e = loop_next (after_row loop r) rows i row e

pub row_before : (rows : List Row) (i : ℕ) (next : Row) → slice_get rows (suc i) ≡ Some next
    → (row : Row) × (slice_get rows i ≡ Some row)
row_before [] i next e = absurd (cc)
row_before (r ∷ rows) zero next e = (r, refl)
row_before (r ∷ rows) (suc i) next e = row_before rows i next e

-- a loss is some loss
pub some_loss : (told : Option Loss) (loss : Loss) → told ≡ Some loss → told ≡ None → ⊥
some_loss told loss some none = cc

-- ---- only a locked chase loses its lock

located_no_loss : (n : ℕ) (e : ℤ) → (located n e).loss ≡ None
located_no_loss n e = grind (arith, common_steps)

pub was_locked : (count : Count) (mode : Mode) (master : Option Master) (position : ℕ)
    → (outcome_of count mode master position).loss ≢ None → mode ≡ Locked
was_locked count Waiting master position loses = absurd (loses refl)
was_locked count (Locating n) master position loses =
    absurd (loses (located_no_loss n (error_to count position n)))
was_locked count Pulling None position loses = absurd (loses refl)
was_locked count Pulling (Some m) position loses =
    absurd (loses (pulled_quiet m.direction (error_to count position m.number)))
was_locked count Locked master position loses = refl

-- ---- the kind of a loss

-- no code is reported without a master, and the window with one
abbrev pub IsKind : Loss → Option Master → Type 0
IsKind NoCode master = master ≡ None
IsKind (Window error) master = (m : Master) × (master ≡ Some m)

kept_code : (direction : Direction) (e : ℤ) → (kept direction e).loss ≡ Some NoCode → ⊥
kept_code direction e told = grind (arith, common_steps)

pub outcome_kind : (count : Count) (master : Option Master) (position : ℕ) (loss : Loss)
    → (outcome_of count Locked master position).loss ≡ Some loss
    → IsKind loss master
outcome_kind count None position NoCode told = refl
outcome_kind count None position (Window e) told = absurd (cc)
outcome_kind count (Some m) position NoCode told =
    absurd (kept_code m.direction (error_to count position m.number) told)
outcome_kind count (Some m) position (Window e) told = (m, refl)

-- a frame without a master brings no code, and one with a master does
unknown : (count : Count) (label : Address) (m : Master) (b : Bool) → is_same_count label.count count ≡ b
    → (if b then Some m else None) ≡ None
    → label.count ≢ count
unknown count label m true e none = absurd (cc)
unknown count label m false e none = other_count label.count count e

no_master : (count : Count) (label : Address) (m : Master) (b : Bool) → is_same_count label.count count ≡ b
    → label.count ≢ count
    → (if b then Some m else None) ≡ None
no_master count label m true e other = absurd (other (same_count label.count count e))
no_master count label m false e other = refl

brings_none : (count : Count) (frame : Frame) → master_of count frame ≡ None → BringsNoCode count frame
brings_none count (Heard label direction joined tick) none =
    inr (unknown count label _ (is_same_count label.count count) refl none)
brings_none count (Invented label direction step tick) none =
    inr (unknown count label _ (is_same_count label.count count) refl none)
brings_none count (Gone tick) none = inl tt

pub none_told : (count : Count) (frame : Frame) → BringsNoCode count frame → master_of count frame ≡ None
none_told count (Heard label direction joined tick) (inl gone) = absurd gone
none_told count (Heard label direction joined tick) (inr other) =
    no_master count label _ (is_same_count label.count count) refl other
none_told count (Invented label direction step tick) (inl gone) = absurd gone
none_told count (Invented label direction step tick) (inr other) =
    no_master count label _ (is_same_count label.count count) refl other
none_told count (Gone tick) brings = refl

-- ---- what does not lose it

-- the frame goes on and has the count, and the slip before it was less than the window
pub record Stays (count : Count) (frame : Frame) (before : Row) : Type 0 where
  pub on : goes_on frame ≡ true
  pub has : HasCount count frame
  pub slip : unsigned_abs before.slip ≤ 24

-- what may lose it
abbrev MayLose : Count → Frame → Row → Type 0
MayLose count frame before = BringsNoCode count frame ⊎ IsApart frame ⊎ SlippedFar before

by_slip : (count : Count) (frame : Frame) (before : Row) → goes_on frame ≡ true → HasCount count frame → (b : Bool) →
    nat_le (unsigned_abs before.slip) 24 ≡ b → MayLose count frame before ⊎ Stays count frame before
by_slip count frame before on has true e = inr (record { on = on; has = has; slip = grind (arith, nat_tests) })
by_slip count frame before on has false e = let far : SlippedFar before = grind (arith, nat_tests) in
    inl (inr (inr far))

by_count : (count : Count) (frame : Frame) (label : Address) (before : Row) → goes_on frame ≡ true → (b : Bool)
    → is_same_count label.count count ≡ b →
    (label.count ≡ count → HasCount count frame) → (label.count ≢ count → HasOtherCount count frame) →
    MayLose count frame before ⊎ Stays count frame before
by_count count frame label before on true e has other =
    by_slip count frame before on (has (same_count label.count count e)) (nat_le (unsigned_abs before.slip) 24) refl
by_count count frame label before on false e has other = inl (inl (inr (other (other_count label.count count e))))

pub decide : (count : Count) (frame : Frame) (before : Row) → MayLose count frame before ⊎ Stays count frame before
decide count (Heard label direction true tick) before =
    by_count count (Heard label direction true tick) label before refl (is_same_count label.count count) refl (λ e. e)
    (λ e. e)
decide count (Heard label direction false tick) before = inl (inr (inl refl))
decide count (Invented label direction step tick) before =
    by_count count (Invented label direction step tick) label before refl (is_same_count label.count count) refl
    (λ e. e) (λ e. e)
decide count (Gone tick) before = inl (inl (inl tt))

-- so a loss of this kind has its cause
pub is_cause : (count : Count) (frame : Frame) (before : Row) (loss : Loss) → IsKind loss (master_of count frame)
    → (Stays count frame before → ⊥) →
    IsCauseOf loss count frame before
is_cause count frame before NoCode kind never = brings_none count frame kind
is_cause count frame before (Window e) kind never =
    let code : BringsNoCode count frame → ⊥ = λ none. let both : None ≡ Some kind.0 = sym (none_told count frame none)
    ∙ kind.1 in cc in (
      code,
      elim (decide count frame before) [
        | inl (inl none) ↦ absurd (code none)
        | inl (inr may) ↦ may
        | inr stay ↦ absurd (never stay)
      ],
    )
