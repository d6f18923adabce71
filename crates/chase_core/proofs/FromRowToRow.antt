-- What holds from a first row on holds in the middle of a longer list: rows before it only bring the loop to where it
-- is,
-- and rows after it change no line.
use Rattle.std.proofs.Common.{◌≡◌, ℕ, suc, zero, ◌+◌, ◌-◌, ◌*◌, ◌<◌, ◌≤◌, refl, sym, ap, ◌∙◌, subst, Option, Some, List}
use Rattle.std.proofs.Common.{[], ◌∷◌, take, length, arith}
use Rattle.std.specs.Prelude.{unsigned_abs, slice_get, IfSome}
use Rattle.std.proofs.lemmas.Option.{same_Some}
use Rattle.tc_address.specs.declared.count.Count.{Count}
use Rattle.tc_address.specs.Numbering.{day_length}
use Rattle.transport_model.specs.Move.{day_of}
use Rattle.chase_core.specs.declared.command.Master.{Master}
use Rattle.chase_core.specs.declared.mode.Mode.TheVariants.{Pulling}
use Rattle.chase_core.specs.Step.{after_command, error_to}
use Rattle.chase_core.specs.Trace.{Loop, Row, Traced, after_row, traced, trace, IsSteadyFromTo, AreRowsOf, after_rows}
use Rattle.chase_core.specs.Trace.{loop_at, lock_bound}
use Rattle.chase_core.specs.declared.report.State.TheVariants as states
use Rattle.chase_core.proofs.ErrorShrinks.{moved_below, error_most}
use Rattle.chase_core.specs.NextRow.{ReadsOn}
use Rattle.chase_core.proofs.LockIsHeld.{AreSteady, SaysLocked, first_line, holds_lock, lock_is_held, next_wide}
use Rattle.chase_core.proofs.LockIsHeld.{says_locked}
use Rattle.chase_core.proofs.PullingShrinks.{SaysPulled, pulls_with, pulling_ends_in}

-- without the first row
steady_rest : (count : Count) (r : Row) (rows : List Row) (first last : ℕ) →
    IsSteadyFromTo count (r ∷ rows) (suc first) (suc last) → IsSteadyFromTo count rows first last
steady_rest count r rows first last h = λ i row next least most is after. h (suc i) row next (omega arith) (omega arith)
    is after

steady_after : (count : Count) (r : Row) (rows : List Row) (last : ℕ) → IsSteadyFromTo count (r ∷ rows) 0 (suc last)
    → IsSteadyFromTo count rows 0 last
steady_after count r rows last h = λ i row next least most is after. h (suc i) row next (omega arith) (omega arith) is
    after

steady_take : (count : Count) (r : Row) (rows : List Row) (last : ℕ) → IsSteadyFromTo count (r ∷ rows) 0 last
    → AreSteady count r (take last rows)
unfolding AreSteady
steady_take count r rows zero h = tt
steady_take count r [] (suc last) h = tt
steady_take count r (next ∷ rows) (suc last) h = (
  h 0 r next (omega arith) (omega arith) refl refl,
  steady_take count next rows last
      (steady_after count r (next ∷ rows) last h),
)

trace_take : (loop : Loop) (rows : List Row) (n i : ℕ) → i < n → slice_get (trace loop (take n rows)) i ≡ slice_get
    (trace loop rows) i
unfolding trace
trace_take loop [] zero i h = refl
trace_take loop [] (suc n) i h = refl
trace_take loop (r ∷ rows) zero i h = absurd (omega arith)
trace_take loop (r ∷ rows) (suc n) zero h = refl
trace_take loop (r ∷ rows) (suc n) (suc i) h = trace_take (after_row loop r) rows n i (omega arith)

after_on_the_day : (loop : Loop) (r : Row) → (after_row loop r).position < day_of loop.chase.count
after_on_the_day loop r = moved_below loop.chase.count loop.position _

-- a lock that one row of a list leaves is held by the steady rows after it
pub held_from_row : (first : ℕ) (loop : Loop) (rows : List Row) (last i : ℕ) (at_first line : Traced)
    → loop.position < day_of loop.chase.count →
    AreRowsOf loop.chase.count rows → IsSteadyFromTo loop.chase.count rows first last →
    slice_get (trace loop rows) first ≡ Some at_first → at_first.report.state ≡ states.Locked →
    first ≤ i → i ≤ last → slice_get (trace loop rows) i ≡ Some line → SaysLocked line (lock_bound (i - first))
unfolding trace
held_from_row first loop [] last i at_first line p q s e locked l m g = absurd (cc)
held_from_row zero loop (r ∷ rows) last i at_first line p q s e locked l m g =
    let first : traced loop r ≡ at_first = first_line _ at_first e in
    let holds = holds_lock loop r p (q 0 r refl)
    (subst (λ (x : Traced). x.report.state ≡ states.Locked) (sym first) locked) in
    let same : slice_get (trace loop (take (suc last) (r ∷ rows))) i ≡ Some line =
    trace_take loop (r ∷ rows) (suc last) i (omega arith) ∙ g in
    let here : SaysLocked line (lock_bound i) = lock_is_held loop r (take last rows) line i holds
    (steady_take loop.chase.count r rows last s) same in
    subst (λ (k : ℕ). SaysLocked line (lock_bound k)) (omega arith) here
held_from_row (suc first) loop (r ∷ rows) last zero at_first line p q s e locked l m g = absurd (omega arith)
held_from_row (suc first) loop (r ∷ rows) zero (suc i) at_first line p q s e locked l m g = absurd (omega arith)
held_from_row (suc first) loop (r ∷ rows) (suc last) (suc i) at_first line p q s e locked l m g =
    let here = held_from_row first (after_row loop r) rows last i at_first line (after_on_the_day loop r)
    (λ k. q (suc k))
    (steady_rest loop.chase.count r rows first last s) e locked (omega arith) (omega arith) g in
    subst (λ (k : ℕ). SaysLocked line (lock_bound k)) (omega arith) here

pub held_over_a_slip : (i : ℕ) (loop : Loop) (rows : List Row) (row next : Row) (leaves line : Traced)
    → loop.position < day_of loop.chase.count →
    AreRowsOf loop.chase.count rows → slice_get rows i ≡ Some row → slice_get rows (suc i) ≡ Some next
    → ReadsOn loop.chase.count row next →
    unsigned_abs row.slip ≤ 24 → slice_get (trace loop rows) i ≡ Some leaves → leaves.report.state ≡ states.Locked →
    slice_get (trace loop rows) (suc i) ≡ Some line → SaysLocked line (16 + unsigned_abs row.slip)
unfolding trace
held_over_a_slip zero loop [] row next leaves line p q here later reads slip e locked g = absurd (cc)
held_over_a_slip zero loop (r ∷ []) row next leaves line p q here later reads slip e locked g = absurd (cc)
held_over_a_slip zero loop (r ∷ x ∷ rows) row next leaves line p q here later reads slip e locked g =
    let count = loop.chase.count in
    let first : traced loop r ≡ leaves = first_line _ leaves e in
    let holds = holds_lock loop r p (q 0 r refl)
    (subst (λ (y : Traced). y.report.state ≡ states.Locked) (sym first) locked) in
    let is_row : row ≡ r = sym (same_Some r row here) in
    let is_next : next ≡ x = sym (same_Some x next later) in
    let on : ReadsOn count r x = subst (λ (y : Row). ReadsOn count r y) is_next
    (subst (λ (y : Row). ReadsOn count y next) is_row reads) in
    let small : unsigned_abs r.slip ≤ 24 = subst (λ (y : Row). unsigned_abs y.slip ≤ 24) is_row slip in
    let says = says_locked (after_row loop r) x (16 + unsigned_abs r.slip) (next_wide loop r x small holds on) in
    let there = subst (λ (y : Traced). SaysLocked y (16 + unsigned_abs r.slip)) (first_line _ line g) says in
    subst (λ (y : Row). SaysLocked line (16 + unsigned_abs y.slip)) (sym is_row) there
held_over_a_slip (suc i) loop [] row next leaves line p q here later reads slip e locked g = absurd (cc)
held_over_a_slip (suc i) loop (r ∷ rows) row next leaves line p q here later reads slip e locked g =
    held_over_a_slip i (after_row loop r) rows row next leaves line (after_on_the_day loop r) (λ k. q (suc k)) here
    later reads slip e locked g

-- in a locked state or none, what is said of a line further on
further : (n i first : ℕ) (line : Traced) → suc first ≤ suc i → SaysPulled n (i - first) line
    → SaysPulled n (suc i - suc first) line
further n i first line h s = subst (λ (k : ℕ). SaysPulled n k line) (omega arith) s

-- a pulling row of a list is brought near by the steady rows after it
pub pulled_from_row : (first : ℕ) (loop : Loop) (rows : List Row) (row : Row) (m : Master) (last n i : ℕ)
    (line : Traced) →
    loop.position < day_of loop.chase.count → AreRowsOf loop.chase.count rows
    → IsSteadyFromTo loop.chase.count rows first last →
    slice_get rows first ≡ Some row → after_command row.command (loop_at loop rows first).chase.mode ≡ Pulling
    → row.master ≡ Some m →
    unsigned_abs (error_to loop.chase.count (loop_at loop rows first).position m.number) ≤ 40 + 1_272 * n →
    first ≤ i → i ≤ last → slice_get (trace loop rows) i ≡ Some line → SaysPulled n (i - first) line
unfolding trace after_rows
pulled_from_row first loop [] row m last n i line p q s e pulls reads near l k g = absurd (cc)
pulled_from_row zero loop (r ∷ rows) row m last n i line p q s e pulls reads near l k g =
    let first : r ≡ row = cc in
    let h = pulls_with loop r m (40 + 1_272 * n) p (q 0 r refl)
    (subst (λ (x : Row). after_command x.command loop.chase.mode ≡ Pulling) (sym first) pulls)
    (subst (λ (x : Row). x.master ≡ Some m) (sym first) reads) near in
    let same : slice_get (trace loop (take (suc last) (r ∷ rows))) i ≡ Some line =
    trace_take loop (r ∷ rows) (suc last) i (omega arith) ∙ g in
    let here : SaysPulled n i line = pulling_ends_in n loop r (take last rows) line i h
    (steady_take loop.chase.count r rows last s) same in
    subst (λ (k : ℕ). SaysPulled n k line) (omega arith) here
pulled_from_row (suc first) loop (r ∷ rows) row m last n zero line p q s e pulls reads near l k g = absurd (omega arith)
pulled_from_row (suc first) loop (r ∷ rows) row m zero n (suc i) line p q s e pulls reads near l k g =
    absurd (omega arith)
pulled_from_row (suc first) loop (r ∷ rows) row m (suc last) n (suc i) line p q s e pulls reads near l k g =
    further n i first line l
    (pulled_from_row first (after_row loop r) rows row m last n i line (after_on_the_day loop r) (λ j. q (suc j))
    (steady_rest loop.chase.count r rows first last s) e pulls reads near (omega arith) (omega arith) g)

-- a line is that of its row
pub line_of_row : (loop : Loop) (rows : List Row) (i : ℕ) (row : Row) → slice_get rows i ≡ Some row →
    slice_get (trace loop rows) i ≡ Some (traced (loop_at loop rows i) row)
unfolding trace after_rows
line_of_row loop [] i row e = absurd (cc)
line_of_row loop (r ∷ rows) zero row e = let same : r ≡ row = cc in ap (λ (x : Row). Some (traced loop x)) same
line_of_row loop (r ∷ rows) (suc i) row e = line_of_row (after_row loop r) rows i row e

pub length-trace : (loop : Loop) (rows : List Row) → length (trace loop rows) ≡ length rows
unfolding trace
length-trace loop [] = refl
length-trace loop (r ∷ rows) = ap suc (length-trace (after_row loop r) rows)

-- no error is longer than half of the longest day
pub error_at : (first : ℕ) (loop : Loop) (rows : List Row) (row : Row) (m : Master)
    → loop.position < day_of loop.chase.count →
    AreRowsOf loop.chase.count rows → slice_get rows first ≡ Some row → row.master ≡ Some m →
    unsigned_abs (error_to loop.chase.count (loop_at loop rows first).position m.number) ≤ 103_680_000
unfolding after_rows
error_at first loop [] row m p q e reads = absurd (cc)
error_at zero loop (r ∷ rows) row m p q e reads =
    let inside : m.number < day_length loop.chase.count =
    subst (λ (x : Option Master). IfSome x (λ y. y.number < day_length loop.chase.count)) reads (q 0 row e) in
    error_most loop.chase.count loop.position m.number p inside
error_at (suc first) loop (r ∷ rows) row m p q e reads = error_at first (after_row loop r) rows row m
    (after_on_the_day loop r) (λ j. q (suc j)) e reads
