-- A row that ends Locked leaves an error of at most 40. The order takes 24 of it and the slip adds at most 8, so 24
-- are left
-- in the next row, and after that the order takes all but the slip.
use Rattle.std.proofs.Common.{◌≡◌, ℕ, suc, zero, ◌+◌, ◌<◌, ◌≤◌, inl, ℤ, ◌+ℤ◌, ◌-ℤ◌, refl, sym, ap, ◌∙◌, subst, Option}
use Rattle.std.proofs.Common.{Some, None, List, [], ◌∷◌, arith}
use Rattle.std.specs.Prelude.{unsigned_abs, slice_get, IfSome}
use Rattle.std.proofs.lemmas.Int.{ints, clamps}
use Rattle.std.proofs.lemmas.Grind.{common_steps}
use Rattle.chase_core.specs.StepLemmas.{state_locked}
use Rattle.tc_address.specs.declared.count.Count.{Count}
use Rattle.tc_address.specs.declared.direction.Direction.{Direction}
use Rattle.tc_address.specs.Numbering.{day_length}
use Rattle.tc_address.specs.Circle.{moved}
use Rattle.transport_model.specs.Move.{day_of}
use Rattle.chase_core.specs.declared.command.Master.{Master}
use Rattle.chase_core.specs.declared.mode.Mode.{Mode}
use Rattle.chase_core.specs.declared.mode.Mode.TheVariants.{Waiting, Locating, Pulling, Locked}
use Rattle.chase_core.specs.declared.outcome.Outcome.{Outcome}
use Rattle.chase_core.specs.declared.report.State.TheVariants as states
use Rattle.chase_core.specs.Step.{error_to, held, motion_of, table_row, located, pulled, kept, after_command}
use Rattle.chase_core.specs.Step.{outcome_of, state_of}
use Rattle.chase_core.specs.Trace.{Loop, Row, Traced, outcome_in, after_row, traced, trace, next_of, GoesOn, IsRowOf}
use Rattle.chase_core.specs.Trace.{lock_bound}
use Rattle.chase_core.specs.NextRow.{ReadsOn}
use Rattle.chase_core.proofs.ErrorShrinks.{error_after, frame_below, moved_below}

-- each of the rows after a first one goes on steadily from the one before it
unfoldable pub AreSteady : Count → Row → List Row → Type 0
AreSteady count row [] = Unit {0}
AreSteady count row (next ∷ rows) = GoesOn count row next × AreSteady count next rows

-- what a row that ends Locked answers
abbrev pub locked_row : Direction → ℤ → Outcome
locked_row direction error = table_row Locked error (motion_of direction +ℤ held 24 error) None

-- the row is worked with this master, ends Locked, and its error is within the bound
pub record HoldsLock (loop : Loop) (r : Row) (bound : ℕ) : Type 0 where
  pub master : Master
  pub reads : r.master ≡ Some master
  pub inside : master.number < day_length loop.chase.count
  pub stands : loop.position < day_of loop.chase.count
  pub near : unsigned_abs (error_to loop.chase.count loop.position master.number) ≤ bound
  pub answer : outcome_in loop r ≡ locked_row master.direction (error_to loop.chase.count loop.position master.number)

-- within half a frame a chase that follows ends Locked
pub pulled_near : (direction : Direction) (e : ℤ) → unsigned_abs e ≤ 40 → pulled direction e ≡ locked_row direction e
pulled_near direction e h = grind (arith, common_steps)

kept_near : (direction : Direction) (e : ℤ) → unsigned_abs e ≤ 40 → kept direction e ≡ locked_row direction e
kept_near direction e h = grind (arith, common_steps)

-- and only there
pulled_locked : (direction : Direction) (e : ℤ) → (pulled direction e).mode ≡ Locked → unsigned_abs e ≤ 40
pulled_locked direction e h = grind (arith, common_steps)

kept_locked : (direction : Direction) (e : ℤ) → (kept direction e).mode ≡ Locked → unsigned_abs e ≤ 40
kept_locked direction e h = grind (arith, common_steps)

located_unlocked : (n : ℕ) (e : ℤ) → (located n e).mode ≡ Locked → ⊥
located_unlocked n e h = grind (arith, common_steps)

held_small : (e : ℤ) → unsigned_abs (held 24 e) ≤ 1_280
held_small e = grind (arith, ints, clamps)

-- what the order and the slip leave of an error
rest_of_half : (e slip : ℤ) → unsigned_abs e ≤ 40 → unsigned_abs slip ≤ 8 → unsigned_abs (e -ℤ (held 24 e +ℤ slip)) ≤ 24
rest_of_half e slip p q = grind (arith, ints, clamps)

rest_of_slip : (e slip : ℤ) → unsigned_abs e ≤ 24 → unsigned_abs slip ≤ 8 → unsigned_abs (e -ℤ (held 24 e +ℤ slip)) ≤ 8
rest_of_slip e slip p q = grind (arith, ints, clamps)

-- and at any slip
rest_wide : (e slip : ℤ) → unsigned_abs e ≤ 40 → unsigned_abs (e -ℤ (held 24 e +ℤ slip)) ≤ 16 + unsigned_abs slip
rest_wide e slip p = grind (arith, ints, clamps)

-- the next row: the chase was left Locked, no command comes, and the master is near
answer_next : (count : Count) (mode : Mode) (r : Row) (m : Master) (p : ℕ) → mode ≡ Locked → r.command ≡ None
    → r.master ≡ Some m →
    unsigned_abs (error_to count p m.number) ≤ 40 →
    outcome_of count (after_command r.command mode) r.master p ≡ locked_row m.direction (error_to count p m.number)
answer_next count mode r m p locked no_command reads near =
    rw (locked, no_command, reads) (kept_near m.direction (error_to count p m.number) near)

pub same_master : (r : Row) (m n : Master) → r.master ≡ Some m → r.master ≡ Some n → n ≡ m
same_master r m n p q = cc

pub at_most : (a b c : ℕ) → a ≤ b → b ≤ c → a ≤ c
at_most a b c p q = omega arith

hold_next : (loop : Loop) (r next : Row) (bound left : ℕ) → left ≤ 40 → unsigned_abs r.slip ≤ 24 →
    ((e : ℤ) → unsigned_abs e ≤ bound → unsigned_abs (e -ℤ (held 24 e +ℤ r.slip)) ≤ left) →
    HoldsLock loop r bound → ReadsOn loop.chase.count r next → HoldsLock (after_row loop r) next left
hold_next loop r next bound left small slip rest h g =
    let count = loop.chase.count in
    let m = h.master in
    let e = error_to count loop.position m.number in
    let same : g.master ≡ m = same_master r m g.master h.reads g.reads in
    let reads : next.master ≡ Some (next_of count m) = subst (λ (x : Master). next.master ≡ Some (next_of count x)) same
    g.steady in
    let stands : (after_row loop r).position ≡ moved (day_of count) loop.position
    ((motion_of m.direction +ℤ held 24 e) +ℤ r.slip) =
    ap (λ (o : Outcome). moved (day_of count) loop.position (o.order +ℤ r.slip)) h.answer in
    let less : unsigned_abs (e -ℤ (held 24 e +ℤ r.slip)) ≤ left = rest e h.near in
    let tiny : unsigned_abs (e -ℤ (held 24 e +ℤ r.slip)) ≤ 1_000 = at_most (unsigned_abs (e -ℤ (held 24 e +ℤ r.slip)))
    left 1_000 less (omega arith) in
    let after = error_after count loop.position m.number m.direction (held 24 e) r.slip h.stands h.inside (held_small e)
    slip (inl tiny) in
    let error : error_to count (after_row loop r).position (next_of count m).number ≡ e -ℤ (held 24 e +ℤ r.slip) =
    ap (λ (p : ℕ). error_to count p (next_of count m).number) stands ∙ after in
    let near : unsigned_abs (error_to count (after_row loop r).position (next_of count m).number) ≤ left =
    subst (λ (z : ℤ). unsigned_abs z ≤ left) (sym error) less in
    record {
      master = next_of count m;
      reads = reads;
      inside = frame_below count m.number m.direction;
      stands = subst (λ (p : ℕ). p < day_of count) (sym stands) (moved_below count loop.position _);
      near = near;
      answer = answer_next count _ next (next_of count m) _ (ap (λ (o : Outcome). o.mode) h.answer) g.no_command reads
          (at_most _ left 40 near small);
    }

-- a row that goes on reads on
reads_on : (count : Count) (r next : Row) → GoesOn count r next → ReadsOn count r next
reads_on count r next g = record { no_command = g.no_command; master = g.master; reads = g.reads; steady = g.steady }

-- a row that ends Locked had a master within half a frame
holds_in : (loop : Loop) (r : Row) (mode : Mode) (master : Option Master)
    → outcome_in loop r ≡ outcome_of loop.chase.count mode master loop.position →
    r.master ≡ master → loop.position < day_of loop.chase.count
    → IfSome master (λ m. m.number < day_length loop.chase.count) →
    (outcome_of loop.chase.count mode master loop.position).mode ≡ Locked → HoldsLock loop r 40
holds_in loop r Waiting master e reads p q s = absurd (cc)
holds_in loop r (Locating n) master e reads p q s =
    absurd (located_unlocked n (error_to loop.chase.count loop.position n) s)
holds_in loop r Pulling None e reads p q s = absurd (cc)
holds_in loop r Pulling (Some m) e reads p q s =
    let near = pulled_locked m.direction (error_to loop.chase.count loop.position m.number) s in
    record {
      master = m;
      reads = reads;
      inside = q;
      stands = p;
      near = near;
      answer = e
          ∙ pulled_near m.direction _ near;
    }
holds_in loop r Locked None e reads p q s = absurd (cc)
holds_in loop r Locked (Some m) e reads p q s =
    let near = kept_locked m.direction (error_to loop.chase.count loop.position m.number) s in
    record { master = m; reads = reads; inside = q; stands = p; near = near; answer = e ∙ kept_near m.direction _ near }

pub holds_lock : (loop : Loop) (r : Row) → loop.position < day_of loop.chase.count → IsRowOf loop.chase.count r →
    (traced loop r).report.state ≡ states.Locked → HoldsLock loop r 40
holds_lock loop r p q s = holds_in loop r (after_command r.command loop.chase.mode) r.master refl refl p q
    (state_locked _ s)

-- what the line of such a row says
pub record SaysLocked (line : Traced) (bound : ℕ) : Type 0 where
  pub locked : line.report.state ≡ states.Locked
  pub no_loss : line.report.loss ≡ None
  pub near : unsigned_abs line.report.error ≤ bound

pub says_locked : (loop : Loop) (r : Row) (bound : ℕ) → HoldsLock loop r bound → SaysLocked (traced loop r) bound
says_locked loop r bound h = record {
  locked = ap (λ (o : Outcome). state_of o.mode) h.answer;
  no_loss = ap (λ (o : Outcome). o.loss) h.answer;
  near = subst (λ (z : ℤ). unsigned_abs z ≤ bound) (sym (ap (λ (o : Outcome). o.error) h.answer)) h.near;
}

next_half : (loop : Loop) (r next : Row) → HoldsLock loop r 40 → GoesOn loop.chase.count r next
    → HoldsLock (after_row loop r) next 24
next_half loop r next h g =
    hold_next loop r next 40 24 (omega arith) (at_most _ 8 24 g.slip (omega arith))
    (λ e near. rest_of_half e r.slip near g.slip) h (reads_on _ r next g)

next_slip : (loop : Loop) (r next : Row) (bound : ℕ) → bound ≤ 24 →
    HoldsLock loop r bound → GoesOn loop.chase.count r next → HoldsLock (after_row loop r) next 8
next_slip loop r next bound small h g =
    hold_next loop r next bound 8 (omega arith) (at_most _ 8 24 g.slip (omega arith))
    (λ e near. rest_of_slip e r.slip (at_most _ bound 24 near small) g.slip) h (reads_on _ r next g)

-- a slip of 24 subframes costs no lock
pub next_wide : (loop : Loop) (r next : Row) → unsigned_abs r.slip ≤ 24 → HoldsLock loop r 40
    → ReadsOn loop.chase.count r next →
    HoldsLock (after_row loop r) next (16 + unsigned_abs r.slip)
next_wide loop r next slip h g =
    hold_next loop r next 40 (16 + unsigned_abs r.slip) (omega (arith, slip)) slip (λ e near. rest_wide e r.slip near) h
    g

-- the first line is that of the first row
pub first_line : (line other : Traced) → Some line ≡ Some other → line ≡ other
first_line line other e = cc

-- once the slip alone is left, nothing else comes
stays : (loop : Loop) (r : Row) (rows : List Row) (line : Traced) (i : ℕ) → HoldsLock loop r 8
    → AreSteady loop.chase.count r rows →
    slice_get (trace loop (r ∷ rows)) i ≡ Some line → SaysLocked line 8
unfolding AreSteady trace
stays loop r rows line zero h s e = subst (λ (l : Traced). SaysLocked l 8) (first_line _ line e)
    (says_locked loop r 8 h)
stays loop r [] line (suc i) h s e = absurd (cc)
stays loop r (next ∷ rows) line (suc i) h s e = stays (after_row loop r) next rows line i
    (next_slip loop r next 8 (omega arith) h s.0) s.1 e

-- each line from a locked row on, with its bound
pub lock_is_held : (loop : Loop) (r : Row) (rows : List Row) (line : Traced) (i : ℕ) → HoldsLock loop r 40
    → AreSteady loop.chase.count r rows →
    slice_get (trace loop (r ∷ rows)) i ≡ Some line → SaysLocked line (lock_bound i)
unfolding AreSteady trace
lock_is_held loop r rows line zero h s e = subst (λ (l : Traced). SaysLocked l 40) (first_line _ line e)
    (says_locked loop r 40 h)
lock_is_held loop r [] line (suc i) h s e = absurd (cc)
lock_is_held loop r (next ∷ rows) line (suc zero) h s e =
    subst (λ (l : Traced). SaysLocked l 24) (first_line _ line e)
    (says_locked (after_row loop r) next 24 (next_half loop r next h s.0))
lock_is_held loop r (next ∷ []) line (suc (suc i)) h s e = absurd (cc)
lock_is_held loop r (next ∷ third ∷ rows) line (suc (suc i)) h s e =
    let half = next_half loop r next h s.0 in
    stays (after_row (after_row loop r) next) third rows line i
    (next_slip (after_row loop r) next third 24 (omega arith) half s.1.0) s.1.1 e
