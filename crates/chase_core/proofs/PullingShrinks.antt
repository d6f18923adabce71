-- A row that ends Pulling takes 1,280 subframes of its error and gains 8 by the slip at most, so each one comes 1,272
-- nearer.
use Rattle.std.proofs.Common.{◌≡◌, ℕ, suc, zero, ◌+◌, ◌*◌, ◌<◌, ◌≤◌, ◌⊎◌, inl, inr, ℤ, ◌+ℤ◌, ◌-ℤ◌, refl, sym, ap, ◌∙◌}
use Rattle.std.proofs.Common.{subst, Option, Some, None, List, [], ◌∷◌, arith}
use Rattle.std.specs.Prelude.{unsigned_abs, slice_get, IfSome}
use Rattle.std.proofs.lemmas.Int.{ints, clamps}
use Rattle.std.proofs.lemmas.Grind.{common_steps}
use Rattle.chase_core.specs.StepLemmas.{pulled_quiet}
use Rattle.tc_address.specs.declared.count.Count.{Count}
use Rattle.tc_address.specs.declared.direction.Direction.{Direction}
use Rattle.tc_address.specs.Numbering.{day_length}
use Rattle.tc_address.specs.Circle.{moved}
use Rattle.transport_model.specs.Move.{day_of}
use Rattle.chase_core.specs.declared.command.Master.{Master}
use Rattle.chase_core.specs.declared.mode.Mode.{Mode}
use Rattle.chase_core.specs.declared.mode.Mode.TheVariants.{Pulling}
use Rattle.chase_core.specs.declared.outcome.Outcome.{Outcome}
use Rattle.chase_core.specs.declared.report.State.TheVariants as states
use Rattle.chase_core.specs.Step.{error_to, held, motion_of, table_row, pulled, after_command, outcome_of}
use Rattle.chase_core.specs.Trace.{Loop, Row, Traced, outcome_in, after_row, traced, trace, next_of, GoesOn, IsRowOf}
use Rattle.chase_core.specs.Trace.{lock_bound}
use Rattle.chase_core.proofs.ErrorShrinks.{error_after, frame_below, moved_below}
use Rattle.chase_core.proofs.LockIsHeld.{AreSteady, HoldsLock, SaysLocked, pulled_near, at_most, same_master}
use Rattle.chase_core.proofs.LockIsHeld.{first_line, lock_is_held}

-- the row is worked Pulling with this master, and its error is within the bound
pub record Pulls (loop : Loop) (r : Row) (bound : ℕ) : Type 0 where
  pub master : Master
  pub reads : r.master ≡ Some master
  pub inside : master.number < day_length loop.chase.count
  pub stands : loop.position < day_of loop.chase.count
  pub near : unsigned_abs (error_to loop.chase.count loop.position master.number) ≤ bound
  pub answer : outcome_in loop r ≡ pulled master.direction (error_to loop.chase.count loop.position master.number)

abbrev pulling_row : Direction → ℤ → Outcome
pulling_row direction error = table_row Pulling error (motion_of direction +ℤ held 1_280 error) None

pulled_far : (direction : Direction) (e : ℤ) → 40 < unsigned_abs e → pulled direction e ≡ pulling_row direction e
pulled_far direction e h = grind (arith, common_steps)

held_most : (e : ℤ) → unsigned_abs (held 1_280 e) ≤ 1_280
held_most e = grind (arith, ints, clamps)

near_or_far : (n bound : ℕ) → (n ≤ bound) ⊎ (bound < n)
near_or_far n bound = grind arith

below : (a b : ℕ) → a + 1_272 ≤ b → a < b
below a b p = omega arith

nearer : (a b left : ℕ) → a + 1_272 ≤ b → b ≤ left + 1_272 → a ≤ left
nearer a b left p q = omega arith

-- what a pull and the slip leave of an error
rest_of_near : (e slip : ℤ) → unsigned_abs e ≤ 1_280 → unsigned_abs slip ≤ 8
    → unsigned_abs (e -ℤ (held 1_280 e +ℤ slip)) ≤ 8
rest_of_near e slip p q = grind (arith, ints, clamps)

rest_of_far : (e slip : ℤ) → 1_280 < unsigned_abs e → unsigned_abs slip ≤ 8 → unsigned_abs (e -ℤ (held 1_280 e +ℤ slip))
    + 1_272 ≤ unsigned_abs e
rest_of_far e slip p q = grind (arith, ints, clamps)

rest_is_small : (e slip : ℤ) (left : ℕ) → unsigned_abs slip ≤ 8 → (unsigned_abs e ≤ 1_280) ⊎ (1_280 < unsigned_abs e) →
    (unsigned_abs (e -ℤ (held 1_280 e +ℤ slip)) ≤ 1_000) ⊎ (unsigned_abs (e -ℤ (held 1_280 e +ℤ slip)) < unsigned_abs e)
rest_is_small e slip left q (inl p) = inl (at_most _ 8 1_000 (rest_of_near e slip p q) (omega arith))
rest_is_small e slip left q (inr p) = inr (below _ _ (rest_of_far e slip p q))

rest_is_left : (e slip : ℤ) (left : ℕ) → 40 ≤ left → unsigned_abs slip ≤ 8 → unsigned_abs e ≤ left + 1_272 →
    (unsigned_abs e ≤ 1_280) ⊎ (1_280 < unsigned_abs e) → unsigned_abs (e -ℤ (held 1_280 e +ℤ slip)) ≤ left
rest_is_left e slip left least q near (inl p) = at_most _ 8 left (rest_of_near e slip p q) (omega arith)
rest_is_left e slip left least q near (inr p) = nearer _ _ left (rest_of_far e slip p q) near

-- the next row: the chase was left Pulling, and no command comes
answer_next : (count : Count) (mode : Mode) (r : Row) (m : Master) (p : ℕ) → mode ≡ Pulling → r.command ≡ None
    → r.master ≡ Some m →
    outcome_of count (after_command r.command mode) r.master p ≡ pulled m.direction (error_to count p m.number)
answer_next count mode r m p pulls no_command reads = rw (pulls, no_command, reads) refl

pull_next : (loop : Loop) (r next : Row) (left : ℕ) → 40 ≤ left → (h : Pulls loop r (left + 1_272)) →
    40 < unsigned_abs (error_to loop.chase.count loop.position h.master.number) → GoesOn loop.chase.count r next
    → Pulls (after_row loop r) next left
pull_next loop r next left least h far g =
    let count = loop.chase.count in
    let m = h.master in
    let e = error_to count loop.position m.number in
    let same : g.master ≡ m = same_master r m g.master h.reads g.reads in
    let reads : next.master ≡ Some (next_of count m) = subst (λ (x : Master). next.master ≡ Some (next_of count x)) same
    g.steady in
    let answer : outcome_in loop r ≡ pulling_row m.direction e = h.answer ∙ pulled_far m.direction e far in
    let stands : (after_row loop r).position ≡ moved (day_of count) loop.position
    ((motion_of m.direction +ℤ held 1_280 e) +ℤ r.slip) =
    ap (λ (o : Outcome). moved (day_of count) loop.position (o.order +ℤ r.slip)) answer in
    let less : unsigned_abs (e -ℤ (held 1_280 e +ℤ r.slip)) ≤ left = rest_is_left e r.slip left least g.slip h.near
    (near_or_far _ _) in
    let after = error_after count loop.position m.number m.direction (held 1_280 e) r.slip h.stands h.inside
    (held_most e) (at_most _ 8 24 g.slip (omega arith))
    (rest_is_small e r.slip left g.slip (near_or_far _ _)) in
    let error : error_to count (after_row loop r).position (next_of count m).number ≡ e -ℤ (held 1_280 e +ℤ r.slip) =
    ap (λ (p : ℕ). error_to count p (next_of count m).number) stands ∙ after in
    record {
      master = next_of count m;
      reads = reads;
      inside = frame_below count m.number m.direction;
      stands = subst (λ (p : ℕ). p < day_of count) (sym stands) (moved_below count loop.position _);
      near = subst (λ (z : ℤ). unsigned_abs z ≤ left) (sym error) less;
      answer = answer_next count _ next (next_of count m) _ (ap (λ (o : Outcome). o.mode) answer) g.no_command reads;
    }

-- within half a frame it locks
locks : (loop : Loop) (r : Row) (bound : ℕ) (h : Pulls loop r bound) →
    unsigned_abs (error_to loop.chase.count loop.position h.master.number) ≤ 40 → HoldsLock loop r 40
locks loop r bound h near = record {
  master = h.master;
  reads = h.reads;
  inside = h.inside;
  stands = h.stands;
  near = near;
  answer = h.answer ∙ pulled_near h.master.direction _ near;
}

-- what is known of a line i rows after one that is worked Pulling
pub record SaysPulled (n i : ℕ) (line : Traced) : Type 0 where
  pub no_loss : line.report.loss ≡ None
  pub locked : n ≤ i → line.report.state ≡ states.Locked

later : (n i : ℕ) (line : Traced) → SaysPulled n i line → SaysPulled (suc n) (suc i) line
later n i line s = record { no_loss = s.no_loss; locked = λ (p : suc n ≤ suc i). s.locked (omega arith) }

held_from : (n i : ℕ) (line : Traced) (bound : ℕ) → SaysLocked line bound → SaysPulled n i line
held_from n i line bound s = record { no_loss = s.no_loss; locked = λ _. s.locked }

first_pulls : (loop : Loop) (r : Row) (n bound : ℕ) (line : Traced) → Pulls loop r bound
    → Some (traced loop r) ≡ Some line → SaysPulled (suc n) 0 line
first_pulls loop r n bound line h e =
    let quiet : (traced loop r).report.loss ≡ None =
    ap (λ (o : Outcome). o.loss) h.answer
    ∙ pulled_quiet h.master.direction (error_to loop.chase.count loop.position h.master.number) in
    record {
      no_loss = subst (λ (l : Traced). l.report.loss ≡ None) (first_line _ line e) quiet;
      locked =
          λ (p : suc n ≤ 0). absurd (omega arith);
    }

shorter : (n : ℕ) → 40 + 1_272 * suc n ≡ (40 + 1_272 * n) + 1_272
shorter n = omega arith

nearer_by_one : (n : ℕ) →
    ((loop : Loop) (r : Row) (rows : List Row) (line : Traced) (i : ℕ) → Pulls loop r (40 + 1_272 * n)
    → AreSteady loop.chase.count r rows →
    slice_get (trace loop (r ∷ rows)) i ≡ Some line → SaysPulled n i line) →
    (loop : Loop) (r : Row) (rows : List Row) (line : Traced) (i : ℕ) (h : Pulls loop r ((40 + 1_272 * n) + 1_272))
    → AreSteady loop.chase.count r rows →
    slice_get (trace loop (r ∷ rows)) i ≡ Some line →
    (unsigned_abs (error_to loop.chase.count loop.position h.master.number) ≤ 40) ⊎
    (40 < unsigned_abs (error_to loop.chase.count loop.position h.master.number)) →
    SaysPulled (suc n) i line
unfolding AreSteady trace
nearer_by_one n rest loop r rows line i h s e (inl near) =
    held_from (suc n) i line (lock_bound i)
    (lock_is_held loop r rows line i (locks loop r ((40 + 1_272 * n) + 1_272) h near) s e)
nearer_by_one n rest loop r rows line zero h s e (inr far) = first_pulls loop r n ((40 + 1_272 * n) + 1_272) line h e
nearer_by_one n rest loop r [] line (suc i) h s e (inr far) = absurd (cc)
nearer_by_one n rest loop r (next ∷ rows) line (suc i) h s e (inr far) =
    later n i line (rest (after_row loop r) next rows line i
    (pull_next loop r next (40 + 1_272 * n) (omega arith) h far s.0) s.1 e)

pub pulling_ends_in : (n : ℕ) (loop : Loop) (r : Row) (rows : List Row) (line : Traced) (i : ℕ)
    → Pulls loop r (40 + 1_272 * n) →
    AreSteady loop.chase.count r rows → slice_get (trace loop (r ∷ rows)) i ≡ Some line → SaysPulled n i line
pulling_ends_in zero loop r rows line i h s e =
    held_from 0 i line (lock_bound i) (lock_is_held loop r rows line i (locks loop r 40 h h.near) s e)
pulling_ends_in (suc n) loop r rows line i h s e =
    let nearer = subst (λ (b : ℕ). Pulls loop r b) (shorter n) h in
    nearer_by_one n (pulling_ends_in n) loop r rows line i nearer s e (near_or_far _ 40)

-- a row that the command leaves Pulling, with a master so near
pub pulls_with : (loop : Loop) (r : Row) (m : Master) (bound : ℕ) → loop.position < day_of loop.chase.count
    → IsRowOf loop.chase.count r →
    after_command r.command loop.chase.mode ≡ Pulling → r.master ≡ Some m →
    unsigned_abs (error_to loop.chase.count loop.position m.number) ≤ bound → Pulls loop r bound
pulls_with loop r m bound p q pulls reads near = record {
  master = m;
  reads = reads;
  inside = subst (λ (x : Option Master). IfSome x (λ y. y.number < day_length loop.chase.count)) reads q;
  stands = p;
  near = near;
  answer = rw (pulls, reads) refl;
}
