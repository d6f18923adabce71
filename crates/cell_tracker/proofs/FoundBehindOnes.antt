-- Behind a run of even ones the tracker has the recording's own phase, whatever comes before it. A stretch that comes
-- over the run either breaks at the zero behind it at the latest, or has this zero, and what is kept there is what the
-- recording's own stretch keeps, which begins at the zero before the run. So both go on alike.
use Rattle.std.proofs.Common.{◌≡◌, ℕ, ◌+◌, ◌-◌, ◌<◌, ◌≤◌, List, [], ◌∷◌, ◌++◌, length, drop}
use Rattle.std.proofs.Common.{get_or}
use Rattle.std.proofs.Common.{None, inl, inr, ap, subst, sym, ◌∙◌, arith, append_assoc}
use Rattle.std.proofs.Common.{length-append, length-drop, MatchOption}
use Rattle.std.proofs.lemmas.Option.{MatchOption-at_none, MatchOption-at_some}
use Rattle.std.proofs.lemmas.Bool.{cases_lt, cases_order}
use Rattle.std.proofs.lemmas.List.{append_cancel_left, get_or-append-add}
use Rattle.std.proofs.lemmas.List.Elements.{All-nil}
use Rattle.std.proofs.lemmas.Grind.{flat_map-append}
use Rattle.biphase.specs.declared.profile.Profile.TheVariants.{Rough}
use Rattle.biphase.specs.declared.cell.Cell.{Cell}
use Rattle.biphase.specs.declared.cell.Cell.TheVariants.{Zero}
use Rattle.biphase.specs.Chain.{intervals_of, flat, kept_of}
use Rattle.biphase.specs.ToleranceLemmas.{unequal_differ}
use Rattle.biphase.specs.Zeros.{IsZeroAt}
use Rattle.cell_tracker.specs.ChainPiece.{IsPiece, cells_from}
use Rattle.cell_tracker.specs.EvenRun.{IsEvenRun}
use Rattle.cell_tracker.specs.FoundAgain.{BreaksBy, AreFrom}
use Rattle.cell_tracker.specs.Lock.{IsLock, IsUnequalAt}
use Rattle.cell_tracker.specs.Stretch.{Stretch, end_of, IsStretch, AreStretchesFrom, AreStretches}
use Rattle.cell_tracker.proofs.CellsOfAPiece.{front_of_front}
use Rattle.cell_tracker.proofs.FoundAgain.{breaks_by, one_before}
use Rattle.cell_tracker.proofs.SharesAZero.{later_zero}
use Rattle.cell_tracker.proofs.WhichShare.{lock_near}
use Rattle.cell_tracker.proofs.ShiftedPlaces.{shift_back, shift_on}
use Rattle.cell_tracker.proofs.KeptStretch.{lock_is_zero, pair_has_zero, stretch_at_zero}
use Rattle.cell_tracker.proofs.OneStretch.{stretch_is_one}
use Rattle.cell_tracker.proofs.StretchGrows.{end_within}
use Rattle.cell_tracker.proofs.OverTheRun.{breaks_soon, HasFrom, BreaksOrHas, over_the_run}
use Rattle.cell_tracker.proofs.BeforeTheRun.{over_it}
use Rattle.cell_tracker.proofs.RunOfOnes.{none_among, zero_before, first_zero, last_zero, own_stretch}

-- ---- the stretches

-- from a zero of the recording on to a later one
has_later : (kept : List ℕ) (tape : List Cell) (cut n q r x y : ℕ) (s : Stretch) → HasFrom tape cut kept n s q
    → IsZeroAt tape (cut + q) x → IsZeroAt tape (cut + r) y → q ≤ r → r < length kept → HasFrom tape cut kept n s r
has_later kept tape cut n q r x y s has one two order within =
    let later = later_zero tape cut q r x y kept one two order within in
    record {
      older = has.older ++ later.0;
      are = has.are ∙ ap (λ (cs : List Cell). has.older ++ cs) later.1
          ∙ sym (append_assoc has.older later.0 (cells_from tape cut kept r));
      place = omega (
        arith,
        has.place,
        later.2,
        ap length (flat_map-append intervals_of has.older later.0),
        length-append (flat has.older) (flat later.0),
      );
      open_yet = has.open_yet;
    }

-- such a stretch is the last
is_last : (l kept : List ℕ) (tape : List Cell) (cut n q : ℕ) (s : Stretch) (more : List Stretch)
    → HasFrom tape cut kept n s q
    → MatchOption s.broken_at (more ≡ []) (λ place. AreStretchesFrom Rough l place more)
    → AreFrom (n + q) (cells_from tape cut kept q) (s ∷ more)
is_last l kept tape cut n q s more has after = record {
  earlier = [];
  last = s;
  are = ap (λ (ss : List Stretch). s ∷ ss)
      (MatchOption-at_none (more ≡ []) (λ place. AreStretchesFrom Rough l place more) has.open_yet after);
  broken = All-nil (BreaksBy (n + q));
  open_yet = has.open_yet;
  older = has.older;
  cells_are = has.are;
  place = has.place;
}

-- a stretch that is locked at a zero of the recording has its cells
locked_at : (before kept : List ℕ) (tape : List Cell) (cut q x : ℕ) (s : Stretch) → IsPiece Rough kept tape cut
    → IsZeroAt tape (cut + q) x → q < length kept → IsStretch Rough (before ++ kept) s → s.lock ≡ length before + q
    → HasFrom tape cut kept (length before) s q
locked_at before kept tape cut q x s piece zero_there within is at =
    let own : Stretch = record { lock = length before + q; cells = cells_from tape cut kept q; broken_at = None } in
    let same : s ≡ own = stretch_is_one Rough (before ++ kept) s own at is
    (stretch_at_zero Rough before kept tape cut q x piece zero_there within) in
    record {
      older = [];
      are = ap (λ (t : Stretch). t.cells) same;
      place = omega (arith, at);
      open_yet = ap (λ (t : Stretch). t.broken_at) same;
    }

-- two locks at one pair are one
same_lock : (before kept : List ℕ) (start from lock second : ℕ) (is : IsLock Rough (before ++ kept) start lock)
    (next : IsLock Rough kept from second) → is.pair ≡ length before + next.pair → lock ≡ length before + second
same_lock before kept start from lock second is next same =
    let l = before ++ kept in
    let n = length before in
    let k = next.pair in
    let a = get_or kept k 0 in
    let b = get_or kept (k + 1) 0 in
    let here : get_or l is.pair 0 ≡ a = ap (λ i. get_or l i 0) same ∙ get_or-append-add before kept k 0 in
    let place : is.pair + 1 ≡ n + (k + 1) = omega (arith, same) in
    let there : get_or l (is.pair + 1) 0 ≡ b =
    ap (λ i. get_or l i 0) place ∙ get_or-append-add before kept (k + 1) 0 in
    elim (cases_order a b) [
      | inl equal ↦ absurd (unequal_differ Rough a b next.unequal.1 equal)
      | inr (inl rises) ↦ (
          let mine = is.rising (rw (here, there) rises) in
          let theirs = next.rising rises in
          omega (arith, mine, theirs, same))
      | inr (inr falls) ↦ (
          let mine = is.falling (rw (here, there) falls) in
          let theirs = next.falling falls in
          omega (arith, mine, theirs, same))
    ]

-- a first unequal pair behind the run is the recording's next
pair_is_next : (before kept : List ℕ) (start from lock second : ℕ) (is : IsLock Rough (before ++ kept) start lock)
    (next : IsLock Rough kept from second) → start ≤ length before + from → length before + from ≤ is.pair
    → is.pair ≡ length before + next.pair
pair_is_next before kept start from lock second is next low past =
    let n = length before in
    let within = next.within in
    elim (cases_order is.pair (n + next.pair)) [
      | inl same ↦ same
      | inr (inl sooner) ↦ (
          let k = is.pair - n in
          let at : is.pair ≡ n + k = omega (arith, past) in
          absurd (next.none_before k (omega (arith, at, past)) (omega (arith, at, sooner))
          (shift_back Rough before kept k (subst (λ i. IsUnequalAt Rough (before ++ kept) i) at is.unequal))))
      | inr (inr later) ↦ absurd (is.none_before (n + next.pair) (omega (arith, low, within)) later
          (shift_on Rough before kept next.pair next.unequal))
    ]

-- the recording has no zero inside the run
zero_inside : (kept : List ℕ) (tape : List Cell) (cut end : ℕ) (run : IsEvenRun kept tape cut end) (q x : ℕ)
    → IsZeroAt tape (cut + q) x → zero_before kept tape cut end run < q → q < end → ⊥
zero_inside kept tape cut end run q x zero_there behind before =
    let within = run.within in
    let place = run.place in
    let at = zero_there.place in
    let first = run.before ++ Zero run.first ∷ [] in
    let rest = run.ones ++ Zero run.whole ∷ run.after in
    let other = Zero x ∷ zero_there.after in
    let long : length (flat first) ≡ length (flat run.before) + 1 =
    ap length (flat_map-append intervals_of run.before (Zero run.first ∷ [])) ∙ length-append (flat run.before)
    (run.first ∷ []) in
    let same : first ++ rest ≡ zero_there.before ++ other =
    append_assoc run.before (Zero run.first ∷ []) rest ∙ sym run.are ∙ zero_there.are in
    let front = front_of_front first rest zero_there.before other same (omega (arith, long, at, within, behind)) in
    let tails : rest ≡ front.0 ++ other =
    append_cancel_left first rest (front.0 ++ other)
    (same ∙ ap (λ (cs : List Cell). cs ++ other) front.1 ∙ append_assoc first front.0 other) in
    let mid_long : length (flat zero_there.before) ≡ length (flat first) + length (flat front.0) =
    ap (λ (cs : List Cell). length (flat cs)) front.1 ∙ ap length (flat_map-append intervals_of first front.0)
    ∙ length-append (flat first) (flat front.0) in
    none_among run.even x run.whole front.0 run.ones zero_there.after run.after run.even_ones (sym tails)
    (omega (arith, mid_long, long, at, within, place, before))

-- so no stretch is locked there
not_inside : (before kept : List ℕ) (tape : List Cell) (cut end start lock : ℕ) (run : IsEvenRun kept tape cut end)
    → IsPiece Rough kept tape cut → IsLock Rough (before ++ kept) start lock
    → length before + zero_before kept tape cut end run < lock → lock < length before + end → ⊥
not_inside before kept tape cut end start lock run piece is behind sooner =
    let l = before ++ kept in
    let n = length before in
    let near = lock_near Rough l start lock is in
    let k = is.pair - n in
    let at : is.pair ≡ n + k = omega (arith, near.1, behind) in
    let unequal = shift_back Rough before kept k (subst (λ i. IsUnequalAt Rough l i) at is.unequal) in
    let zero_of = pair_has_zero Rough kept tape cut k piece unequal in
    let a = get_or kept k 0 in
    let b = get_or kept (k + 1) 0 in
    let here : get_or l is.pair 0 ≡ a = ap (λ i. get_or l i 0) at ∙ get_or-append-add before kept k 0 in
    let place : is.pair + 1 ≡ n + (k + 1) = omega (arith, at) in
    let there : get_or l (is.pair + 1) 0 ≡ b =
    ap (λ i. get_or l i 0) place ∙ get_or-append-add before kept (k + 1) 0 in
    elim (cases_order a b) [
      | inl equal ↦ absurd (unequal_differ Rough a b unequal.1 equal)
      | inr (inl rises) ↦ (
          let mine = is.rising (rw (here, there) rises) in
          zero_inside kept tape cut end run (k + 1) b (zero_of.0 rises) (omega (arith, mine, at, behind))
          (omega (arith, mine, at, sooner)))
      | inr (inr falls) ↦ (
          let mine = is.falling (rw (here, there) falls) in
          zero_inside kept tape cut end run k a (zero_of.1 falls) (omega (arith, mine, at, behind))
          (omega (arith, mine, at, sooner)))
    ]

-- a stretch that is locked at the zero behind the run at the latest breaks by that zero, or has it
breaks_or_has : (before kept : List ℕ) (tape : List Cell) (cut end start : ℕ) (s : Stretch)
    (run : IsEvenRun kept tape cut end) → IsPiece Rough kept tape cut → IsLock Rough (before ++ kept) start s.lock
    → IsStretch Rough (before ++ kept) s → s.lock ≤ length before + end
    → BreaksOrHas tape cut kept (length before) s end
breaks_or_has before kept tape cut end start s run piece lock is early =
    let l = before ++ kept in
    let n = length before in
    let q = zero_before kept tape cut end run in
    let within = run.within in
    let inside = run.inside in
    let place = run.place in
    let own = own_stretch before kept tape cut end run piece in
    let before_run = own.before_run in
    let lock_is : own.lock ≡ n + q = omega (arith, before_run, within, place) in
    let long : length l ≡ n + length kept = length-append before kept in
    let first = first_zero kept tape cut end run in
    let last = last_zero kept tape cut end run in
    elim (cases_order s.lock (n + end)) [
      | inl at ↦ inr (locked_at before kept tape cut end run.whole s piece last inside is at)
      | inr (inr past) ↦ absurd (omega (arith, past, early))
      | inr (inl sooner) ↦ elim (cases_order s.lock (n + q)) [
        | inl at ↦ inr (has_later kept tape cut n q end run.first run.whole s
            (locked_at before kept tape cut q run.first s piece first (omega (arith, within, place, inside)) is at)
            first last (omega (arith, within, place)) inside)
        | inr (inr behind) ↦ absurd (not_inside before kept tape cut end start s.lock run piece lock behind sooner)
        | inr (inl ahead) ↦ elim (cases_lt (end_of s + 1) (n + end)) [
          | inl soon ↦ (
              let rest = drop (end_of s) l in
              let many : length rest + end_of s ≡ length l =
              omega (arith, length-drop (end_of s) l, end_within Rough l s is) in
              inl (breaks_soon (kept_of Rough s.cells) (end_of s) (n + end) rest s.broken_at is.broken
              (omega (arith, many, soon, long, inside)) (λ less. omega (arith, many, soon, long, inside))
              (omega (arith, soon)) (λ same x others rest_is half. omega (arith, same, soon))))
          | inr late ↦ over_the_run l tape cut kept n end run.first run.whole run.ones run.even own s
              (over_it l tape cut kept n end run.first run.whole run.ones run.even own s is
              (omega (arith, lock_is, ahead))
              late run.even_ones run.many) (omega (arith, long, inside)) run.some run.even_whole run.even_ones
              (omega (arith, run.many)) late
        ]
      ]
    ]

found_behind : (before kept : List ℕ) (tape : List Cell) (cut end second start : ℕ) (ss : List Stretch)
    (run : IsEvenRun kept tape cut end) → IsPiece Rough kept tape cut → (next : IsLock Rough kept end second)
    → start ≤ length before + end → AreStretchesFrom Rough (before ++ kept) start ss
    → AreFrom (length before + second) (cells_from tape cut kept second) ss
found_behind before kept tape cut end second start [] run piece next low are =
    let within = next.within in
    absurd (are (length before + next.pair) (omega (arith, low, within))
    (shift_on Rough before kept next.pair next.unequal))
found_behind before kept tape cut end second start (s ∷ more) run piece next low are =
    let l = before ++ kept in
    let n = length before in
    let lock = are.0 in
    let near = lock_near Rough l start s.lock lock in
    let within = next.within in
    let high = lock_near Rough kept end second next in
    let zero_of = lock_is_zero Rough kept tape cut end second piece next in
    let last : HasFrom tape cut kept n s end → AreFrom (n + second) (cells_from tape cut kept second) (s ∷ more) =
    λ has. is_last l kept tape cut n second s more
    (has_later kept tape cut n end second run.whole zero_of.1.0 s has (last_zero kept tape cut end run) zero_of.1.1
    (omega (arith, within, high.0)) zero_of.0) are.2 in
    elim (cases_lt (n + end) s.lock) [
      | inl behind ↦ is_last l kept tape cut n second s more
          (locked_at before kept tape cut second zero_of.1.0 s piece zero_of.1.1 zero_of.0 are.1
          (same_lock before kept start end s.lock second lock next
          (pair_is_next before kept start end s.lock second lock next low (omega (arith, behind, near.1))))) are.2
      | inr early ↦ elim (breaks_or_has before kept tape cut end start s run piece lock are.1 early) [
        | inl (b, some, by) ↦ one_before (n + second) (cells_from tape cut kept second) s more
            (breaks_by s.broken_at b (n + second) some (omega (arith, by, within, high.0)))
            (found_behind before kept tape cut end second b more run piece next by
            (MatchOption-at_some (more ≡ []) (λ place. AreStretchesFrom Rough l place more) b some are.2))
        | inr has ↦ last has
      ]
    ]

-- whatever comes before a recording
pub found_behind_ones : (before kept : List ℕ) (tape : List Cell) (cut end second : ℕ) (ss : List Stretch)
    → IsPiece Rough kept tape cut → IsEvenRun kept tape cut end → IsLock Rough kept end second
    → AreStretches Rough (before ++ kept) ss
    → AreFrom (length before + second) (cells_from tape cut kept second) ss
found_behind_ones before kept tape cut end second ss piece run next are =
    found_behind before kept tape cut end second 0 ss run piece next (omega arith) are
