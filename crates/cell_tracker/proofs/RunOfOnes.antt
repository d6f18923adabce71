-- A run of even ones in a tape: its halves, what is kept behind its last four, where it is in a recording, and the
-- recording's own stretch there.
use Rattle.std.proofs.Common.{◌≡◌, ℕ, ◌+◌, ◌-◌, ◌*◌, ◌<◌, ◌≤◌, List, [], ◌∷◌, ◌++◌, length, drop}
use Rattle.std.proofs.Common.{get_or}
use Rattle.std.proofs.Common.{None, refl, ap, ap₂, subst, sym, ◌∙◌, arith, append_assoc}
use Rattle.std.proofs.Common.{length-append}
use Rattle.std.proofs.lemmas.List.{drop_at}
use Rattle.std.proofs.lemmas.Grind.{flat_map-append}
use Rattle.biphase.specs.declared.profile.Profile.TheVariants.{Rough}
use Rattle.biphase.specs.declared.cell.Cell.{Cell}
use Rattle.biphase.specs.declared.cell.Cell.TheVariants.{Zero, One}
use Rattle.biphase.specs.Tolerance.{kept_at_lock}
use Rattle.biphase.specs.Chain.{intervals_of, flat, kept_after, Follow}
use Rattle.biphase.specs.Zeros.{IsZeroAt}
use Rattle.cell_tracker.specs.ChainPiece.{IsPiece, cells_between, cells_from}
use Rattle.cell_tracker.specs.EvenRun.{AreEvenOnes, IsEvenRun}
use Rattle.cell_tracker.specs.Stretch.{Stretch, end_of, IsBreak, IsStretch}
use Rattle.cell_tracker.proofs.CellsOfAPiece.{all_between, from_any_low, from_low}
use Rattle.cell_tracker.proofs.RunCells.{kept_ones, AreEvenHalves}
use Rattle.cell_tracker.proofs.KeptStretch.{cells_at_zero, stretch_at_zero}
use Rattle.cell_tracker.proofs.LocalStretch.{locally, NoneFits}

-- ---- the ones of the run

pub halves_of : (even : ℕ) (ones : List Cell) → AreEvenOnes even ones → AreEvenHalves even (flat ones)
halves_of even [] are = tt
halves_of even (Zero x ∷ ones) are = absurd are
halves_of even (One a b ∷ ones) are = (are.0, (are.1, halves_of even ones are.2))

pub two_each : (even : ℕ) (ones : List Cell) → AreEvenOnes even ones → length (flat ones) ≡ 2 * length ones
two_each even [] are = refl
two_each even (Zero x ∷ ones) are = absurd are
two_each even (One a b ∷ ones) are = omega (arith, two_each even ones are.2)

-- the last four of the ones, and what is kept of them
pub record LastFour (ones : List Cell) : Type 0 where
  pub older : List Cell
  pub a : ℕ
  pub b : ℕ
  pub c : ℕ
  pub d : ℕ
  pub e : ℕ
  pub f : ℕ
  pub g : ℕ
  pub h : ℕ
  pub are : ones ≡ older ++ (One a b ∷ One c d ∷ One e f ∷ One g h ∷ [])

pub last_four : (even : ℕ) (ones : List Cell) → AreEvenOnes even ones → 4 ≤ length ones → LastFour ones
last_four even [] are four = absurd (omega (arith, four))
last_four even (Zero x ∷ ones) are four = absurd are
last_four even (One a b ∷ []) are four = absurd (omega (arith, four))
last_four even (One a b ∷ Zero x ∷ ones) are four = absurd are.2
last_four even (One a b ∷ One c d ∷ []) are four = absurd (omega (arith, four))
last_four even (One a b ∷ One c d ∷ Zero x ∷ ones) are four = absurd are.2.2
last_four even (One a b ∷ One c d ∷ One e f ∷ []) are four = absurd (omega (arith, four))
last_four even (One a b ∷ One c d ∷ One e f ∷ Zero x ∷ ones) are four = absurd are.2.2.2
last_four even (One a b ∷ One c d ∷ One e f ∷ One g h ∷ []) are four = record {
  older = [];
  a = a;
  b = b;
  c = c;
  d = d;
  e = e;
  f = f;
  g = g;
  h = h;
  are = refl;
}
last_four even (One a b ∷ One c d ∷ One e f ∷ One g h ∷ more ∷ ones) are four =
    let later = last_four even (One c d ∷ One e f ∷ One g h ∷ more ∷ ones) are.2 (omega arith) in
    record {
      older = One a b ∷ later.older;
      a = later.a;
      b = later.b;
      c = later.c;
      d = later.d;
      e = later.e;
      f = later.f;
      g = later.g;
      h = later.h;
      are = ap (λ (cs : List Cell). One a b ∷ cs) later.are;
    }

-- the last eight of two lists of which one ends in the other are the same
pub same_last : (front other : List ℕ) (a b c d e f g h p q r s t u v w : ℕ)
    → front ++ (a ∷ b ∷ c ∷ d ∷ e ∷ f ∷ g ∷ h ∷ []) ≡ other ++ (p ∷ q ∷ r ∷ s ∷ t ∷ u ∷ v ∷ w ∷ [])
    → kept_ones a b c d e f g h ≡ kept_ones p q r s t u v w
same_last front other a b c d e f g h p q r s t u v w same =
    let eight = a ∷ b ∷ c ∷ d ∷ e ∷ f ∷ g ∷ h ∷ [] in
    let others = p ∷ q ∷ r ∷ s ∷ t ∷ u ∷ v ∷ w ∷ [] in
    let long : length front ≡ length other =
    omega (arith, ap length same, length-append front eight, length-append other others) in
    let last : eight ≡ others =
    sym (drop_at front eight (length front) refl) ∙ ap (drop (length front)) same
    ∙ drop_at other others (length front) (sym long) in
    let one : a + b ≡ p + q = cc in
    let two : c + d ≡ r + s = cc in
    let three : e + f ≡ t + u = cc in
    let four : g + h ≡ v + w = cc in
    cc

-- no zero is among them
pub none_among : (even x whole : ℕ) (mid ones rest after : List Cell) → AreEvenOnes even ones
    → mid ++ Zero x ∷ rest ≡ ones ++ Zero whole ∷ after → length (flat mid) < length (flat ones) → ⊥
none_among even x whole mid [] rest after are same less = omega (arith, less)
none_among even x whole mid (Zero y ∷ ones) rest after are same less = are
none_among even x whole [] (One a b ∷ ones) rest after are same less = cc
none_among even x whole (cell ∷ mid) (One a b ∷ ones) rest after are same less =
    let head : cell ≡ One a b = cc in
    let tail : mid ++ Zero x ∷ rest ≡ ones ++ Zero whole ∷ after = cc in
    let long : length (intervals_of cell) ≡ 2 = ap (λ (c : Cell). length (intervals_of c)) head in
    none_among even x whole mid ones rest after are.2 tail
    (omega (arith, less, long, length-append (intervals_of cell) (flat mid)))

-- ---- where the run is

-- the place of the zero before the run
abbrev pub zero_before : (kept : List ℕ) (tape : List Cell) (cut end : ℕ) → IsEvenRun kept tape cut end → ℕ
zero_before kept tape cut end run = length (flat run.before) - cut

pub first_zero : (kept : List ℕ) (tape : List Cell) (cut end : ℕ) (run : IsEvenRun kept tape cut end)
    → IsZeroAt tape (cut + zero_before kept tape cut end run) run.first
first_zero kept tape cut end run =
    let within = run.within in
    record {
      before = run.before;
      after = run.ones ++ Zero run.whole ∷ run.after;
      are = run.are;
      place = omega (arith, within);
    }

pub last_zero : (kept : List ℕ) (tape : List Cell) (cut end : ℕ) (run : IsEvenRun kept tape cut end)
    → IsZeroAt tape (cut + end) run.whole
last_zero kept tape cut end run =
    let front = Zero run.first ∷ run.ones in
    record {
      before = run.before ++ front;
      after = run.after;
      are = run.are ∙ sym (append_assoc run.before front (Zero run.whole ∷ run.after));
      place = omega (
        arith,
        run.place,
        ap length (flat_map-append intervals_of run.before front),
        length-append (flat run.before) (flat front),
      );
    }

-- the recording's cells from the zero before the run on
pub cells_of_run : (kept : List ℕ) (tape : List Cell) (cut end : ℕ) (run : IsEvenRun kept tape cut end)
    → cells_from tape cut kept (zero_before kept tape cut end run)
    ≡ Zero run.first ∷ (run.ones ++ cells_from tape cut kept end)
unfolding last_zero
cells_of_run kept tape cut end run =
    let q = zero_before kept tape cut end run in
    let high = cut + length kept in
    let front = Zero run.first ∷ run.ones in
    let behind = Zero run.whole ∷ run.after in
    let last = last_zero kept tape cut end run in
    let within = run.within in
    let inside = run.inside in
    let place = run.place in
    let long : length (flat front) ≡ 1 + length (flat run.ones) = omega arith in
    let from_end : cells_from tape cut kept end ≡ cells_between (cut + end) high (cut + end) behind =
    ap (λ (cs : List Cell). cells_from cs cut kept end) last.are
    ∙ from_low (cut + end) high 0 last.before behind (omega (arith, last.place)) in
    let ends : cut + q + length (flat front) ≡ cut + end = omega (arith, within, place, long) in
    ap (λ (cs : List Cell). cells_from cs cut kept q) run.are
    ∙ from_low (cut + q) high 0 run.before (front ++ behind) (omega (arith, within))
    ∙ all_between (cut + q) high (cut + q) front behind (omega arith) (omega (arith, ends, inside))
    ∙ ap (λ n. front ++ cells_between (cut + q) high n behind) ends
    ∙ ap (λ (cs : List Cell). front ++ cs)
    (from_any_low (cut + q) (cut + end) high (cut + end) behind (omega (arith, ends)) (omega arith) ∙ sym from_end)

-- ---- the recording's own stretch there

pub record OwnStretch (l : List ℕ) (tape : List Cell) (cut : ℕ) (kept : List ℕ) (n end first whole : ℕ)
    (ones : List Cell)
    : Type 0 where
  pub lock : ℕ
  pub before_run : lock + 1 + length (flat ones) ≡ n + end
  pub is : IsStretch Rough l
      (record { lock = lock; cells = Zero first ∷ (ones ++ cells_from tape cut kept end); broken_at = None })
  pub behind : List Cell
  pub cells_end : cells_from tape cut kept end ≡ Zero whole ∷ behind
  pub rest : List ℕ
  pub there : drop lock l ≡ first ∷ (flat (ones ++ Zero whole ∷ behind) ++ rest)
  pub follow : Follow Rough (kept_at_lock Rough first) (ones ++ Zero whole ∷ behind)
  pub none : NoneFits Rough (kept_after Rough (kept_at_lock Rough first) (ones ++ Zero whole ∷ behind)) rest
  pub broken : IsBreak Rough (kept_after Rough (kept_at_lock Rough first) (ones ++ Zero whole ∷ behind))
      (lock + 1 + length (flat (ones ++ Zero whole ∷ behind))) rest None

pub own_stretch : (before kept : List ℕ) (tape : List Cell) (cut end : ℕ) (run : IsEvenRun kept tape cut end)
    → IsPiece Rough kept tape cut
    → OwnStretch (before ++ kept) tape cut kept (length before) end run.first run.whole run.ones
own_stretch before kept tape cut end run piece =
    let l = before ++ kept in
    let n = length before in
    let q = zero_before kept tape cut end run in
    let within = run.within in
    let inside = run.inside in
    let place = run.place in
    let found = stretch_at_zero Rough before kept tape cut q run.first piece (first_zero kept tape cut end run)
    (omega (arith, within, inside, place)) in
    let last = last_zero kept tape cut end run in
    let there_end = cells_at_zero tape last.before last.after cut end run.whole kept last.are last.place inside in
    let behind = cells_between (cut + end) (cut + length kept) (cut + end + 1) last.after in
    let cells = cells_of_run kept tape cut end run in
    let with_end : run.ones ++ cells_from tape cut kept end ≡ run.ones ++ Zero run.whole ∷ behind =
    ap (λ (cs : List Cell). run.ones ++ cs) there_end in
    let s : Stretch = record { lock = n + q; cells = cells_from tape cut kept q; broken_at = None } in
    let local = locally Rough l s found in
    let same : Zero (get_or l (n + q) 0) ∷ local.0 ≡ Zero run.first ∷ (run.ones ++ Zero run.whole ∷ behind) =
    sym local.1.cells ∙ cells ∙ ap (λ (cs : List Cell). Zero run.first ∷ cs) with_end in
    let head : get_or l (n + q) 0 ≡ run.first = cc in
    let more : local.0 ≡ run.ones ++ Zero run.whole ∷ behind = cc in
    let rest = drop (end_of s) l in
    let first_kept = kept_at_lock Rough run.first in
    let cells_behind = run.ones ++ Zero run.whole ∷ behind in
    let end_is : end_of s ≡ n + q + 1 + length (flat (run.ones ++ Zero run.whole ∷ behind)) =
    ap (λ (cs : List Cell). n + q + length (flat cs)) (cells ∙ ap (λ (cs : List Cell). Zero run.first ∷ cs) with_end)
    ∙ (omega arith) in
    record {
      lock = n + q;
      before_run = omega (arith, within, place);
      is = subst (λ (cs : List Cell). IsStretch Rough l (record { lock = n + q; cells = cs; broken_at = None })) cells
          found;
      behind = behind;
      cells_end = there_end;
      rest = rest;
      there = local.1.there ∙ ap₂ (λ (v : ℕ) (cs : List Cell). v ∷ (flat cs ++ rest)) head more;
      follow = subst (Follow Rough first_kept) more
          (subst (λ (v : ℕ). Follow Rough (kept_at_lock Rough v) local.0) head local.1.chain);
      none = subst (λ (cs : List Cell). NoneFits Rough (kept_after Rough first_kept cs) rest) more
          (subst (λ (v : ℕ). NoneFits Rough (kept_after Rough (kept_at_lock Rough v) local.0) rest) head local.1.none);
      broken = subst (λ (e : ℕ). IsBreak Rough (kept_after Rough first_kept cells_behind) e rest None) end_is
          (subst (λ (cs : List Cell). IsBreak Rough (kept_after Rough first_kept cs) (end_of s) rest None) more
          (subst (λ (v : ℕ). IsBreak Rough (kept_after Rough (kept_at_lock Rough v) local.0) (end_of s) rest None) head
          local.1.broken));
    }
