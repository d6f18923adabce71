-- Whatever comes before a recording within the tolerance, the tracker has the recording's own phase from its second
-- unequal pair on. A stretch that goes on over the first unequal pair has the greater interval of it as a zero, as the
-- recording has, and from there on its cells are the recording's.
use Rattle.std.proofs.Common.{◌≡◌, ℕ, ◌+◌, ◌-◌, ◌<◌, ◌≤◌, List, [], ◌∷◌, ◌++◌, length, Option}
use Rattle.std.proofs.Common.{Some, None, ◌⊎◌, inl, inr}
use Rattle.std.proofs.Common.{refl, ap, sym, ◌∙◌, arith, append_assoc, length-append, MatchOption}
use Rattle.std.proofs.Common.{IsSomeAnd}
use Rattle.std.proofs.lemmas.Option.{MatchOption-at_none, MatchOption-at_some}
use Rattle.std.proofs.lemmas.Bool.{cases_lt}
use Rattle.std.proofs.lemmas.List.Elements.{All-nil, All-cons}
use Rattle.std.proofs.lemmas.Grind.{flat_map-append}
use Rattle.biphase.specs.declared.profile.Profile.{Profile}
use Rattle.biphase.specs.declared.cell.Cell.{Cell}
use Rattle.biphase.specs.Tolerance.{LooksAtLast}
use Rattle.biphase.specs.Chain.{intervals_of, flat}
use Rattle.cell_tracker.specs.FoundAgain.{IsSecondLock, BreaksBy, AreFrom}
use Rattle.cell_tracker.specs.ChainPiece.{IsPiece, cells_from}
use Rattle.cell_tracker.specs.Stretch.{Stretch, IsStretch, AreStretchesFrom, AreStretches}
use Rattle.cell_tracker.proofs.KeptStretch.{lock_is_zero}
use Rattle.cell_tracker.proofs.SharesAZero.{Shares, joins, later_zero}
use Rattle.cell_tracker.proofs.WhichShare.{at_second, lock_near, shares_late}
use Rattle.cell_tracker.proofs.ShiftedPlaces.{shift_on}

-- ---- the stretches

-- a stretch that shares a zero has the recording's cells from the second pair on, and is the last
last_of_all : (profile : Profile) → LooksAtLast profile
    → (before kept : List ℕ) (tape : List Cell) (cut second q : ℕ) (s : Stretch) (more : List Stretch)
    → IsSecondLock profile kept second → IsPiece profile kept tape cut → q ≤ second
    → IsStretch profile (before ++ kept) s
    → Shares tape cut (length before) s q
    → MatchOption s.broken_at (more ≡ []) (λ place. AreStretchesFrom profile (before ++ kept) place more)
    → AreFrom (length before + second) (cells_from tape cut kept second) (s ∷ more)
last_of_all profile looks before kept tape cut second q s more is2 piece order is shares after =
    let zero_of = lock_is_zero profile kept tape cut (is2.lock.pair + 1) second piece is2.next in
    let within : second < length kept = zero_of.0 in
    let joined = joins profile looks before kept tape cut q s piece (omega arith) is shares in
    let later = later_zero tape cut q second shares.y zero_of.1.0 kept shares.zero_there zero_of.1.1 order within in
    let none : more ≡ [] =
    MatchOption-at_none (more ≡ []) (λ place. AreStretchesFrom profile
    (before ++ kept) place more) joined.open_yet after in
    record {
      earlier = [];
      last = s;
      are = ap (λ (ss : List Stretch). s ∷ ss) none;
      broken = All-nil (BreaksBy (length before + second));
      open_yet = joined.open_yet;
      older = joined.older ++ later.0;
      cells_are = joined.are ∙ ap (λ (cs : List Cell). joined.older ++ cs) later.1
          ∙ sym (append_assoc joined.older later.0 (cells_from tape cut kept second));
      place = omega (
        arith,
        joined.place,
        later.2,
        ap length (flat_map-append intervals_of joined.older later.0),
        length-append (flat joined.older) (flat later.0),
      );
    }

-- a stretch more that breaks by then
pub one_before : (from : ℕ) (cells : List Cell) (s : Stretch) (more : List Stretch) → BreaksBy from s
    → AreFrom from cells more
    → AreFrom from cells (s ∷ more)
one_before from cells s more breaks are = record {
  earlier = s ∷ are.earlier;
  last = are.last;
  are = ap (λ (ss : List Stretch). s ∷ ss) are.are;
  broken = All-cons (BreaksBy from) s are.earlier breaks are.broken;
  open_yet = are.open_yet;
  older = are.older;
  cells_are = are.cells_are;
  place = are.place;
}

-- a stretch breaks at a place at the latest, or it does not
by_or_late : (o : Option ℕ) (limit : ℕ) → ((b : ℕ) × (o ≡ Some b) × (b ≤ limit)) ⊎ ((b : ℕ) → o ≡ Some b → limit < b)
by_or_late None limit = inr (λ b some. absurd cc)
by_or_late (Some b) limit = elim (cases_lt limit b) [
  | inl late ↦ inr (λ c some. let same : b ≡ c = cc in omega arith)
  | inr early ↦ inl (b, refl, early)
]

pub breaks_by : (o : Option ℕ) (b from : ℕ) → o ≡ Some b → b ≤ from → IsSomeAnd o (λ place. place ≤ from)
breaks_by o b from some early = rw some early

pub found : (profile : Profile) → LooksAtLast profile → (before kept : List ℕ) (tape : List Cell) (cut second start : ℕ)
    (ss : List Stretch)
    (is2 : IsSecondLock profile kept second) → IsPiece profile kept tape cut → start ≤ length before + is2.next.pair
    → AreStretchesFrom profile (before ++ kept) start ss
    → AreFrom (length before + second) (cells_from tape cut kept second) ss
found profile looks before kept tape cut second start [] is2 piece low are =
    absurd (are (length before + is2.next.pair) low (shift_on profile before kept is2.next.pair is2.next.unequal))
found profile looks before kept tape cut second start (s ∷ more) is2 piece low are =
    let l = before ++ kept in
    let n = length before in
    let k2 = is2.next.pair in
    let lock = are.0 in
    let high = lock_near profile kept (is2.lock.pair + 1) second is2.next in
    let at = shift_on profile before kept k2 is2.next.unequal in
    let last = λ (shares : (q : ℕ) × (q ≤ second) × Shares tape cut n s q).
    last_of_all profile looks before kept tape cut second shares.0 s more is2 piece shares.1 are.1 shares.2 are.2 in
    elim (cases_lt lock.pair (n + k2)) [
      | inl early ↦ elim (by_or_late s.broken_at (n + k2)) [
        | inl (b, some, by) ↦ one_before (n + second) (cells_from tape cut kept second) s more
            (breaks_by s.broken_at b (n + second) some (omega arith))
            (found profile looks before kept tape cut second b more is2 piece by
            (MatchOption-at_some (more ≡ []) (λ place. AreStretchesFrom profile l place more) b some are.2))
        | inr late ↦ last
            (shares_late profile looks before kept tape cut second start s is2 piece lock are.1 early late)
      ]
      | inr past ↦ elim (cases_lt (n + k2) lock.pair) [
        | inl behind ↦ absurd (lock.none_before (n + k2) low behind at)
        | inr same ↦ last (at_second profile before kept tape cut second start s is2 piece lock are.1 (omega arith))
      ]
    ]

-- whatever comes before a recording
pub found_again : (profile : Profile) → LooksAtLast profile
    → (before kept : List ℕ) (tape : List Cell) (cut second : ℕ) (ss : List Stretch)
    → IsPiece profile kept tape cut → IsSecondLock profile kept second → AreStretches profile (before ++ kept) ss
    → AreFrom (length before + second) (cells_from tape cut kept second) ss
found_again profile looks before kept tape cut second ss piece is2 are =
    found profile looks before kept tape cut second 0 ss is2 piece (omega arith) are
