-- A search goes on if no pair is unequal, and else a stretch begins at the lock.
use Rattle.biphase.specs.Tolerance.{IsFirstHalf}
use Rattle.std.proofs.Common.{◌≡◌, ◌≢◌, ℕ, ◌+◌, ◌-◌, ◌<◌, ◌≤◌, List, [], ◌∷◌, ◌++◌, length, drop, get_or, Some, None}
use Rattle.std.proofs.Common.{refl, ap, subst, sym}
use Rattle.std.proofs.Common.{◌∙◌, arith, MatchOption}
use Rattle.std.proofs.lemmas.List.{append-nil, drop-append-le, drop_more, drop_all, drop_at, length_push, get_or_push}
use Rattle.std.proofs.lemmas.List.{get_or_append_left}
use Rattle.std.proofs.lemmas.List.Elements.{All-push}
use Rattle.std.proofs.lemmas.Option.{slice_get-get_or, slice_get_within, get_or_from_slice_get}
use Rattle.biphase.specs.declared.profile.Profile.{Profile}
use Rattle.biphase.specs.Pair.{AreUnequal}
use Rattle.biphase.specs.Tolerance.{kept_at_lock}
use Rattle.biphase.specs.ToleranceLemmas.{step_is_no_zero, unequal_differ}
use Rattle.cell_tracker.specs.Lock.{IsUnequalAt, HasNoLock}
use Rattle.cell_tracker.specs.State.{HuntingState, search_from}
use Rattle.cell_tracker.specs.Stretch.{Stretch, IsBroken, IsStretch, AreStretchesFrom, AreStretches, begun, with_break}
use Rattle.cell_tracker.specs.StandsFor.{last_of, HuntingStandsFor, AtCellStandsFor, MidCellStandsFor}
use Rattle.cell_tracker.proofs.LocalStretch.{stretch_from}
use Rattle.cell_tracker.proofs.LockStays.{no_lock_on, lock_at_end}
use Rattle.cell_tracker.proofs.StretchGrows.{last_changes, no_stretch}

-- the last interval of a list with an interval at its end
pub last_of-push : (intervals : List ℕ) (x : ℕ) → last_of (intervals ++ x ∷ []) ≡ Some x
last_of-push intervals x =
    slice_get-get_or (intervals ++ x ∷ []) (length (intervals ++ x ∷ []) - 1) 0 (omega (arith, length_push intervals x))
    ∙ ap Some (get_or_push intervals x 0 (length (intervals ++ x ∷ []) - 1) (omega (arith, length_push intervals x)))

-- an interval that is the last of a list is at its place
pub last_at : (intervals : List ℕ) (z : ℕ) → last_of intervals ≡ Some z → (0 < length intervals)
    × (get_or intervals (length intervals - 1) 0 ≡ z)
last_at intervals z is = (
  omega (arith, slice_get_within intervals (length intervals - 1) z is),
  get_or_from_slice_get intervals (length intervals - 1) z 0 is,
)

-- the pair at the end of a list with one interval more
seam : (profile : Profile) (intervals : List ℕ) (z x k : ℕ) → last_of intervals ≡ Some z → k + 1 ≡ length intervals
    → (get_or (intervals ++ x ∷ []) k 0 ≡ z) × (get_or (intervals ++ x ∷ []) (k + 1) 0 ≡ x)
seam profile intervals z x k is at =
    let there = last_at intervals z is in
    let same : k ≡ length intervals - 1 = omega arith in (
      get_or_append_left intervals (x ∷ []) 0 k (omega arith) ∙ ap (λ n. get_or intervals n 0) same ∙ there.1,
      get_or_push intervals x 0 (k + 1) (sym at),
    )

-- a search leaves the stretches as they are, or has a new one behind them
stretches_then : (state : HuntingState) (intervals : List ℕ) (stretches new : List Stretch) (x : ℕ)
    → HuntingStandsFor state intervals stretches
    → ((from : ℕ) → from ≤ length intervals - 1 → HasNoLock state.profile intervals from
    → AreStretchesFrom state.profile (intervals ++ x ∷ []) from new)
    → AreStretches state.profile (intervals ++ x ∷ []) (stretches ++ new)
stretches_then state intervals stretches new x stands step =
    last_changes state.profile intervals x 0 stretches [] new (omega arith) stands.all_broken step
    (subst (AreStretches state.profile intervals) (sym (append-nil stretches)) stands.stretches_are)

-- the search goes on if the interval makes no unequal pair
hunt_on : (state : HuntingState) (intervals : List ℕ) (stretches : List Stretch) (x : ℕ)
    → HuntingStandsFor state intervals stretches
    → ((z : ℕ) → state.before ≡ Some z → ¬ AreUnequal state.profile z x)
    → HuntingStandsFor (search_from state.profile x) (intervals ++ x ∷ []) stretches
hunt_on state intervals stretches x stands equal = record {
  stretches_are = subst (AreStretches state.profile (intervals ++ x ∷ [])) (append-nil stretches)
      (stretches_then state intervals stretches [] x stands
      (λ from low none. no_lock_on state.profile intervals x from none (λ k end at.
      let z = get_or intervals (length intervals - 1) 0 in
      let last : last_of intervals ≡ Some z = slice_get-get_or intervals (length intervals - 1) 0 (omega arith) in
      let pair = seam state.profile intervals z x k last end in
      equal z (stands.before ∙ last) (rw (pair.0, pair.1) at at.1))));
  all_broken = stands.all_broken;
  before = sym (last_of-push intervals x);
}

-- so it does at the first interval
pub hunt_first : (state : HuntingState) (intervals : List ℕ) (stretches : List Stretch) (x : ℕ)
    → HuntingStandsFor state intervals stretches → state.before ≡ None
    → HuntingStandsFor (search_from state.profile x) (intervals ++ x ∷ []) stretches
hunt_first state intervals stretches x stands first = hunt_on state intervals stretches x stands (λ z before. cc)

-- and at a pair of another kind
pub hunt_equal : (state : HuntingState) (intervals : List ℕ) (stretches : List Stretch) (z x : ℕ)
    → HuntingStandsFor state intervals stretches → state.before ≡ Some z → ¬ AreUnequal state.profile z x
    → HuntingStandsFor (search_from state.profile x) (intervals ++ x ∷ []) stretches
hunt_equal state intervals stretches z x stands before equal =
    hunt_on state intervals stretches x stands (λ y also. let same : y ≡ z = cc in rw same equal)

-- an unequal pair that does not rise falls
falls : (profile : Profile) (z x : ℕ) → AreUnequal profile z x → x ≤ z → x < z
falls profile z x unequal low = let differ : z ≢ x = unequal_differ profile z x unequal in omega arith

-- a search that meets an unequal pair has a stretch at its greater interval
begins : (state : HuntingState) (intervals : List ℕ) (stretches : List Stretch) (z x : ℕ) (new : Stretch)
    → HuntingStandsFor state intervals stretches
    → state.before ≡ Some z → AreUnequal state.profile z x
    → (z < x → new.lock ≡ length intervals) → (x < z → new.lock ≡ length intervals - 1)
    → IsStretch state.profile (intervals ++ x ∷ []) new
    → MatchOption new.broken_at (no_stretch ≡ []) (HasNoLock state.profile (intervals ++ x ∷ []))
    → AreStretches state.profile (intervals ++ x ∷ []) (stretches ++ new ∷ [])
begins state intervals stretches z x new stands before unequal rising falling is after =
    let last : last_of intervals ≡ Some z = sym stands.before ∙ before in
    let there = last_at intervals z last in
    let k = length intervals - 1 in
    let end : k + 1 ≡ length intervals = omega (arith, there.0) in
    let pair = seam state.profile intervals z x k last end in
    let at : IsUnequalAt state.profile (intervals ++ x ∷ []) k =
    (omega (arith, end, length_push intervals x), rw (pair.0, pair.1) unequal) in
    stretches_then state intervals stretches (new ∷ []) x stands
    (λ from low none. (
      lock_at_end state.profile intervals x from k new.lock none low end at
          (rw (pair.0, pair.1) (λ less. rising less ∙ sym end)) (rw (pair.0, pair.1) falling),
      is,
      after,
    ))

-- what is at the end of a list with one interval more
drop_last : (intervals : List ℕ) (z x k : ℕ) → last_of intervals ≡ Some z → k + 1 ≡ length intervals
    → drop k (intervals ++ x ∷ []) ≡ z ∷ x ∷ []
drop_last intervals z x k is end =
    let there = last_at intervals z is in
    let same : k ≡ length intervals - 1 = omega arith in
    drop-append-le k intervals (x ∷ []) (omega arith)
    ∙ ap (λ xs. xs ++ x ∷ []) (drop_more intervals k 0 (omega arith)
    ∙ ap (λ y. y ∷ drop (k + 1) intervals) (ap (λ n. get_or intervals n 0) same ∙ there.1)
    ∙ ap (λ xs. z ∷ xs) (drop_all (k + 1) intervals (omega arith)))

-- no pair is past the end of a list with one interval more
pub none_past : (profile : Profile) (intervals : List ℕ) (x : ℕ)
    → HasNoLock profile (intervals ++ x ∷ []) (length intervals)
none_past profile intervals x k past at = omega (arith, at.0, length_push intervals x)

-- the interval is the first zero of a stretch
pub start_at : (state : HuntingState) (intervals : List ℕ) (stretches : List Stretch) (z x : ℕ)
    → HuntingStandsFor state intervals stretches
    → state.before ≡ Some z → AreUnequal state.profile z x → z < x
    → AtCellStandsFor (record { profile = state.profile; latest = kept_at_lock state.profile x })
    (intervals ++ x ∷ []) stretches
    (begun (length intervals) x)
start_at state intervals stretches z x stands before unequal rising = record {
  stretches_are =
      begins state intervals stretches z x (begun (length intervals) x) stands before unequal (λ _. refl)
      (λ falling. absurd (omega arith))
      (stretch_from state.profile (intervals ++ x ∷ []) (begun (length intervals) x) x [] [] (record {
        cells = refl;
        ticks = omega arith;
        chain = tt;
        there = drop_at intervals (x ∷ []) (length intervals) refl;
        none = tt;
        broken = refl;
      })) refl;
  open_yet = refl;
  ends = sym (length_push intervals x);
  kept = refl;
}

-- the interval before is the first zero of a stretch, and the interval waits
pub start_mid : (state : HuntingState) (intervals : List ℕ) (stretches : List Stretch) (z x : ℕ)
    → HuntingStandsFor state intervals stretches
    → state.before ≡ Some z → AreUnequal state.profile z x → x ≤ z
    → IsFirstHalf state.profile (kept_at_lock state.profile z) x
    → MidCellStandsFor (record { profile = state.profile; latest = kept_at_lock state.profile z; half = x })
    (intervals ++ x ∷ []) stretches
    (begun (length intervals - 1) z)
start_mid state intervals stretches z x stands before unequal low half =
    let falling : x < z = falls state.profile z x unequal low in
    let last : last_of intervals ≡ Some z = sym stands.before ∙ before in
    let there = last_at intervals z last in
    let end : length intervals - 1 + 1 ≡ length intervals = omega (arith, there.0) in
    record {
      stretches_are =
          begins state intervals stretches z x (begun (length intervals - 1) z) stands before unequal
          (λ rising. absurd (omega arith)) (λ _. refl)
          (stretch_from state.profile (intervals ++ x ∷ []) (begun (length intervals - 1) z) z [] (x ∷ []) (record {
            cells = refl;
            ticks = omega arith;
            chain = tt;
            there = drop_last intervals z x (length intervals - 1) last end;
            none = step_is_no_zero state.profile z x unequal;
            broken = (λ _. refl, λ no_half. absurd (no_half half));
          })) refl;
      open_yet = refl;
      ends = ap (λ n. n + 1) end ∙ sym (length_push intervals x);
      kept = refl;
      half = last_of-push intervals x;
    }

-- the interval before is the only zero of a stretch that breaks at the interval
pub start_broken : (state : HuntingState) (intervals : List ℕ) (stretches : List Stretch) (z x : ℕ)
    → HuntingStandsFor state intervals stretches
    → state.before ≡ Some z → AreUnequal state.profile z x → x ≤ z
    → ¬ IsFirstHalf state.profile (kept_at_lock state.profile z) x
    → HuntingStandsFor (search_from state.profile x) (intervals ++ x ∷ [])
    (stretches ++ with_break (length intervals) (begun (length intervals - 1) z) ∷ [])
start_broken state intervals stretches z x stands before unequal low no_half =
    let falling : x < z = falls state.profile z x unequal low in
    let last : last_of intervals ≡ Some z = sym stands.before ∙ before in
    let there = last_at intervals z last in
    let end : length intervals - 1 + 1 ≡ length intervals = omega (arith, there.0) in
    let new = with_break (length intervals) (begun (length intervals - 1) z) in
    record {
      stretches_are =
          begins state intervals stretches z x new stands before unequal (λ rising. absurd (omega arith)) (λ _. refl)
          (stretch_from state.profile (intervals ++ x ∷ []) new z [] (x ∷ []) (record {
            cells = refl;
            ticks = omega arith;
            chain = tt;
            there = drop_last intervals z x (length intervals - 1) last end;
            none = step_is_no_zero state.profile z x unequal;
            broken = (λ half. absurd (no_half half), λ _. ap Some (sym end));
          })) (none_past state.profile intervals x);
      all_broken = All-push IsBroken stretches new stands.all_broken refl;
      before = sym (last_of-push intervals x);
    }
