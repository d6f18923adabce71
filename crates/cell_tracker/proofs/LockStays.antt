-- An interval at the end of a list makes one new pair, so a lock stays, and a new one is at that pair.
use Rattle.std.proofs.Common.{◌≡◌, ℕ, ◌+◌, ◌<◌, ◌≤◌, List, [], ◌∷◌, ◌++◌, length, get_or, inl, inr, arith}
use Rattle.std.proofs.lemmas.Bool.{cases_lt}
use Rattle.std.proofs.lemmas.List.{get_or_append_left, length_push}
use Rattle.biphase.specs.declared.profile.Profile.{Profile}
use Rattle.cell_tracker.specs.Lock.{IsUnequalAt, HasNoLock, IsLock}

-- the pair is there before and after
pub unequal_on : (profile : Profile) (intervals : List ℕ) (x k : ℕ) → IsUnequalAt profile intervals k
    → IsUnequalAt profile (intervals ++ x ∷ []) k
unequal_on profile intervals x k at =
    let here : k < length intervals = omega arith in (
      omega (arith, length_push intervals x),
      rw (get_or_append_left intervals (x ∷ []) 0 k here, get_or_append_left intervals (x ∷ []) 0 (k + 1) at.0) at.1,
    )

pub unequal_back : (profile : Profile) (intervals : List ℕ) (x k : ℕ) → k + 1 < length intervals
    → IsUnequalAt profile (intervals ++ x ∷ []) k → IsUnequalAt profile intervals k
unequal_back profile intervals x k within at =
    let here : k < length intervals = omega arith in (
      within,
      rw (
        ← get_or_append_left intervals (x ∷ []) 0 k here,
        ← get_or_append_left intervals (x ∷ []) 0 (k + 1) within,
      ) at.1,
    )

-- a lock stays
pub lock_stays : (profile : Profile) (intervals : List ℕ) (x start lock : ℕ) → IsLock profile intervals start lock
    → IsLock profile (intervals ++ x ∷ []) start lock
lock_stays profile intervals x start lock is =
    let next : is.pair + 1 < length intervals = is.unequal.0 in
    let here : is.pair < length intervals = omega arith in
    record {
      pair = is.pair;
      within = is.within;
      unequal = unequal_on profile intervals x is.pair is.unequal;
      none_before = λ k low high at. is.none_before k low high (unequal_back profile intervals x k (omega arith) at);
      rising = rw (
        get_or_append_left intervals (x ∷ []) 0 is.pair here,
        get_or_append_left intervals (x ∷ []) 0 (is.pair + 1) next,
      ) is.rising;
      falling =
          rw (
            get_or_append_left intervals (x ∷ []) 0 is.pair here,
            get_or_append_left intervals (x ∷ []) 0 (is.pair + 1) next,
          ) is.falling;
    }

-- there is no lock if the new pair is not unequal
pub no_lock_on : (profile : Profile) (intervals : List ℕ) (x start : ℕ) → HasNoLock profile intervals start
    → ((k : ℕ) → k + 1 ≡ length intervals → ¬ IsUnequalAt profile (intervals ++ x ∷ []) k)
    → HasNoLock profile (intervals ++ x ∷ []) start
no_lock_on profile intervals x start none new k low at =
    elim (cases_lt (k + 1) (length intervals)) [
      | inl within ↦ none k low (unequal_back profile intervals x k within at)
      | inr past ↦ new k (omega (arith, at.0, length_push intervals x)) at
    ]

-- there is one if it is
pub lock_at_end : (profile : Profile) (intervals : List ℕ) (x start k lock : ℕ) → HasNoLock profile intervals start
    → start ≤ k
    → k + 1 ≡ length intervals
    → IsUnequalAt profile (intervals ++ x ∷ []) k
    → (get_or (intervals ++ x ∷ []) k 0 < get_or (intervals ++ x ∷ []) (k + 1) 0 → lock ≡ k + 1)
    → (get_or (intervals ++ x ∷ []) (k + 1) 0 < get_or (intervals ++ x ∷ []) k 0 → lock ≡ k)
    → IsLock profile (intervals ++ x ∷ []) start lock
lock_at_end profile intervals x start k lock none low last at rising falling = record {
  pair = k;
  within = low;
  unequal = at;
  none_before = λ j from below is. none j from (unequal_back profile intervals x j (omega arith) is);
  rising = rising;
  falling = falling;
}
