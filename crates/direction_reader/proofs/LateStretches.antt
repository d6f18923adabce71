-- Stretches that lock at the last of the first intervals of a list or later.
use Rattle.std.proofs.Common.{◌≡◌, ◌<◌, ◌≤◌, ℕ, ◌+◌, ◌-◌, List, [], ◌∷◌, ◌++◌, length, take, drop, sum}
use Rattle.std.proofs.Common.{get_or, Option, Some, None, MatchOption}
use Rattle.std.proofs.Common.{ap, arith, inl, inr, refl, subst, All}
use Rattle.std.proofs.lemmas.Bool.{cases_lt, cases_order}
use Rattle.std.proofs.lemmas.List.{length-take}
use Rattle.std.proofs.lemmas.List.{get_or_append_left}
use Rattle.std.proofs.lemmas.List.Elements.{All-nil, All-cons, All-append, All-same}
use Rattle.biphase.specs.ChainLemmas.{fewer_cells}
use Rattle.biphase.specs.declared.cell.Cell.{Cell}
use Rattle.biphase.specs.declared.cell.Cell.TheVariants.{Zero}
use Rattle.biphase.specs.declared.profile.Profile.{Profile}
use Rattle.biphase.specs.Chain.{flat, kept_of}
use Rattle.biphase.specs.ToleranceLemmas.{unequal_differ}
use Rattle.cell_tracker.specs.Lock.{HasNoLock, IsLock}
use Rattle.cell_tracker.specs.Stretch.{Stretch, IsChainFrom, IsStretch, AreStretchesFrom, end_of}
use Rattle.tc_address.specs.declared.system.System.{System}
use Rattle.direction_reader.specs.declared.event.Event.{Event}
use Rattle.direction_reader.specs.declared.event.Event.TheVariants.{Lost}
use Rattle.direction_reader.specs.Gathered.{AreEventsOfStretch, AreEventsOfStretches}
use Rattle.direction_reader.specs.Gathered.{begin_of}
use Rattle.direction_reader.specs.Windows.{windows}
use Rattle.direction_reader.specs.ListEvents.{break_events}
use Rattle.direction_reader.proofs.FindsTheTape.{sum_later, break_behind}
use Rattle.direction_reader.proofs.WindowsFrom.{IsFrom, windows_from}
use Rattle.direction_reader.proofs.LaterWindows.{late_windows}

-- ---- stretches that lock at the last of the first n intervals of a list or later

-- a chain from a lock has an interval
one_interval : (profile : Profile) (l : List ℕ) (lock : ℕ) (cells : List Cell) → IsChainFrom profile l lock cells
    → 1 ≤ length (flat cells)
one_interval profile l lock cells is =
    let first = is.first in
    let all : length (flat cells) ≡ length (flat (Zero (get_or l lock 0) ∷ first.0)) =
    ap (λ (cs : List Cell). length (flat cs)) first.1 in
    omega (arith, all)

-- a break there
pub break_from : (l : List ℕ) (n : ℕ) (place : Option ℕ) → ((p : ℕ) → place ≡ Some p → n ≤ p)
    → All (IsFrom n (sum (take n l))) (break_events l place)
break_from l n None late = All-nil (IsFrom n (sum (take n l)))
break_from l n (Some p) late =
    let from = sum (take n l) in
    All-cons (IsFrom n from) (Lost p (sum (take (p + 1) l))) []
    (late p refl, sum_later l n (p + 1) (let there = late p refl in omega arith)) (All-nil (IsFrom n from))

-- a stretch whose cells end there or later breaks there or later
late_break : (profile : Profile) (l : List ℕ) (n : ℕ) (t : Stretch) → IsStretch profile l t → n ≤ end_of t
    → (p : ℕ) → t.broken_at ≡ Some p → n ≤ p
late_break profile l n t is late p at =
    let behind = break_behind profile (kept_of profile t.cells) (end_of t)
    (drop (end_of t) l) t.broken_at p is.broken at in
    omega (arith, behind, late)

-- the events of a stretch that locks there or later
late_stretch : (profile : Profile) (system : System) (l : List ℕ) (n : ℕ) (t : Stretch) (es : List Event)
    → IsStretch profile l t
    → n ≤ t.lock + 1 → AreEventsOfStretch system l t es → All (IsFrom n (sum (take n l))) es
late_stretch profile system l n t es is late (own, are, join) =
    let from = sum (take n l) in
    let ends : (j : ℕ) → 0 ≤ j → j + 80 ≤ length t.cells → n < t.lock + length (flat (take (j + 80) t.cells)) =
    λ j _ within. omega (arith, fewer_cells (take (j + 80) t.cells), length-take (j + 80) t.cells, late) in
    let words = windows_from system n from (windows (begin_of l t) t.cells) own
    (late_windows profile l t n 0 is.chain ends) are in
    let end = one_interval profile l t.lock t.cells is.chain in
    All-same (IsFrom n from) es (own ++ break_events l t.broken_at) join
    (All-append (IsFrom n from) own (break_events l t.broken_at) words
    (break_from l n t.broken_at (late_break profile l n t is (omega (arith, end, late)))))

-- a lock is at its first pair or behind it
pub lock_behind : (profile : Profile) (l : List ℕ) (start lock : ℕ) (is : IsLock profile l start lock) → is.pair ≤ lock
lock_behind profile l start lock is = elim (cases_order (get_or l is.pair 0) (get_or l (is.pair + 1) 0)) [
  | inl same ↦ absurd (unequal_differ profile _ _ is.unequal.1 same)
  | inr (inl rises) ↦ omega (arith, is.rising rises)
  | inr (inr falls) ↦ omega (arith, is.falling falls)
]

-- a lock from a place is there or behind it
pub lock_from : (profile : Profile) (l : List ℕ) (n place lock : ℕ) → n ≤ place + 1 → IsLock profile l place lock
    → n ≤ lock + 1
lock_from profile l n place lock late is =
    let behind = lock_behind profile l place lock is in let within = is.within in omega (arith, behind, within, late)

-- the events of what comes behind a stretch
pub late_behind : (profile : Profile) (system : System) (l : List ℕ) (n : ℕ) (place : Option ℕ) (ts : List Stretch)
    (es : List Event)
    → ((p : ℕ) → place ≡ Some p → n ≤ p)
    → ((p : ℕ) → n ≤ p → AreStretchesFrom profile l p ts → All (IsFrom n (sum (take n l))) es)
    → MatchOption place (ts ≡ []) (λ p. AreStretchesFrom profile l p ts) → AreEventsOfStretches system l ts es
    → All (IsFrom n (sum (take n l))) es
late_behind profile system l n None ts es late again last are =
    let from = sum (take n l) in
    let none : es ≡ [] = subst (λ (ss : List Stretch). AreEventsOfStretches system l ss es) last are in
    All-same (IsFrom n from) es [] none (All-nil (IsFrom n from))
late_behind profile system l n (Some p) ts es late again next are = again p (late p refl) next

-- the events of stretches whose first lock is there or later
pub late_stretches : (profile : Profile) (system : System) (l : List ℕ) (n start : ℕ) (ts : List Stretch) (es : List Event)
    → ((lock : ℕ) → IsLock profile l start lock → n ≤ lock + 1) → AreStretchesFrom profile l start ts
    → AreEventsOfStretches system l ts es → All (IsFrom n (sum (take n l))) es
late_stretches profile system l n start [] es late from are =
    All-same (IsFrom n (sum (take n l))) es [] are (All-nil (IsFrom n (sum (take n l))))
late_stretches profile system l n start (t ∷ ts) es late from (own, rest, is, others, join) =
    let tick = sum (take n l) in
    let lock = late t.lock from.0 in
    let end = one_interval profile l t.lock t.cells from.1.chain in
    let again : (p : ℕ) → n ≤ p → AreStretchesFrom profile l p ts → All (IsFrom n tick) rest =
    λ p place next. late_stretches profile system l n p ts rest
    (λ k at. lock_from profile l n p k (omega arith) at) next others in
    let mine = late_stretch profile system l n t own from.1 lock is in
    let more = late_behind profile system l n t.broken_at ts rest
    (late_break profile l n t from.1 (omega (arith, end, lock))) again from.2 others in
    All-same (IsFrom n tick) es (own ++ rest) join (All-append (IsFrom n tick) own rest mine more)

-- a list with no lock from a place, with more behind it, has its lock from there at the last interval of the list or
-- later
pub late_lock : (profile : Profile) (l more : List ℕ) (start lock : ℕ) → HasNoLock profile l start
    → IsLock profile (l ++ more) start lock
    → length l ≤ lock + 1
late_lock profile l more start lock none is =
    let behind = lock_behind profile (l ++ more) start lock is in
    elim (cases_lt (is.pair + 1) (length l)) [
      | inl within ↦ absurd (none is.pair is.within (
        within,
        rw (
          ← get_or_append_left l more 0 is.pair (omega arith),
          ← get_or_append_left l more 0
              (is.pair + 1) within,
        ) is.unequal.1,
      ))
      | inr past ↦ omega (arith, behind, past)
    ]
