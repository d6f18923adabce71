-- A recording within the tolerance has one stretch, the tape's own, so its events are those of the tape's windows.
use Rattle.std.proofs.Common.{◌≡◌, ℕ, List, [], ◌∷◌, ◌++◌, refl, ap, sym, ◌∙◌, subst, arith, append-nil, None, Some}
use Rattle.std.proofs.Common.{Option, IsSomeAnd, inl, inr}
use Rattle.std.proofs.Common.{count_by, cond, ◌+◌, sum, take}
use Rattle.std.proofs.lemmas.List.Sums.{sum_by-append}
use Rattle.biphase.specs.declared.cell.Cell.{Cell}
use Rattle.biphase.specs.declared.profile.Profile.{Profile}
use Rattle.cell_tracker.specs.ChainPiece.{IsPiece, cells_from, stretch_of_piece}
use Rattle.cell_tracker.specs.Lock.{IsLock, HasNoLock}
use Rattle.cell_tracker.specs.Stretch.{Stretch, AreStretches}
use Rattle.tc_address.specs.declared.system.System.{System}
use Rattle.tc_address.specs.declared.direction.Direction.{Direction}
use Rattle.ltc_word.specs.Reversal.{reversed_bits}
use Rattle.direction_reader.specs.declared.event.Event.{Event}
use Rattle.direction_reader.specs.declared.event.Event.TheVariants.{Word, Refused, Lost}
use Rattle.direction_reader.specs.declared.event.Events.{Events}
use Rattle.direction_reader.specs.Candidate.{IsEventOf, AreEventsOf}
use Rattle.direction_reader.specs.Events.{is_lost, listed, event_list}
use Rattle.direction_reader.specs.Gathered.{AreEventsOfWindows, AreEventsOfStretches}
use Rattle.direction_reader.specs.Windows.{CellWindow, windows}
use Rattle.direction_reader.specs.ListEvents.{AreEvents}
use Rattle.direction_reader.specs.Tape.{TellsTheTape}
use Rattle.direction_reader.proofs.AsLists.{AreListed}
use Rattle.ltc_word.specs.SyncLemmas.{in_sync_or_not}
use Rattle.direction_reader.proofs.OneListOfEvents.{HasOneList}

-- a recording within the tolerance has one stretch, the tape's own
abbrev pub IsOneStretch : Type 0
IsOneStretch = (profile : Profile) (intervals : List ℕ) (tape : List Cell) (cut lock : ℕ)
    → IsPiece profile intervals tape cut
    → IsLock profile intervals 0 lock → AreStretches profile intervals (stretch_of_piece tape cut intervals lock ∷ [])

-- ---- no break among the events of windows

abbrev breaks : List Event → ℕ
breaks events = count_by is_lost events

breaks-append : (one two : List Event) → breaks (one ++ two) ≡ breaks one + breaks two
breaks-append one two = sum_by-append (λ (e : Event). cond (is_lost e) 1 0) one two

-- the event of a candidate is none
heard : (system : System) (direction : Direction) (bits end length : ℕ) (o : Option Event)
    → IsSomeAnd o (IsEventOf system direction bits end length) → breaks (listed o) ≡ 0
heard system direction bits end length None is = absurd is
heard system direction bits end length (Some (Word d w t n)) is = refl
heard system direction bits end length (Some (Refused d f t)) is = refl
heard system direction bits end length (Some (Lost p t)) is = absurd is

unheard : (o : Option Event) → o ≡ None → breaks (listed o) ≡ 0
unheard o none = rw none refl

both_none : (own : Events) → breaks (listed own.first) ≡ 0 → breaks (listed own.second) ≡ 0
    → breaks (event_list own) ≡ 0
both_none own first second = omega (arith, breaks-append (listed own.first) (listed own.second), first, second)

no_break_of_window : (system : System) (bits end length : ℕ) (own : Events) → AreEventsOf system bits end length own
    → breaks (event_list own) ≡ 0
no_break_of_window system bits end length own are =
    let back = reversed_bits bits in
    elim (in_sync_or_not bits) [
      | inl forward ↦ elim (in_sync_or_not back) [
        | inl backward ↦ both_none own (heard _ _ _ _ _ own.first (are.forward forward))
            (heard _ _ _ _ _ own.second (are.both forward backward))
        | inr not_back ↦ both_none own (heard _ _ _ _ _ own.first (are.forward forward))
            (unheard own.second (are.one forward not_back))
      ]
      | inr not_forward ↦ elim (in_sync_or_not back) [
        | inl backward ↦ (
            let mine = are.backward backward not_forward in
            both_none own (heard _ _ _ _ _ own.first mine.0) (unheard own.second mine.1))
        | inr not_back ↦ (
            let mine = are.none not_forward not_back in
            both_none own (unheard own.first mine.0) (unheard own.second mine.1))
      ]
    ]

no_break_of_windows : (system : System) (ws : List CellWindow) (es : List Event) → AreEventsOfWindows system ws es
    → breaks es ≡ 0
no_break_of_windows system [] es are = ap breaks are
no_break_of_windows system (w ∷ ws) es (own, rest, is, others, join) =
    omega (
      arith,
      ap breaks join,
      breaks-append (event_list own) rest,
      no_break_of_window system w.bits w.end w.length own is,
      no_break_of_windows system ws rest others,
    )

-- ---- the tape

nothing_told : (system : System) (profile : Profile) (l : List ℕ) (es : List Event) (ss : List Stretch)
    → AreStretches profile l ss
    → AreEventsOfStretches system l ss es → HasNoLock profile l 0 → es ≡ []
nothing_told system profile l es [] stretches are none = are
nothing_told system profile l es (s ∷ ss) stretches are none =
    let lock = stretches.0 in absurd (none lock.pair lock.within lock.unequal)

pub words_told : HasOneList → IsOneStretch → (system : System) (profile : Profile) (l : List ℕ) (es : List Event)
    (ss : List Stretch)
    → AreStretches profile l ss → AreEventsOfStretches system l ss es → (tape : List Cell) (cut lock : ℕ)
    → IsPiece profile l tape cut
    → IsLock profile l 0 lock → AreEventsOfWindows system (windows (sum (take lock l)) (cells_from tape cut l lock)) es
words_told one law system profile l es ss stretches are tape cut lock is at =
    let own = stretch_of_piece tape cut l lock in
    let same : ss ≡ own ∷ [] = one profile l ss (own ∷ []) stretches (law profile l tape cut lock is at) in
    let of_own : AreEventsOfStretches system l (own ∷ []) es =
    subst (λ (s : List Stretch). AreEventsOfStretches system l s es) same are in
    let windows_are = of_own.2 in
    let all : windows_are.0 ≡ es =
    sym (append-nil windows_are.0) ∙ sym windows_are.2 ∙ sym (append-nil of_own.0)
    ∙ ap (λ (e : List Event). of_own.0 ++ e) (sym of_own.3) ∙ sym of_own.4 in
    subst (λ (e : List Event). AreEventsOfWindows system
    (windows (sum (take lock l)) (cells_from tape cut l lock)) e) all windows_are.1

no_break_told : HasOneList → IsOneStretch → (system : System) (profile : Profile) (l : List ℕ) (es : List Event)
    (ss : List Stretch)
    → AreStretches profile l ss → AreEventsOfStretches system l ss es → (tape : List Cell) (cut : ℕ)
    → IsPiece profile l tape cut → breaks es ≡ 0
no_break_told one law system profile l es [] stretches are tape cut is = ap breaks are
no_break_told one law system profile l es (s ∷ ss) stretches are tape cut is =
    no_break_of_windows system _ es
    (words_told one law system profile l es (s ∷ ss) stretches are tape cut s.lock is stretches.0)

pub tells_the_tape : AreListed → HasOneList → IsOneStretch → (system : System) (profile : Profile) (l : List ℕ)
    (es : List Event) → AreEvents system profile l es → TellsTheTape system profile l es
tells_the_tape lists one law system profile l es are =
    let own = lists.gathered system profile l es are in
    record {
      nothing = nothing_told system profile l es own.0 own.1 own.2;
      words = λ tape cut lock is at. lists.cells system (sum (take lock l)) (cells_from tape cut l lock) es
          (words_told one law system profile l es own.0 own.1 own.2 tape cut lock is at);
      no_break = no_break_told one law system profile l es own.0 own.1 own.2;
    }
