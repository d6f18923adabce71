-- A word that bits spell is the one that is there, and their first fault is that of the fields that are there. So
-- the events that are gathered of a window, of windows and of stretches are those of the lists, and the other way
-- round.
use Rattle.std.proofs.Common.{◌≡◌, ℕ, List, [], ◌∷◌, ◌++◌, true, false, Some, None, refl, ap, ap₂, sym, ◌∙◌, subst, ◌+◌}
use Rattle.std.proofs.Common.{◌-◌, length, take, drop, map, arith}
use Rattle.std.proofs.Common.{IsSomeAnd, inl, inr, append-nil}
use Rattle.std.specs.List.{flat_map, range_with_len}
use Rattle.std.specs.declared.option.Option.{Option}
use Rattle.std.proofs.lemmas.Bool.Decides.{eqb_tells}
use Rattle.biphase.specs.declared.cell.Cell.{Cell}
use Rattle.biphase.specs.declared.cell.Cell.TheVariants.{Zero, One}
use Rattle.biphase.specs.Chain.{bits}
use Rattle.biphase.specs.declared.profile.Profile.{Profile}
use Rattle.cell_tracker.specs.Stretch.{Stretch}
use Rattle.tc_address.specs.declared.system.System.{System}
use Rattle.tc_address.specs.declared.direction.Direction.{Direction}
use Rattle.tc_address.specs.declared.direction.Direction.TheVariants.{Forward, Backward}
use Rattle.tc_bits.specs.declared.fault.FieldFault.{FieldFault}
use Rattle.tc_bits.specs.Register.{number_in}
use Rattle.ltc_word.specs.declared.places.TheConstants.{SYNC, SYNC_PATTERN}
use Rattle.ltc_word.specs.declared.word.LtcWord.{LtcWord}
use Rattle.ltc_word.specs.declared.word.WordFault.TheVariants.{Field}
use Rattle.ltc_word.specs.Fault.{first_fault}
use Rattle.ltc_word.specs.Reading.{fault_in, word_in}
use Rattle.ltc_word.specs.Reversal.{ends_in_sync, reversed_bits}
use Rattle.ltc_word.specs.Spelling.{Spells}
use Rattle.direction_reader.specs.declared.event.Event.{Event}
use Rattle.direction_reader.specs.declared.event.Event.TheVariants.{Word, Refused, Lost}
use Rattle.direction_reader.specs.declared.event.Events.{Events}
use Rattle.direction_reader.specs.Candidate.{IsEventOf, AreEventsOf, event_of, candidate_in}
use Rattle.direction_reader.specs.Events.{listed, event_list}
use Rattle.direction_reader.specs.Gathered.{AreEventsOfWindows, AreEventsOfStretch, AreEventsOfStretches, AreGathered}
use Rattle.direction_reader.specs.Gathered.{begin_of}
use Rattle.direction_reader.specs.ListEvents.{bits_in, break_events, duration, events_at, events_of_cells}
use Rattle.direction_reader.specs.ListEvents.{events_of_stretch}
use Rattle.direction_reader.specs.ListEvents.{events_of_window, AreEvents}
use Rattle.direction_reader.specs.Windows.{CellWindow, number_of, window_at, windows}
use Rattle.direction_reader.proofs.EventsExist.{AreRead, stretches_events}

-- what the law says of the events that are gathered: they are those of the list
pub record AreListed : Type 0 where
  pub cells : (system : System) (tick : ℕ) (cells : List Cell) (events : List Event)
      → AreEventsOfWindows system (windows tick cells) events → events ≡ events_of_cells system tick cells
  pub gathered : (system : System) (profile : Profile) (intervals : List ℕ) (events : List Event)
      → AreEvents system profile intervals events → AreGathered system profile intervals events
  pub listed : (system : System) (profile : Profile) (intervals : List ℕ) (events : List Event)
      → AreGathered system profile intervals events → AreEvents system profile intervals events

-- what is in bits is what they spell
pub record StandThere : Type 0 where
  pub word : (system : System) (word : LtcWord) (bits : ℕ) → Spells system word bits
      → (fault_in system bits ≡ None) × (word ≡ word_in system bits)
  pub fault : (system : System) (bits : ℕ) (fault : FieldFault) → first_fault system bits ≡ Some (Field fault)
      → fault_in system bits ≡ Some fault

-- the event by the first fault of the fields
pub by_fault : (system : System) (direction : Direction) (bits end length : ℕ) (event : Event) (o : Option FieldFault)
    → fault_in system bits ≡ o
    → event
    ≡ elim o [ None ↦ Word direction (word_in system bits) end length | Some fault ↦ Refused direction fault end ]
    → event ≡ event_of system direction bits end length
by_fault system direction bits end length event o is same = rw (is, event_of) same

the_event : StandThere → (system : System) (direction : Direction) (bits end length : ℕ) (event : Event)
    → IsEventOf system direction bits end length event → event ≡ event_of system direction bits end length
the_event there system direction bits end length (Word d w t n) is =
    let word = there.word system w bits is.1 in
    by_fault system direction bits end length (Word d w t n) None word.0
    (let same = word.1 in let one = is.0 in let two = is.2 in let three = is.3 in cc)
the_event there system direction bits end length (Refused d f t) is =
    by_fault system direction bits end length (Refused d f t) (Some f) (there.fault system bits f is.1)
    (let one = is.0 in let two = is.2 in cc)
the_event there system direction bits end length (Lost p t) is = absurd is

-- the candidate that there is, and the one that there is not
pub some_listed : StandThere → (system : System) (direction : Direction) (bits end length : ℕ) (o : Option Event)
    → ends_in_sync bits ≡ true → IsSomeAnd o (IsEventOf system direction bits end length)
    → listed o ≡ candidate_in system direction bits end length
some_listed there system direction bits end length None sync is = absurd is
some_listed there system direction bits end length (Some event) sync is =
    let same = the_event there system direction bits end length event is in
    let all : event ∷ [] ≡ event_of system direction bits end length ∷ [] = ap (λ (e : Event). e ∷ []) same in
    rw sync all

pub none_listed : (system : System) (direction : Direction) (bits end length : ℕ) (o : Option Event)
    → ends_in_sync bits ≡ false → o ≡ None → listed o ≡ candidate_in system direction bits end length
none_listed system direction bits end length o sync none = rw (sync, none) refl

both_listed : (own : Events) (one two : List Event) → listed own.first ≡ one → listed own.second ≡ two
    → event_list own ≡ one ++ two
both_listed own one two first second = ap₂ (λ (a b : List Event). a ++ b) first second

-- the backward candidate alone
last_listed : (own : Events) (one two : List Event) → listed own.first ≡ two → own.second ≡ None → one ≡ []
    → event_list own ≡ one ++ two
last_listed own one two first none no_one = rw (none, no_one) (append-nil (listed own.first) ∙ first)

-- the events of a window
pub of_window : StandThere → (system : System) (w : CellWindow) (own : Events)
    → AreEventsOf system w.bits w.end w.length own → event_list own ≡ events_of_window system w.bits w.end w.length
unfolding events_of_window
of_window there system w own are =
    let back = reversed_bits w.bits in
    let one = candidate_in system Forward w.bits w.end w.length in
    let two = candidate_in system Backward back w.end w.length in
    elim (eqb_tells (number_in SYNC w.bits) SYNC_PATTERN) [
      | inl forward ↦ elim (eqb_tells (number_in SYNC back) SYNC_PATTERN) [
        | inl backward ↦ both_listed own one two
            (some_listed there system Forward w.bits w.end w.length own.first forward.0 (are.forward forward.1))
            (some_listed there system Backward back w.end w.length own.second backward.0
            (are.both forward.1 backward.1))
        | inr not_back ↦ both_listed own one two
            (some_listed there system Forward w.bits w.end w.length own.first forward.0 (are.forward forward.1))
            (none_listed system Backward back w.end w.length own.second not_back.0 (are.one forward.1 not_back.1))
      ]
      | inr not_forward ↦ elim (eqb_tells (number_in SYNC back) SYNC_PATTERN) [
        | inl backward ↦ (
            let mine = are.backward backward.1 not_forward.1 in
            last_listed own one two
            (some_listed there system Backward back w.end w.length own.first backward.0 mine.0) mine.1
            (rw not_forward.0 refl))
        | inr not_back ↦ (
            let mine = are.none not_forward.1 not_back.1 in
            both_listed own one two
            (none_listed system Forward w.bits w.end w.length own.first not_forward.0 mine.0)
            (none_listed system Backward back w.end w.length own.second not_back.0 mine.1))
      ]
    ]

-- the bits of cells as one number
pub bits_are : (cells : List Cell) → number_of (bits cells) ≡ bits_in cells
bits_are [] = refl
bits_are (Zero x ∷ cells) = let more = bits_are cells in omega arith
bits_are (One a b ∷ cells) = let more = bits_are cells in omega arith

-- of windows of cells
pub of_windows : StandThere → (system : System) (tick : ℕ) (cells : List Cell) (ks : List ℕ) (es : List Event)
    → AreEventsOfWindows system (map (window_at tick cells) ks) es → es ≡ flat_map (events_at system tick cells) ks
of_windows there system tick cells [] es are = are
of_windows there system tick cells (k ∷ ks) es (own, rest, is, others, join) =
    let window = take 80 (drop k cells) in
    let here = of_window there system (window_at tick cells k) own is
    ∙ ap (λ n. events_of_window system n (tick + duration (take (k + 80) cells)) (duration window)) (bits_are window) in
    join ∙ ap₂ (λ (a b : List Event). a ++ b) here (of_windows there system tick cells ks rest others)

-- of a stretch
of_stretch : StandThere → (system : System) (l : List ℕ) (s : Stretch) (es : List Event)
    → AreEventsOfStretch system l s es → es ≡ events_of_stretch system l s
of_stretch there system l s es (own, are, join) =
    join ∙ ap (λ (e : List Event). e ++ break_events l s.broken_at)
    (of_windows there system (begin_of l s) s.cells (range_with_len 0 (length s.cells - 79)) own are)

-- and of stretches
of_stretches : StandThere → (system : System) (l : List ℕ) (ss : List Stretch) (es : List Event)
    → AreEventsOfStretches system l ss es → es ≡ flat_map (events_of_stretch system l) ss
of_stretches there system l [] es are = are
of_stretches there system l (s ∷ ss) es (own, rest, is, others, join) =
    join ∙ ap₂ (λ (a b : List Event). a ++ b) (of_stretch there system l s own is)
    (of_stretches there system l ss rest others)

-- the events that are gathered are those of the list
pub as_list : StandThere → (system : System) (profile : Profile) (l : List ℕ) (es : List Event)
    → AreGathered system profile l es → AreEvents system profile l es
as_list there system profile l es (ss, stretches, are) = (ss, stretches, of_stretches there system l ss es are)

-- and those of the list are gathered
pub as_gathered : StandThere → AreRead → (system : System) (profile : Profile) (l : List ℕ) (es : List Event)
    → AreEvents system profile l es → AreGathered system profile l es
as_gathered there read system profile l es (ss, stretches, are) =
    let own = stretches_events read system l ss in
    let same : own.0 ≡ es = of_stretches there system l ss own.0 own.1 ∙ sym are in
    (ss, stretches, subst (λ (e : List Event). AreEventsOfStretches system l ss e) same own.1)
