-- Each window has the same candidates with and without witnesses, and each of them is judged by itself.
use Rattle.std.proofs.Common.{◌≡◌, ◌≤◌, ℕ, zero, suc, ◌+◌, ◌-◌, Bool, true, false, List, [], ◌∷◌, ◌++◌, length}
use Rattle.std.proofs.Common.{take, drop, map, sum}
use Rattle.std.proofs.Common.{ap, ap₂, sym, ◌∙◌, arith, refl, subst, append-nil, inl, inr, Some, None, Option, All}
use Rattle.std.specs.List.{flat_map, range_with_len, AllZip}
use Rattle.std.proofs.lemmas.List.Elements.{All-nil, All-cons, All-append, All-head, All-tail}
use Rattle.biphase.specs.declared.cell.Cell.{Cell}
use Rattle.biphase.specs.declared.profile.Profile.{Profile}
use Rattle.cell_tracker.specs.ChainPiece.{cells_from, stretch_of_piece}
use Rattle.cell_tracker.specs.Lock.{HasNoLock}
use Rattle.cell_tracker.specs.Stretch.{Stretch, AreStretches}
use Rattle.ltc_word.specs.Reading.{fault_in, word_in}
use Rattle.ltc_word.specs.Reversal.{reversed_bits, ends_in_sync}
use Rattle.tc_address.specs.declared.direction.Direction.{Direction}
use Rattle.tc_address.specs.declared.direction.Direction.TheVariants.{Forward, Backward}
use Rattle.tc_address.specs.declared.system.System.{System}
use Rattle.tc_bits.specs.declared.fault.FieldFault.{FieldFault}
use Rattle.direction_reader.specs.declared.event.Event.{Event}
use Rattle.direction_reader.specs.declared.event.Event.TheVariants.{Word, Refused, Lost}
use Rattle.direction_reader.specs.declared.firm_event.FirmEvent.{FirmEvent}
use Rattle.direction_reader.specs.declared.firm_event.FirmEvent.TheVariants.{Told}
use Rattle.direction_reader.specs.Candidate.{event_of, candidate_in}
use Rattle.direction_reader.specs.Firm.{AreFirmEvents, is_firm, judged, candidate_at, firm_candidate_at, firm_events_at}
use Rattle.direction_reader.specs.Firm.{firm_events_of_cells}
use Rattle.direction_reader.specs.Firm.{firm_events_of_stretch}
use Rattle.direction_reader.specs.FirmTape.{AreWitnessed, HasWitnessIn, IsJudged, HasWitness, FirmTellsTheTape}
use Rattle.direction_reader.specs.Gathered.{begin_of}
use Rattle.direction_reader.specs.ListEvents.{AreEvents, bits_in, break_events, duration, events_at, events_of_cells}
use Rattle.direction_reader.specs.ListEvents.{events_of_stretch, events_of_window}
use Rattle.direction_reader.proofs.AsLists.{by_fault}
use Rattle.direction_reader.proofs.OneListOfEvents.{HasOneList}
use Rattle.direction_reader.proofs.TellsTheTape.{IsOneStretch}

-- ---- one event for each

AllZip-append : {A B : Type 0} (R : A → B → Type 0) (xs xs' : List A) (ys ys' : List B) → AllZip R xs ys
    → AllZip R xs' ys'
    → AllZip R (xs ++ xs') (ys ++ ys')
AllZip-append R [] xs' [] ys' one two = two
AllZip-append R [] xs' (y ∷ ys) ys' one two = absurd one
AllZip-append R (x ∷ xs) xs' [] ys' one two = absurd one
AllZip-append R (x ∷ xs) xs' (y ∷ ys) ys' one two = (one.0, AllZip-append R xs xs' ys ys' one.1 two)

all_judged : (firm : Bool) (es : List Event) → AllZip IsJudged es (map (judged firm) es)
all_judged firm [] = tt
all_judged firm (e ∷ es) = ((firm, refl), all_judged firm es)

judged_firm : (event : Event) → judged true event ≡ Told event
judged_firm (Word d w t n) = refl
judged_firm (Refused d f t) = refl
judged_firm (Lost p t) = refl

pub all_firm : (es : List Event) → map (judged true) es ≡ map (λ event. Told event) es
all_firm [] = refl
all_firm (e ∷ es) = ap₂ (λ (a : FirmEvent) (b : List FirmEvent). a ∷ b) (judged_firm e) (all_firm es)

window_judged : (system : System) (tick : ℕ) (cells : List Cell) (k : ℕ)
    → AllZip IsJudged (events_at system tick cells k) (firm_events_at system tick cells k)
unfolding events_of_window firm_events_at
window_judged system tick cells k =
    AllZip-append IsJudged (candidate_at system tick cells k Forward) (candidate_at system tick cells k Backward)
    (firm_candidate_at system tick cells k Forward) (firm_candidate_at system tick cells k Backward)
    (all_judged (is_firm Forward cells k) (candidate_at system tick cells k Forward))
    (all_judged (is_firm Backward cells k) (candidate_at system tick cells k Backward))

windows_judged : (system : System) (tick : ℕ) (cells : List Cell) (ks : List ℕ)
    → AllZip IsJudged (flat_map (events_at system tick cells) ks) (flat_map (firm_events_at system tick cells) ks)
windows_judged system tick cells [] = tt
windows_judged system tick cells (k ∷ ks) =
    AllZip-append IsJudged (events_at system tick cells k) (flat_map (events_at system tick cells) ks) (firm_events_at
    system tick cells k)
    (flat_map (firm_events_at system tick cells) ks) (window_judged system tick cells k) (windows_judged system tick
    cells ks)

stretch_judged : (system : System) (l : List ℕ) (s : Stretch)
    → AllZip IsJudged (events_of_stretch system l s) (firm_events_of_stretch system l s)
stretch_judged system l s =
    let tick = sum (take s.lock l) in
    let broken = break_events l s.broken_at in
    let lost : AllZip IsJudged broken (map (λ (e : Event). Told e) broken) =
    subst (λ (fs : List FirmEvent). AllZip IsJudged broken fs) (all_firm broken) (all_judged true broken) in
    AllZip-append IsJudged (events_of_cells system tick s.cells) broken (firm_events_of_cells system tick s.cells)
    (map (λ (e : Event). Told e) broken) (windows_judged system tick s.cells (range_with_len 0 (length s.cells - 79)))
    lost

stretches_judged : (system : System) (l : List ℕ) (ss : List Stretch)
    → AllZip IsJudged (flat_map (events_of_stretch system l) ss) (flat_map (firm_events_of_stretch system l) ss)
stretches_judged system l [] = tt
stretches_judged system l (s ∷ ss) =
    AllZip-append IsJudged (events_of_stretch system l s) (flat_map (events_of_stretch system l) ss)
    (firm_events_of_stretch system l s)
    (flat_map (firm_events_of_stretch system l) ss) (stretch_judged system l s) (stretches_judged system l ss)

pub list_judged : HasOneList → (system : System) (profile : Profile) (l : List ℕ) (es : List Event) (fs : List
    FirmEvent)
    → AreEvents system profile l es → AreFirmEvents system profile l fs → AllZip IsJudged es fs
list_judged one system profile l es fs (ss, stretches, are) (ts, others, too) =
    let same : ts ≡ ss = one profile l ts ss others stretches in
    let is : fs ≡ flat_map (firm_events_of_stretch system l) ss = too
    ∙ ap (λ (us : List Stretch). flat_map (firm_events_of_stretch system l) us) same in
    rw (are, is) (stretches_judged system l ss)

-- ---- one list

pub one_firm_list : HasOneList → (system : System) (profile : Profile) (l : List ℕ) (es fs : List FirmEvent)
    → AreFirmEvents system profile l es → AreFirmEvents system profile l fs → es ≡ fs
one_firm_list one system profile l es fs (ss, stretches, are) (ts, others, too) =
    are ∙ ap (λ (us : List Stretch). flat_map (firm_events_of_stretch system l) us) (one profile l ss ts stretches
    others) ∙ sym too

-- ---- each word has its witness

-- the event of a candidate in a direction, by the first fault of its fields
abbrev pub event_by : System → Direction → ℕ → ℕ → ℕ → Option FieldFault → Event
event_by system d bits end n o = elim o [ None ↦ Word d (word_in system bits) end n | Some fault ↦ Refused d fault end ]

witness_by : (system : System) (tick : ℕ) (cells : List Cell) (k : ℕ) (d : Direction) (bits end n : ℕ) (o : Option
    FieldFault) (b : Bool)
    → k + 80 ≤ length cells → end ≡ tick + duration (take (k + 80) cells) → is_firm d cells k ≡ b
    → All (HasWitness tick cells) (map (judged b) (event_by system d bits end n o ∷ []))
witness_by system tick cells k d bits end n None true within at firm =
    All-cons (HasWitness tick cells) _ [] (k, within, at, firm) (All-nil (HasWitness tick cells))
witness_by system tick cells k d bits end n None false within at firm =
    All-cons (HasWitness tick cells) _ [] tt (All-nil (HasWitness tick cells))
witness_by system tick cells k d bits end n (Some f) b within at firm =
    All-cons (HasWitness tick cells) _ [] tt (All-nil (HasWitness tick cells))

told_witness : (system : System) (tick : ℕ) (cells : List Cell) (k : ℕ) (d : Direction) (bits end n : ℕ)
    → k + 80 ≤ length cells → end ≡ tick + duration (take (k + 80) cells)
    → All (HasWitness tick cells) (map (judged (is_firm d cells k)) (event_of system d bits end n ∷ []))
told_witness system tick cells k d bits end n within at =
    let o = fault_in system bits in
    subst (λ (e : Event). All (HasWitness tick cells) (map (judged (is_firm d cells k)) (e ∷ [])))
    (by_fault system d bits end n (event_by system d bits end n o) o refl refl)
    (witness_by system tick cells k d bits end n o (is_firm d cells k) within at refl)

found_witness : (system : System) (tick : ℕ) (cells : List Cell) (k : ℕ) (d : Direction) (bits end n : ℕ) (sync : Bool)
    → k + 80 ≤ length cells → end ≡ tick + duration (take (k + 80) cells) → ends_in_sync bits ≡ sync
    → All (HasWitness tick cells) (map (judged (is_firm d cells k)) (candidate_in system d bits end n))
found_witness system tick cells k d bits end n true within at sync =
    rw sync (told_witness system tick cells k d bits end n within at)
found_witness system tick cells k d bits end n false within at sync = rw sync (All-nil (HasWitness tick cells))

window_witness : (system : System) (tick : ℕ) (cells : List Cell) (k : ℕ) → k + 80 ≤ length cells
    → All (HasWitness tick cells) (firm_events_at system tick cells k)
unfolding firm_events_at
window_witness system tick cells k within =
    let window = take 80 (drop k cells) in
    All-append (HasWitness tick cells) (firm_candidate_at system tick cells k Forward) (firm_candidate_at system tick
    cells k Backward)
    (found_witness system tick cells k Forward (bits_in window) _ (duration window) (ends_in_sync (bits_in window))
    within refl refl)
    (found_witness system tick cells k Backward (reversed_bits (bits_in window)) _ (duration window)
    (ends_in_sync (reversed_bits (bits_in window))) within refl refl)

windows_witness : (system : System) (tick : ℕ) (cells : List Cell) (a n : ℕ) → a + n + 79 ≤ length cells + 0
    → All (HasWitness tick cells) (flat_map (firm_events_at system tick cells) (range_with_len a n))
windows_witness system tick cells a zero within = All-nil (HasWitness tick cells)
windows_witness system tick cells a (suc n) within =
    All-append (HasWitness tick cells) (firm_events_at system tick cells a)
    (flat_map (firm_events_at system tick cells) (range_with_len (a + 1) n)) (window_witness system tick cells a (omega
    arith))
    (windows_witness system tick cells (a + 1) n (omega arith))

cells_witness : (system : System) (tick : ℕ) (cells : List Cell) (n : ℕ) → n ≡ length cells - 79
    → All (HasWitness tick cells) (flat_map (firm_events_at system tick cells) (range_with_len 0 n))
cells_witness system tick cells zero is = All-nil (HasWitness tick cells)
cells_witness system tick cells (suc n) is = windows_witness system tick cells 0 (suc n) (omega arith)

pub all_witness : (system : System) (tick : ℕ) (cells : List Cell)
    → All (HasWitness tick cells) (firm_events_of_cells system tick cells)
all_witness system tick cells = cells_witness system tick cells (length cells - 79) refl

-- of a stretch, and of stretches
either : (l : List ℕ) (s : Stretch) (ss : List Stretch) (es : List FirmEvent)
    → All (HasWitness (begin_of l s) s.cells) es → All (HasWitnessIn l (s ∷ ss)) es
either l s ss [] all = All-nil (HasWitnessIn l (s ∷ ss))
either l s ss (e ∷ es) all =
    All-cons (HasWitnessIn l (s ∷ ss)) e es (inl (All-head (HasWitness (begin_of l s) s.cells) e es all))
    (either l s ss es (All-tail (HasWitness (begin_of l s) s.cells) e es all))

among_more : (l : List ℕ) (s : Stretch) (ss : List Stretch) (es : List FirmEvent)
    → All (HasWitnessIn l ss) es → All (HasWitnessIn l (s ∷ ss)) es
among_more l s ss [] all = All-nil (HasWitnessIn l (s ∷ ss))
among_more l s ss (e ∷ es) all =
    All-cons (HasWitnessIn l (s ∷ ss)) e es (inr (All-head (HasWitnessIn l ss) e es all))
    (among_more l s ss es (All-tail (HasWitnessIn l ss) e es all))

break_witness : (l : List ℕ) (tick : ℕ) (cells : List Cell) (place : Option ℕ)
    → All (HasWitness tick cells) (map (λ (e : Event). Told e) (break_events l place))
break_witness l tick cells None = All-nil (HasWitness tick cells)
break_witness l tick cells (Some p) =
    All-cons (HasWitness tick cells) (Told (Lost p (sum (take (p + 1) l)))) [] tt (All-nil (HasWitness tick cells))

stretches_witnessed : (system : System) (l : List ℕ) (ss : List Stretch)
    → All (HasWitnessIn l ss) (flat_map (firm_events_of_stretch system l) ss)
stretches_witnessed system l [] = All-nil (HasWitnessIn l [])
stretches_witnessed system l (s ∷ ss) =
    let tick = begin_of l s in
    let broken = map (λ (e : Event). Told e) (break_events l s.broken_at) in
    All-append (HasWitnessIn l (s ∷ ss)) (firm_events_of_stretch system l s)
    (flat_map (firm_events_of_stretch system l) ss)
    (either l s ss (firm_events_of_stretch system l s) (All-append (HasWitness tick s.cells)
    (firm_events_of_cells system tick s.cells) broken (all_witness system tick s.cells)
    (break_witness l tick s.cells s.broken_at)))
    (among_more l s ss (flat_map (firm_events_of_stretch system l) ss) (stretches_witnessed system l ss))

pub list_witnessed : (system : System) (profile : Profile) (l : List ℕ) (fs : List FirmEvent)
    → AreFirmEvents system profile l fs → AreWitnessed system profile l fs
list_witnessed system profile l fs (ss, stretches, are) = record {
  stretches = ss;
  are = stretches;
  each = rw are (stretches_witnessed system l ss);
}

-- ---- the tape

no_lock : (system : System) (profile : Profile) (l : List ℕ) (fs : List FirmEvent) (ss : List Stretch)
    → AreStretches profile l ss
    → fs ≡ flat_map (firm_events_of_stretch system l) ss → HasNoLock profile l 0 → fs ≡ []
no_lock system profile l fs [] stretches are none = are
no_lock system profile l fs (s ∷ ss) stretches are none =
    let lock = stretches.0 in absurd (none lock.pair lock.within lock.unequal)

pub firm_tape : HasOneList → IsOneStretch → (system : System) (profile : Profile) (l : List ℕ) (fs : List FirmEvent)
    → AreFirmEvents system profile l fs → FirmTellsTheTape system profile l fs
firm_tape one law system profile l fs (ss, stretches, are) = record {
  nothing = no_lock system profile l fs ss stretches are;
  words = λ tape cut lock piece at. (
      let own = stretch_of_piece tape cut l lock in
      let same : ss ≡ own ∷ [] = one profile l ss (own ∷ []) stretches (law profile l tape cut lock piece at) in
      let cells = firm_events_of_cells system (sum (take lock l)) (cells_from tape cut l lock) in
      are ∙ ap (λ (us : List Stretch). flat_map (firm_events_of_stretch system l) us) same
      ∙ append-nil (cells ++ []) ∙ append-nil cells);
}
