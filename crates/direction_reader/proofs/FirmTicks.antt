-- The candidates of a window bear the tick at its end, and windows end one after another.
use Rattle.std.proofs.Common.{◌≡◌, ◌≤◌, ◌⊎◌, ℕ, zero, suc, ◌+◌, Bool, true, false, List, [], ◌∷◌}
use Rattle.std.proofs.Common.{take, drop, All, IfSome, Option, Some, None}
use Rattle.std.proofs.Common.{arith, refl, subst}
use Rattle.std.proofs.lemmas.List.{take_all}
use Rattle.std.proofs.lemmas.List.Elements.{All-nil, All-cons}
use Rattle.biphase.specs.declared.cell.Cell.{Cell}
use Rattle.ltc_word.specs.Reading.{fault_in}
use Rattle.ltc_word.specs.Reversal.{reversed_bits, ends_in_sync}
use Rattle.tc_address.specs.declared.direction.Direction.{Direction}
use Rattle.tc_address.specs.declared.direction.Direction.TheVariants.{Forward, Backward}
use Rattle.tc_address.specs.declared.system.System.{System}
use Rattle.tc_bits.specs.declared.fault.FieldFault.{FieldFault}
use Rattle.direction_reader.specs.declared.event.Event.{Event}
use Rattle.direction_reader.specs.declared.event.Event.TheVariants.{Word, Refused, Lost}
use Rattle.direction_reader.specs.declared.firm_event.FirmEvent.{FirmEvent}
use Rattle.direction_reader.specs.declared.firm_event.FirmEvent.TheVariants.{Told, Alone}
use Rattle.direction_reader.specs.declared.firm_event.FirmEvents.{FirmEvents}
use Rattle.direction_reader.specs.Candidate.{event_of, candidate_in}
use Rattle.direction_reader.specs.Events.{tick_of}
use Rattle.direction_reader.specs.Firm.{judged, candidate_at, told_tick}
use Rattle.direction_reader.specs.FirmReader.{FirmBrings, IsToldBy}
use Rattle.direction_reader.specs.FirmStep.{IsToldWithin, TellsWithin}
use Rattle.direction_reader.specs.FirmTold.{end_of_window}
use Rattle.direction_reader.specs.ListEvents.{bits_in, duration}
use Rattle.direction_reader.proofs.AsLists.{by_fault}
use Rattle.direction_reader.proofs.FirmJudges.{event_by}
use Rattle.direction_reader.proofs.WindowsFromCells.{duration_of}

-- ---- the tick of an event

pub judged_tick : (firm : Bool) (event : Event) → told_tick (judged firm event) ≡ tick_of event
judged_tick true (Word d w t n) = refl
judged_tick false (Word d w t n) = refl
judged_tick firm (Refused d f t) = refl
judged_tick firm (Lost p t) = refl

tick_by : (system : System) (d : Direction) (bits end n : ℕ) (o : Option FieldFault)
    → tick_of (event_by system d bits end n o) ≡ end
tick_by system d bits end n None = refl
tick_by system d bits end n (Some f) = refl

event_tick : (system : System) (d : Direction) (bits end n : ℕ) → tick_of (event_of system d bits end n) ≡ end
event_tick system d bits end n =
    let o = fault_in system bits in
    subst (λ (e : Event). tick_of e ≡ end)
    (by_fault system d bits end n (event_by system d bits end n o) o refl refl) (tick_by system d bits end n o)

abbrev pub EndsAt : ℕ → Event → Type 0
EndsAt end event = tick_of event ≡ end

found_ticks : (system : System) (d : Direction) (bits end n : ℕ) (sync : Bool) → ends_in_sync bits ≡ sync
    → All (EndsAt end) (candidate_in system d bits end n)
found_ticks system d bits end n true is =
    rw is (All-cons (EndsAt end) (event_of system d bits end n) [] (event_tick system d bits end n)
    (All-nil (EndsAt end)))
found_ticks system d bits end n false is = rw is (All-nil (EndsAt end))

pub candidate_ticks : (system : System) (tick : ℕ) (cells : List Cell) (k : ℕ) (d : Direction)
    → All (λ (e : Event). tick_of e ≡ end_of_window tick cells k) (candidate_at system tick cells k d)
candidate_ticks system tick cells k Forward =
    let window = take 80 (drop k cells) in
    found_ticks system Forward (bits_in window) (end_of_window tick cells k) (duration window)
    (ends_in_sync (bits_in window)) refl
candidate_ticks system tick cells k Backward =
    let window = take 80 (drop k cells) in
    let bits = reversed_bits (bits_in window) in
    found_ticks system Backward bits (end_of_window tick cells k) (duration window) (ends_in_sync bits) refl

-- it has that tick or a later one
abbrev pub IsFrom : ℕ → FirmEvent → Type 0
IsFrom until event = until ≤ told_tick event

-- a front of more cells lasts as long or longer
pub front_lasts : (cells : List Cell) (a b : ℕ) → a ≤ b → duration (take a cells) ≤ duration (take b cells)
front_lasts [] a b less =
    let none : List Cell = [] in
    let one : take a none ≡ none = take_all a none (omega arith) in
    let two : take b none ≡ none = take_all b none (omega arith) in
    rw (one, two) (omega arith)
front_lasts (c ∷ cells) zero b less = omega arith
front_lasts (c ∷ cells) (suc a) zero less = absurd (omega arith)
front_lasts (c ∷ cells) (suc a) (suc b) less =
    omega (arith, duration_of c (take a cells), duration_of c (take b cells), front_lasts cells a b (omega arith))

-- ---- what is told

told_by : (n tick : ℕ) (o : Option FirmEvent) → IfSome o (IsToldWithin tick) → IfSome o (IsToldBy n tick)
told_by n tick None is = tt
told_by n tick (Some (Told (Word d w t m))) is = let long = is.1 in (is.0, long.0, long.1)
told_by n tick (Some (Told (Refused d f t))) is = is.0
told_by n tick (Some (Told (Lost p t))) is = absurd is.1
told_by n tick (Some (Alone d w t m)) is = let long = is.1 in (is.0, long.0, long.1)

-- what is told of windows that ended by the sum of the intervals
pub brings_within : (n tick : ℕ) (told : FirmEvents) → TellsWithin tick told → FirmBrings n tick told
brings_within n tick told is = record {
  first = told_by n tick told.first is.first;
  second = told_by n tick told.second is.second;
  third = told_by n tick told.third is.third;
  played = is.played;
  no_word = is.no_word;
}
