-- Cells that begin some ticks later have the same events, later by as many ticks.
use Rattle.std.proofs.Common.{◌≡◌, ℕ, ◌+◌, ◌-◌, Bool, true, false, List, [], ◌∷◌, ◌++◌, length, take, drop, map, refl}
use Rattle.std.proofs.Common.{ap, ap₂, sym, ◌∙◌}
use Rattle.std.proofs.Common.{Option, Some, None, arith}
use Rattle.std.specs.List.{flat_map, range_with_len}
use Rattle.std.proofs.lemmas.List.{map-append}
use Rattle.biphase.specs.declared.cell.Cell.{Cell}
use Rattle.tc_address.specs.declared.direction.Direction.{Direction}
use Rattle.tc_address.specs.declared.direction.Direction.TheVariants.{Forward, Backward}
use Rattle.tc_address.specs.declared.system.System.{System}
use Rattle.tc_bits.specs.declared.fault.FieldFault.{FieldFault}
use Rattle.ltc_word.specs.Reading.{fault_in, word_in}
use Rattle.ltc_word.specs.Reversal.{ends_in_sync, reversed_bits}
use Rattle.direction_reader.specs.declared.event.Event.{Event}
use Rattle.direction_reader.specs.declared.event.Event.TheVariants.{Word, Refused, Lost}
use Rattle.direction_reader.specs.Candidate.{event_of, candidate_in}
use Rattle.direction_reader.specs.ListEvents.{bits_in, duration, events_at, events_of_cells, events_of_window}
use Rattle.direction_reader.specs.Played.{Played, events_of_words}

-- an event, later by `ticks`
abbrev pub later : ℕ → Event → Event
later ticks (Word direction word tick length) = Word direction word (ticks + tick) length
later ticks (Refused direction fault tick) = Refused direction fault (ticks + tick)
later ticks (Lost interval tick) = Lost interval (ticks + tick)

event_later : (x : ℕ) (system : System) (d : Direction) (n end length : ℕ) (fault : Option FieldFault)
    → fault_in system n ≡ fault → event_of system d n (x + end) length ≡ later x (event_of system d n end length)
event_later x system d n end length None is =
    let one : event_of system d n (x + end) length ≡ Word d (word_in system n) (x + end) length =
    rw (is, event_of) refl in
    let two : event_of system d n end length ≡ Word d (word_in system n) end length = rw (is, event_of) refl in
    one ∙ sym (ap (later x) two)
event_later x system d n end length (Some fault) is =
    let one : event_of system d n (x + end) length ≡ Refused d fault (x + end) = rw (is, event_of) refl in
    let two : event_of system d n end length ≡ Refused d fault end = rw (is, event_of) refl in
    one ∙ sym (ap (later x) two)

candidate_later : (b : Bool) (x : ℕ) (system : System) (d : Direction) (n end length : ℕ) → ends_in_sync n ≡ b
    → candidate_in system d n (x + end) length ≡ map (later x) (candidate_in system d n end length)
candidate_later true x system d n end length is =
    rw is (ap (λ (v : Event). v ∷ []) (event_later x system d n end length (fault_in system n) refl))
candidate_later false x system d n end length is = rw is refl

window_later : (x : ℕ) (system : System) (n end length : ℕ)
    → events_of_window system n (x + end) length ≡ map (later x) (events_of_window system n end length)
unfolding events_of_window
window_later x system n end length =
    ap₂ ◌++◌ (candidate_later (ends_in_sync n) x system Forward n end length refl)
    (candidate_later (ends_in_sync (reversed_bits n)) x system Backward (reversed_bits n) end length refl)
    ∙ sym (map-append (later x) (candidate_in system Forward n end length)
    (candidate_in system Backward (reversed_bits n) end length))

at_later : (x tick : ℕ) (system : System) (cells : List Cell) (k : ℕ)
    → events_at system (x + tick) cells k ≡ map (later x) (events_at system tick cells k)
at_later x tick system cells k =
    let window : List Cell = take 80 (drop k cells) in
    let before : ℕ = duration (take (k + 80) cells) in
    let end : (x + tick) + before ≡ x + (tick + before) = omega arith in
    ap (λ (n : ℕ). events_of_window system (bits_in window) n (duration window)) end
    ∙ window_later x system (bits_in window) (tick + before) (duration window)

places_later : (x tick : ℕ) (system : System) (cells : List Cell) (places : List ℕ)
    → flat_map (events_at system (x + tick) cells) places ≡ map (later x)
    (flat_map (events_at system tick cells) places)
places_later x tick system cells [] = refl
places_later x tick system cells (k ∷ places) =
    ap₂ ◌++◌ (at_later x tick system cells k) (places_later x tick system cells places)
    ∙ sym (map-append (later x) (events_at system tick cells k) (flat_map (events_at system tick cells) places))

pub cells_later : (x tick : ℕ) (system : System) (cells : List Cell)
    → events_of_cells system (x + tick) cells ≡ map (later x) (events_of_cells system tick cells)
cells_later x tick system cells = places_later x tick system cells (range_with_len 0 (length cells - 79))

pub words_later : (x tick : ℕ) (cells : List Cell) (words : List Played)
    → map (later x) (events_of_words tick cells words) ≡ events_of_words (x + tick) cells words
unfolding events_of_words
words_later x tick cells [] = refl
words_later x tick cells (p ∷ more) =
    let length : ℕ = duration (take 80 cells) in
    let end : x + (tick + length) ≡ (x + tick) + length = omega arith in
    ap₂ (λ (n : ℕ) (l : List Event). Word p.direction p.word n length ∷ l) end
    (words_later x (tick + length) (drop 80 cells) more
    ∙ ap (λ (n : ℕ). events_of_words n (drop 80 cells) more) end)
