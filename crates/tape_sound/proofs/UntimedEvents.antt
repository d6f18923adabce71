-- What the events of cells say, without their places, is a matter of the bits.
use Rattle.std.proofs.Common.{◌≡◌, ℕ, ◌+◌, ◌-◌, Bool, true, false, List, [], ◌∷◌, ◌++◌, length}
use Rattle.std.proofs.Common.{take, drop, map, arith, refl, ap, ap₂, sym, ◌∙◌, Option, Some, None}
use Rattle.std.specs.List.{flat_map, range_with_len}
use Rattle.std.proofs.lemmas.List.{take-map, drop-map, length-map, map-append}
use Rattle.biphase.specs.declared.cell.Cell.{Cell}
use Rattle.biphase.specs.declared.cell.Cell.TheVariants.{Zero, One}
use Rattle.biphase.specs.Chain.{bit_of, bits}
use Rattle.tc_address.specs.declared.system.System.{System}
use Rattle.tc_address.specs.declared.direction.Direction.{Direction}
use Rattle.tc_address.specs.declared.direction.Direction.TheVariants.{Forward, Backward}
use Rattle.tc_bits.specs.declared.fault.FieldFault.{FieldFault}
use Rattle.ltc_word.specs.Reading.{fault_in, word_in}
use Rattle.ltc_word.specs.Reversal.{ends_in_sync, reversed_bits}
use Rattle.direction_reader.specs.declared.event.Event.{Event}
use Rattle.direction_reader.specs.declared.event.Event.TheVariants.{Word, Refused}
use Rattle.direction_reader.specs.Candidate.{event_of, candidate_in}
use Rattle.direction_reader.specs.ListEvents.{bits_in, duration, events_at, events_of_cells, events_of_window}
use Rattle.direction_reader.specs.Played.{Played, events_of_words}
use Rattle.direction_reader.specs.Windows.{number_of}
use Rattle.tape_sound.specs.OnTime.{told, untimed}

-- ---- a window

event_by : (system : System) (d : Direction) (n e k f l : ℕ) (o : Option FieldFault) → fault_in system n ≡ o
    → untimed (event_of system d n e k) ≡ untimed (event_of system d n f l)
event_by system d n e k f l None is =
    let one : event_of system d n e k ≡ Word d (word_in system n) e k = rw (is, event_of) refl in
    let two : event_of system d n f l ≡ Word d (word_in system n) f l = rw (is, event_of) refl in
    ap untimed one ∙ sym (ap untimed two)
event_by system d n e k f l (Some fault) is =
    let one : event_of system d n e k ≡ Refused d fault e = rw (is, event_of) refl in
    let two : event_of system d n f l ≡ Refused d fault f = rw (is, event_of) refl in
    ap untimed one ∙ sym (ap untimed two)

candidate_by : (b : Bool) (system : System) (d : Direction) (n e k f l : ℕ) → ends_in_sync n ≡ b
    → map untimed (candidate_in system d n e k) ≡ map untimed (candidate_in system d n f l)
candidate_by true system d n e k f l is = rw is (ap (λ (v : Event). v ∷ [])
    (event_by system d n e k f l (fault_in system n) refl))
candidate_by false system d n e k f l is = rw is refl

window_same : (system : System) (n e k f l : ℕ) → map untimed (events_of_window system n e k) ≡ map untimed
    (events_of_window system n f l)
unfolding events_of_window
window_same system n e k f l =
    map-append untimed (candidate_in system Forward n e k) (candidate_in system Backward (reversed_bits n) e k)
    ∙ ap₂ ◌++◌ (candidate_by (ends_in_sync n) system Forward n e k f l refl)
    (candidate_by (ends_in_sync (reversed_bits n)) system Backward (reversed_bits n) e k f l refl)
    ∙ sym (map-append untimed (candidate_in system Forward n f l) (candidate_in system Backward (reversed_bits n) f l))

-- ---- windows

bits_number : (cells : List Cell) → bits_in cells ≡ number_of (bits cells)
bits_number [] = refl
bits_number (Zero x ∷ cells) = let more = bits_number cells in omega (arith, more)
bits_number (One a b ∷ cells) = let more = bits_number cells in omega (arith, more)

window_bits : (cells : List Cell) (k : ℕ) → bits_in (take 80 (drop k cells)) ≡ number_of (take 80 (drop k (bits cells)))
window_bits cells k =
    bits_number (take 80 (drop k cells))
    ∙ ap number_of (sym (take-map bit_of 80 (drop k cells)))
    ∙ ap (λ (l : List Bool). number_of (take 80 l)) (sym (drop-map bit_of k cells))

same_window : (one two : List Cell) (k : ℕ) → bits one ≡ bits two
    → bits_in (take 80 (drop k one)) ≡ bits_in (take 80 (drop k two))
same_window one two k same = window_bits one k ∙ ap (λ (l : List Bool). number_of (take 80 (drop k l))) same
    ∙ sym (window_bits two k)

at_same : (system : System) (t u : ℕ) (one two : List Cell) (k : ℕ) → bits one ≡ bits two
    → map untimed (events_at system t one k) ≡ map untimed (events_at system u two k)
at_same system t u one two k same =
    ap (λ (n : ℕ). map untimed (events_of_window system n (t + duration (take (k + 80) one))
    (duration (take 80 (drop k one))))) (same_window one two k same)
    ∙ window_same system (bits_in (take 80 (drop k two))) _ _ _ _

places_same : (system : System) (t u : ℕ) (one two : List Cell) (ks : List ℕ) → bits one ≡ bits two
    → map untimed (flat_map (events_at system t one) ks) ≡ map untimed (flat_map (events_at system u two) ks)
places_same system t u one two [] same = refl
places_same system t u one two (k ∷ ks) same =
    map-append untimed (events_at system t one k) (flat_map (events_at system t one) ks)
    ∙ ap₂ ◌++◌ (at_same system t u one two k same) (places_same system t u one two ks same)
    ∙ sym (map-append untimed (events_at system u two k) (flat_map (events_at system u two) ks))

pub same_events : (system : System) (t u : ℕ) (one two : List Cell) → bits one ≡ bits two
    → map untimed (events_of_cells system t one) ≡ map untimed (events_of_cells system u two)
same_events system t u one two same =
    let long : length one ≡ length two = sym (length-map one bit_of) ∙ ap length same ∙ length-map two bit_of in
    ap (λ (n : ℕ). map untimed (flat_map (events_at system t one) (range_with_len 0 (n - 79)))) long
    ∙ places_same system t u one two (range_with_len 0 (length two - 79)) same

-- ---- words that are played

pub words_told : (tick : ℕ) (cells : List Cell) (words : List Played)
    → map untimed (events_of_words tick cells words) ≡ told words
unfolding events_of_words
words_told tick cells [] = refl
words_told tick cells (p ∷ more) =
    ap (λ (l : List Event). Word p.direction p.word 0 0 ∷ l)
    (words_told (tick + duration (take 80 cells)) (drop 80 cells) more)
