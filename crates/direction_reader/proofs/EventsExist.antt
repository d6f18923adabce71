-- 80 bits that end in the sync word spell a word or have a fault, so a window has events, and so has each stretch, and
-- each list.
use Rattle.std.proofs.Common.{◌≡◌, ◌<◌, ◌≤◌, ◌⊎◌, ℕ, ◌-◌, ◌^◌, List, [], ◌∷◌, ◌++◌, length, take, drop, map, Bool, Some}
use Rattle.std.proofs.Common.{None, inl, inr}
use Rattle.std.proofs.Common.{arith, refl, zero, suc}
use Rattle.std.specs.List.{flat_map, range_with_len}
use Rattle.std.proofs.lemmas.List.{length-map, length-take}
use Rattle.biphase.specs.declared.cell.Cell.{Cell}
use Rattle.biphase.specs.declared.profile.Profile.{Profile}
use Rattle.biphase.specs.Chain.{bit_of, bits}
use Rattle.cell_tracker.specs.Stretch.{Stretch, AreStretches}
use Rattle.tc_address.specs.declared.system.System.{System}
use Rattle.tc_address.specs.declared.direction.Direction.{Direction}
use Rattle.tc_address.specs.declared.direction.Direction.TheVariants.{Forward, Backward}
use Rattle.tc_bits.specs.declared.fault.FieldFault.{FieldFault}
use Rattle.ltc_word.specs.declared.word.LtcWord.{LtcWord}
use Rattle.ltc_word.specs.declared.word.WordFault.TheVariants.{Field}
use Rattle.ltc_word.specs.Fault.{first_fault}
use Rattle.ltc_word.specs.Reversal.{EndsInSync, reversed_bits}
use Rattle.ltc_word.specs.Spelling.{Spells}
use Rattle.direction_reader.specs.declared.event.Event.{Event}
use Rattle.direction_reader.specs.declared.event.Event.TheVariants.{Word, Refused}
use Rattle.direction_reader.specs.declared.event.Events.{Events}
use Rattle.direction_reader.specs.Candidate.{IsEventOf, AreEventsOf}
use Rattle.direction_reader.specs.Events.{event_list}
use Rattle.direction_reader.specs.Gathered.{AreEventsOfWindows, AreEventsOfStretch, AreEventsOfStretches}
use Rattle.direction_reader.specs.Gathered.{begin_of}
use Rattle.direction_reader.specs.Windows.{number_of, window_at}
use Rattle.direction_reader.specs.ListEvents.{break_events}
use Rattle.direction_reader.specs.ListEvents.{AreEvents, events_of_stretch}
use Rattle.direction_reader.proofs.BitsShift.{bit_value-least}
use Rattle.ltc_word.specs.SyncLemmas.{in_sync_or_not}

-- 80 bits that end in the sync word spell a word or have a first fault of their fields, and in the other order they are
-- 80 bits too
pub record AreRead : Type 0 where
  pub word_or_fault : (system : System) (bits : ℕ) → bits < 2 ^ 80 → EndsInSync bits
      → ((word : LtcWord) × Spells system word bits) ⊎ ((fault : FieldFault)
      × (first_fault system bits ≡ Some (Field fault)))
  pub width : (bits : ℕ) → reversed_bits bits < 2 ^ 80

-- each list of intervals has stretches
abbrev pub HaveStretches : Type 0
HaveStretches = (profile : Profile) (intervals : List ℕ)
    → (stretches : List Stretch) × AreStretches profile intervals stretches

-- a candidate has an event
candidate_event : AreRead → (system : System) (direction : Direction) (bits end length : ℕ) → bits < 2 ^ 80
    → EndsInSync bits
    → (event : Event) × IsEventOf system direction bits end length event
candidate_event read system direction bits end length width sync =
    elim (read.word_or_fault system bits width sync) [
      | inl spelled ↦ (Word direction spelled.0 end length, (refl, spelled.1, refl, refl))
      | inr faulty ↦ (Refused direction faulty.0 end, (refl, faulty.1, refl))
    ]

-- a window has events
pub window_events : AreRead → (system : System) (bits end length : ℕ) → bits < 2 ^ 80
    → (events : Events) × AreEventsOf system bits end length events
window_events read system bits end length width =
    let back = reversed_bits bits in
    elim (in_sync_or_not bits) [
      | inl forward ↦ (
          let first = candidate_event read system Forward bits end length width forward in
          elim (in_sync_or_not back) [
            | inl backward ↦ (
                let second = candidate_event read system Backward back end length (read.width bits) backward in (
                  record { first = Some first.0; second = Some second.0 },
                  record {
                    forward = λ _. first.1;
                    backward = λ _ not_forward. absurd (not_forward forward);
                    both = λ _ _. second.1;
                    one = λ _ not_backward. absurd (not_backward backward);
                    none = λ not_forward _. absurd (not_forward forward);
                  },
                ))
            | inr not_back ↦ (
              record { first = Some first.0; second = None },
              record {
                forward = λ _. first.1;
                backward = λ backward _. absurd (not_back backward);
                both = λ _ backward. absurd (not_back backward);
                one = λ _ _. refl;
                none = λ not_forward _. absurd (not_forward forward);
              },
            )
          ])
      | inr not_forward ↦ elim (in_sync_or_not back) [
        | inl backward ↦ (
            let first = candidate_event read system Backward back end length (read.width bits) backward in (
              record { first = Some first.0; second = None },
              record {
                forward = λ forward. absurd (not_forward forward);
                backward = λ _ _. (first.1, refl);
                both = λ forward _. absurd (not_forward forward);
                one = λ forward _. absurd (not_forward forward);
                none = λ _ not_backward. absurd (not_backward backward);
              },
            ))
        | inr not_back ↦ (
          record { first = None; second = None },
          record {
            forward = λ forward. absurd (not_forward forward);
            backward = λ backward _. absurd (not_back backward);
            both = λ forward _. absurd (not_forward forward);
            one = λ forward _. absurd (not_forward forward);
            none = λ _ _. (refl, refl);
          },
        )
      ]
    ]

-- n bits or fewer are a number below 2 to the n-th
number_below : (n : ℕ) (bs : List Bool) → length bs ≤ n → number_of bs < 2 ^ n
number_below zero [] within = omega arith
number_below zero (b ∷ bs) within = absurd (omega arith)
number_below (suc n) [] within = let more = number_below n [] (omega arith) in omega arith
number_below (suc n) (b ∷ bs) within =
    let more = number_below n bs (omega arith) in
    let bit = bit_value-least b in
    omega arith

-- the bits of a window
pub window_below : (tick : ℕ) (cells : List Cell) (k : ℕ) → (window_at tick cells k).bits < 2 ^ 80
window_below tick cells k =
    let few : length (take 80 (drop k cells)) ≤ 80 = omega (arith, length-take 80 (drop k cells)) in
    number_below 80 (bits (take 80 (drop k cells))) (omega (arith, length-map (take 80 (drop k cells)) bit_of))

-- windows have events
windows_events : AreRead → (system : System) (tick : ℕ) (cells : List Cell) (ks : List ℕ)
    → (events : List Event) × AreEventsOfWindows system (map (window_at tick cells) ks) events
windows_events read system tick cells [] = ([], refl)
windows_events read system tick cells (k ∷ ks) =
    let window = window_at tick cells k in
    let own = window_events read system window.bits window.end window.length (window_below tick cells k) in
    let rest = windows_events read system tick cells ks in
    (event_list own.0 ++ rest.0, (own.0, rest.0, own.1, rest.1, refl))

-- a stretch has events
stretch_events : AreRead → (system : System) (l : List ℕ) (s : Stretch)
    → (events : List Event) × AreEventsOfStretch system l s events
stretch_events read system l s =
    let own = windows_events read system (begin_of l s) s.cells (range_with_len 0 (length s.cells - 79)) in
    (own.0 ++ break_events l s.broken_at, (own.0, own.1, refl))

-- and so have stretches
pub stretches_events : AreRead → (system : System) (l : List ℕ) (ss : List Stretch)
    → (events : List Event) × AreEventsOfStretches system l ss events
stretches_events read system l [] = ([], refl)
stretches_events read system l (s ∷ ss) =
    let own = stretch_events read system l s in
    let rest = stretches_events read system l ss in
    (own.0 ++ rest.0, (own.0, rest.0, own.1, rest.1, refl))

-- each list has events
pub list_events : HaveStretches → (system : System) (profile : Profile) (l : List ℕ)
    → (events : List Event) × AreEvents system profile l events
list_events have system profile l =
    let stretches = have profile l in
    (flat_map (events_of_stretch system l) stretches.0, (stretches.0, stretches.1, refl))
