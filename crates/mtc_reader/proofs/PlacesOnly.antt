-- But for its place an event is fixed by the bytes that are no system real-time bytes.
use Rattle.std.proofs.Common.{◌≡◌, ℕ, Bool, true, false, List, [], ◌∷◌, ◌++◌, map, length, cond, if◌then◌else◌, Option}
use Rattle.std.proofs.Common.{Some, None}
use Rattle.std.proofs.Common.{refl, sym, ◌∙◌, ap, ap₂, arith, append-nil}
use Rattle.std.specs.Prelude.{reverse}
use Rattle.std.specs.Option.{option_map}
use Rattle.std.specs.Str.{bytes_eq}
use Rattle.std.specs.List.{cons_option}
use Rattle.std.proofs.lemmas.Bool.Decides.{nat_tests}
use Rattle.std.proofs.lemmas.List.{reverse-append, map-append}
use Rattle.std.proofs.lemmas.List.Elements.{filter-append}
use Rattle.tc_address.specs.declared.direction.Direction.{Direction}
use Rattle.tc_address.specs.declared.direction.Direction.TheVariants.{Forward, Backward}
use Rattle.tc_address.specs.Label.{Address, is_label}
use Rattle.mtc_reader.specs.declared.event.MtcEvent.{MtcEvent}
use Rattle.mtc_reader.specs.declared.event.MtcEvent.TheVariants.{Full, Quarter, RefusedFull, RefusedQuarter}
use Rattle.mtc_reader.specs.declared.message.Message.{Message}
use Rattle.mtc_reader.specs.declared.message.Message.TheVariants.{QuarterFrame, FullMessage}
use Rattle.mtc_reader.specs.Events.{fault_of, quarter_event, event_with, latest_events, events_in, latest_eight, row_in}
use Rattle.mtc_reader.specs.Events.{piece_of, pieces, quarter_address}
use Rattle.mtc_reader.specs.Laws.{at_no_place, AreRealTime}
use Rattle.mtc_reader.specs.Messages.{is_sounding, without_real_time, completed_by, current_in, messages_in}

-- the latest first, of bytes that are no real-time bytes
abbrev plain_events : List ℕ → List MtcEvent
plain_events [] = []
plain_events (byte ∷ before) = cons_option (event_with (completed_by byte (current_in before)) (messages_in before) 0)
    (plain_events before)

no_place-full : (b : Bool) (a : Address) (place : ℕ) →
    at_no_place (cond b (Full a place) (RefusedFull (fault_of a) place)) ≡ cond b (Full a 0)
    (RefusedFull (fault_of a) 0)
no_place-full true a place = refl
no_place-full false a place = refl

no_place-quarter : (b : Bool) (direction : Direction) (a : Address) (place : ℕ) →
    at_no_place (cond b (Quarter direction a place) (RefusedQuarter direction (fault_of a) place))
    ≡ cond b (Quarter direction a 0) (RefusedQuarter direction (fault_of a) 0)
no_place-quarter true direction a place = refl
no_place-quarter false direction a place = refl

no_place-window : (rises falls : Bool) (a b : Address) (place : ℕ) →
    option_map at_no_place
    (if rises then Some (quarter_event Forward a place) else if falls then Some (quarter_event Backward b place)
    else None)
    ≡ (if rises then Some (quarter_event Forward a 0) else if falls then Some (quarter_event Backward b 0) else None)
no_place-window true falls a b place = ap (λ event. Some event) (no_place-quarter (is_label a) Forward a place)
no_place-window false true a b place = ap (λ event. Some event) (no_place-quarter (is_label b) Backward b place)
no_place-window false false a b place = refl

no_place : (message : Option Message) (before : List Message) (place : ℕ) →
    option_map at_no_place (event_with message before place) ≡ event_with message before 0
no_place None before place = refl
no_place (Some (FullMessage hours minutes seconds frames)) before place =
    ap (λ event. Some event) (no_place-full _ _ place)
no_place (Some (QuarterFrame quarter)) before place =
    let window = latest_eight (row_in before ++ quarter ∷ []) in
    no_place-window (bytes_eq (map piece_of window) pieces) (bytes_eq (map piece_of (reverse window)) pieces)
    (quarter_address window) (quarter_address (reverse window)) place

map-cons_option : (event : Option MtcEvent) (events : List MtcEvent) →
    map at_no_place (cons_option event events) ≡ cons_option (option_map at_no_place event) (map at_no_place events)
map-cons_option None events = refl
map-cons_option (Some event) events = refl

-- a real-time byte gives nothing, and another one what the others before it say
plain_step : (sounding : Bool) (byte : ℕ) (before : List ℕ) → is_sounding byte ≡ sounding →
    map at_no_place (latest_events before) ≡ plain_events (without_real_time before) →
    map at_no_place (latest_events (byte ∷ before)) ≡ plain_events (without_real_time (byte ∷ before))
plain_step true byte before is earlier =
    let others = without_real_time before in
    let message = completed_by byte (current_in others) in
    rw is (map-cons_option (event_with message (messages_in others) (length before)) (latest_events before)
    ∙ ap₂ cons_option (no_place message (messages_in others) (length before)) earlier)
plain_step false byte before is earlier = rw is earlier

plain : (bytes : List ℕ) → map at_no_place (latest_events bytes) ≡ plain_events (without_real_time bytes)
plain [] = refl
plain (byte ∷ before) = plain_step (is_sounding byte) byte before refl (plain before)

reverse_cons : {X : Type 0} (x : X) (xs : List X) → reverse (x ∷ xs) ≡ reverse xs ++ x ∷ []
reverse_cons x xs = reverse-append (x ∷ []) xs

map-reverse : (events : List MtcEvent) → map at_no_place (reverse events) ≡ reverse (map at_no_place events)
map-reverse [] = refl
map-reverse (event ∷ more) =
    ap (map at_no_place) (reverse_cons event more) ∙ map-append at_no_place (reverse more) (event ∷ [])
    ∙ ap (λ events. events ++ at_no_place event ∷ []) (map-reverse more)
    ∙ sym (reverse_cons (at_no_place event) (map at_no_place more))

filter-reverse_by : (sounding : Bool) (byte : ℕ) (more : List ℕ) → is_sounding byte ≡ sounding →
    without_real_time (reverse more) ≡ reverse (without_real_time more) →
    without_real_time (reverse more) ++ without_real_time (byte ∷ []) ≡ reverse (without_real_time (byte ∷ more))
filter-reverse_by true byte more is others =
    rw is (ap (λ bytes. bytes ++ byte ∷ []) others ∙ sym (reverse_cons byte (without_real_time more)))
filter-reverse_by false byte more is others = rw is (append-nil (without_real_time (reverse more)) ∙ others)

filter-reverse : (bytes : List ℕ) → without_real_time (reverse bytes) ≡ reverse (without_real_time bytes)
filter-reverse [] = refl
filter-reverse (byte ∷ more) =
    ap without_real_time (reverse_cons byte more) ∙ filter-append is_sounding (reverse more) (byte ∷ [])
    ∙ filter-reverse_by (is_sounding byte) byte more refl (filter-reverse more)

plain_in : (bytes : List ℕ)
    → map at_no_place (events_in bytes) ≡ reverse (plain_events (reverse (without_real_time bytes)))
plain_in bytes =
    map-reverse (latest_events (reverse bytes))
    ∙ ap reverse (plain (reverse bytes) ∙ ap plain_events (filter-reverse bytes))

pub same_events : (a b : List ℕ) → without_real_time a ≡ without_real_time b
    → map at_no_place (events_in a) ≡ map at_no_place (events_in b)
same_events a b same = plain_in a ∙ ap (λ bytes. reverse (plain_events (reverse bytes))) same ∙ sym (plain_in b)

none_left : (bytes : List ℕ) → AreRealTime bytes → without_real_time bytes ≡ []
none_left [] all = refl
none_left (byte ∷ more) all =
    let real_time : is_sounding byte ≡ false = let first = all.0 in grind (arith, nat_tests) in
    rw real_time (none_left more all.1)

pub same_left : (before inserted after : List ℕ) → AreRealTime inserted →
    without_real_time (before ++ (inserted ++ after)) ≡ without_real_time (before ++ after)
same_left before inserted after all =
    let front = filter-append is_sounding before (inserted ++ after) in
    let back : without_real_time (inserted ++ after) ≡ without_real_time after =
    filter-append is_sounding inserted after ∙ ap (λ bytes. bytes ++ without_real_time after) (none_left inserted all)
    in
    front ∙ ap (λ bytes. without_real_time before ++ bytes) back ∙ sym (filter-append is_sounding before after)
