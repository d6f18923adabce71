-- A word that a slot takes is named by the page, if the page names what the slot takes: this is a test that is
-- computed.
use Rattle.std.proofs.Common.{◌≡◌, ◌≤◌, ℕ, Bool, true, false, ◌&&◌, List, [], ◌∷◌, length, Some, None, refl}
use Rattle.std.proofs.Common.{◌<◌, ◌+◌, arith, zero, suc, get_or, cond, min, rules}
use Rattle.std.specs.Prelude.{codes, nat_eq, option_map, option_and_then, slice_get, position}
use Rattle.std.specs.declared.option.Option.{Option}
use Rattle.std.specs.List.{list_all, list_any}
use Rattle.std.specs.Option.{is_some}
use Rattle.std.specs.Str.{bytes_eq}
use Rattle.std.proofs.lemmas.Bool.{and_parts}
use Rattle.std.proofs.lemmas.List.Quantifiers.{position-Some}
use Rattle.std.proofs.lemmas.Slice.Eq.{bytes_eq-Decides}
use Rattle.tc_address.specs.declared.count.Count.{Count}
use Rattle.tc_address.specs.declared.count.Count.TheVariants.{C24, C25, C30, Drop30}
use Rattle.tc_address.specs.Numbering.{number_of}
use Rattle.tc_address.specs.Spelling.{label_in}
use Rattle.tc_job.specs.declared.usages.TheConstants.{USAGES}
use Rattle.forms.specs.Choice.{choices, said_by, said_in}
use Rattle.forms.specs.Form.{SlotRow}
use Rattle.forms.specs.Number.{Word, between, number_spelled}
use Rattle.forms.specs.Held.{count_at}
use Rattle.forms.specs.Slot.{bounded_by, columns_read, frames_read, is_live, label_read, numbered, path_fineness_in}
use Rattle.forms.specs.Slot.{path_rate_in, pulled_in, topic_in, value_in, value_of}
use Rattle.forms.specs.declared.choices.TheConstants.{NTSC, STATUSES}
use Rattle.forms.specs.declared.slot.Need.{Need}
use Rattle.forms.specs.declared.slot.Need.TheVariants.{Needed, Optional, OrLive}
use Rattle.forms.specs.declared.slot.Slot.{Slot}
use Rattle.forms.specs.declared.slot.Slot.TheVariants as slots
use Rattle.forms.specs.declared.value.Said.{Said}
use Rattle.forms.specs.declared.value.Said.TheVariants.{Live}
use Rattle.forms.specs.declared.value.Value.{Value}
use Rattle.forms.specs.declared.value.Value.TheVariants as values
use Rattle.limits.specs.declared.recording.TheConstants.{MAX_TICK_RATE}
use Rattle.tc_job.specs.declared.slicing.TheConstants.{MAX_FINENESS}
use Rattle.tc_words.specs.Forms.{between_bars}
use Rattle.tc_words.specs.Pages.{ValueRow, is_label, is_named, is_named_by, is_of_columns, is_of_labels, is_told}
use Rattle.tc_words.specs.Pages.{value_rows}
use Rattle.tc_words.proofs.NumbersNamed.{between_is, first_some, names_range, number_named, one_of, small}

-- ---- the test

-- a row of the command, at a place, whose text is so
abbrev has_row : (List ℕ → Bool) → Word → ℕ → List ValueRow → Bool
has_row is command place rows = list_any (λ (row : ValueRow).
    bytes_eq row.command command && nat_eq row.place place && is row.named) rows

-- each word of a choice is named
abbrev names_choice : Word → ℕ → ℕ → Bool
names_choice command place choice =
    elim (slice_get choices choice) [ None ↦ true | Some words ↦ list_all (λ row. is_told command place row.0) words ]

-- the text names all labels, or all columns
abbrev names_labels : List ℕ → Bool
names_labels named = list_any is_of_labels (between_bars named)

abbrev names_columns : List ℕ → Bool
names_columns named = list_any is_of_columns (between_bars named)

-- the page names what the slot takes
abbrev pub names_slot : Word → ℕ → Slot → Bool
names_slot command place (slots.Number least most) = has_row (names_range least most) command place value_rows
names_slot command place (slots.Bounded least most bound) = has_row (names_range least most) command place value_rows
names_slot command place slots.Seed = has_row (names_range 0 18446744073709551615) command place value_rows
names_slot command place (slots.OneOf choice) = names_choice command place choice
names_slot command place (slots.Label count) = has_row names_labels command place value_rows
names_slot command place (slots.NumberOfDay count) =
    has_row (names_range 0 18446744073709551615) command place value_rows
names_slot command place (slots.Ntsc count) = names_choice command place NTSC
names_slot command place (slots.PathRate system) = has_row (names_range 1 MAX_TICK_RATE) command place value_rows
names_slot command place (slots.PathFineness system rate) =
    has_row (names_range 1 MAX_FINENESS) command place value_rows
names_slot command place (slots.Frames count) =
    has_row (names_range 0 4294967295) command place value_rows && has_row names_labels command place value_rows
names_slot command place slots.Columns = has_row names_columns command place value_rows
names_slot command place slots.Topic =
    names_choice command place STATUSES && list_all (λ usage. is_told command place usage.0.now) USAGES

abbrev pub names_need : Word → ℕ → Need → Bool
names_need command place OrLive = is_told command place (codes "live")
names_need command place _ = true

-- and of all slots
abbrev pub names_slots : Word → ℕ → List SlotRow → Bool
names_slots command place [] = true
names_slots command place (slot ∷ more) =
    names_need command place slot.0 && names_slot command place slot.1 && names_slots command (place + 1) more

-- ---- lists and tests

all_at : {X : Type 0} (q : X → Bool) (xs : List X) (i : ℕ) (d : X) → i < length xs → list_all q xs ≡ true
    → q (get_or xs i d) ≡ true
all_at q [] i d within all = absurd (omega (arith, within))
all_at q (x ∷ xs) zero d within all = (and_parts (q x) _ all).0
all_at q (x ∷ xs) (suc i) d within all = all_at q xs i d (omega (arith, within)) (and_parts (q x) _ all).1

located : {X : Type 0} (p q : X → Bool) (xs : List X) (i : ℕ) → position p xs ≡ Some i
    → list_all q xs ≡ true → (x : X) × (p x ≡ true) × (q x ≡ true)
located p q [] i at all = absurd cc
located p q (x ∷ xs) i at all =
    let is = position-Some p (x ∷ xs) i x at in (get_or (x ∷ xs) i x, is.1, all_at q (x ∷ xs) i x is.0 all)

mapped : {X Y : Type 0} (f : X → Y) (o : Option X) (y : Y) → option_map f o ≡ Some y → (x : X) × (o ≡ Some x)
mapped f None y is = absurd cc
mapped f (Some x) y is = (x, refl)

-- ---- the rows of the pages

row_tells : (is : List ℕ → Bool) (command : Word) (place : ℕ) (word : Word) (rows : List ValueRow)
    → ((named : List ℕ) → is named ≡ true → is_named named word ≡ true) → has_row is command place rows ≡ true
    → list_any (λ (row : ValueRow). bytes_eq row.command command && nat_eq row.place place
    && is_named row.named word) rows ≡ true
row_tells is command place word rows names has =
    one_of (λ (row : ValueRow). bytes_eq row.command command && nat_eq row.place place && is row.named)
    (λ (row : ValueRow). bytes_eq row.command command && nat_eq row.place place && is_named row.named word) rows
    (λ row at.
    let parts = and_parts (bytes_eq row.command command && nat_eq row.place place) (is row.named) at in
    rw (parts.0, names row.named parts.1) refl) has

range_tells : (command : Word) (place least most : ℕ) (word : Word) (n : ℕ)
    → has_row (names_range least most) command place value_rows ≡ true → number_spelled word ≡ Some n → least ≤ n
    → n ≤ most → is_told command place word ≡ true
range_tells command place least most word n has spelled low high =
    row_tells (names_range least most) command place word value_rows
    (λ named names. number_named least most named word n names spelled low high) has

-- ---- words of a choice

one_tells : (command : Word) (place : ℕ) (rows : List (Word × Said)) (word : Word) (said : Said)
    → list_all (λ row. is_told command place row.0) rows ≡ true → said_in rows word ≡ Some said
    → is_told command place word ≡ true
one_tells command place [] word said all at = absurd cc
one_tells command place (row ∷ rows) word said all at =
    go (bytes_eq word row.0) refl at
    (λ is. one_tells command place rows word said (and_parts (is_told command place row.0) _ all).1 is)
  where
    go : (same : Bool) → bytes_eq word row.0 ≡ same → cond same (Some row.1) (said_in rows word) ≡ Some said
        → (said_in rows word ≡ Some said → is_told command place word ≡ true) → is_told command place word ≡ true
    go true same is more =
        rw ((bytes_eq-Decides word row.0).0 same) (and_parts (is_told command place row.0) _ all).0
    go false same is more = more is

choice_tells : (command : Word) (place choice : ℕ) (word : Word) (said : Said)
    → names_choice command place choice ≡ true → said_by choice word ≡ Some said → is_told command place word ≡ true
unfolding said_by
choice_tells command place choice word said names at = go (slice_get choices choice) names at
  where
    go : (o : Option (List (Word × Said)))
        → elim o [ None ↦ true | Some words ↦ list_all (λ row. is_told command place row.0) words ] ≡ true
        → option_and_then (λ words. said_in words word) o ≡ Some said → is_told command place word ≡ true
    go None names at = absurd cc
    go (Some words) names at = one_tells command place words word said names at

-- ---- a slot

label_told : (count : Count) (word : Word) → is_some (label_in count word) ≡ true → is_label word ≡ true
label_told C24 word is = search (rules, is)
label_told C25 word is = search (rules, is)
label_told C30 word is = search (rules, is)
label_told Drop30 word is = search (rules, is)

is_of_label : (count : Count) (word : Word) (v : Value) → label_read count word ≡ Some v → is_label word ≡ true
unfolding label_read
is_of_label count word v is =
    let (label, at) = mapped _ (label_in count word) v is in label_told count word (rw at refl)

label_tells : (command : Word) (place : ℕ) (word : Word) → has_row names_labels command place value_rows ≡ true
    → is_label word ≡ true → is_told command place word ≡ true
label_tells command place word has is =
    row_tells names_labels command place word value_rows
    (λ named. one_of is_of_labels (is_named_by word) (between_bars named) (λ text labels. rw labels is)) has

columns_tell : (command : Word) (place : ℕ) (word : Word) → has_row names_columns command place value_rows ≡ true
    → is_some (columns_read word) ≡ true → is_told command place word ≡ true
columns_tell command place word has is =
    row_tells names_columns command place word value_rows
    (λ named. one_of is_of_columns (is_named_by word) (between_bars named)
    (λ text columns. rw ((bytes_eq-Decides text (codes "N-M")).0 columns) is)) has

pulled_tells : (command : Word) (place : ℕ) (count : Count) (word : Word) (v : Value)
    → names_choice command place NTSC ≡ true → pulled_in count word ≡ Some v → is_told command place word ≡ true
pulled_tells command place C24 word v names is =
    let (said, at) = mapped _ (said_by NTSC word) v is in choice_tells command place NTSC word said names at
pulled_tells command place C25 word v names is = absurd cc
pulled_tells command place C30 word v names is =
    let (said, at) = mapped _ (said_by NTSC word) v is in choice_tells command place NTSC word said names at
pulled_tells command place Drop30 word v names is = absurd cc

topic_tells : (command : Word) (place : ℕ) (word : Word) (v : Value) → names_slot command place slots.Topic ≡ true
    → topic_in word ≡ Some v → is_told command place word ≡ true
unfolding topic_in
topic_tells command place word v names is = go (said_by STATUSES word) refl is
  where
    go : (o : Option Said) → said_by STATUSES word ≡ o → elim o [
      | Some said ↦ Some (values.Said said)
      | None ↦ option_map (λ page. values.Page page) (position (λ usage. bytes_eq word usage.0.now) USAGES)
    ] ≡ Some v → is_told command place word ≡ true
    go (Some said) at is = choice_tells command place STATUSES word said
        (and_parts (names_choice command place STATUSES) _ names).0 at
    go None at is =
        let (page, found) = mapped _ (position (λ usage. bytes_eq word usage.0.now) USAGES) v is in
        let (usage, same, told) = located (λ usage. bytes_eq word usage.0.now)
        (λ usage. is_told command place usage.0.now) USAGES page found
        (and_parts (names_choice command place STATUSES) _ names).1 in
        rw ((bytes_eq-Decides word usage.0.now).0 same) told

range_told : (command : Word) (place least most : ℕ) (word : Word) (n : ℕ)
    → has_row (names_range least most) command place value_rows ≡ true → between least most word ≡ Some n
    → is_told command place word ≡ true
range_told command place least most word n has is =
    let (spelled, low, high) = between_is least most word n is in
    range_tells command place least most word n has spelled low high

-- so many frames: a number, or a label
frames_tell : (command : Word) (place : ℕ) (count : Count) (word : Word) (v : Value)
    → has_row (names_range 0 4294967295) command place value_rows ≡ true
    → has_row names_labels command place value_rows ≡ true → frames_read count word ≡ Some v
    → is_told command place word ≡ true
unfolding frames_read
frames_tell command place count word v numbers labels is = go (between 0 4294967295 word) refl is
  where
    go : (o : Option ℕ) → between 0 4294967295 word ≡ o → elim o [
      | Some n ↦ Some (values.Number n)
      | None ↦ option_map (λ label. values.Number (number_of label)) (label_in count word)
    ] ≡ Some v → is_told command place word ≡ true
    go (Some n) at is = range_told command place 0 4294967295 word n numbers at
    go None at is =
        let (label, found) = mapped _ (label_in count word) v is in
        label_tells command place word labels (label_told count word (rw found refl))

value_tells : (command : Word) (place : ℕ) (slot : Slot) (before : List Value) (word : Word) (v : Value)
    → names_slot command place slot ≡ true → value_of slot before word ≡ Some v → is_told command place word ≡ true
unfolding path_rate_in path_fineness_in numbered
value_tells command place (slots.Number least most) before word v names is =
    let (n, at) = mapped _ (between least most word) v is in range_told command place least most word n names at
value_tells command place (slots.Bounded least most bound) before word v names is =
    let (n, at) = mapped _ (between least (min most (bounded_by bound before)) word) v is in
    let (spelled, low, high) = between_is least (min most (bounded_by bound before)) word n at in
    range_tells command place least most word n names spelled low (omega (arith, high))
value_tells command place slots.Seed before word v names is =
    let (n, at) = mapped _ (number_spelled word) v is in
    range_tells command place 0 18446744073709551615 word n names at (omega arith) (small word n at)
value_tells command place (slots.OneOf choice) before word v names is =
    let (said, at) = mapped _ (said_by choice word) v is in choice_tells command place choice word said names at
value_tells command place (slots.Label count) before word v names is =
    label_tells command place word names (is_of_label (count_at before count) word v is)
value_tells command place (slots.NumberOfDay count) before word v names is =
    let (label, at) = mapped _ (numbered (count_at before count) word) v is in
    let (n, spelled, rest) = first_some _ (number_spelled word) label at in
    range_tells command place 0 18446744073709551615 word n names spelled (omega arith) (small word n spelled)
value_tells command place (slots.Ntsc count) before word v names is =
    pulled_tells command place (count_at before count) word v names is
value_tells command place (slots.PathRate system) before word v names is =
    let (n, at, rest) = first_some _ (between 1 MAX_TICK_RATE word) v is in
    range_told command place 1 MAX_TICK_RATE word n names at
value_tells command place (slots.PathFineness system rate) before word v names is =
    let (n, at, rest) = first_some _ (between 1 MAX_FINENESS word) v is in
    range_told command place 1 MAX_FINENESS word n names at
value_tells command place (slots.Frames count) before word v names is =
    let both = and_parts (has_row (names_range 0 4294967295) command place value_rows) _ names in
    frames_tell command place (count_at before count) word v both.0 both.1 is
value_tells command place slots.Columns before word v names is = columns_tell command place word names (rw is refl)
value_tells command place slots.Topic before word v names is = topic_tells command place word v names is

live_tells : (command : Word) (place : ℕ) (need : Need) (last : Bool) (word : Word)
    → names_need command place need ≡ true → is_live need last word ≡ true → is_told command place word ≡ true
live_tells command place Needed last word names is = absurd cc
live_tells command place Optional last word names is = absurd cc
live_tells command place OrLive last word names is =
    rw ((bytes_eq-Decides word (codes "live")).0 (and_parts last _ is).1) names

pub slot_tells : (command : Word) (place : ℕ) (need : Need) (slot : Slot) (before : List Value) (last : Bool)
    (word : Word) (v : Value) → names_need command place need ≡ true → names_slot command place slot ≡ true
    → value_in need slot before last word ≡ Some v → is_told command place word ≡ true
slot_tells command place need slot before last word v names_live names is = go (is_live need last word) refl is
  where
    go : (live : Bool) → is_live need last word ≡ live
        → cond live (Some (values.Said Live)) (value_of slot before word) ≡ Some v → is_told command place word ≡ true
    go true is_it at = live_tells command place need last word names_live is_it
    go false is_it at = value_tells command place slot before word v names at
