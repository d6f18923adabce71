-- What the laws speak of: the events of a run that is sent whole, events but for their places, and system real-time
-- bytes.
use Rattle.std.specs.Prelude.{ℕ, ◌+◌, ◌*◌, ◌/◌, ◌%◌, ◌≤◌, List, [], ◌∷◌, reverse, take}
use Rattle.std.specs.List.{flat_map}
use Rattle.tc_address.specs.declared.direction.Direction.{Direction}
use Rattle.tc_address.specs.declared.count.Count.{Count}
use Rattle.tc_address.specs.declared.count.Count.TheVariants.{C24, C25, C30, Drop30}
use Rattle.tc_address.specs.Label.{Address, IsLabel}
use Rattle.mtc_reader.specs.declared.event.MtcEvent.{MtcEvent}
use Rattle.mtc_reader.specs.declared.event.MtcEvent.TheVariants.{Full, Quarter, RefusedFull, RefusedQuarter}

-- an event but for its place
abbrev pub at_no_place : MtcEvent → MtcEvent
at_no_place (Full label place) = Full label 0
at_no_place (Quarter direction label place) = Quarter direction label 0
at_no_place (RefusedFull fault place) = RefusedFull fault 0
at_no_place (RefusedQuarter direction fault place) = RefusedQuarter direction fault 0

-- all bytes are system real-time bytes
abbrev pub AreRealTime : List ℕ → Type 0
AreRealTime [] = Unit {0}
AreRealTime (byte ∷ more) = (0xf8 ≤ byte) × AreRealTime more

-- the two bits that say a count
abbrev pub code_of : Count → ℕ
code_of C24 = 0
code_of C25 = 1
code_of Drop30 = 2
code_of C30 = 3

-- the full message of an address, to a device
abbrev pub full_message : ℕ → Address → List ℕ
full_message device a =
    0xf0 ∷ 0x7f ∷ device ∷ 0x01 ∷ 0x01 ∷ (32 * code_of a.count + a.hours) ∷ a.minutes ∷ a.seconds ∷ a.frames ∷ 0xf7 ∷ []

-- quarter frames with these data bytes
abbrev pub quarters : List ℕ → List ℕ
quarters [] = []
quarters (number ∷ more) = 0xf1 ∷ number ∷ quarters more

-- the data bytes of the quarter frames of an address, in the order of their pieces
abbrev pub numbers_of : Address → List ℕ
numbers_of a =
    (a.frames % 16) ∷ (0x10 + a.frames / 16) ∷ (0x20 + a.seconds % 16) ∷ (0x30 + a.seconds / 16)
    ∷ (0x40 + a.minutes % 16) ∷ (0x50 + a.minutes / 16) ∷ (0x60 + a.hours % 16)
    ∷ (0x70 + (a.hours / 16 + 2 * code_of a.count)) ∷ []

-- the quarter frames of an address with rising pieces, and those with falling ones
abbrev pub rising : Address → List ℕ
rising a = quarters (numbers_of a)

-- the quarter frames of a label, from piece 7 to piece 0
abbrev pub falling : Address → List ℕ
falling a = quarters (reverse (numbers_of a))

-- all of them are labels
abbrev pub AreLabels : List Address → Type 0
AreLabels [] = Unit {0}
AreLabels (a ∷ more) = IsLabel a × AreLabels more

-- the first four quarter frames of an address either way
abbrev pub rising_half : Address → List ℕ
rising_half a = quarters (take 4 (numbers_of a))

-- the first four of them, pieces 7 to 4
abbrev pub falling_half : Address → List ℕ
falling_half a = quarters (take 4 (reverse (numbers_of a)))

-- the quarter frames of addresses, one after another
abbrev pub all_rising : List Address → List ℕ
all_rising labels = flat_map rising labels

-- those of some labels, one label after another
abbrev pub all_falling : List Address → List ℕ
all_falling labels = flat_map falling labels

-- the quarter events of labels that are sent one after another from a byte place on: each with its last byte, of eight
-- quarter frames of two bytes
abbrev pub quarter_events : ℕ → Direction → List Address → List MtcEvent
quarter_events at direction [] = []
quarter_events at direction (label ∷ more) =
    Quarter direction label (at + 15) ∷ quarter_events (at + 16) direction more

-- the events of a run that is sent from a byte place on: its full message, of ten bytes, and then the labels
abbrev pub run_events : ℕ → Direction → Address → List Address → List MtcEvent
run_events at direction first labels = Full first (at + 9) ∷ quarter_events (at + 10) direction labels
