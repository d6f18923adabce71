-- What a word is read as, after the values before it.
use Rattle.std.specs.Prelude.{◌≡◌, ◌⊎◌, ℕ, ◌*◌, ◌/◌, ◌-◌, ◌^◌, ◌<◌, ◌≤◌, min, max, nat_le, nat_lt, Bool, true, false}
use Rattle.std.specs.Prelude.{◌&&◌, ◌==◌, List, length}
use Rattle.std.specs.Prelude.{Option, Some, None, codes, if◌then◌else◌, position, slice_get}
use Rattle.std.specs.Prelude.{option_and_then, option_map}
use Rattle.std.specs.List.{after_first, before_first, position_or_len}
use Rattle.std.specs.Option.{is_some}
use Rattle.std.specs.Str.{bytes_eq}
use Rattle.label_columns.specs.declared.columns.TheConstants.{MAX_COLUMN}
use Rattle.limits.specs.declared.recording.TheConstants.{MAX_TICK_RATE}
use Rattle.tc_address.specs.declared.count.Count.{Count}
use Rattle.tc_address.specs.declared.count.Count.TheVariants.{C24, C25, C30, Drop30}
use Rattle.tc_address.specs.declared.system.System.{System}
use Rattle.tc_address.specs.Label.{Address, IsLabel, labels}
use Rattle.tc_address.specs.Numbering.{number_of}
use Rattle.tc_address.specs.Spelling.{label_in}
use Rattle.tc_job.specs.PathGrid.{grid_for, step_ticks}
use Rattle.tc_job.specs.declared.slicing.TheConstants.{MAX_FINENESS}
use Rattle.tc_job.specs.declared.usages.TheConstants.{USAGES}
use Rattle.forms.specs.Choice.{IsSaidIn, said_by}
use Rattle.forms.specs.Held.{count_at, number_or, system_at}
use Rattle.forms.specs.Number.{Word, between, number_spelled}
use Rattle.forms.specs.declared.choices.TheConstants.{NTSC, STATUSES}
use Rattle.forms.specs.declared.slot.Bound.{Bound}
use Rattle.forms.specs.declared.slot.Bound.TheVariants.{Product, Eighth, Below, Rest}
use Rattle.forms.specs.declared.slot.Need.{Need}
use Rattle.forms.specs.declared.slot.Need.TheVariants.{Needed, Optional, OrLive}
use Rattle.forms.specs.declared.slot.Slot.{Slot}
use Rattle.forms.specs.declared.slot.Slot.TheVariants as slots
use Rattle.forms.specs.declared.value.Said.TheVariants.{Live}
use Rattle.forms.specs.declared.value.Value.{Value}
use Rattle.forms.specs.declared.value.Value.TheVariants as values

-- ---- the kinds of words

-- the label of the count that is spelled so
unfoldable pub label_read : Count → Word → Option Value
label_read count word = option_map (λ label. values.Label label) (label_in count word)

-- the label that has this number in the day of the count
unfoldable pub numbered : Count → Word → Option Address
numbered count word = option_and_then (slice_get (labels count)) (number_spelled word)

-- `ntsc`, after 24 or 30: drop-frame counting is always pulled down, and no word says so
abbrev pub pulled_in : Count → Word → Option Value
pulled_in C24 word = option_map (λ said. values.Said said) (said_by NTSC word)
pulled_in C25 word = None
pulled_in C30 word = option_map (λ said. values.Said said) (said_by NTSC word)
pulled_in Drop30 word = None

-- a sound of this many samples a second has a grid for its path
unfoldable pub path_rate_in : System → Word → Option Value
path_rate_in system word =
    option_and_then (λ rate. option_map (λ grid. values.Number rate) (grid_for system rate))
    (between 1 MAX_TICK_RATE word)

-- a step of that grid has a whole number of ticks
abbrev pub has_steps : System → ℕ → ℕ → Bool
has_steps system rate fineness =
    elim (grid_for system rate) [ None ↦ false | Some grid ↦ is_some (step_ticks fineness grid) ]

-- so many ticks a sample, not too many a second, and some a step
unfoldable pub path_fineness_in : System → ℕ → Word → Option Value
path_fineness_in system rate word =
    option_and_then (λ n. if nat_le rate (MAX_TICK_RATE / n) && has_steps system rate n
    then Some (values.Number n) else None) (between 1 MAX_FINENESS word)

-- `statuses`, or the word of a command: the page of the row that begins with it
unfoldable pub topic_in : Word → Option Value
topic_in word = elim (said_by STATUSES word) [
  | Some said ↦ Some (values.Said said)
  | None ↦ option_map (λ page. values.Page page) (position (λ usage. bytes_eq word usage.0.now) USAGES)
]

-- so many frames: a number, or the label that has this number in the day of the count
unfoldable pub frames_read : Count → Word → Option Value
frames_read count word = elim (between 0 4294967295 word) [
  | Some n ↦ Some (values.Number n)
  | None ↦ option_map (λ label. values.Number (number_of label)) (label_in count word)
]

-- a dash, between the first and the last of neighbouring columns
abbrev pub is_dash : ℕ → Bool
is_dash byte = byte == 45

-- neighbouring columns, the last one not before the first; or one alone
unfoldable pub columns_read : Word → Option Value
columns_read word =
    if nat_lt (position_or_len is_dash word) (length word) then
    option_and_then (λ first. option_map (λ last. values.Columns first last)
    (between first MAX_COLUMN (after_first is_dash word))) (between 1 MAX_COLUMN (before_first is_dash word))
    else option_map (λ n. values.Columns n n) (between 1 MAX_COLUMN word)

-- the greatest number that the values before it allow
abbrev pub bounded_by : Bound → List Value → ℕ
bounded_by (Product place most) before = most / max (number_or before place 0) 1
bounded_by (Eighth one other) before = min (number_or before one 0) (number_or before other 0) / 8
bounded_by (Below place) before = number_or before place 0 - 1
bounded_by (Rest all first) before = number_or before all 0 - number_or before first 0

-- ---- a slot

-- the value of a word in a slot, after the values before it
abbrev pub value_of : Slot → List Value → Word → Option Value
value_of (slots.Number least most) before word = option_map (λ n. values.Number n) (between least most word)
value_of (slots.Bounded least most bound) before word =
    option_map (λ n. values.Number n) (between least (min most (bounded_by bound before)) word)
value_of slots.Seed before word = option_map (λ n. values.Seed n) (number_spelled word)
value_of (slots.OneOf choice) before word = option_map (λ said. values.Said said) (said_by choice word)
value_of (slots.Label count) before word = label_read (count_at before count) word
value_of (slots.NumberOfDay count) before word =
    option_map (λ label. values.Label label) (numbered (count_at before count) word)
value_of (slots.Ntsc count) before word = pulled_in (count_at before count) word
value_of (slots.PathRate system) before word = path_rate_in (system_at before system) word
value_of (slots.PathFineness system rate) before word =
    path_fineness_in (system_at before system) (number_or before rate 0) word
value_of (slots.Frames count) before word = frames_read (count_at before count) word
value_of slots.Columns before word = columns_read word
value_of slots.Topic before word = topic_in word

-- the word may be left out
abbrev pub may_be_left_out : Need → Bool
may_be_left_out Needed = false
may_be_left_out Optional = true
may_be_left_out OrLive = true

-- the last word may be `live`
abbrev pub is_live : Need → Bool → Word → Bool
is_live OrLive last word = last && bytes_eq word (codes "live")
is_live _ last word = false

-- the value of a word in a slot, and whether it is the last word
abbrev pub value_in : Need → Slot → List Value → Bool → Word → Option Value
value_in need slot before last word =
    if is_live need last word then Some (values.Said Live) else value_of slot before word

-- ---- which values fit a slot

-- a number from the least to the most
abbrev pub IsNumberIn : ℕ → ℕ → Value → Type 0
IsNumberIn least most (values.Number n) = (least ≤ n) × (n ≤ most)
IsNumberIn least most _ = ⊥

-- a number of 64 bits
abbrev pub IsSeed : Value → Type 0
IsSeed (values.Seed n) = n < 2 ^ 64
IsSeed _ = ⊥

-- a label of the count
abbrev pub IsLabelOf : Count → Value → Type 0
IsLabelOf count (values.Label label) = IsLabel label × (label.count ≡ count)
IsLabelOf count _ = ⊥

-- what a word of the choice says
abbrev pub IsSaidBy : ℕ → Value → Type 0
IsSaidBy choice (values.Said said) = IsSaidIn choice said
IsSaidBy choice _ = ⊥

-- samples a second that have a grid
abbrev pub IsPathRate : System → Value → Type 0
IsPathRate system (values.Number n) = (1 ≤ n) × (n ≤ MAX_TICK_RATE) × (is_some (grid_for system n) ≡ true)
IsPathRate system _ = ⊥

-- ticks a sample that make whole steps
abbrev pub IsPathFineness : System → ℕ → Value → Type 0
IsPathFineness system rate (values.Number n) =
    (1 ≤ n) × (n ≤ MAX_FINENESS) × (rate * n ≤ MAX_TICK_RATE) × (has_steps system rate n ≡ true)
IsPathFineness system rate _ = ⊥

-- the value is one that a word may have in the slot. Of the others nothing is asked
abbrev pub Fits : Slot → List Value → Value → Type 0
Fits (slots.Number least most) before value = IsNumberIn least most value
Fits (slots.Bounded least most bound) before value = IsNumberIn least (min most (bounded_by bound before)) value
Fits slots.Seed before value = IsSeed value
Fits (slots.OneOf choice) before value = IsSaidBy choice value
Fits (slots.Label count) before value = IsLabelOf (count_at before count) value
Fits (slots.NumberOfDay count) before value = IsLabelOf (count_at before count) value
Fits (slots.PathRate system) before value = IsPathRate (system_at before system) value
Fits (slots.PathFineness system rate) before value =
    IsPathFineness (system_at before system) (number_or before rate 0) value
Fits _ before value = Unit {0}

-- the same, or it is `live`
abbrev pub FitsIn : Need → Slot → List Value → Value → Type 0
FitsIn OrLive slot before value = (value ≡ values.Said Live) ⊎ Fits slot before value
FitsIn _ slot before value = Fits slot before value
