-- The text of a label: `HH:MM:SS:FF`, and `HH:MM:SS;FF` for drop-frame. The form is this project's own.
use Rattle.std.specs.Prelude.{◌≡◌, ◌≢◌, ℕ, ◌+◌, ◌-◌, ◌*◌, ◌/◌, ◌%◌, ◌<◌, Bool, true, false, ◌&&◌, ◌==◌, if◌then◌else◌}
use Rattle.std.specs.Prelude.{nat_le, List, [], ◌∷◌, ◌++◌, length, slice_index, cond, Option, Some, None}
use Rattle.std.specs.Str.{bytes_eq}
use Rattle.tc_address.specs.declared.count.Count.{Count}
use Rattle.tc_address.specs.declared.count.Count.TheVariants.{Drop30}
use Rattle.tc_address.specs.declared.spelling.TextFault.{TextFault}
use Rattle.tc_address.specs.declared.spelling.TextFault.TheVariants as faults
use Rattle.tc_address.specs.Label.{Address, address, is_label, IsFirstFault}

-- two decimal digits
abbrev pub two_digits : ℕ → List ℕ
two_digits n = (48 + n / 10) ∷ (48 + n % 10) ∷ []

-- what stands before the frames, `;` for drop-frame and else `:`
abbrev pub separator : Count → ℕ
separator Drop30 = 59
separator count = 58

-- the text of a label
abbrev pub text_of : Address → List ℕ
text_of a =
    two_digits a.hours ++ 58 ∷ two_digits a.minutes ++ 58 ∷ two_digits a.seconds ++ separator a.count
    ∷ two_digits a.frames

-- a decimal digit in ASCII
abbrev pub is_digit : ℕ → Bool
is_digit byte = nat_le 48 byte && nat_le byte 57

-- the byte may stand at the place: a separator at places 2, 5 and 8, else a digit
abbrev pub may_stand : Count → ℕ → ℕ → Bool
may_stand c place byte =
    if place == 2 then byte == 58
    else if place == 5 then byte == 58
    else if place == 8 then byte == separator c
    else is_digit byte

-- the number of two digits from a place on
abbrev pub number_at : List ℕ → ℕ → ℕ
number_at text place = 10 * (slice_index text place - 48) + (slice_index text (place + 1) - 48)

-- the address that eleven good bytes say
abbrev pub address_in : Count → List ℕ → Address
address_in c text = address c (number_at text 0) (number_at text 3) (number_at text 6) (number_at text 9)

-- the bytes below a place may stand there
abbrev pub IsGoodBelow : Count → List ℕ → ℕ → Type 0
IsGoodBelow c text place = (k : ℕ) → k < place → may_stand c k (slice_index text k) ≡ true

-- the byte at the place may not stand there, and those below it may
pub record IsFirstWrongPlace (c : Count) (text : List ℕ) (place : ℕ) : Type 0 where
  pub within : place < length text
  pub before : IsGoodBelow c text place
  pub wrong : may_stand c place (slice_index text place) ≡ false

-- the fault is there, and none that is tested before it
abbrev pub IsFirstTextFault : Count → List ℕ → TextFault → Type 0
IsFirstTextFault c text faults.Length = length text ≢ 11
IsFirstTextFault c text (faults.Byte place) = (length text ≡ 11) × IsFirstWrongPlace c text place
IsFirstTextFault c text (faults.Label fault) =
    (length text ≡ 11) × IsGoodBelow c text 11 × IsFirstFault fault (address_in c text)

-- the label that the text spells, if it spells one
abbrev pub label_in : Count → List ℕ → Option Address
label_in c text =
    cond (is_label (address_in c text) && bytes_eq text (text_of (address_in c text))) (Some (address_in c text)) None
