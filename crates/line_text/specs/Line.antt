-- What the lines of reports are made of, byte for byte. Their form is this project's own.
use Rattle.std.specs.Prelude.{List, ℕ, Bool, ◌++◌, codes, if◌then◌else◌, Option, Some, None}
use Rattle.std.specs.Int.{w32, to_be_bytes}
use Rattle.std.specs.Str.{bytes_eq}
use Rattle.hex.specs.Hex.{encode_lower}
use Rattle.tc_address.specs.declared.direction.Direction.{Direction}
use Rattle.tc_address.specs.declared.direction.Direction.TheVariants.{Forward, Backward}
use Rattle.tc_bits.specs.declared.flags.Flags.{Flags}

-- 1 where the flag is set, and else 0
abbrev pub flag_digit : Bool → List ℕ
flag_digit flag = if flag then codes "1" else codes "0"

-- drop-frame flag, colour-frame flag, and binary group flags 0, 1 and 2
abbrev pub flags_text : Flags → List ℕ
flags_text f =
    flag_digit f.drop_frame ++ flag_digit f.colour_frame ++ flag_digit f.group_flag_zero ++ flag_digit f.group_flag_one
    ++ flag_digit f.group_flag_two

-- the user bits: eight hexadecimal digits, user group 8 first
abbrev pub user_text : ℕ → List ℕ
user_text user = encode_lower (to_be_bytes w32 user)

-- the way of the tape, as a word
abbrev pub direction_name : Direction → List ℕ
direction_name Forward = codes "forward"
direction_name Backward = codes "backward"

-- and the way that a word names
unfoldable pub direction_named : List ℕ → Option Direction
direction_named word =
    if bytes_eq word (codes "forward") then Some Forward
    else if bytes_eq word (codes "backward") then Some Backward else None
