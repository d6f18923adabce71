-- The messages of MIDI Time Code (MIDI 1.0, MIDI Time Code: "quarter frame messages" and "full message").
use Rattle.std.specs.Prelude.{ℕ, ◌+◌, ◌*◌, ◌/◌, ◌%◌, List, [], ◌∷◌, slice_index}
use Rattle.tc_address.specs.declared.count.Count.{Count}
use Rattle.tc_address.specs.declared.count.Count.TheVariants.{C24, C25, C30, Drop30}
use Rattle.tc_address.specs.Label.{Address}

-- two bits that say the count
abbrev pub code_of : Count → ℕ
code_of C24 = 0
code_of C25 = 1
code_of Drop30 = 2
code_of C30 = 3

-- the low four bits of a number, and those above them
abbrev pub low : ℕ → ℕ
low n = n % 16

-- the bits above the low four
abbrev pub high : ℕ → ℕ
high n = n / 16

-- the four bits of each of the eight pieces of a label, piece 0 first: the count stands above the high bit of the hours
abbrev pub pieces_of : Address → List ℕ
pieces_of a =
    low a.frames ∷ high a.frames ∷ low a.seconds ∷ high a.seconds ∷ low a.minutes ∷ high a.minutes ∷ low a.hours
    ∷ (high a.hours + 2 * code_of a.count) ∷ []

-- a quarter frame: its status, and the number of the piece above the piece's four bits
abbrev pub quarter_of : Address → ℕ → List ℕ
quarter_of a piece = 0xf1 ∷ (16 * piece + slice_index (pieces_of a) piece) ∷ []

-- the full message, to all devices: the count stands above the hours
abbrev pub full_of : Address → List ℕ
full_of a =
    0xf0 ∷ 0x7f ∷ 0x7f ∷ 0x01 ∷ 0x01 ∷ (32 * code_of a.count + a.hours) ∷ a.minutes ∷ a.seconds ∷ a.frames ∷ 0xf7 ∷ []
