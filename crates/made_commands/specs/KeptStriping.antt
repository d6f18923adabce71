-- What `ltc-make` keeps of a recording that is half made; no promise speaks of it.
use Rattle.std.specs.Prelude.{ℕ, ◌+◌, Bool, true, false, List, ◌∷◌, ◌++◌, Option, Some, None}
use Rattle.interval_file.specs.declared.header.FileVersion.TheVariants.{One}
use Rattle.interval_file.specs.Grammar.{intervals_bytes}
use Rattle.biphase.specs.Chain.{flat}
use Rattle.biphase.specs.Shape.{Shape, shaped}
use Rattle.tc_address.specs.declared.direction.Direction.{Direction}
use Rattle.tc_address.specs.Label.{Address}
use Rattle.direction_reader.specs.Played.{bits_of_words}
use Rattle.made_commands.specs.Made.{frames_from}

-- the intervals of the cells of bits, as they are in a file
abbrev pub cell_bytes : Shape → List Bool → List ℕ
cell_bytes shape bits = intervals_bytes One (flat (shaped shape bits))

-- after the header and the cells by which a reader locks, or with them
abbrev pub rest_of : Option (List ℕ) → Shape → Direction → Address → ℕ → List ℕ
rest_of None shape direction label frames = cell_bytes shape (bits_of_words (frames_from direction label frames))
rest_of (Some header) shape direction label frames =
    header ++ cell_bytes shape (false ∷ true ∷ bits_of_words (frames_from direction label frames))

-- a piece for the header, and at most one a frame
abbrev pub pieces_of : Option (List ℕ) → ℕ → ℕ
pieces_of None frames = frames
pieces_of (Some header) frames = frames + 1
