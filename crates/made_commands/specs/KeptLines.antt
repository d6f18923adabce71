-- What `vitc-make` keeps of a line file that is half made; no promise speaks of it.
use Rattle.std.specs.Prelude.{ℕ, ◌+◌, List, ◌++◌, map, Option, Some, None}
use Rattle.std.specs.List.{flat_map}
use Rattle.tc_address.specs.Count.{system_with}
use Rattle.tc_address.specs.Label.{Address}
use Rattle.vitc_line.specs.Places.{HasLines}
use Rattle.vitc_reader.specs.Runs.{IsLineLength}
use Rattle.line_file.specs.Grammar.{field_bytes}
use Rattle.made_commands.specs.MadeLines.{field_lines, words_from}

-- the header if it is still to be written, the label of the next frame, how many frames there are to be, and the
-- length of their lines
pub record Lining : Type 0 where
  pub header : Option (List ℕ)
  pub label : Address
  pub frames : ℕ
  pub length : ℕ

-- the pictures of its count have lines of time code, of a length that a line may have
pub record IsLining (l : Lining) : Type 0 where
  pub lines : HasLines (system_with l.label.count)
  pub length : IsLineLength l.length

-- the fields of this many frames from a label on
abbrev pub frame_bytes : ℕ → Address → ℕ → List ℕ
frame_bytes length label frames = flat_map field_bytes (map (field_lines length) (words_from label frames))

-- after the header, or with it
abbrev pub behind_head : Option (List ℕ) → List ℕ → List ℕ
behind_head None fields = fields
behind_head (Some header) fields = header ++ fields

-- what is still to be written
abbrev pub rest_of_lines : Lining → List ℕ
rest_of_lines l = behind_head l.header (frame_bytes l.length l.label l.frames)

-- a piece for the header, and at most one a frame
abbrev pub pieces_with : Option (List ℕ) → ℕ → ℕ
pieces_with None frames = frames
pieces_with (Some header) frames = frames + 1
