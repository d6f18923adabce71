-- Bytes in parts: a text in its lines, and a line in its fields. Each part but the last is ended by a byte, and the last
-- one may be. This project's own.
use Rattle.std.specs.Prelude.{ℕ, Bool, List, [], ◌∷◌, ◌++◌, if◌then◌else◌}
use Rattle.std.specs.List.{flat_map}

-- the bytes of a part, and the byte that ends it, where there is one
pub record Part : Type 0 where
  pub body : List ℕ
  pub end : List ℕ

-- a part, by these
abbrev pub part_of : List ℕ → List ℕ → Part
part_of body end = record { body = body; end = end }

-- all bytes of a part
abbrev pub whole : Part → List ℕ
whole part = part.body ++ part.end

-- a byte in front of the first part
abbrev pub in_front : ℕ → List Part → List Part
in_front byte [] = part_of (byte ∷ []) [] ∷ []
in_front byte (part ∷ parts) = part_of (byte ∷ part.body) part.end ∷ parts

-- bytes, parted behind each one that ends a part
unfoldable pub parted : (ℕ → Bool) → List ℕ → List Part
parted ends [] = []
parted ends (byte ∷ bytes) =
    if ends byte then part_of [] (byte ∷ []) ∷ parted ends bytes else in_front byte (parted ends bytes)

-- parts, one after another
abbrev pub joined : List Part → List ℕ
joined parts = flat_map whole parts
