-- Bytes in parts of one length, one after another.
use Rattle.std.specs.Prelude.{ℕ, zero, suc, ◌/◌, List, [], ◌∷◌, length, take, drop}

-- this many parts of this size
unfoldable pub parts : ℕ → ℕ → List ℕ → List (List ℕ)
parts zero size bytes = []
parts (suc count) size bytes = take size bytes ∷ parts count size (drop size bytes)

-- all whole parts; bytes behind them are in none
abbrev pub whole_parts : ℕ → List ℕ → List (List ℕ)
whole_parts size bytes = parts (length bytes / size) size bytes
