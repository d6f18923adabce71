-- What holds of files that are cut, for the proofs of the crates above. No promise speaks of it.
use Rattle.std.proofs.Common.{ℕ, List, ◌++◌, sym, ◌∙◌, ap, append_assoc}
use Rattle.std.proofs.lemmas.Grind.{flat_map-append}
use Rattle.tc_io.specs.Sink.{IsFront}
use Rattle.interval_file.specs.declared.header.IntervalHeader.{IntervalHeader}
use Rattle.interval_file.specs.Grammar.{file_of, intervals_bytes}
use Rattle.interval_file.specs.IntervalHeader.{header_bytes}
use Rattle.interval_file.specs.Piece.{spelling}

-- a file of intervals begins with that of the first of them
pub file_first : (header : IntervalHeader) (xs more : List ℕ)
    → IsFront (file_of header xs) (file_of header (xs ++ more))
file_first header xs more = (
  intervals_bytes header.version more,
  ap (λ l. header_bytes header ++ l) (flat_map-append (spelling header.version) xs more)
      ∙ sym (append_assoc (header_bytes header) (intervals_bytes header.version xs)
      (intervals_bytes header.version more)),
)
