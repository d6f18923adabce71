-- A file with one interval more is a file.
use Rattle.std.proofs.Common.{◌≡◌, ℕ, ◌≤◌, List, [], ◌∷◌, ◌++◌, sym, ◌∙◌, ap, append_assoc, append-nil}
use Rattle.std.proofs.lemmas.Grind.{flat_map-append}
use Rattle.limits.specs.declared.recording.TheConstants.{MAX_INTERVAL}
use Rattle.interval_file.specs.declared.header.IntervalHeader.{IntervalHeader}
use Rattle.interval_file.specs.Grammar.{AreIntervals, IsFile, intervals_bytes}
use Rattle.interval_file.specs.IntervalHeader.{header_bytes}
use Rattle.interval_file.specs.Piece.{spelling}

all_in_range : (intervals : List ℕ) (x : ℕ) → AreIntervals intervals → 1 ≤ x → x ≤ MAX_INTERVAL
    → AreIntervals (intervals ++ x ∷ [])
all_in_range [] x are some most = (some, most, tt)
all_in_range (y ∷ more) x are some most = (are.0, are.1, all_in_range more x are.2 some most)

pub file_more : (front rest : List ℕ) (header : IntervalHeader) (intervals : List ℕ) (x : ℕ)
    → IsFile front header intervals
    → rest ≡ spelling header.version x → 1 ≤ x → x ≤ MAX_INTERVAL → IsFile (front ++ rest) header (intervals ++ x ∷ [])
file_more front rest header intervals x is spelled some most =
    let version = header.version in
    let before = intervals_bytes version intervals in
    record {
      tick_rate = is.tick_rate;
      range = all_in_range intervals x is.range some most;
      are = ap (λ (l : List ℕ). l ++ rest) is.are ∙ ap (λ (l : List ℕ). (header_bytes header ++ before) ++ l) (spelled
          ∙ sym (append-nil (spelling version x)))
          ∙ append_assoc (header_bytes header) before (spelling version x ++ [])
          ∙ ap (λ (l : List ℕ). header_bytes header ++ l) (sym (flat_map-append (spelling version) intervals (x ∷ [])));
    }
