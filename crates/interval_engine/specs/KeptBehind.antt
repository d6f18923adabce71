-- What a command along an interval file writes behind a header that may not be whole yet. No promise speaks of it: the
-- lemmas go by the header.
use Rattle.std.specs.Prelude.{◌≡◌, ℕ, List, [], Option, IsSomeAnd, MatchOption}
use Rattle.interval_file.specs.declared.header.IntervalHeader.{IntervalHeader}
use Rattle.interval_engine.specs.Along.{Printing}

-- before the end
abbrev pub IsPartBehind : Printing → Option IntervalHeader → List ℕ → List ℕ → Type 0
IsPartBehind p header intervals written = MatchOption header (written ≡ []) (λ h. p.part h intervals written)

-- of a whole recording
abbrev pub IsWholeBehind : Printing → Option IntervalHeader → List ℕ → List ℕ → Type 0
IsWholeBehind p header intervals written = IsSomeAnd header (λ h. p.whole h intervals written)

-- past a limit of the command's own
abbrev pub IsSpentBehind : Printing → Option IntervalHeader → List ℕ → Type 0
IsSpentBehind p header intervals = IsSomeAnd header (λ h. p.spent h intervals)
