use Rattle.std.proofs.Common.{◌++◌}
use Rattle.mtc_reader.proofs.PlacesOnly.{same_events, same_left}
use Rattle.mtc_reader.proofs.laws.real_time_bytes_change_places_only.Goals as goal

-- what is left without the inserted bytes is the same
pub returns-clause-inserted : goal.returns-clause-inserted
returns-clause-inserted c = λ before inserted after all.
    same_events (before ++ (inserted ++ after)) (before ++ after) (same_left before inserted after all)

pub returns-clause-same : goal.returns-clause-same
returns-clause-same c = λ a b same. same_events a b same
