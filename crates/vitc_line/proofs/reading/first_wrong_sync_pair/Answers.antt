use Rattle.std.proofs.Common.{sym}
use Rattle.vitc_line.proofs.OneSpelling.{none_from_pairs}
use Rattle.vitc_line.proofs.UnderSyncPairs.{right_pairs}
use Rattle.vitc_line.proofs.reading.first_wrong_sync_pair.Goals as goal

pub returns-then-bits-eq-ALL_SYNC_PAIRS : goal.returns-then-bits-eq-ALL_SYNC_PAIRS
returns-then-bits-eq-ALL_SYNC_PAIRS c =
    sym (none_from_pairs c.args.bits (right_pairs c.args.bits c.if-bits-eq-ALL_SYNC_PAIRS.true))
