use Rattle.std.proofs.Common.{arith}
use Rattle.ltc_word.proofs.SyncOnlyAtTheEnd.{stops, only_there, only_in_two}
use Rattle.ltc_word.proofs.laws.twelve_ones_are_the_sync_word.Goals as goal

pub returns-clause-one : goal.returns-clause-one
returns-clause-one c = λ system word bits i s le ones. only_there bits i (stops system word bits s) (omega arith) ones

pub returns-clause-between : goal.returns-clause-between
returns-clause-between c = λ system a b x y i p q lt ones. only_in_two x y i p.width (stops system a x p)
    (stops system b y q) lt ones
