use Rattle.vitc_line.proofs.CheckBehind.{check_holds}
use Rattle.vitc_line.proofs.check_bits.check_of.Goals as goal

pub returns-clause-holds : goal.returns-clause-holds
returns-clause-holds c = check_holds c.args.bits c.folded-sums.result c.requires c.folded-sums.ensures.width
    c.folded-sums.ensures.residues
