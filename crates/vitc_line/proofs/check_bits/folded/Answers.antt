use Rattle.vitc_line.proofs.FoldedCheck.{bit_at-folded}
use Rattle.vitc_line.proofs.check_bits.folded.Goals as goal

pub returns-clause-residues : goal.returns-clause-residues
returns-clause-residues c = λ r lt. bit_at-folded c.args.bits r c.requires lt
