use Rattle.std.proofs.Common.{◌≡◌, ◌+◌, ap, ◌∙◌, not, arith}
use Rattle.std.specs.Prelude.{◌==◌}
use Rattle.vitc_line.specs.CheckBits.{is_set_bit, first_set_bit, is_wrong_residue, wrong_residue}
use Rattle.lemmas.specs.Searches.{same_found}
use Rattle.vitc_line.proofs.check_bits.first_wrong_residue.Goals as goal

-- the bits of the folded line are the exclusive ors
pub returns : goal.returns
unfolding first_set_bit wrong_residue
returns c =
    c.first_set.ensures
    ∙ same_found (is_set_bit c.folded.result) (is_wrong_residue c.args.bits) 0 8
    (λ i lt. let k : 0 + i ≡ i = omega arith in rw k (ap (λ n. not (n == 0)) (c.folded.ensures.residues i lt)))
