use Rattle.std.proofs.Common.{arith}
use Rattle.luma_row.proofs.laws.a_row_is_narrower_than_two.Goals as goal

pub returns : goal.returns
returns c = λ levels narrow.
    let few = narrow.swing_few in
    record {
      swing_few = omega (arith, few);
      heights_few = λ bit h. let least = narrow.heights_few bit h in omega (arith, least);
    }
