use Rattle.std.proofs.Common.{length, ap, arith}
use Rattle.std.proofs.Common.{length-take}
use Rattle.luma_field.proofs.FirstTwenty.{all_stay}
use Rattle.luma_field.proofs.field.FieldRows.keep.Goals as goal

pub returns-else-self-lt-MOST : goal.returns-else-self-lt-MOST
returns-else-self-lt-MOST c =
    let cut = length-take c.self.inside.count c.self.inside.found in
    let few = c.self.invariant.0 in
    let same = ap length c.self.view_is in
    all_stay c.args.self.now _ (omega (arith, cut, few, same, c.if-self-lt-MOST.false))
