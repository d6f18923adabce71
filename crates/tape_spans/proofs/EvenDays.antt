-- A day has an even number of labels, in each count.
use Rattle.std.proofs.Common.{◌≡◌, ◌%◌, refl}
use Rattle.tc_address.specs.declared.count.Count.{Count}
use Rattle.tc_address.specs.declared.count.Count.TheVariants.{C24, C25, C30, Drop30}
use Rattle.tc_address.specs.Numbering.{day_length}

pub day_length_even : (count : Count) → day_length count % 2 ≡ 0
day_length_even C24 = refl
day_length_even C25 = refl
day_length_even C30 = refl
day_length_even Drop30 = refl
