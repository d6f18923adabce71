-- The flag of a word that is written agrees with its count, for the proofs of the crates above. No promise speaks of
-- it.
use Rattle.std.proofs.Common.{◌≡◌, true, refl}
use Rattle.tc_address.specs.declared.count.Count.{Count}
use Rattle.tc_address.specs.declared.count.Count.TheVariants.{C24, C25, C30, Drop30}
use Rattle.tc_bits.specs.Fields.{agrees}
use Rattle.ltc_jam.specs.Word.{drops}

pub flag_agrees : (count : Count) → agrees count (drops count) ≡ true
flag_agrees C24 = refl
flag_agrees C25 = refl
flag_agrees C30 = refl
flag_agrees Drop30 = refl
