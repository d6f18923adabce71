use Rattle.std.proofs.lemmas.Nat.{ones-le}
use Rattle.ltc_word.proofs.balance.is_balanced.Goals as goal

-- no more than 80 of 80 bits are 1
pub overflow_sub-result : goal.overflow_sub-result
overflow_sub-result c = ones-le 80 c.args.bits c.requires
