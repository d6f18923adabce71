use Rattle.std.proofs.Common.{◌∙◌}
use Rattle.std.proofs.Math.Nat.{mod-eq_of_lt}
use Rattle.ltc_word.proofs.LastBitFirst.{bit_at-turned, turned_below, turned_twice}
use Rattle.ltc_word.proofs.laws.reversed_twice_is_the_same.Goals as goal

pub returns-clause-width : goal.returns-clause-width
returns-clause-width c = turned_below 80

pub returns-clause-bits : goal.returns-clause-bits
returns-clause-bits c = bit_at-turned 80

pub returns-clause-twice : goal.returns-clause-twice
returns-clause-twice c = λ bits width. turned_twice 80 bits ∙ mod-eq_of_lt width
