use Rattle.std.proofs.Common.{◌≡◌, ◌/◌, ◌^◌, ◌∙◌}
use Rattle.std.proofs.Math.Nat.{mod-eq_of_lt}
use Rattle.ltc_word.specs.Reversal.{reversed_bits}
use Rattle.ltc_word.proofs.LastBitFirst.{bit_at-turned, turned_moved, turned_below, turned_twice}
use Rattle.ltc_word.proofs.reversal.reversed.Goals as goal

is_turned : (c : goal.After-reverse_bits) → c.reverse_bits.result / 2 ^ 48 ≡ reversed_bits c.args.bits
is_turned c = turned_moved 80 48 c.args.bits c.reverse_bits.result c.reverse_bits.ensures

pub returns-clause-value : goal.returns-clause-value
returns-clause-value c = is_turned c

pub returns-clause-width : goal.returns-clause-width
returns-clause-width c = rw (is_turned c) (turned_below 80 c.args.bits)

pub returns-clause-bits : goal.returns-clause-bits
returns-clause-bits c = λ i lt. rw (is_turned c) (bit_at-turned 80 c.args.bits i lt)

pub returns-clause-twice : goal.returns-clause-twice
returns-clause-twice c = rw (is_turned c) (turned_twice 80 c.args.bits ∙ mod-eq_of_lt c.requires)
