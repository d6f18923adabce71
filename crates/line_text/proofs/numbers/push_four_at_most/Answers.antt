use Rattle.std.proofs.Common.{append_assoc, arith}
use Rattle.line_text.proofs.Digits.{last_two}
use Rattle.line_text.proofs.numbers.push_four_at_most.Goals as goal

-- the digits before the last two, and those
pub returns-else-number-lt100-clause-items : goal.returns-else-number-lt100-clause-items
returns-else-number-lt100-clause-items c =
    let digits = (last_two c.args.number (omega (arith, c.if-number-lt100.false)) (omega (arith, c.requires.small))).0
    in
    rw (c.push_two.ensures.items, c.push_two_at_most-else-number-lt100.ensures.items, digits) (simp append_assoc)
