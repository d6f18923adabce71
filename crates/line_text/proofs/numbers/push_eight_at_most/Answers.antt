use Rattle.std.proofs.Common.{append_assoc, arith}
use Rattle.line_text.proofs.Digits.{last_four}
use Rattle.line_text.proofs.numbers.push_eight_at_most.Goals as goal

-- the digits before the last four, and those
pub returns-else-number-lt10000-clause-items : goal.returns-else-number-lt10000-clause-items
returns-else-number-lt10000-clause-items c =
    let digits = (last_four c.args.number (omega (arith, c.if-number-lt10000.false))
    (omega (arith, c.requires.small))).0 in
    rw (
      c.push_two-else-number-lt10000.ensures.items,
      c.push_two.ensures.items,
      c.push_four_at_most-else-number-lt10000.ensures.items,
      digits,
    )
    (simp append_assoc)
