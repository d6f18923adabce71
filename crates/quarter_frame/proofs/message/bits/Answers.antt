use Rattle.std.proofs.Common.{◌≡◌, arith}
use Rattle.quarter_frame.proofs.message.bits.Goals as goal

-- the piece that is left is the last one
pub returns-in_default-clause-bits : goal.returns-in_default-clause-bits
returns-in_default-clause-bits c = let last : c.args.piece ≡ 7 = omega arith in rw last (grind arith)
