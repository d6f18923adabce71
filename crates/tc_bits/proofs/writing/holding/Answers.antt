use Rattle.std.proofs.Common.{◌≡◌, ◌+◌, ◌*◌, ◌^◌, arith}
use Rattle.std.proofs.lemmas.Nat.{pow_pos, shl_whole}
use Rattle.tc_bits.proofs.AroundAField.{joined_below, pow_bound}
use Rattle.tc_bits.proofs.writing.holding.Goals as goal

-- a number of four bits, moved by 99 at most, stays within 128 bits
pub returns-clause-value : goal.returns-clause-value
returns-clause-value c = shl_whole c.args.number 4 c.args.first 128 c.requires.fits (omega arith)

pub returns-clause-within : goal.returns-clause-within
returns-clause-within c =
    let h = joined_below 4 c.args.first c.args.number 0 c.requires.fits (pow_pos c.args.first) in
    let e : c.args.number * 2 ^ c.args.first + 0 ≡ c.args.number * 2 ^ c.args.first = omega arith in
    let value = shl_whole c.args.number 4 c.args.first 128 c.requires.fits (omega arith) in
    rw value (pow_bound (c.args.number * 2 ^ c.args.first) (4 + c.args.first) 103 (omega arith) (rw e at h))
