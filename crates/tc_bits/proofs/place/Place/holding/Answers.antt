use Rattle.std.proofs.Common.{arith}
use Rattle.std.proofs.lemmas.Nat.{shl_whole}
use Rattle.tc_bits.proofs.place.Place.holding.Goals as goal

-- a number of the place's width, moved to the place, stays within 128 bits
pub returns : goal.returns
returns c = shl_whole c.args.number c.args.self.width c.args.self.first 128 c.requires.fits (omega arith)
