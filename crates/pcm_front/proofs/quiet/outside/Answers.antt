use Rattle.std.specs.Int.{w16}
use Rattle.std.proofs.Common.{FitsSigned, rules, arith}
use Rattle.pcm_front.proofs.InBand.{bits_outside}
use Rattle.pcm_front.proofs.quiet.outside.Goals as goal

pub returns : goal.returns
returns c =
    let fits_least : FitsSigned w16 c.args.band.least = search rules in
    let fits_most : FitsSigned w16 c.args.band.most = search rules in
    bits_outside c.args.band.least c.args.band.most c.args.lanes 32 c.requires.long (omega arith) fits_least fits_most
    c.requires.fits
