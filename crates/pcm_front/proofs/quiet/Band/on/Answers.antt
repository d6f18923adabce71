use Rattle.std.specs.Int.{w16}
use Rattle.std.proofs.Common.{FitsSigned, rules, ◌-ℤ◌, pos, to_z-of_z}
use lib.IntN.{negsuc}
use Rattle.pcm_front.proofs.InBand.{stays_high, stays_low}
use Rattle.pcm_front.proofs.quiet.Band.on.Goals as goal

pub returns-in-High : goal.returns-in-High
returns-in-High c =
    let fits : FitsSigned w16 c.args.inside = search rules in
    let fits_below : FitsSigned w16 (pos 0 -ℤ c.args.inside) = search rules in
    rw (to_z-of_z fits, to_z-of_z fits_below)
    (λ threshold some below. stays_high c.args.side threshold c.args.inside (pos 32767) c.in-High.is some below)

pub returns-in-Low : goal.returns-in-Low
returns-in-Low c =
    let fits : FitsSigned w16 c.args.inside = search rules in
    rw (to_z-of_z fits) (λ threshold some below. stays_low c.args.side threshold c.args.inside (negsuc 32767)
    c.in-Low.is some below)
