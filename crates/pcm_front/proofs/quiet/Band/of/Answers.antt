use Rattle.std.specs.Int.{w16}
use Rattle.std.proofs.Common.{FitsSigned, rules, ◌-ℤ◌, pos, to_z-of_z}
use Rattle.pcm_front.proofs.InBand.{stays_none}
use Rattle.pcm_front.proofs.quiet.Band.of.Goals as goal

pub returns-in-Some : goal.returns-in-Some
returns-in-Some c =
    let fits : FitsSigned w16 c.inside-inside.result = search rules in
    let on = rw (to_z-of_z fits) at c.on.ensures in
    rw c.in-Some.is (on c.args.threshold c.requires.least c.inside-inside.ensures.below)

pub returns-in-None : goal.returns-in-None
returns-in-None c =
    let fits : FitsSigned w16 c.inside-inside.result = search rules in
    let fits_below : FitsSigned w16 (pos 0 -ℤ c.inside-inside.result) = search rules in
    rw (to_z-of_z fits, to_z-of_z fits_below)
    (stays_none c.args.side c.args.threshold c.inside-inside.result c.in-None.is c.requires.least
    c.inside-inside.ensures.below)
