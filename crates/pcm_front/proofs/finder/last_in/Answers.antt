use Rattle.std.specs.Int.{w16, w32}
use Rattle.std.proofs.Common.{FitsSigned, rules, ◌∙◌, sym, to_z-of_z}
use Rattle.pcm_front.proofs.QuietRuns.{last-of}
use Rattle.pcm_front.proofs.finder.last_in.Goals as goal

pub returns-then-at-end-clause-value : goal.returns-then-at-end-clause-value
returns-then-at-end-clause-value g c =
    let fits : FitsSigned w16 c.at.result = search rules in
    let fits_too : FitsSigned w32 c.from.result = search rules in
    let value = rw (to_z-of_z fits) at c.from.ensures in
    rw (to_z-of_z fits_too) (value ∙ c.at.ensures
    ∙ sym (last-of c.args.before (g.S.Samples.list c.args.samples.now) c.args.at c.args.end c.if-at-end.true
    c.requires.within))
