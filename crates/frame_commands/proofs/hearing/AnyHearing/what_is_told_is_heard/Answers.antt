use Rattle.std.proofs.Common.{List, subst, sym}
use Rattle.direction_reader.specs.declared.event.Event.{Event}
use Rattle.frame_commands.specs.Heard.{AreHeardYet}
use Rattle.frame_commands.specs.KeptHearing.{asked_as}
use Rattle.frame_commands.proofs.HeardOfTold.{heard_yet}
use Rattle.frame_commands.proofs.hearing.AnyHearing.what_is_told_is_heard.Goals as goal

-- what was told are the events that are heard yet
pub returns : goal.returns
returns g c = λ reader intervals events stands.
    let w = g.R.Reading.witness in
    let r = g.R.Reading.reading reader in
    let told = c.what_it_has_told.ensures reader intervals stands.0 stands.1 in
    subst (λ (es : List Event). AreHeardYet (asked_as w) r.system r.profile intervals es r.until) (sym stands.2)
    (heard_yet w r.system r.profile intervals stands.0 r.until told.are_told)
