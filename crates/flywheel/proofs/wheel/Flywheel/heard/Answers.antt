use Rattle.std.proofs.Common.{◌∙◌, ap}
use Rattle.flywheel.specs.Wheel.{Wheel, running}
use Rattle.flywheel.proofs.GivenSoFar.{after_heard}
use Rattle.flywheel.proofs.wheel.Flywheel.heard.Goals as goal

-- all that was due before the word was given, and the word follows it
pub returns-clause-stands : goal.returns-clause-stands
returns-clause-stands c = λ words earlier given stands h.
    let is_new = c.self-2.view_is ∙ c.since.ensures ∙ ap (λ (wheel : Wheel). running wheel.limit c.args.word.now 0)
    c.self.view_is in
    after_heard c.args.self.now _ c.args.word.now words earlier given _ stands h
    c.requires.range.least c.requires.nothing_due is_new c.goes_on_with-joined.ensures
