use Rattle.std.proofs.Common.{◌++◌, ◌∙◌, ap, List, subst, sym}
use Rattle.direction_reader.specs.declared.event.Event.{Event}
use Rattle.direction_reader.specs.ConsecutiveStep.{consecutive_list}
use Rattle.frame_commands.specs.Heard.{told_events, AreHeard}
use Rattle.frame_commands.specs.KeptHearing.{asked_as}
use Rattle.frame_commands.proofs.HeardOfTold.{heard_whole}
use Rattle.frame_commands.proofs.HeardWords.{told_events-append, told_in_range, told_in_turn}
use Rattle.frame_commands.proofs.hearing.AnyHearing.last_words.Goals as goal

-- with what waits all is told
pub returns-clause-told : goal.returns-clause-told
returns-clause-told g c =
    let w = g.R.Reading.witness in
    let r = g.R.Reading.reading c.args.self.now in
    let last = consecutive_list c.last.result in (
      told_events last,
      c.told.ensures,
      (λ intervals events stands.
          subst (λ (es : List Event). AreHeard (asked_as w) r.system r.profile intervals es)
          (told_events-append stands.0 last ∙ ap (λ (es : List Event). es ++ told_events last) (sym stands.2))
          (heard_whole w r.system r.profile intervals (stands.0 ++ last)
          (c.last.ensures.all intervals stands.0 stands.1))),
    )

pub returns-clause-range : goal.returns-clause-range
returns-clause-range g c =
    let r = g.R.Reading.reading c.args.self.now in
    rw c.told.ensures (told_in_range r.count r.tick c.last.result c.requires c.last.ensures.brings)

-- in turn
pub returns-clause-in_turn : goal.returns-clause-in_turn
returns-clause-in_turn g c =
    let r = g.R.Reading.reading c.args.self.now in
    rw c.told.ensures (told_in_turn r.until r.tick (consecutive_list c.last.result) c.last.ensures.in_turn)
