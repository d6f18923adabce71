use Rattle.std.proofs.Common.{[], ◌≡◌, refl, subst, sym, ap, ◌∙◌}
use Rattle.direction_reader.specs.declared.event.Events.{Events}
use Rattle.direction_reader.specs.Events.{no_events}
use Rattle.direction_reader.specs.Reader.{ReaderState}
use Rattle.direction_reader.specs.StandsFor.{MayTell, Tells}
use Rattle.sound_reader.specs.Sound.{SoundState}
use Rattle.sound_reader.proofs.StepsGoOn.{brings_on, tells_none}
use Rattle.sound_reader.proofs.reader.SoundReader.read_waiting.Goals as goal

-- what may have brought an event brought none
pub waiting-preserved : goal.waiting-preserved
waiting-preserved c =
    let new = c.pass_waiting-brought.new.self in
    let brought = c.pass_waiting-brought.result in
    let same = ap (λ (s : SoundState). s.reader) c.self.view_is in
    let told : Tells new.reader brought c.events-events.result =
    subst (λ (r : ReaderState). MayTell r brought → Tells r brought c.events-events.result) same
    c.events-events.ensures.told c.pass_waiting-brought.ensures.may in
    let none : c.events-events.result ≡ no_events = c.if-not-are_none.ensures.0 refl in
    record {
      rest = c.pass_waiting-brought.ensures.rest
          ∙ ap (λ (s : SoundState). record s { reader = new.reader; waiting = new.waiting }) c.waiting.invariant.rest;
      brings = brings_on c.args.self.now c.waiting.self new [] [] [] [] c.waiting.invariant.brings
          (c.pass_waiting-brought.ensures.brings no_events
          (subst (λ (e : Events). Tells new.reader brought e) none told));
    }

-- nothing more waits
pub returns-clause-brings : goal.returns-clause-brings
returns-clause-brings c =
    let new = c.pass_waiting-brought.new.self in
    rw c.none.ensures (brings_on c.args.self.now c.waiting.self new [] [] [] [] c.waiting.invariant.brings
    (c.pass_waiting-brought.ensures.brings no_events
    (tells_none new.reader c.pass_waiting-brought.result (sym c.is_nothing.ensures ∙ c.if-is_nothing.true))))
