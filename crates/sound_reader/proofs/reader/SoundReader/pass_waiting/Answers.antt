use Rattle.std.proofs.Common.{[], ◌≡◌, subst, sym, ap, ◌∙◌, arith}
use Rattle.direction_reader.specs.Events.{event_list, no_events}
use Rattle.sound_reader.specs.Sound.{Brings, SoundState}
use Rattle.sound_reader.specs.Waiting.{count_of}
use Rattle.sound_reader.specs.contracts.reader.SoundReader.{the_view}
use Rattle.sound_reader.proofs.StepsGoOn.{brings_on, reads_on, rest_on, tells_none}
use Rattle.sound_reader.proofs.reader.SoundReader.pass_waiting.Goals as goal

-- the interval may have brought an event
pub returns-then-not-is_nothing-clause-brings : goal.returns-then-not-is_nothing-clause-brings
returns-then-not-is_nothing-clause-brings c = λ own tells.
    let step = reads_on (the_view c.self.inside) c.step-brought.new.self c.next.new.waiting c.in-Some.x (event_list own)
    c.in-Some.ensures.value c.step-brought.ensures.rest (c.step-brought.ensures.reads own tells) in
    brings_on c.args.self.now c.waiting.self c.step-brought.new.self [] [] [] (event_list own)
    c.waiting.invariant.brings
    (subst (λ (s : SoundState). Brings s c.step-brought.new.self [] (event_list own)) c.self.view_is step)

-- it brought nothing
pub waiting-preserved : goal.waiting-preserved
waiting-preserved c =
    let new = c.step-brought.new.self in
    let none = tells_none new.reader c.step-brought.result (sym c.is_nothing.ensures ∙ c.if-not-is_nothing.false) in
    let step = reads_on (the_view c.self.inside) new c.next.new.waiting c.in-Some.x (event_list no_events)
    c.in-Some.ensures.value c.step-brought.ensures.rest (c.step-brought.ensures.reads no_events none) in
    let left : count_of new.waiting ≡ count_of c.next.new.waiting =
    ap (λ (s : SoundState). count_of s.waiting) c.step-brought.ensures.rest in
    let before : count_of c.self.inside.waiting ≡ count_of c.waiting.self.waiting =
    ap (λ (s : SoundState). count_of s.waiting) c.self.view_is in
    record {
      rest = rest_on c.args.self.now c.waiting.self (the_view c.self.inside) new c.next.new.waiting
          c.self.view_is c.waiting.invariant.rest c.step-brought.ensures.rest;
      fewer = omega (arith, left, before, c.in-Some.ensures.fewer, c.waiting.invariant.fewer);
      brings = brings_on c.args.self.now c.waiting.self new [] [] [] [] c.waiting.invariant.brings
          (subst (λ (s : SoundState). Brings s new [] []) c.self.view_is step);
    }
