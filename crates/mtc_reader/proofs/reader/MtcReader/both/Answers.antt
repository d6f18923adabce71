use Rattle.std.proofs.Common.{◌++◌, ◌∷◌, ◌∙◌, [], ℕ, List, ap, sym, subst, append_assoc}
use Rattle.mtc_reader.specs.declared.event.MtcEvent.{MtcEvent}
use Rattle.mtc_reader.specs.Events.{events_in}
use Rattle.mtc_reader.specs.StandsFor.{StandsFor, events_of}
use Rattle.mtc_reader.proofs.OneByteMore.{status_gives_none}
use Rattle.mtc_reader.proofs.reader.MtcReader.both.Goals as goal

-- one byte and then the other
pub returns-clause-stands : goal.returns-clause-stands
returns-clause-stands c = λ bytes stands.
    let number = c.args.number in
    subst (λ (l : List ℕ). StandsFor c.byte.new.self l) (append_assoc bytes (0xf1 ∷ []) (number ∷ []))
    (c.byte.ensures.stands (bytes ++ 0xf1 ∷ []) (c.byte-none.ensures.stands bytes stands))

-- the first one gives nothing
pub returns-clause-gives : goal.returns-clause-gives
returns-clause-gives c = λ bytes stands.
    let number = c.args.number in
    ap events_in (sym (append_assoc bytes (0xf1 ∷ []) (number ∷ [])))
    ∙ c.byte.ensures.gives (bytes ++ 0xf1 ∷ []) (c.byte-none.ensures.stands bytes stands)
    ∙ ap (λ (l : List MtcEvent). l ++ events_of c.byte.result) (status_gives_none bytes)
