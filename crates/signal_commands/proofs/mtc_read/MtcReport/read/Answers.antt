use Rattle.std.proofs.Common.{◌≡◌, ◌++◌, List, ℕ, refl, subst}
use Rattle.mtc_reader.specs.Events.{events_in}
use Rattle.mtc_reader.specs.StandsFor as reads
use Rattle.mtc_reader.specs.StandsFor.{events_of}
use Rattle.signal_commands.proofs.MidiLimit.{same_front}
use Rattle.signal_commands.proofs.mtc_read.MtcReport.read.Goals as goal

-- what is taken of the bytes within the limit comes in front of all of them
pub returns-clause-stands : goal.returns-clause-stands
returns-clause-stands c = λ front stands.
    subst (λ (l : List ℕ). reads.StandsFor c.take.new.self (front ++ l))
    (same_front c.min.result c.take.result.0 c.args.bytes.now _ refl c.take.ensures.most)
    (c.take.ensures.stands front stands)

pub returns-clause-gives : goal.returns-clause-gives
returns-clause-gives c = λ front stands.
    subst (λ (l : List ℕ). events_in (front ++ l) ≡ events_in front ++ events_of c.take.result.1)
    (same_front c.min.result c.take.result.0 c.args.bytes.now _ refl c.take.ensures.most)
    (c.take.ensures.gives front stands)
