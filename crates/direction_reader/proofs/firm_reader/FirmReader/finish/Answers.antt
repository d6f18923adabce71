use Rattle.std.proofs.Common.{subst, sym, ◌++◌}
use Rattle.direction_reader.specs.Firm.{AreFirmEvents}
use Rattle.direction_reader.specs.FirmReader.{FirmState, FirmStandsFor}
use Rattle.direction_reader.specs.FirmStep.{firm_list}
use Rattle.direction_reader.specs.Tracker.{profile_of}
use Rattle.direction_reader.proofs.KnownByReader.{finished}
use Rattle.direction_reader.proofs.firm_reader.FirmReader.finish.Goals as goal

-- with what waits all events are given
pub returns-clause-all : goal.returns-clause-all
returns-clause-all c = λ intervals told stands.
    let inside = c.self.inside in
    let r : FirmState = record { reader = inside.reader; beside = inside.beside; waits = inside.waits } in
    let is = subst (λ (k : FirmState). FirmStandsFor k intervals told) (sym c.self.view_is) stands in
    subst (λ (k : FirmState). AreFirmEvents k.reader.system (profile_of k.reader.tracker) intervals
    (told ++ firm_list c.end.result)) c.self.view_is
    (rw c.end.ensures.value (finished r intervals told is))
