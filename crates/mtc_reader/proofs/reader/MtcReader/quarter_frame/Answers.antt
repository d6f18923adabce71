use Rattle.std.proofs.Common.{refl}
use Rattle.mtc_reader.proofs.OneQuarterMore.{stands_with_both}
use Rattle.mtc_reader.proofs.reader.MtcReader.quarter_frame.Goals as goal

-- both bytes were taken
pub returns-then-passed-clause-stands : goal.returns-then-passed-clause-stands
returns-then-passed-clause-stands c = λ is front stands.
    stands_with_both c.args.self.now _ front c.args.number c.requires.data refl c.pass.ensures
    (c.pass-passed.ensures.keeps is) stands
