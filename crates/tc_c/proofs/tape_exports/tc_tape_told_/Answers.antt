use Rattle.std.proofs.Common.{ap}
use Rattle.tape_reader.specs.declared.reader.TapeReader.{TapeReader}
use Rattle.tc_c.specs.Lending.{with_tape}
use Rattle.tc_c.proofs.tape_exports.tc_tape_told_.Goals as goal

-- the reader was only read
pub returns-clause-same : goal.returns-clause-same
returns-clause-same c = ap (λ (tape : TapeReader). with_tape c.args.handle.now tape) c.reader.ensures.value
