use Rattle.std.proofs.Common.{arith}
use Rattle.std.proofs.lemmas.Grind.{common_steps}
use Rattle.tc_io.proofs.Prefixes.{drop-take-drop}
use Rattle.tc_io.proofs.memory_source.MemorySourceSource.pull.Goals as goal

-- the ring filled the front of the piece, and the piece is a front of the buffer
pub returns-clause-front : goal.returns-clause-front
returns-clause-front c = grind (arith, common_steps, drop-take-drop)
