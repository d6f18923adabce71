use Rattle.std.proofs.Common.{[]}
use Rattle.tape_spans.specs.Tape.{blank}
use Rattle.tape_spans.proofs.FinalLines.{goes_further}
use Rattle.tape_spans.proofs.SpansGoOn.{stands_at_first}
use Rattle.tape_spans.proofs.laws.final_lines_come_first.Goals as goal

-- each list of frames has a tape that stands for it
pub returns : goal.returns
returns c = λ rate system frames more.
    let begun = goes_further rate system blank [] frames stands_at_first in
    let later = goes_further rate system begun.tape frames more begun.stands in (later.lines, later.adds)
