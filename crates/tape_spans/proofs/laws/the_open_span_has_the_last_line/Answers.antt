use Rattle.std.proofs.Common.{[]}
use Rattle.tape_spans.specs.Tape.{blank}
use Rattle.tape_spans.proofs.FinalLines.{all_lines, goes_further}
use Rattle.tape_spans.proofs.SpansGoOn.{stands_at_first}
use Rattle.tape_spans.proofs.laws.the_open_span_has_the_last_line.Goals as goal

pub returns : goal.returns
returns c = λ rate system frames.
    let begun = goes_further rate system blank [] frames stands_at_first in
    all_lines rate system begun.tape frames begun.stands
