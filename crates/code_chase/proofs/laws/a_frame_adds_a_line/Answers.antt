use Rattle.std.proofs.Common.{refl}
use Rattle.chase_core.specs.Trace.{trace}
use Rattle.code_chase.specs.CodeTrace.{begun_at, rows_from}
use Rattle.code_chase.proofs.LinesOfFrames.{trace_on-length, trace_on-more}
use Rattle.code_chase.proofs.laws.a_frame_adds_a_line.Goals as goal

pub returns-clause-none : goal.returns-clause-none
unfolding trace rows_from
returns-clause-none c = λ label seed bound. refl

pub returns-clause-lines : goal.returns-clause-lines
returns-clause-lines c = λ label seed bound frames. trace_on-length (begun_at label seed bound) frames

pub returns-clause-line : goal.returns-clause-line
returns-clause-line c = λ label seed bound frames frame. trace_on-more (begun_at label seed bound) frames frame
