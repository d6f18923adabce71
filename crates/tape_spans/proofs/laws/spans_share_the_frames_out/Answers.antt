use Rattle.std.proofs.Common.{None}
use Rattle.tape_spans.proofs.SharedOut.{all_heard, hold_together, shared}
use Rattle.tape_spans.proofs.laws.spans_share_the_frames_out.Goals as goal

pub returns-clause-all : goal.returns-clause-all
returns-clause-all c = λ frames on. shared frames None on

pub returns-clause-within : goal.returns-clause-within
returns-clause-within c = λ frames on. hold_together frames None on

pub returns-clause-heard : goal.returns-clause-heard
returns-clause-heard c = all_heard
