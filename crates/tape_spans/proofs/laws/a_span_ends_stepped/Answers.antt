use Rattle.tape_spans.specs.Spans.{frames_of_spans}
use Rattle.tape_spans.proofs.LastLabel.{all_end_stepped}
use Rattle.tape_spans.proofs.laws.a_span_ends_stepped.Goals as goal

pub returns : goal.returns
returns c = λ frames on. all_end_stepped c.steps_add_up.ensures.sum (frames_of_spans frames)
    (c.spans_share_the_frames_out.ensures.within frames on)
