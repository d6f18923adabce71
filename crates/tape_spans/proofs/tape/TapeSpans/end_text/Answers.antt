use Rattle.std.proofs.Common.{◌∙◌, ap, ℕ}
use Rattle.tape_spans.specs.SpanTexts.{spans_end_line}
use Rattle.tape_spans.specs.Tape.{counted}
use Rattle.tape_spans.proofs.FinalLines.{counts_all}
use Rattle.tape_spans.proofs.tape.TapeSpans.end_text.Goals as goal

-- the line counts the spans of the frames
pub returns : goal.returns
returns c = λ frames stands.
    let all = counted c.args.self.now in
    let counts = c.counts-counts.result in
    c.spans_end_text.ensures
    ∙ ap (λ (n : ℕ). spans_end_line c.args.intervals n counts.heard counts.bridged c.args.ticks)
    c.counts-counts.ensures.spans
    ∙ ap (λ (n : ℕ). spans_end_line c.args.intervals all.spans n counts.bridged c.args.ticks)
    c.counts-counts.ensures.heard
    ∙ ap (λ (n : ℕ). spans_end_line c.args.intervals all.spans all.heard n c.args.ticks) c.counts-counts.ensures.bridged
    ∙ counts_all c.args.self.now frames c.args.intervals c.args.ticks stands
