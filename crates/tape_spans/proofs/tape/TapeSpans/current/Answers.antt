use Rattle.std.proofs.Common.{◌∙◌, sym, ap, Option}
use Rattle.tape_spans.specs.declared.place.TapePlace.{TapePlace}
use Rattle.tape_spans.specs.declared.span.Span.{Span}
use Rattle.tape_spans.specs.StandsFor.{ended_lines}
use Rattle.tape_spans.specs.Tape.{Tape, ended_at}
use Rattle.tape_spans.proofs.FinalLines.{open_line_is}
use Rattle.tape_spans.proofs.tape.TapeSpans.current.Goals as goal

-- the open span has the line that is missing
pub returns-clause-line : goal.returns-clause-line
returns-clause-line c = λ frames rate system stands.
    let view = c.self.view_is in
    open_line_is rate system c.args.self.now frames stands
    ∙ ap (λ (p : TapePlace). ended_lines rate system (ended_at p)) (sym (ap (λ (t : Tape). t.place) view))
    ∙ ap (λ (s : Option Span). ended_lines rate system s) (sym c.ended.ensures)
