use Rattle.std.proofs.Common.{◌≡◌, ◌++◌, ◌∙◌, take, drop, sym, ap, subst, append_assoc}
use Rattle.std.proofs.lemmas.List.{take-append-drop}
use Rattle.std.proofs.KnownBytes.{Appends-trans, Consumes-trans}
use Rattle.std.specs.Io.KnownBytes.{Consumes}
use Rattle.tc_command.specs.PulledLemmas.{along_at_end, if_err, if_ok}
use Rattle.tc_command.specs.OutletLemmas.{all_pushed, cut_off, flushed, more_given}
use Rattle.lemmas.specs.Results.{through}
use Rattle.tc_command.specs.declared.inlet.TheConstants.{PULLED}
use Rattle.tc_command.proofs.BytesPulled.{are_first, are_more}
use Rattle.tc_command.proofs.OneEnd.{brought_before}
use Rattle.tc_command.proofs.PushedSo.{halted, own_front, part_at_halt, push_failed}
use Rattle.tc_command.proofs.running.pull_all.Goals as goal

-- what was written before a pull was not all taken
pub returns-in_err-flush-clause-stops : goal.returns-in_err-flush-clause-stops
returns-in_err-flush-clause-stops g c =
    let i = c.pulls.invariant in
    let w = i.worked in
    let f = c.in_err-flush.ensures in
    let pulled = w.0 ++ c.pulls.inlet in
    let cut = cut_off _ _ _ _ _ _ _ _ w.1 c.requires.empty c.requires.pushes f.failed
    (flushed _ _ _ _ _ _ _ _ _ _ _ _ w.1 w.3 f.given) in
    let well = i.few.good w.0 w.1 w.4 in
    through c.from_residual.result c.from_residual.ensures.1 (λ stop same. rw (same, ← i.choice)
    (push_failed _ _ _ _ _ pulled pulled w.1 w.2 (own_front pulled) well.1 cut.1))

-- the end of what was pulled
pub returns-then-count-eq0-clause-ends : goal.returns-then-count-eq0-clause-ends
returns-then-count-eq0-clause-ends g c =
    let i = c.pulls.invariant in
    let w = i.worked in
    let f = c.in_ok-flush.ensures in
    let b = c.in-Ok.ensures.bytes in
    let left = c.as_slice.result.now in
    let pushed = all_pushed _ _ _ _ _ _ _ _ w.1 c.requires.empty c.requires.pushes f.empty f.going
    (flushed _ _ _ _ _ _ _ _ _ _ _ _ w.1 w.3 f.given) in
    let all = subst (λ l. Consumes (g.S.Source.left c.args.source.now) (g.S.Source.left c.pull.new.source) l)
    (append_assoc w.0 c.pulls.inlet b.0 ∙ ap (λ l. w.0 ++ l) (sym (c.as_slice.ensures ∙ b.1)))
    (Consumes-trans _ _ _ (w.0 ++ c.pulls.inlet) b.0 w.2 b.3) in
    if_ok c.end.result c.end.ensures.ends c.end.ensures.none (λ ends none.
    let last = ends w.0 w.1 w.4 in (
      w.0 ++ left,
      w.1 ++ last.0,
      all,
      Appends-trans _ _ _ w.1 last.0 pushed.1 last.1,
      are_more w.0 left w.5 (rw none tt),
      (λ reads. b.4 c.if-count-eq0.true),
      rw (← i.choice) last.2,
      rw (← i.choice) last.3,
    ))

-- a stop there
pub returns-then-count-eq0-clause-stops : goal.returns-then-count-eq0-clause-stops
returns-then-count-eq0-clause-stops g c =
    let i = c.pulls.invariant in
    let w = i.worked in
    let f = c.in_ok-flush.ensures in
    let b = c.in-Ok.ensures.bytes in
    let pushed = all_pushed _ _ _ _ _ _ _ _ w.1 c.requires.empty c.requires.pushes f.empty f.going
    (flushed _ _ _ _ _ _ _ _ _ _ _ _ w.1 w.3 f.given) in
    let all = subst (λ l. Consumes (g.S.Source.left c.args.source.now) (g.S.Source.left c.pull.new.source) l)
    (append_assoc w.0 c.pulls.inlet b.0 ∙ ap (λ l. w.0 ++ l) (sym (c.as_slice.ensures ∙ b.1)))
    (Consumes-trans _ _ _ (w.0 ++ c.pulls.inlet) b.0 w.2 b.3) in
    if_err c.end.result c.end.ensures.stops (λ stop stops.
    let last = stops w.0 w.1 w.4 in (
      w.0 ++ c.as_slice.result.now,
      w.1 ++ last.0,
      all,
      Appends-trans _ _ _ w.1 last.0 pushed.1 last.1,
      rw (← i.choice) (along_at_end _ stop _ _ _ (b.4 c.if-count-eq0.true) last.2),
    ))

-- what was written before the engine halted was not all taken
pub returns-in_err-flush-in-Err-clause-stops : goal.returns-in_err-flush-in-Err-clause-stops
returns-in_err-flush-in-Err-clause-stops g c =
    let i = c.pulls.invariant in
    let w = i.worked in
    let b = c.in-Ok.ensures.bytes in
    let bytes = c.as_slice-in-pulls.result.now in
    let f = c.in_err-flush-in-Err.ensures in
    let h = c.in-Err.ensures.halts w.0 w.1 w.4 in
    let first = flushed _ _ _ _ _ _ _ _ _ _ _ _ w.1 w.3 c.in_ok-flush.ensures.given in
    let given = more_given _ _ _ _ _ _ _ _ _ _ _ _ w.1 h.0 first h.1.1 in
    let cut = cut_off _ _ _ _ _ _ _ _ (w.1 ++ h.0) c.requires.empty c.requires.pushes f.failed
    (flushed _ _ _ _ _ _ _ _ _ _ _ _ (w.1 ++ h.0) given f.given) in
    let part = part_at_halt _ _ _ _ h.2 in
    let all = subst (λ l. Consumes (g.S.Source.left c.args.source.now) (g.S.Source.left c.pull.new.source) l)
    (append_assoc w.0 c.pulls.inlet b.0 ∙ ap (λ l. w.0 ++ l) (sym (c.as_slice-in-pulls.ensures ∙ b.1)))
    (Consumes-trans _ _ _ (w.0 ++ c.pulls.inlet) b.0 w.2 b.3) in
    through c.from_residual-in_err-flush-in-Err.result c.from_residual-in_err-flush-in-Err.ensures.1 (λ stop same.
    rw (same, ← i.choice)
    (push_failed _ _ _ _ _ (w.0 ++ bytes) part.0 (w.1 ++ h.0) all part.1 part.2 cut.1))

-- the engine halted
pub returns-in-Err-clause-stops : goal.returns-in-Err-clause-stops
returns-in-Err-clause-stops g c =
    let i = c.pulls.invariant in
    let w = i.worked in
    let b = c.in-Ok.ensures.bytes in
    let bytes = c.as_slice-in-pulls.result.now in
    let f = c.in_ok-flush-in-Err.ensures in
    let h = c.in-Err.ensures.halts w.0 w.1 w.4 in
    let first = flushed _ _ _ _ _ _ _ _ _ _ _ _ w.1 w.3 c.in_ok-flush.ensures.given in
    let given = more_given _ _ _ _ _ _ _ _ _ _ _ _ w.1 h.0 first h.1.1 in
    let pushed = all_pushed _ _ _ _ _ _ _ _ (w.1 ++ h.0) c.requires.empty c.requires.pushes f.empty f.going
    (flushed _ _ _ _ _ _ _ _ _ _ _ _ (w.1 ++ h.0) given f.given) in
    let all = subst (λ l. Consumes (g.S.Source.left c.args.source.now) (g.S.Source.left c.pull.new.source) l)
    (append_assoc w.0 c.pulls.inlet b.0 ∙ ap (λ l. w.0 ++ l) (sym (c.as_slice-in-pulls.ensures ∙ b.1)))
    (Consumes-trans _ _ _ (w.0 ++ c.pulls.inlet) b.0 w.2 b.3) in (
      w.0 ++ bytes,
      w.1 ++ h.0,
      all,
      pushed.1,
      rw (c.stop.ensures, ← i.choice) (halted _ c.in-Err.halt _ _ _ h.2),
    )

-- what was pulled was worked on, but for the rest
pub pulls-preserved : goal.pulls-preserved
pulls-preserved g c =
    let i = c.pulls.invariant in
    let w = i.worked in
    let b = c.in-Ok.ensures.bytes in
    let e = c.in-Ok-take_all.ensures in
    let bytes = c.as_slice-in-pulls.result.now in
    let n = c.in-Ok-take_all.count in
    let left : c.leave_out.new.self ≡ drop n bytes =
    c.leave_out.ensures ∙ ap (drop n) (sym c.as_slice-in-pulls.ensures) in
    let last = e.works w.0 w.1 w.4 in
    let first = flushed _ _ _ _ _ _ _ _ _ _ _ _ w.1 w.3 c.in_ok-flush.ensures.given in
    let all = subst (λ l. Consumes (g.S.Source.left c.args.source.now) (g.S.Source.left c.pull.new.source) l)
    (append_assoc w.0 c.pulls.inlet b.0 ∙ ap (λ l. w.0 ++ l) (sym (c.as_slice-in-pulls.ensures ∙ b.1)
    ∙ sym (take-append-drop n bytes) ∙ ap (λ l. take n bytes ++ l) (sym left))
    ∙ sym (append_assoc w.0 (take n bytes) c.leave_out.new.self))
    (Consumes-trans _ _ _ (w.0 ++ c.pulls.inlet) b.0 w.2 b.3) in
    record {
      going = e.going;
      choice = e.choice ∙ i.choice;
      source = c.in-Ok.ensures.cause.same ∙ i.source;
      open_end = λ none_yet.
          c.in-Ok.ensures.end ∙ brought_before _ PULLED c.in-Ok.count (i.open_end none_yet) c.if-count-eq0.false;
      same = last.1.0 ∙ c.in_ok-flush.ensures.same ∙ i.same;
      few = rw (left, e.choice) e.few;
      short = rw left e.short;
      worked = (
        w.0 ++ take n bytes,
        w.1 ++ last.0,
        all,
        more_given _ _ _ _ _ _ _ _ _ _ _ _ w.1 last.0 first last.1.1,
        last.2,
        are_more w.0 (take n bytes) w.5
            (are_first (take n bytes) (drop n bytes) (rw (take-append-drop n bytes) e.bytes)),
      );
    }
