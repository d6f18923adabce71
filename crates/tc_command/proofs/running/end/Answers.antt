use Rattle.std.proofs.Common.{◌≡◌, ◌++◌, ◌∙◌, [], length, ap, sym, append-nil, append_assoc}
use Rattle.std.proofs.lemmas.Bool.{eqb-true}
use Rattle.std.proofs.lemmas.List.{nil_from_length}
use Rattle.lemmas.specs.Results.{through}
use Rattle.tc_command.specs.OutletLemmas.{cut_off, flushed}
use Rattle.tc_command.proofs.running.end.Goals as goal

-- a front of the output was pushed
pub returns-in_err-flush-in-Ok-clause-stops : goal.returns-in_err-flush-in-Ok-clause-stops
returns-in_err-flush-in-Ok-clause-stops g c =
    let f = c.in_err-flush-in-Ok.ensures in
    let none : c.args.left.now ≡ [] = nil_from_length c.args.left.now
    (eqb-true (length c.args.left.now) 0 (sym c.is_empty.ensures ∙ c.if-not-is_empty.false)) in
    through c.from_residual.result c.from_residual.ensures.1 (λ stop same. rw same (λ bytes written stands.
    let last = c.in-Ok.ensures.ends bytes written stands in
    let cut = (cut_off _ _ _ _ _ _ _ _ last.0 c.requires.empty c.requires.pushes f.failed
    (flushed _ _ _ _ _ _ _ _ _ _ _ _ last.0 last.1.1 f.given)).1 in
    let front = ap (λ l. written ++ l) cut.1.1 ∙ sym (append_assoc written cut.0 cut.1.0) in
    rw (none, append-nil bytes) (cut.0, cut.2, (last.2, (written ++ last.0, last.3, (cut.1.0, front))))))

pub returns-in_ok-flush-in-Ok-clause-none : goal.returns-in_ok-flush-in-Ok-clause-none
returns-in_ok-flush-in-Ok-clause-none g c =
    nil_from_length c.args.left.now
    (eqb-true (length c.args.left.now) 0 (sym c.is_empty.ensures ∙ c.if-not-is_empty.false))
