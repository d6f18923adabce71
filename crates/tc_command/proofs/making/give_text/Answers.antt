use Rattle.std.proofs.Common.{◌∙◌, ◌+◌, ◌++◌, ◌-◌, ◌≡◌, drop, subst, sym, take, arith, ap}
use Rattle.std.proofs.KnownBytes.{Appends-trans}
use Rattle.std.proofs.Math.Seq.{take-add}
use Rattle.std.proofs.lemmas.List.{take-append-drop}
use Rattle.std.specs.Io.KnownBytes.{Appends}
use Rattle.tc_command.specs.PulledLemmas.{at_err}
use Rattle.tc_command.specs.PushLemmas.{front_of_piece}
use Rattle.tc_command.proofs.making.give_text.Goals as goal

-- a front of the piece was pushed
pub returns-in_err-push_piece-clause-front : goal.returns-in_err-push_piece-clause-front
returns-in_err-push_piece-clause-front g c =
    let at = c.pieces.at in
    let n = c.min-end.result - at in
    let text = c.args.text.now in
    at_err c.from_residual.result (front_of_piece _ _ _ text (take at text) (drop at text) (take n (drop at text))
    (drop n (drop at text)) (sym (take-append-drop at text)) (sym (take-append-drop n (drop at text)))
    c.pieces.invariant.given c.in_err-push_piece.ensures.front)

-- the piece was pushed
pub pieces-preserved : goal.pieces-preserved
pieces-preserved g c =
    let at = c.pieces.at in
    let n = c.min-end.result - at in
    let text = c.args.text.now in
    let there : at + n ≡ c.min-end.result = omega (arith, c.min-end.ensures, c.pieces-test.true) in
    let up_to : take at text ++ take n (drop at text) ≡ take c.min-end.result text =
    sym (take-add at n text) ∙ ap (λ k. take k text) there in
    record {
      within = omega (arith, c.min-end.ensures);
      given = subst (λ bytes. Appends (g.K.Sink.written c.args.out.now) (g.K.Sink.written c.push_piece.new.out) bytes)
          up_to (Appends-trans _ _ _ (take at text) (take n (drop at text)) c.pieces.invariant.given
          c.in_ok-push_piece.ensures.all);
      same = c.in_ok-push_piece.ensures.cause ∙ c.pieces.invariant.same;
    }
