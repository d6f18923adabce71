use Rattle.std.proofs.Common.{◌≡◌, ◌++◌, [], ◌∷◌, T, List, length, ap, subst, sym, ◌∙◌}
use Rattle.std.proofs.Math.Facts.{eqb_yes}
use Rattle.path_front.specs.declared.measured.Measured.{Measured}
use Rattle.path_front.specs.Gate.{GateState, Judges}
use Rattle.path_front.proofs.GateJudges.{eight_behind}
use Rattle.path_front.proofs.gate.Gate.feed.Goals as goal

pub returns-then-is_full-clause-judges : goal.returns-then-is_full-clause-judges
returns-then-is_full-clause-judges c = λ judged more stand_now.
    let i = c.self.inside in
    let stand = ap (λ (s : GateState). s.before) c.self.view_is ∙ stand_now in
    let nine : length c.push.new.self.items ≡ 9 =
    eqb_yes (subst T (sym (sym c.is_full.ensures.value ∙ c.if-is_full.true)) tt) in
    let judges = c.judge.ensures.judges judged more (eight_behind c.push.new.self.items more nine) stand in
    let ahead : c.push.new.self.items ≡ c.args.self.now.ahead ++ c.args.cell ∷ [] =
    c.push.ensures.items ∙ ap (λ (s : GateState). s.ahead ++ c.args.cell ∷ []) c.self.view_is in
    subst (λ n. Judges n (c.args.self.now.ahead ++ c.args.cell ∷ []) c.judge.new.self judged more c.judge.result)
    (ap (λ (s : GateState). s.ear) c.self.view_is)
    (subst (λ (l : List Measured). Judges i.ear l c.judge.new.self judged more c.judge.result) ahead judges)
