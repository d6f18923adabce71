use Rattle.std.proofs.Common.{◌≡◌, ◌<◌, ◌∷◌, ◌++◌, ◌||◌, Bool, List, length, take, drop, ap, ap₂, subst, sym, ◌∙◌}
use Rattle.path_front.specs.declared.measured.Measured.{Measured}
use Rattle.path_front.specs.Gate.{refuses_between, AreGated, GateState, GateStandsFor, Judges}
use Rattle.path_front.proofs.GateJudges.{first_and_rest, judges, or_first, or_second, still_gated}
use Rattle.path_front.proofs.gate.Gate.judge.Goals.{then-cell, else-cell}
use Rattle.path_front.proofs.gate.Gate.judge.Goals as goal

abbrev state_of : goal.Joined-cell → GateState
state_of c = record { ear = c.self.inside.ear; before = c.self.inside.before.items; ahead = c.self.inside.ahead.items }

front_is : (c : goal.Joined-cell) → c.self.inside.ahead.items ≡ c.remove-cell.result ∷ c.remove-cell.new.self.items
front_is c =
    let ahead = ap (λ (s : GateState). s.ahead) c.self.view_is in
    first_and_rest c.self.inside.ahead.items c.remove-cell.result (subst (λ l. 0 < length l)
    (sym ahead) c.requires.some)
    c.remove-cell.ensures.value ∙ ap (λ l. c.remove-cell.result ∷ l) (sym c.remove-cell.ensures.items)

before_is : (c : goal.Joined-cell) → c.insert.new.self.items ≡ c.remove-cell.result ∷ take 7 c.self.inside.before.items
before_is c = c.insert.ensures.items ∙ ap (λ l. c.remove-cell.result ∷ l) c.truncate.ensures.items

pub invariant_of-self : goal.invariant_of-self
invariant_of-self c =
    subst (λ (b : List Measured). AreGated (record {
      ear = c.self.inside.ear;
      before = b;
      ahead = c.remove-cell.new.self.items;
    })) (sym (before_is c))
    (still_gated (state_of c) c.remove-cell.result c.remove-cell.new.self.items c.self.invariant (front_is c))

pub returns-clause-judges : goal.returns-clause-judges
returns-clause-judges c = λ judged more near stand_now.
    let i = c.self.inside in
    let cell = c.remove-cell.result in
    let behind = c.remove-cell.new.self.items in
    let stand : GateStandsFor (state_of c) judged = subst (λ s. GateStandsFor s judged) (sym c.self.view_is) stand_now in
    let rest : drop 1 c.args.self.now.ahead ≡ behind =
    ap (drop 1) (sym (ap (λ (s : GateState). s.ahead) c.self.view_is) ∙ front_is c) in
    let eight : take 8 (behind ++ more) ≡ behind = ap (λ l. take 8 (l ++ more)) (sym rest) ∙ near ∙ rest in
    let refused : c.refuses-refused.result ≡ refuses_between i.ear i.before.items cell behind =
    c.refuses-refused.ensures
    ∙ ap₂ (λ b a. refuses_between i.ear b cell a) c.as_slice-before.ensures.value c.as_slice.ensures.value in
    let breaks : c.if-cell.result ≡ cell.jumps || c.refuses-refused.result = elim c.if-cell.branch [
      | then-cell w ↦ or_first cell.jumps c.refuses-refused.result c.if-cell.result w.if-cell.true (w.result-is
          ∙ w.if-cell.true)
      | else-cell w ↦ or_second cell.jumps c.refuses-refused.result c.if-cell.result w.if-cell.false w.result-is
    ] in
    let judged_now = judges (state_of c) cell behind c.refuses-refused.result judged more (front_is c) eight stand
    refused in
    subst (λ s. Judges s.ear s.ahead (record {
      ear = i.ear;
      before = c.insert.new.self.items;
      ahead = behind;
    }) judged more (record { cell = cell; breaks = c.if-cell.result })) c.self.view_is
    (subst (λ (b : List Measured). Judges i.ear i.ahead.items (record {
      ear = i.ear;
      before = b;
      ahead = behind;
    }) judged more (record { cell = cell; breaks = c.if-cell.result })) (sym (before_is c))
    (subst (λ (b : Bool). Judges i.ear i.ahead.items (record {
      ear = i.ear;
      before = cell ∷ take 7 i.before.items;
      ahead = behind;
    }) judged more (record { cell = cell; breaks = b })) (sym breaks) judged_now))
