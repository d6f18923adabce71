use Rattle.std.proofs.Common.{◌≡◌, [], ◌∷◌, ◌++◌, arith, subst, sym}
use Rattle.std.proofs.lemmas.Int.{ints}
use Rattle.cell_path.specs.KeptMarks.{MarksStandFor}
use Rattle.cell_path.specs.Paths.{PathsStandFor}
use Rattle.cell_path.specs.Pending.{no_step, steps_of}
use Rattle.cell_path.specs.Scores.{AreSteps, IsStep}
use Rattle.cell_path.proofs.paths.Paths.finish.Goals as goal

silent : IsStep no_step
silent = record {
  sound = record { above = omega (arith, ints); below = omega (arith, ints) };
  level = omega arith;
}

pub returns-then-count-eq1-clause-stands : goal.returns-then-count-eq1-clause-stands
returns-then-count-eq1-clause-stands c = λ steps three stand_now.
    let stand : PathsStandFor (record { scores = c.self.inside.scores; marks = c.self.inside.marks }) steps =
    subst (λ s. PathsStandFor s steps) (sym c.self.view_is) stand_now in
    let p = c.args.pending in
    let four : AreSteps (no_step ∷ p.third ∷ p.second ∷ p.first ∷ []) = (silent, three) in
    let heard = c.feed-marks.ensures in
    let one = c.push.ensures.stands p.first steps stand.marks
    (heard.marked 0 steps (omega arith) four stand.scores) in
    let is : c.args.count ≡ 1 = c.if-count-eq1.true in
    subst (λ n. MarksStandFor c.push.new.self (steps_of p n ++ steps)) (sym is) one

pub returns-then-count-eq2-clause-stands : goal.returns-then-count-eq2-clause-stands
returns-then-count-eq2-clause-stands c = λ steps three stand_now.
    let stand : PathsStandFor (record { scores = c.self.inside.scores; marks = c.self.inside.marks }) steps =
    subst (λ s. PathsStandFor s steps) (sym c.self.view_is) stand_now in
    let p = c.args.pending in
    let four : AreSteps (no_step ∷ p.third ∷ p.second ∷ p.first ∷ []) = (silent, three) in
    let heard = c.feed-marks.ensures in
    let one = c.push.ensures.stands p.first steps stand.marks
    (heard.marked 0 steps (omega arith) four stand.scores) in
    let two = c.push-2.ensures.stands p.second (p.first ∷ steps) one
    (heard.marked 1 steps (omega arith) four stand.scores) in
    let is : c.args.count ≡ 2 = c.if-count-eq2.true in
    subst (λ n. MarksStandFor c.push-2.new.self (steps_of p n ++ steps)) (sym is) two

pub returns-clause-stands : goal.returns-clause-stands
returns-clause-stands c = λ steps three stand_now.
    let stand : PathsStandFor (record { scores = c.self.inside.scores; marks = c.self.inside.marks }) steps =
    subst (λ s. PathsStandFor s steps) (sym c.self.view_is) stand_now in
    let p = c.args.pending in
    let four : AreSteps (no_step ∷ p.third ∷ p.second ∷ p.first ∷ []) = (silent, three) in
    let heard = c.feed-marks.ensures in
    let one = c.push.ensures.stands p.first steps stand.marks
    (heard.marked 0 steps (omega arith) four stand.scores) in
    let two = c.push-2.ensures.stands p.second (p.first ∷ steps) one
    (heard.marked 1 steps (omega arith) four stand.scores) in
    let all = c.push-3.ensures.stands p.third (p.second ∷ p.first ∷ steps) two
    (heard.marked 2 steps (omega arith) four stand.scores) in
    let is : c.args.count ≡ 3 =
    omega (arith, c.requires.few, c.if-count-eq0.false, c.if-count-eq1.false, c.if-count-eq2.false) in
    subst (λ n. MarksStandFor c.push-3.new.self (steps_of p n ++ steps)) (sym is) all
