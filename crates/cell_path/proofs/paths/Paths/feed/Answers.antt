use Rattle.std.proofs.Common.{◌∷◌, arith, subst, sym}
use Rattle.cell_path.specs.Paths.{PathsStandFor}
use Rattle.cell_path.proofs.paths.Paths.feed.Goals as goal

pub returns-clause-stands : goal.returns-clause-stands
returns-clause-stands c = λ steps four stand_now.
    let stand : PathsStandFor (record { scores = c.self.inside.scores; marks = c.self.inside.marks }) steps =
    subst (λ s. PathsStandFor s steps) (sym c.self.view_is) stand_now in
    let heard = c.feed-marks.ensures in
    let one = c.push.ensures.stands c.args.a steps stand.marks
    (heard.marked 0 steps (omega arith) four stand.scores) in
    let two = c.push-2.ensures.stands c.args.b (c.args.a ∷ steps) one
    (heard.marked 1 steps (omega arith) four stand.scores) in
    let three = c.push-3.ensures.stands c.args.c (c.args.b ∷ c.args.a ∷ steps) two
    (heard.marked 2 steps (omega arith) four stand.scores) in
    record {
      scores = heard.stands steps four stand.scores;
      marks = c.push-4.ensures.stands c.args.d (c.args.c ∷ c.args.b ∷ c.args.a ∷ steps) three
          (heard.marked 3 steps (omega arith) four stand.scores);
    }
