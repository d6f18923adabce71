use Rattle.std.proofs.Common.{ℕ, ◌<◌, ◌≤◌, List, [], ◌∷◌, length, arith, refl, subst, sym}
use Rattle.cell_path.specs.declared.cell.Step.{Step}
use Rattle.cell_path.specs.Scores.{AreSteps, StandsFor}
use Rattle.cell_path.specs.Started.{AreStartsOf}
use Rattle.cell_path.proofs.MarkedSteps.{four_more, levels_are, marked_step}
use Rattle.cell_path.proofs.NextStep.{rows_fed}
use Rattle.cell_path.proofs.scores.Scores.feed.Goals as goal

-- what is known at each of the four steps
starts_of : (c : goal.After-spread) (steps : List Step) → AreSteps (c.args.d ∷ c.args.c ∷ c.args.b ∷ c.args.a ∷ [])
    → StandsFor (record { sums = c.self.inside.sums; rows = c.self.inside.rows; lacks = c.self.inside.lacks }) steps
    → (step : ℕ) → step < 4
    → AreStartsOf c.best_ends.new.ends c.best_of_all-best.result
    (c.args.a.level ∷ c.args.b.level ∷ c.args.c.level ∷ c.args.d.level ∷ [])
    (c.args.d ∷ c.args.c ∷ c.args.b ∷ c.args.a ∷ steps) step
starts_of c steps four stand step within =
    let all = c.args.d ∷ c.args.c ∷ c.args.b ∷ c.args.a ∷ steps in
    let long : 4 ≤ length all = omega arith in
    let are = four_more c.args.a c.args.b c.args.c c.args.d steps four stand.are in
    let ends = c.best_ends.ensures.ends step all within long are (c.push.ensures.stands steps four stand.sums)
    stand.rows in
    record {
      within = within;
      long = long;
      are_steps = are;
      level = levels_are c.args.a c.args.b c.args.c c.args.d steps step within;
      are_ends = ends;
      is_best = c.best_of_all-best.ensures.best step all within long are ends;
    }

pub returns-clause-stands : goal.returns-clause-stands
returns-clause-stands c = λ steps four stand_now.
    let stand : StandsFor (record {
      sums = c.self.inside.sums;
      rows = c.self.inside.rows;
      lacks = c.self.inside.lacks;
    }) steps =
    subst (λ s. StandsFor s steps) (sym c.self.view_is) stand_now in
    let all = c.args.d ∷ c.args.c ∷ c.args.b ∷ c.args.a ∷ steps in
    record {
      are = four_more c.args.a c.args.b c.args.c c.args.d steps four stand.are;
      sums = c.push.ensures.stands steps four stand.sums;
      rows = rows_fed c.self.inside.rows c.best_starts.new.rows c.turn.new.self c.best_starts.new.marks
          c.best_ends.new.ends all steps refl (omega arith) stand.rows c.best_starts.ensures.started.keeps.numbers
          (λ step within. c.best_starts.ensures.started.started step all (starts_of c steps four stand step within))
          c.turn.ensures.latest c.turn.ensures.others;
      lacks = c.push-2.ensures.stands steps four (λ step within. (starts_of c steps four stand step within).is_best)
          stand.lacks;
    }

pub returns-clause-marked : goal.returns-clause-marked
returns-clause-marked c = λ step steps within four stand_now.
    let stand : StandsFor (record {
      sums = c.self.inside.sums;
      rows = c.self.inside.rows;
      lacks = c.self.inside.lacks;
    }) steps =
    subst (λ s. StandsFor s steps) (sym c.self.view_is) stand_now in
    let all = c.args.d ∷ c.args.c ∷ c.args.b ∷ c.args.a ∷ steps in
    let known = starts_of c steps four stand step within in
    let spread = c.spread.ensures in
    marked_step all step c.best_starts.new.rows c.best_starts.new.marks c.spread.result c.best_ends.new.ends
    c.best_of_all-best.result (c.best_starts.ensures.started.started step all known) known.are_ends known.is_best
    (λ place few. spread.marks step place within few) (spread.places step within) (spread.signs step within)

pub returns-clause-places : goal.returns-clause-places
returns-clause-places c = λ step within.
    let f = c.spread.ensures.places step within in
    let g = c.best_of_all-best.ensures.codes step within in
    omega (arith, f, g)
