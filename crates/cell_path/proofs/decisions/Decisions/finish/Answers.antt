use Rattle.std.proofs.Common.{◌≡◌, [], ◌++◌, ◌<◌, drop, ap, subst, sym, ◌∙◌, arith}
use Rattle.cell_path.specs.declared.lengths.TheConstants.{LENGTHS}
use Rattle.cell_path.specs.Best.{IsBestOfAll}
use Rattle.cell_path.specs.Decided.{end_behind, newly, AreDecided}
use Rattle.cell_path.specs.Decisions.{DecisionsStandFor, DecisionsState}
use Rattle.cell_path.specs.KeptMarks.{MarksStandFor}
use Rattle.cell_path.proofs.DecidesNext.{rest_adds}
use Rattle.cell_path.proofs.decisions.Decisions.finish.Goals as goal

pub returns-then-self-gt0-clause-stands : goal.returns-then-self-gt0-clause-stands
returns-then-self-gt0-clause-stands c = λ steps given stand_now.
    let inside = c.self.inside in
    let state : DecisionsState = record {
      paths = inside.paths;
      pending = inside.pending;
      count = inside.count;
      done = inside.done;
      waiting = inside.waiting;
      last = inside.last;
    } in
    let stand : DecisionsStandFor state steps given =
    subst (λ s. DecisionsStandFor s steps given) (sym c.self.view_is) stand_now in
    let none : inside.waiting ≡ [] = ap (λ (s : DecisionsState). s.waiting) c.self.view_is ∙ c.requires.given in
    let decided : AreDecided steps given = subst (λ l. AreDecided steps (l ++ given)) none stand.decided in
    let done : inside.done ≡ end_behind 0 given = stand.done ∙ ap (λ l. end_behind 0 (l ++ given)) none in
    let some : 0 < inside.count = c.if-self-gt0.true in
    let s = stand.stands in
    let marks : MarksStandFor c.finish.new.self.marks steps =
    subst (MarksStandFor c.finish.new.self.marks) (sym s.steps_are)
    (c.finish.ensures.stands s.before s.waits s.paths) in
    let end = (c.best-best.ensures.best steps marks (omega (arith, some, stand.count))).1 in
    let here = c.best-best.ensures.here in
    let decided_is = subst (λ n. c.decide.new.waiting ≡ newly 0 inside.count n inside.done end.path) here
    (c.decide.ensures.decided steps end.path marks
    (subst (λ n. IsBestOfAll LENGTHS (drop n steps) end.path) (sym here) end.is_best) end.ends) in
    record {
      decided = rest_adds steps given c.decide.new.waiting inside.count inside.done decided stand.count done some
          (end.path, end.is_best, decided_is);
      last = stand.last;
    }
