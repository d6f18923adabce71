use Rattle.std.proofs.Common.{◌≡◌, ◌+◌, [], ◌∷◌, ◌++◌, length, ap, subst, sym, ◌∙◌, arith}
use Rattle.cell_path.specs.Decided.{end_behind, AreDecided}
use Rattle.cell_path.specs.Decisions.{DecisionsStandFor, DecisionsState}
use Rattle.cell_path.specs.Paths.{PathsStandFor}
use Rattle.cell_path.proofs.DecidesNext.{due_adds, end_of_all, whole_stands}
use Rattle.cell_path.proofs.decisions.Decisions.feed.Goals as goal

pub returns-then-self-eq0-clause-stands : goal.returns-then-self-eq0-clause-stands
returns-then-self-eq0-clause-stands c = λ steps given stand_now.
    let inside = c.self.inside in
    let state : DecisionsState = record {
      paths = inside.paths;
      pending = inside.pending;
      count = inside.count;
      done = inside.done;
      waiting = inside.waiting;
      last = inside.last;
    } in
    let stand : DecisionsStandFor state steps given =
    subst (λ s. DecisionsStandFor s steps given) (sym c.self.view_is) stand_now in
    let none : inside.waiting ≡ [] = ap (λ (s : DecisionsState). s.waiting) c.self.view_is ∙ c.requires.given in
    let decided : AreDecided steps given = subst (λ l. AreDecided steps (l ++ given)) none stand.decided in
    let done : inside.done ≡ end_behind 0 given = stand.done ∙ ap (λ l. end_behind 0 (l ++ given)) none in
    let stands = c.take.ensures.stands steps c.requires.step stand.stands in
    let whole = c.if-self-eq0.true in
    let paths : PathsStandFor c.take.new.paths (c.args.step ∷ steps) =
    whole_stands c.take.new.paths c.take.new.pending (inside.count + 1) (c.args.step ∷ steps) whole stands in
    let long : inside.count + 1 ≡ length (c.args.step ∷ steps) = omega (arith, stand.count) in
    let first = c.if-self-ge-FIRST.true in
    let end = (c.unfinished-best.ensures.ends (c.args.step ∷ steps) (omega (arith, long, first)) paths).1 in
    let best = c.unfinished-best.ensures.best (c.args.step ∷ steps) end.path (omega (arith, long, first)) paths
    end.is_best in
    record {
      stands = stands;
      count = long;
      decided = due_adds c.args.step steps given c.decide.new.waiting (inside.count + 1) inside.done decided long done
          first whole (
            c.unfinished-best.result.ago,
            end.path,
            best,
            c.decide.ensures.decided (c.args.step ∷ steps) end.path paths.marks end.is_best end.ends,
          );
      done = c.decide.ensures.done ∙ end_of_all inside.done c.decide.new.waiting given done;
      last = stand.last;
    }
