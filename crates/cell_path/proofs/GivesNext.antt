-- The earliest of what waits is given: it ends behind the one before it, and those that wait stay behind it.
use Rattle.std.proofs.Common.{◌≡◌, ◌+◌, ◌<◌, ◌≤◌, Some, List, [], ◌∷◌, ◌++◌, length, ap, subst, sym, ◌∙◌, refl, arith}
use Rattle.cell_path.specs.declared.placed.Decided.{Decided}
use Rattle.cell_path.specs.declared.placed.Placed.{Placed}
use Rattle.cell_path.specs.Decided.{end_behind}
use Rattle.cell_path.specs.Decisions.{last_end, AreDecisions, DecisionsState, IsNear}
use Rattle.cell_path.specs.Spaced.{AreSpaced}
use Rattle.cell_path.proofs.SpacedEnds.{earliest_is_first, earliest_is_near, end_of_pushed, others_are_spaced}

-- what is kept behind a cell that was given
abbrev pub given : DecisionsState → List Placed → Placed → DecisionsState
given state waiting cell = record state { waiting = waiting; last = Some cell }

some_wait : (waiting : List Placed) (cell : Placed) → 0 < length (waiting ++ cell ∷ [])
some_wait [] cell = omega arith
some_wait (w ∷ waiting) cell = omega arith

recent_by : (state : DecisionsState) (waiting : List Placed) (cell : Placed) → AreDecisions state
    → state.waiting ≡ waiting ++ cell ∷ [] → state.count ≤ last_end state.last + 2_048
recent_by state waiting cell are is =
    are.recent (subst (λ w. 0 < length w) (sym is) (some_wait waiting cell))

spaced_by : (state : DecisionsState) (waiting : List Placed) (cell : Placed) → AreDecisions state
    → state.waiting ≡ waiting ++ cell ∷ [] → AreSpaced 120 (last_end state.last) (waiting ++ cell ∷ [])
spaced_by state waiting cell are is = subst (AreSpaced 120 (last_end state.last)) is are.spaced

pub still_decisions : (state : DecisionsState) (waiting : List Placed) (cell : Placed) → AreDecisions state
    → state.waiting ≡ waiting ++ cell ∷ [] → AreDecisions (given state waiting cell)
still_decisions state waiting cell are is =
    let spaced = spaced_by state waiting cell are is in
    let recent = recent_by state waiting cell are is in
    let near = earliest_is_near 120 (last_end state.last) waiting cell spaced in
    record {
      count_is = are.count_is;
      few = are.few;
      behind = are.behind;
      near = are.near;
      done_is = are.done_is ∙ ap (end_behind (last_end state.last)) is
          ∙ end_of_pushed (last_end state.last) cell.end waiting cell refl;
      spaced = others_are_spaced 120 (last_end state.last) waiting cell spaced;
      recent = λ some. omega (arith, recent, near.0);
    }

pub given_is_near : (state : DecisionsState) (waiting : List Placed) (cell : Decided) → AreDecisions state
    → state.waiting ≡ waiting ++ cell.placed ∷ [] → cell.placed.cell.place < 45
    → IsNear state (given state waiting cell.placed) cell
given_is_near state waiting cell are is place =
    let spaced = spaced_by state waiting cell.placed are is in
    let recent = recent_by state waiting cell.placed are is in
    let near = earliest_is_near 120 (last_end state.last) waiting cell.placed spaced in
    let first = earliest_is_first 120 (last_end state.last) waiting cell.placed spaced in
    let done = are.done_is ∙ ap (end_behind (last_end state.last)) is in
    record {
      place = place;
      behind = near.0;
      close = near.1;
      come = omega (arith, first, done, are.behind);
      recent = omega (arith, recent, near.0);
      last = refl;
    }
