use Rattle.std.proofs.Common.{◌≡◌, ◌+◌, ◌-◌, ◌<◌, ◌≤◌, Option, Some, List, [], ◌∷◌, ◌++◌, length, refl, subst, sym}
use Rattle.std.proofs.Common.{arith}
use Rattle.std.proofs.lemmas.List.{length-append}
use Rattle.cell_path.specs.declared.lengths.TheConstants.{LENGTHS}
use Rattle.cell_path.specs.declared.placed.Placed.{Placed}
use Rattle.cell_path.specs.declared.point.Point.{Point}
use Rattle.cell_path.specs.Decided.{end_behind}
use Rattle.cell_path.specs.Lengths.{length_in}
use Rattle.cell_path.proofs.Followed.{all_gathered, all_gathered_to_begin, end_pushed, gathered-pushed}
use Rattle.cell_path.specs.Spaced.{AreSpaced}
use Rattle.cell_path.proofs.SpacedEnds.{behind_pushed, spaced_behind, spaced_of_none, spaced_pushed, AreBehind}
use Rattle.cell_path.proofs.Followed.{ago_of, step_back, gathered-skipped, here_pushed, here_skipped, IsBefore}
use Rattle.cell_path.proofs.Followed.{IsGathered, IsHere}
use Rattle.cell_path.proofs.follow.decided_now.Goals as goal

pub overflow_add-done : goal.overflow_add-done
overflow_add-done c = omega (arith, c.requires, c.length_at.ensures)

pub overflow_add-end : goal.overflow_add-end
overflow_add-end c = omega (arith, c.requires)

-- a cell that is decided
pub cells-preserved-then-end-delay : goal.cells-preserved-then-end-delay
cells-preserved-then-end-delay c =
    let now = c.cells.invariant in
    let point = c.in-Some.point in
    let back = c.back-back.result in
    let many = length c.cells.waiting in
    let says = c.back-back.ensures in
    let long = c.length_at.ensures in
    let before : IsBefore c.args.count point back.before =
    subst (λ n. IsBefore n point back.before) (sym c.requires.count) says.point in
    let here : IsHere c.args.delay c.args.count many (Some point) = subst (IsHere c.args.delay c.args.count many)
    c.in-Some.is now.here in
    let gathered = subst (λ (at : Option Point). IsGathered c.args.delay c.args.count c.args.done c.args.paths.now
    c.args.best at c.cells.waiting) c.in-Some.is now.gathered in
    let cell : Placed = record { end = c.args.count - point.ago; cell = back.cell } in
    let old : c.args.delay ≤ point.ago = omega (arith, c.if-end-delay.true, here.1) in
    let more : length (c.cells.waiting ++ cell ∷ []) ≡ many + 1 = length-append c.cells.waiting (cell ∷ []) in
    let goes : IsGathered c.args.delay c.args.count c.args.done c.args.paths.now c.args.best
    back.before
    (c.cells.waiting ++ cell ∷ []) =
    gathered-pushed c.args.delay c.args.count c.args.done c.args.paths.now c.args.best point
    c.cells.waiting back gathered says.back says.cell before c.if-end-delay.true
    (omega (arith, c.if-end-done.false, long.value)) in
    let spaced : AreSpaced 96 (c.args.count - point.ago) c.cells.waiting =
    subst (λ (at : Option Point). AreSpaced 96 (c.args.count - ago_of c.args.count at) c.cells.waiting) c.in-Some.is
    now.spaced in
    let apart : c.args.done + 2 ≤ c.args.count - point.ago = omega (arith, c.if-end-done.false, long.least) in
    let steps = step_back c.args.count c.length_at.result point back.before long.value long.least long.most here.1
    before
    (λ none. subst (λ n. n ≤ point.ago + length_in LENGTHS point.place) (sym c.requires.count) (says.first none))
    (omega (arith, apart)) in
    subst (λ (w : List Placed). record {
      here : IsHere c.args.delay c.args.count (length w) back.before;
      near : 0 < length w → c.args.count ≤ end_behind c.args.done w + (c.args.delay + 95);
      behind : end_behind c.args.done w ≤ c.args.count;
      gathered : IsGathered c.args.delay c.args.count c.args.done c.args.paths.now c.args.best
          back.before w;
      spaced : AreSpaced 96 (c.args.count - ago_of c.args.count back.before) w;
      far : AreBehind c.args.done w;
    }) (sym c.push.ensures) (record {
      here = here_pushed c.args.delay c.args.count many (length (c.cells.waiting ++ cell ∷ [])) c.length_at.result point
          back.before
          more long.value long.least old here before;
      near = λ some. end_pushed c.args.done c.cells.waiting cell (λ e. c.args.count ≤ e + (c.args.delay + 95))
          (λ none. let near = here.2 none in omega (arith, near)) now.near;
      behind = end_pushed c.args.done c.cells.waiting cell (λ e. e ≤ c.args.count) (λ none. omega arith)
          (λ some. now.behind);
      gathered = goes;
      spaced = spaced_pushed 96 (c.args.count - ago_of c.args.count back.before) (c.args.count - point.ago)
          c.cells.waiting cell spaced refl steps.0 steps.1;
      far = behind_pushed c.args.done c.cells.waiting cell now.far apart;
    })

-- one that is not old enough
pub cells-preserved : goal.cells-preserved
cells-preserved c =
    let now = c.cells.invariant in
    let point = c.in-Some.point in
    let back = c.back-back.result in
    let many = length c.cells.waiting in
    let says = c.back-back.ensures in
    let long = c.length_at.ensures in
    let before : IsBefore c.args.count point back.before =
    subst (λ n. IsBefore n point back.before) (sym c.requires.count) says.point in
    let here : IsHere c.args.delay c.args.count many (Some point) = subst (IsHere c.args.delay c.args.count many)
    c.in-Some.is now.here in
    let gathered = subst (λ (at : Option Point). IsGathered c.args.delay c.args.count c.args.done c.args.paths.now
    c.args.best at c.cells.waiting) c.in-Some.is now.gathered in
    let new : point.ago < c.args.delay = omega (arith, c.if-end-delay.false, here.1) in
    record {
      here = here_skipped c.args.delay c.args.count many c.length_at.result point back.before c.requires.first
          c.requires.delay long.value long.most
          new here before (λ none. subst (λ n. n ≤ point.ago + length_in LENGTHS point.place)
          (sym c.requires.count) (says.first none));
      near = now.near;
      behind = now.behind;
      spaced = spaced_of_none 96 (c.args.count - ago_of c.args.count c.cells.at)
          (c.args.count - ago_of c.args.count back.before)
          c.cells.waiting (omega (arith, new, here.3)) now.spaced;
      far = now.far;
      gathered = gathered-skipped c.args.delay c.args.count c.args.done c.args.paths.now c.args.best point
          c.cells.waiting back gathered says.back says.cell before (omega (arith, c.if-end-delay.false));
    }

-- the path has come to what was decided before
pub returns-then-end-done-clause-decided : goal.returns-then-end-done-clause-decided
returns-then-end-done-clause-decided c =
    let point = c.in-Some.point in
    let gathered = subst (λ (at : Option Point). IsGathered c.args.delay c.args.count c.args.done c.args.paths.now
    c.args.best at c.cells.waiting) c.in-Some.is c.cells.invariant.gathered in
    all_gathered c.args.delay c.args.count c.args.done c.args.paths.now c.args.best point
    c.cells.waiting
    gathered (omega (arith, c.if-end-done.true, c.length_at.ensures.value))

-- the path has come to the beginning of the sound
pub returns-in_default-clause-decided : goal.returns-in_default-clause-decided
returns-in_default-clause-decided c =
    all_gathered_to_begin c.args.delay c.args.count c.args.done c.args.paths.now c.args.best
    c.cells.at
    c.cells.waiting c.cells.invariant.gathered c.in_default.is

pub returns-then-end-done-clause-spaced : goal.returns-then-end-done-clause-spaced
returns-then-end-done-clause-spaced c =
    let point = c.in-Some.point in
    let spaced : AreSpaced 96 (c.args.count - point.ago) c.cells.waiting =
    subst (λ (at : Option Point). AreSpaced 96 (c.args.count - ago_of c.args.count at) c.cells.waiting) c.in-Some.is
    c.cells.invariant.spaced in
    spaced_behind c.args.done (c.args.count - point.ago) c.cells.waiting spaced c.cells.invariant.far
    (omega (arith, c.if-end-done.true, c.length_at.ensures.most))

pub returns-in_default-clause-spaced : goal.returns-in_default-clause-spaced
returns-in_default-clause-spaced c =
    let spaced : AreSpaced 96 (c.args.count - c.args.count) c.cells.waiting =
    subst (λ (at : Option Point). AreSpaced 96 (c.args.count - ago_of c.args.count at) c.cells.waiting) c.in_default.is
    c.cells.invariant.spaced in
    spaced_behind c.args.done (c.args.count - c.args.count) c.cells.waiting spaced c.cells.invariant.far (omega arith)
