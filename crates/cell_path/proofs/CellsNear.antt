-- The cells that are decided in all end near one another: of a path each ends where the next begins, and the first of
-- them that is decided begins with the sound or less than a quarter of a cell behind what was decided before.
use Rattle.std.proofs.Common.{◌≡◌, ℕ, ◌+◌, ◌-◌, ◌/◌, ◌<◌, ◌≤◌, List, [], ◌∷◌, ◌++◌, Bool, true, false}
use Rattle.std.proofs.Common.{leb, ltb, length, drop, refl, subst, sym, ◌∙◌, arith}
use Rattle.std.specs.List.{filter, AllByRecursion}
use Rattle.std.proofs.lemmas.Bool.{ltb-true, and_parts}
use Rattle.std.proofs.lemmas.Bool.Decides.{nat_tests}
use Rattle.std.proofs.lemmas.List.{length-drop}
use Rattle.cell_path.specs.declared.cell.Cell.{Cell}
use Rattle.cell_path.specs.declared.cell.Step.{Step}
use Rattle.cell_path.specs.declared.follow.TheConstants.{DELAY}
use Rattle.cell_path.specs.declared.lengths.TheConstants.{LENGTHS}
use Rattle.cell_path.specs.declared.placed.Placed.{Placed}
use Rattle.cell_path.specs.Decided.{end_behind, is_decided, is_due, newly, placed, Adds, AreDecided, AreDecidedInAll}
use Rattle.cell_path.specs.Lengths.{length_in}
use Rattle.cell_path.specs.Path.{IsPath}
use Rattle.cell_path.specs.Spaced.{AreNear, IsInList}
use Rattle.cell_path.proofs.CellsCover.{decided_front, not_below}
use Rattle.cell_path.proofs.Followed.{none_behind, old_enough, too_near}
use Rattle.cell_path.proofs.LengthsOfCells.{length_bounds}

-- ---- a path that is old enough

-- what is decided of it reaches its end, but for a quarter of a cell
reach_by : (delay count done end : ℕ) (cell : Cell) (rest : List Cell) (before : List Placed) (b : Bool)
    → cell.place < 45 → end + delay ≤ count → ltb (done + length_in LENGTHS cell.place / 4) end ≡ b
    → end_behind 0 before ≡ done
    → end ≤ end_behind 0 (filter (is_decided delay count done) (placed end (cell ∷ rest)) ++ before) + 24
reach_by delay count done end cell rest before true place old is last =
    let far = ltb-true (done + length_in LENGTHS cell.place / 4) end is in
    let front = decided_front delay count done end cell rest true
    (old_enough delay count done (record { end = end; cell = cell }) old far) in
    subst (λ l. end ≤ end_behind 0 (l ++ before) + 24) (sym front) (omega arith)
reach_by delay count done end cell rest before false place old is last =
    let n = length_in LENGTHS cell.place in
    let near : end ≤ done + n / 4 = not_below (done + n / 4) end is in
    let most = (length_bounds cell.place place).1 in
    let front = decided_front delay count done end cell rest false
    (too_near delay count done (record { end = end; cell = cell }) near)
    ∙ none_behind delay count done (end - n) rest (omega (arith, near)) in
    subst (λ l. end ≤ end_behind 0 (l ++ before) + 24) (sym front) (omega (arith, near, most, last))

reaches : (delay count done end : ℕ) (steps : List Step) (cells : List Cell) (before : List Placed)
    → IsPath LENGTHS steps cells → end ≤ length steps → end + delay ≤ count → end_behind 0 before ≡ done
    → end ≤ end_behind 0 (filter (is_decided delay count done) (placed end cells) ++ before) + 24
unfolding placed
reaches delay count done end steps [] before path within old last = omega (arith, path, within)
reaches delay count done end steps (cell ∷ rest) before path within old last =
    reach_by delay count done end cell rest before (ltb (done + length_in LENGTHS cell.place / 4) end) path.1 old refl
    last

-- ---- the cells of a path

-- near one another, and of lengths in the list
abbrev AreFit : List Placed → Type 0
AreFit all = AreNear all × AllByRecursion IsInList all

near_by : (delay count done end : ℕ) (steps : List Step) (cell : Cell) (rest : List Cell) (before : List Placed)
    (b : Bool) → IsPath LENGTHS steps (cell ∷ rest) → end ≤ length steps
    → is_decided delay count done (record { end = end; cell = cell }) ≡ b → end_behind 0 before ≡ done
    → AreFit (filter (is_decided delay count done) (placed (end - length_in LENGTHS cell.place) rest) ++ before)
    → AreFit (filter (is_decided delay count done) (placed end (cell ∷ rest)) ++ before)
near_by delay count done end steps cell rest before true path within is last more =
    let n = length_in LENGTHS cell.place in
    let bounds = length_bounds cell.place path.1 in
    let parts = and_parts (leb (end + delay) count) (ltb (done + n / 4) end) is in
    let old : end + delay ≤ count = grind (arith, nat_tests, parts.0) in
    let left = length-drop n steps in
    let reach = reaches delay count done (end - n) (drop n steps) rest before path.3 (omega (arith, left, within))
    (omega (arith, old)) last in
    subst (λ l. AreFit (l ++ before)) (sym (decided_front delay count done end cell rest true is))
    ((omega (arith, reach, bounds.1), more.0), ((path.1, bounds.0, bounds.1), more.1))
near_by delay count done end steps cell rest before false path within is last more =
    subst (λ l. AreFit (l ++ before)) (sym (decided_front delay count done end cell rest false is)) more

near_decided : (delay count done end : ℕ) (steps : List Step) (cells : List Cell) (before : List Placed)
    → IsPath LENGTHS steps cells → end ≤ length steps → end_behind 0 before ≡ done → AreFit before
    → AreFit (filter (is_decided delay count done) (placed end cells) ++ before)
unfolding placed
near_decided delay count done end steps [] before path within last fit = fit
near_decided delay count done end steps (cell ∷ rest) before path within last fit =
    let n = length_in LENGTHS cell.place in
    let left = length-drop n steps in
    near_by delay count done end steps cell rest before
    (is_decided delay count done (record { end = end; cell = cell })) path within refl last
    (near_decided delay count done (end - n) (drop n steps) rest before path.3 (omega (arith, left, within)) last fit)

-- ---- what is decided so far, and in all

newly_near : (delay ago : ℕ) (steps : List Step) (path : List Cell) (before all : List Placed)
    → IsPath LENGTHS (drop ago steps) path → AreFit before
    → all ≡ newly delay (length steps) ago (end_behind 0 before) path ++ before → AreFit all
newly_near delay ago steps path before all is_path so_far is =
    let done = end_behind 0 before in
    let left = length-drop ago steps in
    subst AreFit (sym is) (near_decided delay (length steps) done (length steps - ago) (drop ago steps) path before
    is_path (omega (arith, left)) refl so_far)

adds_near : (steps : List Step) (before all : List Placed) (due : Bool) → is_due (length steps) ≡ due
    → Adds steps before all → AreFit before → AreFit all
adds_near steps before all true due adds so_far =
    let a = adds.due due in
    newly_near DELAY a.0 steps a.1 before all a.2.is_best.is_path so_far a.3
adds_near steps before all false due adds so_far = subst AreFit (sym (adds.idle due)) so_far

decided_near : (steps : List Step) (all : List Placed) → AreDecided steps all → AreFit all
decided_near [] all are = subst AreFit (sym are) (tt, tt)
decided_near (step ∷ steps) all are =
    adds_near (step ∷ steps) are.0 all (is_due (length (step ∷ steps))) refl are.2 (decided_near steps are.0 are.1)

pub cells_near : (steps : List Step) (all : List Placed) → AreDecidedInAll steps all
    → AreNear all × AllByRecursion IsInList all
cells_near [] all are = subst AreFit (sym are) (tt, tt)
cells_near (step ∷ steps) all are =
    newly_near 0 0 (step ∷ steps) are.2 are.0 all are.3.is_path (decided_near (step ∷ steps) are.0 are.1) are.4
