-- The cells that are decided in all end apart, and the last of them where the sound does, or a quarter of a cell
-- before.
use Rattle.std.proofs.Common.{◌≡◌, ℕ, ◌+◌, ◌-◌, ◌/◌, ◌<◌, ◌≤◌, max, List, [], ◌∷◌, ◌++◌, Bool, true, false, cond}
use Rattle.std.proofs.Common.{leb, ltb, length, drop, refl, ap, subst, sym, ◌∙◌, arith}
use Rattle.std.specs.List.{filter}
use Rattle.std.proofs.lemmas.Bool.{ltb-true, and_parts}
use Rattle.std.proofs.lemmas.Bool.Decides.{nat_tests}
use Rattle.cell_path.specs.declared.cell.Cell.{Cell}
use Rattle.cell_path.specs.declared.cell.Step.{Step}
use Rattle.cell_path.specs.declared.follow.TheConstants.{DELAY}
use Rattle.cell_path.specs.declared.lengths.TheConstants.{LENGTHS}
use Rattle.cell_path.specs.declared.placed.Placed.{Placed}
use Rattle.cell_path.specs.Decided.{end_behind, is_decided, is_due, newly, placed, Adds, AreDecided, AreDecidedInAll}
use Rattle.cell_path.specs.Lengths.{length_in}
use Rattle.cell_path.specs.Path.{IsPath}
use Rattle.cell_path.specs.Spaced.{AreApart}
use Rattle.cell_path.proofs.Followed.{none_behind, old_enough, too_near}
use Rattle.cell_path.proofs.LengthsOfCells.{length_bounds}

-- what a test that fails says
pub not_below : (a b : ℕ) → ltb a b ≡ false → b ≤ a
not_below a b fails = grind (arith, nat_tests)

-- a cell is decided or not, in front of the others
pub decided_front : (delay count done end : ℕ) (cell : Cell) (rest : List Cell) (b : Bool)
    → is_decided delay count done (record { end = end; cell = cell }) ≡ b
    → filter (is_decided delay count done) (placed end (cell ∷ rest))
    ≡ cond b (record { end = end; cell = cell }
    ∷ filter (is_decided delay count done) (placed (end - length_in LENGTHS cell.place) rest))
    (filter (is_decided delay count done) (placed (end - length_in LENGTHS cell.place) rest))
unfolding placed
decided_front delay count done end cell rest b is =
    let all = filter (is_decided delay count done) (placed (end - length_in LENGTHS cell.place) rest) in
    ap (λ c. cond c (record { end = end; cell = cell } ∷ all) all) is

-- none of them ends behind the path, or behind those before
last_by : (delay count done end : ℕ) (cell : Cell) (rest : List Cell) (before : List Placed) (b : Bool)
    → is_decided delay count done (record { end = end; cell = cell }) ≡ b
    → end_behind 0 (filter (is_decided delay count done) (placed (end - length_in LENGTHS cell.place) rest) ++ before)
    ≤ max done (end - length_in LENGTHS cell.place)
    → end_behind 0 (filter (is_decided delay count done) (placed end (cell ∷ rest)) ++ before) ≤ max done end
last_by delay count done end cell rest before true is more =
    subst (λ l. end_behind 0 (l ++ before) ≤ max done end) (sym (decided_front delay count done end cell rest true is))
    (omega arith)
last_by delay count done end cell rest before false is more =
    subst (λ l. end_behind 0 (l ++ before) ≤ max done end) (sym (decided_front delay count done end cell rest false is))
    (omega (arith, more))

last_decided : (delay count done end : ℕ) (cells : List Cell) (before : List Placed) → end_behind 0 before ≤ done
    → end_behind 0 (filter (is_decided delay count done) (placed end cells) ++ before) ≤ max done end
unfolding placed
last_decided delay count done end [] before first = omega (arith, first)
last_decided delay count done end (cell ∷ rest) before first =
    last_by delay count done end cell rest before
    (is_decided delay count done (record { end = end; cell = cell })) refl
    (last_decided delay count done (end - length_in LENGTHS cell.place) rest before first)

-- a cell that is decided ends behind those before by more than a quarter of its length
far_behind : (delay count done end : ℕ) (cell : Cell) → cell.place < 45
    → is_decided delay count done (record { end = end; cell = cell }) ≡ true → done + 2 ≤ end
far_behind delay count done end cell place is =
    let n = length_in LENGTHS cell.place in
    let parts = and_parts (leb (end + delay) count) (ltb (done + n / 4) end) is in
    let far = ltb-true (done + n / 4) end parts.1 in
    let long = (length_bounds cell.place place).0 in
    omega (arith, far, long)

apart_by : (delay count done end : ℕ) (cell : Cell) (rest : List Cell) (before : List Placed) (b : Bool)
    → cell.place < 45 → is_decided delay count done (record { end = end; cell = cell }) ≡ b
    → end_behind 0 before ≤ done
    → AreApart (filter (is_decided delay count done) (placed (end - length_in LENGTHS cell.place) rest) ++ before)
    → AreApart (filter (is_decided delay count done) (placed end (cell ∷ rest)) ++ before)
apart_by delay count done end cell rest before true place is first more =
    let n = length_in LENGTHS cell.place in
    let last = last_decided delay count done (end - n) rest before first in
    let far = far_behind delay count done end cell place is in
    let long = (length_bounds cell.place place).0 in
    subst (λ l. AreApart (l ++ before)) (sym (decided_front delay count done end cell rest true is))
    (omega (arith, last, far, long), more)
apart_by delay count done end cell rest before false place is first more =
    subst (λ l. AreApart (l ++ before)) (sym (decided_front delay count done end cell rest false is)) more

apart_decided : (delay count done end : ℕ) (steps : List Step) (cells : List Cell) (before : List Placed)
    → IsPath LENGTHS steps cells → end_behind 0 before ≤ done → AreApart before
    → AreApart (filter (is_decided delay count done) (placed end cells) ++ before)
unfolding placed
apart_decided delay count done end steps [] before path first apart = apart
apart_decided delay count done end steps (cell ∷ rest) before path first apart =
    let n = length_in LENGTHS cell.place in
    apart_by delay count done end cell rest before
    (is_decided delay count done (record { end = end; cell = cell })) path.1 refl first
    (apart_decided delay count done (end - n) (drop n steps) rest before path.3 first apart)

-- what is decided so far
abbrev pub ApartWithin : ℕ → List Placed → Type 0
ApartWithin count all = AreApart all × (end_behind 0 all ≤ count)

newly_apart : (delay count ago : ℕ) (steps : List Step) (path : List Cell) (before all : List Placed)
    → IsPath LENGTHS steps path → ApartWithin count before
    → all ≡ newly delay count ago (end_behind 0 before) path ++ before → ApartWithin count all
newly_apart delay count ago steps path before all is_path so_far is =
    let done = end_behind 0 before in
    let last = last_decided delay count done (count - ago) path before (omega arith) in
    subst (ApartWithin count) (sym is) (
      apart_decided delay count done (count - ago) steps path before is_path (omega arith) so_far.0,
      omega (arith, last, so_far.1),
    )

adds_apart : (steps : List Step) (before all : List Placed) (due : Bool) → is_due (length steps) ≡ due
    → Adds steps before all → ApartWithin (length steps) before → ApartWithin (length steps) all
adds_apart steps before all true due adds so_far =
    let a = adds.due due in
    newly_apart DELAY (length steps) a.0 (drop a.0 steps) a.1 before all a.2.is_best.is_path so_far a.3
adds_apart steps before all false due adds so_far =
    subst (ApartWithin (length steps)) (sym (adds.idle due)) so_far

pub decided_apart : (steps : List Step) (all : List Placed) → AreDecided steps all → ApartWithin (length steps) all
decided_apart [] all are = subst (ApartWithin 0) (sym are) (tt, omega arith)
decided_apart (step ∷ steps) all are =
    let before = decided_apart steps are.0 are.1 in
    adds_apart (step ∷ steps) are.0 all (is_due (length (step ∷ steps))) refl are.2
    (before.0, omega (arith, before.1))

-- ---- the end of the sound

-- the path ends with the sound
at_end : (count done : ℕ) (path : List Cell)
    → newly 0 count 0 done path ≡ filter (is_decided 0 count done) (placed count path)
at_end count done path =
    let all : count - 0 ≡ count = omega arith in
    ap (λ e. filter (is_decided 0 count done) (placed e path)) all

reach_by : (count done : ℕ) (cell : Cell) (rest : List Cell) (before : List Placed) (b : Bool)
    → cell.place < 45 → ltb (done + length_in LENGTHS cell.place / 4) count ≡ b → end_behind 0 before ≡ done
    → count ≤ end_behind 0 (newly 0 count 0 done (cell ∷ rest) ++ before) + 24
reach_by count done cell rest before true place is last =
    let far = ltb-true (done + length_in LENGTHS cell.place / 4) count is in
    let front = at_end count done (cell ∷ rest) ∙ decided_front 0 count done count cell rest true
    (old_enough 0 count done (record { end = count; cell = cell }) (omega arith) far) in
    subst (λ l. count ≤ end_behind 0 (l ++ before) + 24) (sym front) (omega arith)
reach_by count done cell rest before false place is last =
    let n = length_in LENGTHS cell.place in
    let near : count ≤ done + n / 4 = not_below (done + n / 4) count is in
    let most = (length_bounds cell.place place).1 in
    let front = at_end count done (cell ∷ rest) ∙ decided_front 0 count done count cell rest false
    (too_near 0 count done (record { end = count; cell = cell }) near)
    ∙ none_behind 0 count done (count - n) rest (omega (arith, near)) in
    subst (λ l. count ≤ end_behind 0 (l ++ before) + 24) (sym front) (omega (arith, near, most, last))

reaches : (steps : List Step) (path : List Cell) (before : List Placed) → 0 < length steps → IsPath LENGTHS steps path
    → length steps ≤ end_behind 0 (newly 0 (length steps) 0 (end_behind 0 before) path ++ before) + 24
reaches steps [] before some path = absurd (omega (arith, some, path))
reaches steps (cell ∷ rest) before some path =
    reach_by (length steps) (end_behind 0 before) cell rest before
    (ltb (end_behind 0 before + length_in LENGTHS cell.place / 4) (length steps)) path.1 refl refl

pub cells_cover : (steps : List Step) (all : List Placed) → AreDecidedInAll steps all
    → AreApart all × (end_behind 0 all ≤ length steps) × (length steps ≤ end_behind 0 all + 24)
cells_cover [] all are =
    subst (λ l. AreApart l × (end_behind 0 l ≤ 0) × (0 ≤ end_behind 0 l + 24)) (sym are) (tt, omega arith, omega arith)
cells_cover (step ∷ steps) all are =
    let now = step ∷ steps in
    let so_far = decided_apart now are.0 are.1 in
    let path = are.2 in
    let best = are.3 in
    let is = are.4 in
    let apart = newly_apart 0 (length now) 0 now path are.0 all best.is_path so_far is in
    let end = reaches now path are.0 (omega arith) best.is_path in
    (apart.0, apart.1, subst (λ l. length now ≤ end_behind 0 l + 24) (sym is) end)
