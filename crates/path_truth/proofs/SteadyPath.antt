-- A path that pays nothing has cells of one length, and where no step is zero each of them is on
-- the sides of its steps.
use Rattle.std.proofs.Common.{◌≡◌, ℕ, zero, suc, ◌+◌, ◌-◌, ◌*◌, ◌==◌, ◌<◌, ◌≤◌, Bool, true, false, cond, List, [], ◌∷◌}
use Rattle.std.proofs.Common.{pos, length, drop, refl, subst, arith}
use Rattle.std.proofs.lemmas.Bool.Decides.{nat_tests}
use Rattle.std.proofs.lemmas.Int.{ints}
use Rattle.std.proofs.lemmas.List.{length-drop}
use Rattle.cell_path.specs.declared.cell.Cell.{Cell}
use Rattle.cell_path.specs.declared.cell.Sign.{Sign}
use Rattle.cell_path.specs.declared.cell.Step.{Step}
use Rattle.cell_path.specs.declared.cell.Way.{Way}
use Rattle.cell_path.specs.declared.cell.Way.TheVariants.{Same, Shorter, Longer, Jump}
use Rattle.cell_path.specs.declared.lengths.TheConstants.{EARLY, JUMP, LENGTHS}
use Rattle.cell_path.specs.Lengths.{length_in}
use Rattle.cell_path.specs.Path.{level_at, sign_before, times_for, Follows, IsPath}
use Rattle.path_truth.specs.Sides.{KeepsItsSides}
use Rattle.path_truth.specs.Tape.{GoOn}
use Rattle.path_truth.proofs.Exact.{AreExact}
use Rattle.path_truth.proofs.OnSides.{heard-drop, sides-of, AreHeard}
use Rattle.path_truth.proofs.Rising.{length_least, lengths_apart}

-- only the first cell that begins with the sound pays nothing
first-begins : (b : Bool) → cond b (pos 0) EARLY ≡ pos 0 → b ≡ true
first-begins true is = refl
first-begins false is = absurd (omega (arith, ints))

begins_with : (a b : ℕ) → (a == b) ≡ true → a ≡ b
begins_with a b is = grind (arith, nat_tests)

level-above : (steps : List Step) → AreHeard steps → 0 < length steps → 1 ≤ level_at steps
level-above [] heard some = absurd (omega arith)
level-above (step ∷ steps) heard some = heard.0.level

not_free : (k level : ℕ) → 0 < k → 1 ≤ level → pos (k * level) ≡ pos 0 → ⊥
not_free zero level some heard is = omega arith
not_free (suc k) level some heard is =
    let none : suc k * level ≡ 0 = omega (arith, ints) in
    let more : suc k * level ≡ k * level + level = omega arith in
    omega (arith, none, more)

-- a cell behind another that pays nothing is as long
same_way : (way : Way) (place : ℕ) (sign : Sign) (level : ℕ) (cell : Cell) (before : List Cell) → place < 45
    → cell.place < 45 → 1 ≤ level → Follows way place sign (cell ∷ before)
    → pos (times_for LENGTHS way place cell.place * level) ≡ pos 0 → way ≡ Same
same_way Same place sign level cell before within near heard follows free = refl
same_way Shorter place sign level cell before within near heard follows free =
    let rises = lengths_apart cell.place place (omega (arith, follows.0)) within in
    absurd (not_free (length_in LENGTHS place - length_in LENGTHS cell.place) level (omega (arith, rises)) heard free)
same_way Longer place sign level cell before within near heard follows free =
    let rises = lengths_apart place cell.place (omega (arith, follows.0)) near in
    absurd (not_free (length_in LENGTHS cell.place - length_in LENGTHS place) level (omega (arith, rises)) heard free)
same_way Jump place sign level cell before within near heard follows free =
    let long = length_least place within in
    absurd (not_free (JUMP * length_in LENGTHS place) level (omega (arith, long)) heard free)

same_place : (way : Way) (place : ℕ) (sign : Sign) (cell : Cell) (before : List Cell) → way ≡ Same
    → Follows way place sign (cell ∷ before) → cell.place ≡ place
same_place way place sign cell before is follows =
    let same = subst (λ w. Follows w place sign (cell ∷ before)) is follows in same.0

pub record IsSteadyPath (steps : List Step) (cell : Cell) (before : List Cell) : Type 0 where
  pub cells : GoOn cell.place (cell ∷ before)
  pub sides : KeepsItsSides (length_in LENGTHS cell.place) steps (cell ∷ before)

pub steady_path : (steps : List Step) (cell : Cell) (before : List Cell) → AreHeard steps
    → IsPath LENGTHS steps (cell ∷ before) → AreExact LENGTHS steps (cell ∷ before)
    → IsSteadyPath steps cell before
steady_path steps cell [] heard path exact =
    let n = length_in LENGTHS cell.place in
    let long : length steps ≡ n =
    begins_with (length steps) n (first-begins (length steps == n) exact.0.free) in
    record {
      cells = (record { place_is = refl; way = path.2; follows = path.2 }, tt);
      sides = (
        sides-of cell.bit cell.sign n steps heard (omega arith) exact.0.worth,
        omega (arith, length-drop n steps),
      );
    }
steady_path steps cell (last ∷ before) heard path exact =
    let n = length_in LENGTHS cell.place in
    let rest = drop n steps in
    let heard_rest = heard-drop n steps heard in
    let some : 0 < length rest = path.3.0 in
    let more = steady_path rest last before heard_rest path.3 exact.1 in
    let way = same_way cell.way cell.place (sign_before cell.bit cell.sign) (level_at rest) last before path.1 path.3.1
    (level-above rest heard_rest some) path.2 exact.0.free in
    let same = same_place cell.way cell.place (sign_before cell.bit cell.sign) last before way path.2 in
    record {
      cells = (
        record { place_is = refl; way = way; follows = path.2 },
        subst (λ place. GoOn place (last ∷ before)) same more.cells,
      );
      sides = (
        sides-of cell.bit cell.sign n steps heard (omega (arith, length-drop n steps)) exact.0.worth,
        subst (λ place. KeepsItsSides (length_in LENGTHS place) rest (last ∷ before)) same more.sides,
      );
    }
