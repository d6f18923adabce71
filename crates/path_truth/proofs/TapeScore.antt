-- The cells of a steady tape are a path through a sound that keeps its sides, and their score is
-- the sum of the sizes.
use Rattle.std.proofs.Common.{◌≡◌, ℕ, ◌+◌, ◌*◌, ◌==◌, ◌<◌, ◌≤◌, Bool, true, false, cond}
use Rattle.std.proofs.Common.{ℤ, pos, ◌+ℤ◌, ◌-ℤ◌, List, [], ◌∷◌, length, take, drop, refl, ap, subst, sym, ◌∙◌, arith}
use Rattle.std.proofs.lemmas.Bool.Decides.{nat_tests}
use Rattle.std.proofs.lemmas.Int.{ints}
use Rattle.std.proofs.lemmas.List.{length-drop}
use Rattle.cell_path.specs.declared.cell.Cell.{Cell}
use Rattle.cell_path.specs.declared.cell.Step.{Step}
use Rattle.cell_path.specs.declared.cell.Way.{Way}
use Rattle.cell_path.specs.declared.cell.Way.TheVariants.{Same}
use Rattle.cell_path.specs.declared.lengths.TheConstants.{EARLY, LENGTHS}
use Rattle.cell_path.specs.Lengths.{length_in}
use Rattle.cell_path.specs.Path.{cost, level_at, score, signed, sound_in, times_for, IsPath}
use Rattle.cell_path.specs.Unfinished.{sum_of_sizes}
use Rattle.path_truth.specs.Sides.{KeepsItsSides}
use Rattle.path_truth.specs.Tape.{GoOn, GoesOn}
use Rattle.path_truth.proofs.NoGreater.{sizes-nil, sizes-parts}
use Rattle.path_truth.proofs.OnSides.{keeps-heard, keeps-long, sides-worth, AreHeard}
use Rattle.path_truth.proofs.Rising.{length_least}

-- steps that are as many as none are none
pub no-steps : (steps : List Step) → length steps ≡ 0 → steps ≡ []
no-steps [] none = refl
no-steps (step ∷ steps) none = absurd (omega arith)

pub tape_heard : (n : ℕ) (steps : List Step) (cells : List Cell) → KeepsItsSides n steps cells → AreHeard steps
tape_heard n steps [] keeps = subst AreHeard (sym (no-steps steps keeps)) tt
tape_heard n steps (cell ∷ before) keeps =
    keeps-heard cell.bit cell.sign n steps keeps.0 (tape_heard n (drop n steps) before keeps.1)

-- a cell that goes on pays nothing
begins_for_nothing : (b : Bool) → b ≡ true → cond b (pos 0) EARLY ≡ pos 0
begins_for_nothing true is = refl
begins_for_nothing false is = cc

same_length : (a b : ℕ) → a ≡ b → (a == b) ≡ true
same_length a b is = grind (arith, nat_tests)

none_for_same : (way : Way) (place before level : ℕ) → way ≡ Same
    → pos (times_for LENGTHS way place before * level) ≡ pos 0
none_for_same way place before level is =
    let none : (k : ℕ) → pos (0 * k) ≡ pos 0 = λ k. omega (arith, ints) in
    subst (λ w. pos (times_for LENGTHS w place before * level) ≡ pos 0) (sym is) (none level)

free : (place n : ℕ) (steps : List Step) (cell : Cell) (before : List Cell) → n ≤ length steps
    → GoesOn place cell before → KeepsItsSides n (drop n steps) before
    → cost LENGTHS steps n cell.place cell.way before ≡ pos 0
free place n steps cell [] long goes keeps =
    let all : length steps ≡ n = omega (arith, length-drop n steps, keeps) in
    begins_for_nothing (length steps == n) (same_length (length steps) n all)
free place n steps cell (last ∷ before) long goes keeps =
    none_for_same cell.way cell.place last.place (level_at (drop n steps)) goes.way

nothing_paid : (a c s : ℤ) (k m n : ℕ) → a ≡ pos m → c ≡ pos 0 → s ≡ pos n → k ≡ m + n → a +ℤ (s -ℤ c) ≡ pos k
nothing_paid a c s k m n worth paid rest sum = omega (arith, ints)

pub tape_score : (place : ℕ) (cells : List Cell) (steps : List Step) → GoOn place cells
    → KeepsItsSides (length_in LENGTHS place) steps cells → score LENGTHS steps cells ≡ pos (sum_of_sizes steps)
tape_score place [] steps go keeps =
    ap pos (sym sizes-nil) ∙ ap (λ l. pos (sum_of_sizes l)) (sym (no-steps steps keeps))
tape_score place (cell ∷ before) steps go keeps =
    let n = length_in LENGTHS cell.place in
    let like : KeepsItsSides n steps (cell ∷ before) =
    subst (λ p. KeepsItsSides (length_in LENGTHS p) steps (cell ∷ before)) (sym go.0.place_is) keeps in
    let long = keeps-long cell.bit cell.sign n steps like.0 in
    nothing_paid (signed cell.sign (sound_in cell.bit n steps)) (cost LENGTHS steps n cell.place cell.way before)
    (score LENGTHS (drop n steps) before) (sum_of_sizes steps) (sum_of_sizes (take n steps))
    (sum_of_sizes (drop n steps)) (sides-worth cell.bit cell.sign n steps like.0)
    (free place n steps cell before long go.0 like.1)
    (tape_score place before (drop n steps) go.1
    (subst (λ p. KeepsItsSides (length_in LENGTHS p) (drop n steps) before) go.0.place_is like.1))
    (sizes-parts n steps)

pub tape_path : (place : ℕ) (cells : List Cell) (steps : List Step) → place < length LENGTHS → GoOn place cells
    → KeepsItsSides (length_in LENGTHS place) steps cells → IsPath LENGTHS steps cells
tape_path place [] steps within go keeps = keeps
tape_path place (cell ∷ before) steps within go keeps =
    let n = length_in LENGTHS cell.place in
    let like : KeepsItsSides n steps (cell ∷ before) =
    subst (λ p. KeepsItsSides (length_in LENGTHS p) steps (cell ∷ before)) (sym go.0.place_is) keeps in
    let here : cell.place < 45 = omega (arith, go.0.place_is) in
    let some : 0 < length steps =
    omega (arith, keeps-long cell.bit cell.sign n steps like.0, length_least cell.place here) in
    let rest = tape_path place before (drop n steps) within go.1
    (subst (λ p. KeepsItsSides (length_in LENGTHS p) (drop n steps) before) go.0.place_is like.1) in
    (some, here, go.0.follows, rest)
