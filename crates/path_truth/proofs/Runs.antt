-- The sound changes its side where a cell begins, and in the middle of a one. So cells that keep
-- the sides of the same steps have the same runs of steps on one side.
use Rattle.std.proofs.Common.{◌≡◌, ℕ, zero, suc, ◌+◌, ◌/◌, ◌<◌, ◌≤◌, ◌⊎◌, inl, inr, List, [], ◌∷◌}
use Rattle.std.proofs.Common.{ℤ, pos, ◌<ℤ◌, length, drop, refl, ap₂, subst, sym, arith}
use Rattle.std.proofs.lemmas.Int.{ints}
use Rattle.std.proofs.lemmas.List.{drop-drop, length-drop}
use Rattle.cell_path.specs.declared.cell.Bit.{Bit}
use Rattle.cell_path.specs.declared.cell.Bit.TheVariants.{Zero, One}
use Rattle.cell_path.specs.declared.cell.Cell.{Cell}
use Rattle.cell_path.specs.declared.cell.Sign.{Sign}
use Rattle.cell_path.specs.declared.cell.Sign.TheVariants.{Plus, Minus}
use Rattle.cell_path.specs.declared.cell.Step.{Step}
use Rattle.cell_path.specs.Path.{opposite, sign_before, signed, Follows}
use Rattle.path_truth.specs.Sides.{AreOnSide, KeepsItsSides, KeepsSides}
use Rattle.path_truth.specs.Tape.{GoOn, GoesOn}
use Rattle.path_truth.proofs.OnSides.{on-long}

-- the runs of a bit, in front of others
abbrev pub runs_with : Bit → ℕ → List ℕ → List ℕ
runs_with Zero n rest = n ∷ rest
runs_with One n rest = n / 2 ∷ n / 2 ∷ rest

abbrev pub runs : ℕ → List Cell → List ℕ
runs n [] = []
runs n (cell ∷ before) = runs_with cell.bit n (runs n before)

-- the steps are so many on this side, then so many on the other, and so on
abbrev pub HaveRuns : Sign → List ℕ → List Step → Type 0
HaveRuns sign [] steps = length steps ≡ 0
HaveRuns sign (run ∷ rest) steps =
    (0 < run) × AreOnSide sign run steps × HaveRuns (opposite sign) rest (drop run steps)

-- ---- one list of runs

one_side : (x : ℤ) (sign : Sign) → pos 0 <ℤ signed sign x → pos 0 <ℤ signed (opposite sign) x → ⊥
one_side x Plus one two = omega (arith, ints)
one_side x Minus one two = omega (arith, ints)

same_side : (x : ℤ) (sign other : Sign) → pos 0 <ℤ signed sign x → pos 0 <ℤ signed other x → sign ≡ other
same_side x Plus Plus one two = refl
same_side x Plus Minus one two = absurd (one_side x Plus one two)
same_side x Minus Plus one two = absurd (one_side x Minus one two)
same_side x Minus Minus one two = refl

-- a run on one side does not reach into a run on the other
not_into : (sign : Sign) (a b k : ℕ) (steps : List Step) → AreOnSide sign b steps → a < b → 0 < k
    → AreOnSide (opposite sign) k (drop a steps) → ⊥
not_into sign a zero k steps on less some next = omega arith
not_into sign zero (suc b) zero steps on less some next = omega arith
not_into sign zero (suc b) (suc k) [] on less some next = on
not_into sign zero (suc b) (suc k) (step ∷ steps) on less some next =
    one_side step.sound sign on.0.side next.0.side
not_into sign (suc a) (suc b) k [] on less some next = on
not_into sign (suc a) (suc b) k (step ∷ steps) on less some next =
    not_into sign a b k steps on.1 (omega arith) some next

no_longer : (sign : Sign) (a b : ℕ) (rest : List ℕ) (steps : List Step)
    → HaveRuns (opposite sign) rest (drop a steps) → AreOnSide sign b steps → a < b → ⊥
no_longer sign a b [] steps have on less = omega (arith, have, length-drop a steps, on-long sign b steps on)
no_longer sign a b (run ∷ rest) steps have on less = not_into sign a b run steps on less have.0 have.1

order : (a b : ℕ) → (a < b) ⊎ ((b < a) ⊎ (a ≡ b))
order a b = grind arith

same_run : (sign : Sign) (a b : ℕ) (rest others : List ℕ) (steps : List Step)
    → AreOnSide sign a steps → HaveRuns (opposite sign) rest (drop a steps)
    → AreOnSide sign b steps → HaveRuns (opposite sign) others (drop b steps) → a ≡ b
same_run sign a b rest others steps on_a have_a on_b have_b = elim (order a b) [
  | inl less ↦ absurd (no_longer sign a b rest steps have_a on_b less)
  | inr other ↦ elim other [
    | inl more ↦ absurd (no_longer sign b a others steps have_b on_a more)
    | inr same ↦ same
  ]
]

first_side : (sign other : Sign) (a b : ℕ) (steps : List Step) → 0 < a → AreOnSide sign a steps → 0 < b
    → AreOnSide other b steps → sign ≡ other
first_side sign other zero b steps some_a on_a some_b on_b = absurd (omega arith)
first_side sign other (suc a) zero steps some_a on_a some_b on_b = absurd (omega arith)
first_side sign other (suc a) (suc b) [] some_a on_a some_b on_b = absurd on_a
first_side sign other (suc a) (suc b) (step ∷ steps) some_a on_a some_b on_b =
    same_side step.sound sign other on_a.0.side on_b.0.side

pub same_runs : (sign other : Sign) (some more : List ℕ) (steps : List Step) → HaveRuns sign some steps
    → HaveRuns other more steps → some ≡ more
same_runs sign other [] [] steps one two = refl
same_runs sign other [] (b ∷ more) steps one two =
    absurd (omega (arith, one, two.0, on-long other b steps two.1))
same_runs sign other (a ∷ some) [] steps one two =
    absurd (omega (arith, two, one.0, on-long sign a steps one.1))
same_runs sign other (a ∷ some) (b ∷ more) steps one two =
    let side : other ≡ sign = sym (first_side sign other a b steps one.0 one.1 two.0 two.1) in
    let like : HaveRuns sign (b ∷ more) steps = subst (λ s. HaveRuns s (b ∷ more) steps) side two in
    let same : a ≡ b = same_run sign a b some more steps one.1 one.2 like.1 like.2 in
    let rest : HaveRuns (opposite sign) more (drop a steps) =
    subst (λ k. HaveRuns (opposite sign) more (drop k steps)) (sym same) like.2 in
    ap₂ ◌∷◌ same (same_runs (opposite sign) (opposite sign) some more (drop a steps) one.2 rest)

pub same_first : (sign other : Sign) (a b : ℕ) (some more : List ℕ) (steps : List Step)
    → HaveRuns sign (a ∷ some) steps → HaveRuns other (b ∷ more) steps → sign ≡ other
same_first sign other a b some more steps one two = first_side sign other a b steps one.0 one.1 two.0 two.1

-- ---- the runs of cells

-- the latest cell, if there is one, has this sign
abbrev pub EndsWith : Sign → List Cell → Type 0
EndsWith sign [] = Unit {0}
EndsWith sign (cell ∷ before) = cell.sign ≡ sign

pub before_ends : (place : ℕ) (cell : Cell) (before : List Cell) → GoesOn place cell before
    → EndsWith (sign_before cell.bit cell.sign) before
before_ends place cell [] goes = tt
before_ends place cell (last ∷ more) goes =
    let same = subst (λ w. Follows w cell.place (sign_before cell.bit cell.sign) (last ∷ more)) goes.way goes.follows in
    same.1

pub opposite-twice : (sign : Sign) → opposite (opposite sign) ≡ sign
opposite-twice Plus = refl
opposite-twice Minus = refl

runs_of_bit : (bit : Bit) (sign : Sign) (n : ℕ) (rest : List ℕ) (steps : List Step) → 4 ≤ n
    → KeepsSides bit sign n steps → HaveRuns (sign_before bit sign) rest (drop n steps)
    → HaveRuns sign (runs_with bit n rest) steps
runs_of_bit Zero sign n rest steps long keeps more = (omega arith, keeps, more)
runs_of_bit One sign n rest steps long keeps more =
    let h = n / 2 in
    let even = keeps.0 in
    let whole : n ≡ h + h = omega arith in
    let behind : HaveRuns sign rest (drop h (drop h steps)) = rw (drop-drop h h steps, ← whole) more in
    let second : HaveRuns (opposite sign) (h ∷ rest) (drop h steps) =
    (omega arith, keeps.2, subst (λ s. HaveRuns s rest (drop h (drop h steps))) (sym (opposite-twice sign)) behind) in
    (omega arith, keeps.1, second)

pub runs_of_cells : (place n : ℕ) (sign : Sign) (cells : List Cell) (steps : List Step) → 4 ≤ n → GoOn place cells
    → EndsWith sign cells → KeepsItsSides n steps cells → HaveRuns sign (runs n cells) steps
runs_of_cells place n sign [] steps long go ends keeps = keeps
runs_of_cells place n sign (cell ∷ before) steps long go ends keeps =
    let more = runs_of_cells place n (sign_before cell.bit cell.sign) before (drop n steps) long go.1
    (before_ends place cell before go.0) keeps.1 in
    subst (λ s. HaveRuns s (runs n (cell ∷ before)) steps) ends
    (runs_of_bit cell.bit cell.sign n (runs n before) steps long keeps.0 more)
