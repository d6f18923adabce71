-- Within a cell of a tape no path ends that has the greatest score. So the best of the unfinished
-- paths is the tape, up to the latest end of a cell.
use Rattle.std.proofs.Common.{◌≡◌, ℕ, zero, suc, ◌+◌, ◌-◌, ◌*◌, ◌/◌, ◌%◌, ◌<◌, ◌≤◌, ◌⊎◌, inl, inr, List, [], ◌∷◌}
use Rattle.std.proofs.Common.{◌++◌, ℤ, pos, ◌-ℤ◌, ◌≤ℤ◌, length, drop, refl, ap, subst, sym, ◌∙◌, arith}
use Rattle.std.proofs.Math.Nat.{add-mul, mul-add, suc-mul}
use Rattle.std.proofs.lemmas.Int.{ints}
use Rattle.std.proofs.lemmas.List.{drop-drop, length-drop}
use Rattle.cell_path.specs.declared.cell.Bit.{Bit}
use Rattle.cell_path.specs.declared.cell.Bit.TheVariants.{Zero, One}
use Rattle.cell_path.specs.declared.cell.Cell.{Cell}
use Rattle.cell_path.specs.declared.cell.Sign.{Sign}
use Rattle.cell_path.specs.declared.cell.Step.{Step}
use Rattle.cell_path.specs.declared.lengths.TheConstants.{LENGTHS}
use Rattle.cell_path.specs.Best.{IsBestOfAll}
use Rattle.cell_path.specs.Lengths.{length_in}
use Rattle.cell_path.specs.Path.{opposite, score, sign_before, IsPath}
use Rattle.cell_path.specs.Unfinished.{lack, sum_of_sizes, IsBestUnfinished, LacksLess}
use Rattle.path_truth.specs.Sides.{AreOnSide, KeepsItsSides, KeepsSides}
use Rattle.path_truth.specs.Tape.{GoesOn, GoOn, HasAZero, IsSteady}
use Rattle.path_truth.proofs.BestIsTape.{best_is_tape}
use Rattle.path_truth.proofs.Exact.{exact}
use Rattle.path_truth.proofs.NoGreater.{score-most}
use Rattle.path_truth.proofs.OnSides.{heard-drop, keeps-long, AreHeard}
use Rattle.path_truth.proofs.Rising.{length_least, length_most}
use Rattle.path_truth.proofs.Runs.{before_ends, opposite-twice, runs, runs_of_cells, runs_with, same_runs, HaveRuns}
use Rattle.path_truth.proofs.SteadyPath.{steady_path}
use Rattle.path_truth.proofs.TapeScore.{tape_heard, tape_path, tape_score}

-- ---- a part of a cell

-- behind the tape r steps of a cell of n have come, which go on as the rest of it does
pub record IsPart (place n r : ℕ) (steps : List Step) (tape : List Cell) : Type 0 where
  pub cell : Cell
  pub whole : List Step
  pub goes : GoesOn place cell tape
  pub keeps : KeepsItsSides n whole (cell ∷ tape)
  pub front : steps ≡ drop (n - r) whole

-- with fewer of the latest steps
pub part-less : (place n r k : ℕ) (steps : List Step) (tape : List Cell) → k ≤ r → r ≤ n
    → IsPart place n r steps tape → IsPart place n (r - k) (drop k steps) tape
part-less place n r k steps tape less within part =
    let sum : (n - r) + k ≡ n - (r - k) = omega (arith, less, within) in
    record {
      cell = part.cell;
      whole = part.whole;
      goes = part.goes;
      keeps = part.keeps;
      front = ap (drop k) part.front ∙ drop-drop k (n - r) part.whole ∙ ap (λ j. drop j part.whole) sum;
    }

pub part-heard : (place n r : ℕ) (steps : List Step) (tape : List Cell) → IsPart place n r steps tape → AreHeard steps
part-heard place n r steps tape part =
    subst AreHeard (sym part.front)
    (heard-drop (n - r) part.whole (tape_heard n part.whole (part.cell ∷ tape) part.keeps))

-- ---- the runs of it

on-behind : (sign : Sign) (k n : ℕ) (steps : List Step) → AreOnSide sign n steps
    → AreOnSide sign (n - k) (drop k steps)
on-behind sign zero n steps on =
    let all : n ≡ n - 0 = omega arith in subst (λ j. AreOnSide sign j steps) all on
on-behind sign (suc k) zero steps on =
    let none : 0 ≡ 0 - suc k = omega arith in subst (λ j. AreOnSide sign j (drop (suc k) steps)) none tt
on-behind sign (suc k) (suc n) [] on = absurd on
on-behind sign (suc k) (suc n) (step ∷ steps) on =
    let less : n - k ≡ suc n - suc k = omega arith in
    subst (λ j. AreOnSide sign j (drop k steps)) less (on-behind sign k n steps on.1)

-- so many of them, behind so many
on-part : (sign : Sign) (k n r : ℕ) (steps : List Step) → n ≡ k + r → AreOnSide sign n steps
    → AreOnSide sign r (drop k steps)
on-part sign k n r steps sum on =
    let rest : n - k ≡ r = omega (arith, sum) in
    subst (λ j. AreOnSide sign j (drop k steps)) rest (on-behind sign k n steps on)

-- steps behind others, by their number in all
rest-of : (k j n : ℕ) (steps : List Step) → k + j ≡ n → drop j (drop k steps) ≡ drop n steps
rest-of k j n steps sum = drop-drop j k steps ∙ ap (λ i. drop i steps) sum

record SomeRuns (n : ℕ) (steps : List Step) (tape : List Cell) : Type 0 where
  sign : Sign
  front : List ℕ
  have : HaveRuns sign (front ++ runs n tape) steps

-- one run, and those before it
one-run : (sign : Sign) (r : ℕ) (more : List ℕ) (steps rest : List Step) → 0 < r → AreOnSide sign r steps
    → drop r steps ≡ rest → HaveRuns (opposite sign) more rest → HaveRuns sign (r ∷ more) steps
one-run sign r more steps rest some on same have =
    (some, on, subst (HaveRuns (opposite sign) more) (sym same) have)

runs-of-part : (bit : Bit) (sign : Sign) (n r : ℕ) (steps : List Step) (tape : List Cell) → 4 ≤ n → 0 < r → r < n
    → KeepsSides bit sign n steps → HaveRuns (sign_before bit sign) (runs n tape) (drop n steps)
    → SomeRuns n (drop (n - r) steps) tape
runs-of-part Zero sign n r steps tape long some less keeps have = record {
  sign = sign;
  front = r ∷ [];
  have = one-run sign r (runs n tape) (drop (n - r) steps) (drop n steps) some
      (on-part sign (n - r) n r steps (omega (arith, less)) keeps) (rest-of (n - r) r n steps (omega (arith, less)))
      have;
}
runs-of-part One sign n r steps tape long some less keeps have =
    let h = n / 2 in
    let even = keeps.0 in
    let whole : n ≡ h + h = omega arith in
    let other = opposite sign in
    let back : HaveRuns (opposite other) (runs n tape) (drop n steps) =
    subst (λ s. HaveRuns s (runs n tape) (drop n steps)) (sym (opposite-twice sign)) have in
    let cases : (r ≤ h) ⊎ (h < r) = grind arith in
    elim cases [
      | inl early ↦
          let same : drop (h - r) (drop h steps) ≡ drop (n - r) steps =
          rest-of h (h - r) (n - r) steps (omega (arith, early, whole)) in
          let on : AreOnSide other r (drop (n - r) steps) =
          subst (AreOnSide other r) same (on-part other (h - r) h r (drop h steps) (omega (arith, early)) keeps.2) in
          record {
            sign = other;
            front = r ∷ [];
            have = one-run other r (runs n tape) (drop (n - r) steps) (drop n steps) some on
                (rest-of (n - r) r n steps (omega (arith, less))) back;
          }
      | inr late ↦
          let on : AreOnSide sign (r - h) (drop (n - r) steps) =
          on-part sign (n - r) h (r - h) steps (omega (arith, late, less, whole)) keeps.1 in
          let first : HaveRuns other (h ∷ runs n tape) (drop h steps) =
          one-run other h (runs n tape) (drop h steps) (drop n steps) (omega (arith, long, whole)) keeps.2
          (rest-of h h n steps (sym whole)) back in
          record {
            sign = sign;
            front = (r - h) ∷ h ∷ [];
            have = one-run sign (r - h) (h ∷ runs n tape) (drop (n - r) steps) (drop h steps)
                (omega (arith, late)) on (rest-of (n - r) (r - h) h steps (omega (arith, late, less, whole))) first;
          }
    ]

part-runs : (place n r : ℕ) (steps : List Step) (tape : List Cell) → 4 ≤ n → 0 < r → r < n → GoOn place tape
    → IsPart place n r steps tape → SomeRuns n steps tape
part-runs place n r steps tape long some less go part =
    let cell = part.cell in
    let before = runs_of_cells place n (sign_before cell.bit cell.sign) tape (drop n part.whole) long go
    (before_ends place cell tape part.goes) part.keeps.1 in
    subst (λ l. SomeRuns n l tape) (sym part.front)
    (runs-of-part cell.bit cell.sign n r part.whole tape long some less part.keeps.0 before)

-- ---- the length of the cells of a path

-- each run is a whole cell, or half of one whose length is even
abbrev OfEven : ℕ → List ℕ → Type 0
OfEven m [] = Unit {0}
OfEven m (run ∷ rest) = ((run ≡ m) ⊎ ((m % 2 ≡ 0) × (run ≡ m / 2))) × OfEven m rest

even-bit : (bit : Bit) (sign : Sign) (m : ℕ) (steps : List Step) (rest : List ℕ) → KeepsSides bit sign m steps
    → OfEven m rest → OfEven m (runs_with bit m rest)
even-bit Zero sign m steps rest keeps more = (inl refl, more)
even-bit One sign m steps rest keeps more = (inr (keeps.0, refl), (inr (keeps.0, refl), more))

even-runs : (m : ℕ) (steps : List Step) (cells : List Cell) → KeepsItsSides m steps cells → OfEven m (runs m cells)
even-runs m steps [] keeps = tt
even-runs m steps (cell ∷ before) keeps =
    even-bit cell.bit cell.sign m steps (runs m before) keeps.0 (even-runs m (drop m steps) before keeps.1)

behind-front : (m : ℕ) (front rest : List ℕ) → OfEven m (front ++ rest) → OfEven m rest
behind-front m [] rest are = are
behind-front m (run ∷ front) rest are = behind-front m front rest are.1

-- where a zero of n steps is, that is a whole cell, or half of one whose length is even
zero-of : (bit : Bit) (n m : ℕ) (rest : List ℕ) → bit ≡ Zero → OfEven m (runs_with bit n rest)
    → (n ≡ m) ⊎ ((m % 2 ≡ 0) × (n ≡ m / 2))
zero-of bit n m rest is are =
    let like : OfEven m (runs_with Zero n rest) = subst (λ b. OfEven m (runs_with b n rest)) is are in like.0

behind-bit : (bit : Bit) (n m : ℕ) (rest : List ℕ) → OfEven m (runs_with bit n rest) → OfEven m rest
behind-bit Zero n m rest are = are.1
behind-bit One n m rest are = are.1.1

zero-in : (n m : ℕ) (tape : List Cell) → HasAZero tape → OfEven m (runs n tape)
    → (n ≡ m) ⊎ ((m % 2 ≡ 0) × (n ≡ m / 2))
zero-in n m [] has are = absurd has
zero-in n m (cell ∷ before) (inl is) are = zero-of cell.bit n m (runs n before) is are
zero-in n m (cell ∷ before) (inr more) are =
    zero-in n m before more (behind-bit cell.bit n m (runs n before) are)

-- ---- its end

pub cells-many : (n : ℕ) (steps : List Step) (tape : List Cell) → KeepsItsSides n steps tape
    → length steps ≡ length tape * n
cells-many n steps [] keeps = omega (arith, keeps)
cells-many n steps (cell ∷ before) keeps =
    let long = keeps-long cell.bit cell.sign n steps keeps.0 in
    let more = cells-many n (drop n steps) before keeps.1 in
    omega (arith, more, length-drop n steps, long, suc-mul (length before) n)

within : (k t n r : ℕ) → k * n ≡ t * n + r → 0 < r → r < n → ⊥
within zero t n r is some less = omega (arith, is)
within (suc k) zero n r is some less = omega (arith, is, suc-mul k n)
within (suc k) (suc t) n r is some less =
    within k t n r (omega (arith, is, suc-mul k n, suc-mul t n)) some less

no-end : (k t n m r : ℕ) → k * m ≡ t * n + r → 0 < r → r < n → (n ≡ m) ⊎ ((m % 2 ≡ 0) × (n ≡ m / 2)) → ⊥
no-end k t n m r is some less (inl same) =
    within k t n r (subst (λ j. k * j ≡ t * n + r) (sym same) is) some less
no-end k t n m r is some less (inr half) =
    let twice : m ≡ n + n = omega (arith, half.0, half.1) in
    let all : k * (n + n) ≡ t * n + r = subst (λ j. k * j ≡ t * n + r) twice is in
    let both : (k + k) * n ≡ k * n + k * n = add-mul k k n in
    let same : k * (n + n) ≡ k * n + k * n = mul-add k n n in
    within (k + k) t n r (omega (arith, all, both, same)) some less

pub not-within : (place n r : ℕ) (steps : List Step) (tape path : List Cell) → 4 ≤ n → 0 < r → r < n
    → GoOn place tape → HasAZero tape → IsPart place n r steps tape → length steps ≡ length tape * n + r
    → IsPath LENGTHS steps path → score LENGTHS steps path ≡ pos (sum_of_sizes steps) → ⊥
not-within place n r steps tape [] long some less go has part many is worth = omega (arith, is, many, some)
not-within place n r steps tape (cell ∷ before) long some less go has part many is worth =
    let m = length_in LENGTHS cell.place in
    let steady = steady_path steps cell before (part-heard place n r steps tape part) is
    (exact LENGTHS steps (cell ∷ before) worth) in
    let mine = runs_of_cells cell.place m cell.sign (cell ∷ before) steps (length_least cell.place is.1) steady.cells
    refl steady.sides in
    let its = part-runs place n r steps tape long some less go part in
    let same = same_runs cell.sign its.sign (runs m (cell ∷ before)) (its.front ++ runs n tape) steps mine its.have in
    let are = behind-front m its.front (runs n tape)
    (subst (OfEven m) same (even-runs m steps (cell ∷ before) steady.sides)) in
    no-end (length (cell ∷ before)) (length tape) n m r
    (sym (cells-many m steps (cell ∷ before) steady.sides) ∙ many) some less (zero-in n m tape has are)

-- ---- the best of the unfinished

-- what lacks no more than the tape lacks nothing, and ends no earlier
no-less : (size : ℕ) (worth lacks : ℤ) (ago r : ℕ) → worth ≤ℤ pos size → lacks ≡ pos 0
    → LacksLess (pos size -ℤ worth) ago lacks r → (worth ≡ pos size) × (ago ≤ r)
no-less size worth lacks ago r most none (inl less) = absurd (omega (arith, ints))
no-less size worth lacks ago r most none (inr same) = (omega (arith, ints, same.0), same.1)

nothing-lacks : (size : ℕ) (worth : ℤ) → worth ≡ pos size → pos size -ℤ worth ≡ pos 0
nothing-lacks size worth is = omega (arith, ints)

some-cells : (k n : ℕ) → 0 < k → 4 ≤ n → 0 < k * n
some-cells zero n some long = omega (arith, some)
some-cells (suc k) n some long = omega (arith, suc-mul k n, long)

end-or-within : (ago r : ℕ) → ago ≤ r → (ago ≡ r) ⊎ (ago < r)
end-or-within ago r most = grind (arith, most)

pub unfinished-is-tape : (place r : ℕ) (steps : List Step) (tape : List Cell) (ago : ℕ) (path : List Cell)
    → IsSteady place tape → r < length_in LENGTHS place
    → KeepsItsSides (length_in LENGTHS place) (drop r steps) tape
    → (0 < r → IsPart place (length_in LENGTHS place) r steps tape)
    → length steps ≡ length tape * length_in LENGTHS place + r → 0 < length tape
    → IsBestUnfinished LENGTHS steps ago path → (ago ≡ r) × (path ≡ tape)
unfinished-is-tape place r steps tape ago path steady less keeps part many some best =
    let n = length_in LENGTHS place in
    let long = length_least place steady.in_list in
    let most = length_most place steady.in_list in
    let behind : r < length steps = omega (arith, many, some-cells (length tape) n some long) in
    let tape_is = tape_path place tape (drop r steps) steady.in_list steady.cells keeps in
    let worth = tape_score place tape (drop r steps) steady.cells keeps in
    let wins = best.wins r tape (record {
      latest = omega (arith, less, most);
      within = behind;
      is_path = tape_is;
    }) in
    let S = drop ago steps in
    let good = no-less (sum_of_sizes S) (score LENGTHS S path) (lack LENGTHS (drop r steps) tape) ago r
    (score-most LENGTHS S path)
    (nothing-lacks (sum_of_sizes (drop r steps)) (score LENGTHS (drop r steps) tape) worth) wins in
    elim (end-or-within ago r good.1) [
      | inl here ↦ (
        here,
        best_is_tape place tape path (drop r steps) steady keeps
            (subst (λ k. IsBestOfAll LENGTHS (drop k steps) path) here best.is_best),
      )
      | inr later ↦
          let e = length-drop ago steps in
          absurd (not-within place n (r - ago) S tape path long (omega (arith, later)) (omega (arith, less))
          steady.cells steady.zero
          (part-less place n r ago steps tape (omega (arith, later)) (omega (arith, less))
          (part (omega (arith, later))))
          (omega (arith, e, many, later)) best.is_best.is_path good.0)
    ]
