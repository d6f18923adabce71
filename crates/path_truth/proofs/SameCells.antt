-- Cells of one length that have the runs of a tape with a zero are the tape's; or they have more
-- than its length.
use Rattle.std.proofs.Common.{◌≡◌, ℕ, ◌/◌, ◌≤◌, ◌⊎◌, inl, inr, List, [], ◌∷◌}
use Rattle.std.proofs.Common.{refl, ap, ap₂, subst, sym, ◌∙◌, arith}
use Rattle.cell_path.specs.declared.cell.Bit.{Bit}
use Rattle.cell_path.specs.declared.cell.Bit.TheVariants.{Zero, One}
use Rattle.cell_path.specs.declared.cell.Cell.{Cell}
use Rattle.cell_path.specs.declared.cell.Sign.{Sign}
use Rattle.cell_path.specs.declared.cell.Way.{Way}
use Rattle.cell_path.specs.Path.{sign_before}
use Rattle.path_truth.specs.Tape.{steady_way, GoOn, HasAZero}
use Rattle.path_truth.proofs.Runs.{before_ends, runs, runs_with, EndsWith}

-- each run is a whole cell or a half
abbrev pub AreOf : ℕ → List ℕ → Type 0
AreOf n [] = Unit {0}
AreOf n (run ∷ rest) = ((run ≡ n) ⊎ (run ≡ n / 2)) × AreOf n rest

of_bit : (bit : Bit) (n : ℕ) (rest : List ℕ) → AreOf n rest → AreOf n (runs_with bit n rest)
of_bit Zero n rest are = (inl refl, are)
of_bit One n rest are = (inr refl, (inr refl, are))

of_cells : (n : ℕ) (cells : List Cell) → AreOf n (runs n cells)
of_cells n [] = tt
of_cells n (cell ∷ before) = of_bit cell.bit n (runs n before) (of_cells n before)

-- where a zero of n steps is, that is a whole cell or a half
zero_of : (bit : Bit) (n m : ℕ) (rest : List ℕ) → bit ≡ Zero → AreOf m (runs_with bit n rest)
    → (n ≡ m) ⊎ (n ≡ m / 2)
zero_of bit n m rest is are =
    let like : AreOf m (runs_with Zero n rest) = subst (λ b. AreOf m (runs_with b n rest)) is are in like.0

behind_bit : (bit : Bit) (n m : ℕ) (rest : List ℕ) → AreOf m (runs_with bit n rest) → AreOf m rest
behind_bit Zero n m rest are = are.1
behind_bit One n m rest are = are.1.1

whole_or_half : (n m : ℕ) (tape : List Cell) → HasAZero tape → AreOf m (runs n tape)
    → (n ≡ m) ⊎ (n ≡ m / 2)
whole_or_half n m [] has are = absurd has
whole_or_half n m (cell ∷ before) (inl is) are = zero_of cell.bit n m (runs n before) is are
whole_or_half n m (cell ∷ before) (inr more) are =
    whole_or_half n m before more (behind_bit cell.bit n m (runs n before) are)

pub as_long_or_half : (n m : ℕ) (tape path : List Cell) → HasAZero tape → runs n tape ≡ runs m path
    → (n ≡ m) ⊎ (n ≡ m / 2)
as_long_or_half n m tape path has same =
    whole_or_half n m tape has (subst (AreOf m) (sym same) (of_cells m path))

-- ---- of one length

same_bit : (n : ℕ) (a b : Bit) (some more : List ℕ) → 4 ≤ n → runs_with a n some ≡ runs_with b n more
    → (a ≡ b) × (some ≡ more)
same_bit n Zero Zero some more long is = (refl, cc)
same_bit n Zero One some more long is = let e : n ≡ n / 2 = cc in absurd (omega arith)
same_bit n One Zero some more long is = let e : n / 2 ≡ n = cc in absurd (omega arith)
same_bit n One One some more long is = (refl, cc)

no_runs : (bit : Bit) (n : ℕ) (rest : List ℕ) → [] ≡ runs_with bit n rest → ⊥
no_runs Zero n rest is = cc
no_runs One n rest is = cc

abbrev cell_of : ℕ → Bit → Sign → Way → Cell
cell_of place bit sign way = record { place = place; bit = bit; sign = sign; way = way }

same_cell : (c d : Cell) → c.place ≡ d.place → c.bit ≡ d.bit → c.sign ≡ d.sign → c.way ≡ d.way → c ≡ d
same_cell c d places bits signs ways =
    ap (λ n. cell_of n c.bit c.sign c.way) places ∙ ap (λ x. cell_of d.place x c.sign c.way) bits
    ∙ ap (λ x. cell_of d.place d.bit x c.way) signs ∙ ap (cell_of d.place d.bit d.sign) ways

pub same_cells : (n place : ℕ) (sign : Sign) (tape path : List Cell) → 4 ≤ n → GoOn place tape → GoOn place path
    → EndsWith sign tape → EndsWith sign path → runs n tape ≡ runs n path → tape ≡ path
same_cells n place sign [] [] long one two ends like is = refl
same_cells n place sign [] (d ∷ path) long one two ends like is = absurd (no_runs d.bit n (runs n path) is)
same_cells n place sign (c ∷ tape) [] long one two ends like is = absurd (no_runs c.bit n (runs n tape) (sym is))
same_cells n place sign (c ∷ tape) (d ∷ path) long one two ends like is =
    let parts = same_bit n c.bit d.bit (runs n tape) (runs n path) long is in
    let signs : c.sign ≡ d.sign = ends ∙ sym like in
    let before : sign_before d.bit d.sign ≡ sign_before c.bit c.sign =
    sym (ap₂ sign_before parts.0 signs) in
    let last = before_ends place c tape one.0 in
    let other = subst (λ s. EndsWith s path) before (before_ends place d path two.0) in
    let more = same_cells n place (sign_before c.bit c.sign) tape path long one.1 two.1 last other parts.1 in
    let places : c.place ≡ d.place = one.0.place_is ∙ sym two.0.place_is in
    let ways : c.way ≡ d.way = one.0.way ∙ ap steady_way more ∙ sym two.0.way in
    ap₂ ◌∷◌ (same_cell c d places parts.0 signs ways) more
