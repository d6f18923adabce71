-- Cells that are old enough are decided, those that are not wait, and what is decided ended long enough ago.
use Rattle.std.proofs.Common.{◌≡◌, ℕ, zero, suc, ◌+◌, ◌-◌, ◌*◌, ◌/◌, ◌<◌, ◌≤◌, ◌⊎◌, inl, inr}
use Rattle.std.proofs.Common.{Bool, true, false, ◌&&◌, cond, leb, ltb}
use Rattle.std.proofs.Common.{List, [], ◌∷◌, length, drop, refl, ap, sym, ◌∙◌, arith}
use Rattle.std.specs.List.{filter}
use Rattle.std.proofs.Math.Nat.{suc-mul}
use Rattle.std.proofs.lemmas.Bool.Decides.{nat_tests}
use Rattle.cell_path.specs.declared.cell.Cell.{Cell}
use Rattle.cell_path.specs.declared.placed.Placed.{Placed}
use Rattle.cell_path.specs.Decided.{is_decided, placed}
use Rattle.path_truth.proofs.Sections.{AreCells, all-decided, at, both-true, cells-next, decided-by, decided_with}
use Rattle.path_truth.proofs.Sections.{done_behind, filter-by, first-behind, is-behind, no-cells, old-enough}
use Rattle.path_truth.proofs.Sections.{placed-front, reaches, with-next}

-- ---- and those that are not old enough wait

decided-by-age : (old : Bool) (place n e p delay count : ℕ) (cell : Cell) (before : List Cell)
    → AreCells place n e (cell ∷ before) → leb (e + delay) count ≡ old
    → is_decided delay count (done_behind p (e - n) before) (at e cell) ≡ old
decided-by-age true place n e p delay count cell before are is =
    let done = done_behind p (e - n) before in
    decided-by place n e delay count done cell before are
    ∙ both-true (leb (e + delay) count) (ltb (done + n / 4) e) is (is-behind place n e p cell before are)
decided-by-age false place n e p delay count cell before are is =
    let done = done_behind p (e - n) before in
    decided-by place n e delay count done cell before are
    ∙ ap (λ b. b && ltb (done + n / 4) e) is

is-old : (a b : ℕ) → leb a b ≡ true → a ≤ b
is-old a b is = grind (arith, nat_tests)

too-new : (a b : ℕ) → b < a → leb a b ≡ false
too-new a b is = grind (arith, nat_tests)

-- ---- those that are decided are those that ended long enough ago

abbrev pub old : ℕ → ℕ → Placed → Bool
old delay count cell = leb (cell.end + delay) count

old-next : (place n e delay count : ℕ) (cell : Cell) (before : List Cell) (b : Bool)
    → AreCells place n e (cell ∷ before) → leb (e + delay) count ≡ b
    → filter (old delay count) (placed e (cell ∷ before))
    ≡ cond b (at e cell ∷ filter (old delay count) (placed (e - n) before))
    (filter (old delay count) (placed (e - n) before))
old-next place n e delay count cell before b are is =
    ap (filter (old delay count)) (placed-front place n e cell before are)
    ∙ filter-by (old delay count) b (at e cell) (placed (e - n) before) is

-- none of them is, if there are no cells
no-old : (delay count e : ℕ) → filter (old delay count) (placed e []) ≡ placed e []
unfolding placed
no-old delay count e = refl

pub all-old : (place n e delay count : ℕ) (cells : List Cell) → AreCells place n e cells → e + delay ≤ count
    → filter (old delay count) (placed e cells) ≡ placed e cells
all-old place n e delay count [] are is = no-old delay count e
all-old place n e delay count (cell ∷ before) are is =
    let less : (e - n) + delay ≤ count = omega (arith, is) in
    old-next place n e delay count cell before true are (old-enough (e + delay) count is)
    ∙ ap (λ l. at e cell ∷ l) (all-old place n (e - n) delay count before (cells-next place n e cell before are) less)
    ∙ sym (placed-front place n e cell before are)

-- none is, before so many steps
pub none-old : (place n e delay count : ℕ) (cells : List Cell) → AreCells place n e cells → count < delay
    → filter (old delay count) (placed e cells) ≡ []
unfolding placed
none-old place n e delay count [] are few = refl
none-old place n e delay count (cell ∷ before) are few =
    old-next place n e delay count cell before false are (too-new (e + delay) count (omega (arith, few)))
    ∙ none-old place n (e - n) delay count before (cells-next place n e cell before are) few

-- and not a cell that has just ended
pub new-waits : (place n e delay count : ℕ) (cell : Cell) (before : List Cell) → AreCells place n e (cell ∷ before)
    → count < e + delay
    → filter (old delay count) (placed e (cell ∷ before)) ≡ filter (old delay count) (placed (e - n) before)
new-waits place n e delay count cell before are new =
    old-next place n e delay count cell before false are (too-new (e + delay) count new)

-- behind p cells all are old, or there are none
abbrev pub AreOldBehind : ℕ → ℕ → ℕ → ℕ → ℕ → List Cell → Type 0
AreOldBehind n e p delay count cells = (length cells ≤ p) ⊎ (e + delay ≤ count + p * n)

pub record OldEnd (n e delay count : ℕ) (cells : List Cell) : Type 0 where
  pub p : ℕ
  pub is : filter (old delay count) (placed e cells) ≡ drop p (placed e cells)
  pub behind : AreOldBehind n e p delay count cells

behind-next : (n e p delay count : ℕ) (cell : Cell) (before : List Cell) → n ≤ e
    → AreOldBehind n (e - n) p delay count before → AreOldBehind n e (suc p) delay count (cell ∷ before)
behind-next n e p delay count cell before long (inl none) = inl (omega (arith, none))
behind-next n e p delay count cell before long (inr is) = inr (omega (arith, is, long, suc-mul p n))

behind-rest : (n e p delay count : ℕ) (cell : Cell) (before : List Cell) → n ≤ e
    → AreOldBehind n e (suc p) delay count (cell ∷ before) → AreOldBehind n (e - n) p delay count before
behind-rest n e p delay count cell before long (inl none) = inl (omega (arith, none))
behind-rest n e p delay count cell before long (inr is) = inr (omega (arith, is, long, suc-mul p n))

old-end-by : (b : Bool) (place n e delay count : ℕ) (cell : Cell) (before : List Cell)
    → AreCells place n e (cell ∷ before) → leb (e + delay) count ≡ b → OldEnd n (e - n) delay count before
    → OldEnd n e delay count (cell ∷ before)
old-end-by true place n e delay count cell before are is more =
    let past = is-old (e + delay) count is in
    record { p = 0; is = all-old place n e delay count (cell ∷ before) are past; behind = inr (omega (arith, past)) }
old-end-by false place n e delay count cell before are is more = record {
  p = suc more.p;
  is = old-next place n e delay count cell before false are is ∙ more.is
      ∙ sym (ap (drop (suc more.p)) (placed-front place n e cell before are));
  behind = behind-next n e more.p delay count cell before (reaches place n e cell before are) more.behind;
}

-- those that are old are the last of them
pub old-end : (place n e delay count : ℕ) (cells : List Cell) → AreCells place n e cells
    → OldEnd n e delay count cells
old-end place n e delay count [] are =
    record { p = 0; is = no-old delay count e; behind = inl (omega arith) }
old-end place n e delay count (cell ∷ before) are =
    old-end-by (leb (e + delay) count) place n e delay count cell before are refl
    (old-end place n (e - n) delay count before (cells-next place n e cell before are))

pub later-behind : (n e p delay count more : ℕ) (cells : List Cell) → count ≤ more
    → AreOldBehind n e p delay count cells → AreOldBehind n e p delay more cells
later-behind n e p delay count more cells order (inl none) = inl none
later-behind n e p delay count more cells order (inr is) = inr (omega (arith, is, order))

old-by : (b : Bool) (place n e p delay count : ℕ) (cell : Cell) (before : List Cell)
    → AreCells place n e (cell ∷ before) → leb (e + delay) count ≡ b
    → decided_with delay count p (e - n) before ≡ filter (old delay count) (placed (e - n) before)
    → decided_with delay count (suc p) e (cell ∷ before) ≡ filter (old delay count) (placed e (cell ∷ before))
old-by true place n e p delay count cell before are is more =
    let past = is-old (e + delay) count is in
    all-decided place n e (suc p) delay count (cell ∷ before) are past
    ∙ sym (all-old place n e delay count (cell ∷ before) are past)
old-by false place n e p delay count cell before are is more =
    with-next place n e p delay count cell before false are
    (decided-by-age false place n e p delay count cell before are is)
    ∙ more ∙ sym (old-next place n e delay count cell before false are is)

-- behind old cells that were decided before, the old ones are decided
pub old-decided : (place n e p delay count : ℕ) (cells : List Cell) → AreCells place n e cells
    → AreOldBehind n e p delay count cells
    → decided_with delay count p e cells ≡ filter (old delay count) (placed e cells)
old-decided place n e p delay count [] are behind = no-cells delay count p e ∙ sym (no-old delay count e)
old-decided place n e zero delay count (cell ∷ before) are (inl none) = absurd (omega (arith, none))
old-decided place n e zero delay count (cell ∷ before) are (inr is) =
    first-behind place n e delay count (cell ∷ before) are
    ∙ sym (all-old place n e delay count (cell ∷ before) are (omega (arith, is)))
old-decided place n e (suc p) delay count (cell ∷ before) are behind =
    old-by (leb (e + delay) count) place n e p delay count cell before are refl
    (old-decided place n (e - n) p delay count before (cells-next place n e cell before are)
    (behind-rest n e p delay count cell before (reaches place n e cell before are) behind))
