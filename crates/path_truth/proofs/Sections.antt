-- Of a path of cells of one length those are decided that ended long enough ago, behind others that
-- did not.
use Rattle.std.proofs.Common.{◌≡◌, ℕ, zero, suc, ◌+◌, ◌-◌, ◌*◌, ◌/◌, ◌<◌, ◌≤◌}
use Rattle.std.proofs.Common.{Bool, true, false, ◌&&◌, cond, leb, ltb}
use Rattle.std.proofs.Common.{List, [], ◌∷◌, ◌++◌, length, drop, refl, ap, ap₂, sym, ◌∙◌, arith}
use Rattle.std.specs.List.{filter}
use Rattle.std.proofs.Math.Nat.{suc-mul}
use Rattle.std.proofs.lemmas.Bool.Decides.{nat_tests}
use Rattle.cell_path.specs.declared.cell.Cell.{Cell}
use Rattle.cell_path.specs.declared.lengths.TheConstants.{LENGTHS}
use Rattle.cell_path.specs.declared.placed.Placed.{Placed}
use Rattle.cell_path.specs.Decided.{end_behind, is_decided, placed}
use Rattle.cell_path.specs.Lengths.{length_in}
use Rattle.path_truth.specs.Tape.{GoOn}

abbrev pub at : ℕ → Cell → Placed
at e cell = record { end = e; cell = cell }

-- cells of n steps that end after e of them
pub record AreCells (place n e : ℕ) (cells : List Cell) : Type 0 where
  pub some : 1 ≤ n
  pub long : length_in LENGTHS place ≡ n
  pub go : GoOn place cells
  pub ends : e ≡ length cells * n

pub cells-next : (place n e : ℕ) (cell : Cell) (before : List Cell) → AreCells place n e (cell ∷ before)
    → AreCells place n (e - n) before
cells-next place n e cell before are = record {
  some = are.some;
  long = are.long;
  go = are.go.1;
  ends = omega (arith, are.ends, suc-mul (length before) n);
}

cell-long : (place n e : ℕ) (cell : Cell) (before : List Cell) → AreCells place n e (cell ∷ before)
    → length_in LENGTHS cell.place ≡ n
cell-long place n e cell before are = ap (length_in LENGTHS) are.go.0.place_is ∙ are.long

pub reaches : (place n e : ℕ) (cell : Cell) (before : List Cell) → AreCells place n e (cell ∷ before) → n ≤ e
reaches place n e cell before are = omega (arith, are.ends, suc-mul (length before) n)

pub placed-front : (place n e : ℕ) (cell : Cell) (before : List Cell) → AreCells place n e (cell ∷ before)
    → placed e (cell ∷ before) ≡ at e cell ∷ placed (e - n) before
unfolding placed
placed-front place n e cell before are =
    ap (λ k. at e cell ∷ placed (e - k) before) (cell-long place n e cell before are)

pub filter-by : (test : Placed → Bool) (b : Bool) (cell : Placed) (rest : List Placed) → test cell ≡ b
    → filter test (cell ∷ rest) ≡ cond b (cell ∷ filter test rest) (filter test rest)
filter-by test b cell rest is = ap (λ c. cond c (cell ∷ filter test rest) (filter test rest)) is

pub both-true : (a b : Bool) → a ≡ true → b ≡ true → (a && b) ≡ true
both-true true b one two = two
both-true false b one two = one

and-false : (a b : Bool) → b ≡ false → (a && b) ≡ false
and-false true b is = is
and-false false b is = refl

-- is it decided, by its length
pub decided-by : (place n e delay count done : ℕ) (cell : Cell) (before : List Cell)
    → AreCells place n e (cell ∷ before)
    → is_decided delay count done (at e cell) ≡ (leb (e + delay) count && ltb (done + n / 4) e)
decided-by place n e delay count done cell before are =
    ap (λ k. leb (e + delay) count && ltb (done + k / 4) e) (cell-long place n e cell before are)

above-done : (done n e : ℕ) → e ≤ done → ltb (done + n / 4) e ≡ false
above-done done n e is = grind (arith, nat_tests)

below-end : (done n e : ℕ) → 1 ≤ n → n ≤ e → done ≤ e - n → ltb (done + n / 4) e ≡ true
below-end done n e some long is = let less : done + n / 4 < e = omega arith in grind (arith, nat_tests, less)

pub old-enough : (a b : ℕ) → a ≤ b → leb a b ≡ true
old-enough a b is = grind (arith, nat_tests)

-- ---- those that were decided before are not decided again

none-again : (place n e delay count done : ℕ) (cells : List Cell) → AreCells place n e cells → e ≤ done
    → filter (is_decided delay count done) (placed e cells) ≡ []
unfolding placed
none-again place n e delay count done [] are behind = refl
none-again place n e delay count done (cell ∷ before) are behind =
    let test = is_decided delay count done in
    let no = decided-by place n e delay count done cell before are
    ∙ and-false (leb (e + delay) count) (ltb (done + n / 4) e) (above-done done n e behind) in
    ap (filter test) (placed-front place n e cell before are)
    ∙ filter-by test false (at e cell) (placed (e - n) before) no
    ∙ none-again place n (e - n) delay count done before (cells-next place n e cell before are) (omega arith)

-- the latest of them ends no later than the cells
done-most : (place n e p : ℕ) (cells : List Cell) → AreCells place n e cells
    → end_behind 0 (drop p (placed e cells)) ≤ e
unfolding placed
done-most place n e zero [] are = omega arith
done-most place n e zero (cell ∷ before) are = omega arith
done-most place n e (suc p) [] are = omega arith
done-most place n e (suc p) (cell ∷ before) are =
    let front = placed-front place n e cell before are in
    let more = done-most place n (e - n) p before (cells-next place n e cell before are) in
    let same = ap (λ l. end_behind 0 (drop (suc p) l)) front in
    omega (arith, same, more)

-- ---- all that are old enough are decided

abbrev pub done_behind : ℕ → ℕ → List Cell → ℕ
done_behind p e cells = end_behind 0 (drop p (placed e cells))

-- behind one cell more the same ones were decided before
done-next : (place n e p : ℕ) (cell : Cell) (before : List Cell) → AreCells place n e (cell ∷ before)
    → done_behind (suc p) e (cell ∷ before) ≡ done_behind p (e - n) before
done-next place n e p cell before are =
    ap (λ l. end_behind 0 (drop (suc p) l)) (placed-front place n e cell before are)

abbrev pub decided_with : ℕ → ℕ → ℕ → ℕ → List Cell → List Placed
decided_with delay count p e cells =
    filter (is_decided delay count (done_behind p e cells)) (placed e cells) ++ drop p (placed e cells)

pub with-next : (place n e p delay count : ℕ) (cell : Cell) (before : List Cell) (b : Bool)
    → AreCells place n e (cell ∷ before)
    → is_decided delay count (done_behind p (e - n) before) (at e cell) ≡ b
    → decided_with delay count (suc p) e (cell ∷ before)
    ≡ cond b (at e cell ∷ decided_with delay count p (e - n) before) (decided_with delay count p (e - n) before)
with-next place n e p delay count cell before true are is =
    let front = placed-front place n e cell before are in
    let done = done-next place n e p cell before are in
    let test = is_decided delay count (done_behind p (e - n) before) in
    ap₂ (λ d l. filter (is_decided delay count d) l ++ drop (suc p) l) done front
    ∙ ap (λ l. l ++ drop p (placed (e - n) before)) (filter-by test true (at e cell) (placed (e - n) before) is)
with-next place n e p delay count cell before false are is =
    let front = placed-front place n e cell before are in
    let done = done-next place n e p cell before are in
    let test = is_decided delay count (done_behind p (e - n) before) in
    ap₂ (λ d l. filter (is_decided delay count d) l ++ drop (suc p) l) done front
    ∙ ap (λ l. l ++ drop p (placed (e - n) before)) (filter-by test false (at e cell) (placed (e - n) before) is)

pub first-behind : (place n e delay count : ℕ) (cells : List Cell) → AreCells place n e cells
    → decided_with delay count 0 e cells ≡ placed e cells
unfolding placed
first-behind place n e delay count [] are = refl
first-behind place n e delay count (cell ∷ before) are =
    ap (λ l. l ++ placed e (cell ∷ before))
    (none-again place n e delay count e (cell ∷ before) are (omega arith))

nothing-placed : (e : ℕ) → placed e [] ≡ []
unfolding placed
nothing-placed e = refl

pub no-cells : (delay count p e : ℕ) → decided_with delay count p e [] ≡ placed e []
no-cells delay count zero e =
    ap (λ l. filter (is_decided delay count (end_behind 0 (drop 0 l))) l ++ drop 0 l) (nothing-placed e)
    ∙ sym (nothing-placed e)
no-cells delay count (suc p) e =
    ap (λ l. filter (is_decided delay count (end_behind 0 (drop (suc p) l))) l ++ drop (suc p) l) (nothing-placed e)
    ∙ sym (nothing-placed e)

-- the cell ends far enough behind those
pub is-behind : (place n e p : ℕ) (cell : Cell) (before : List Cell) → AreCells place n e (cell ∷ before)
    → ltb (done_behind p (e - n) before + n / 4) e ≡ true
is-behind place n e p cell before are =
    below-end (done_behind p (e - n) before) n e are.some (reaches place n e cell before are)
    (done-most place n (e - n) p before (cells-next place n e cell before are))

pub all-decided : (place n e p delay count : ℕ) (cells : List Cell) → AreCells place n e cells → e + delay ≤ count
    → decided_with delay count p e cells ≡ placed e cells
all-decided place n e p delay count [] are old = no-cells delay count p e
all-decided place n e zero delay count (cell ∷ before) are old =
    first-behind place n e delay count (cell ∷ before) are
all-decided place n e (suc p) delay count (cell ∷ before) are old =
    let done = done_behind p (e - n) before in
    let is = decided-by place n e delay count done cell before are
    ∙ both-true (leb (e + delay) count) (ltb (done + n / 4) e) (old-enough (e + delay) count old)
    (is-behind place n e p cell before are) in
    with-next place n e p delay count cell before true are is
    ∙ ap (λ l. at e cell ∷ l) (all-decided place n (e - n) p delay count before (cells-next place n e cell before are)
    (omega (arith, old)))
    ∙ sym (placed-front place n e cell before are)
