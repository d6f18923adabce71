-- A run is nearer to its number of cells than to any other, so runs have one list of cells.
use Rattle.std.proofs.Common.{◌≡◌, ℕ, suc, ◌+◌, ◌-◌, ◌*◌, ◌/◌, ◌<◌, ◌≤◌, List, [], ◌∷◌, ◌++◌, length, take, drop}
use Rattle.std.proofs.Common.{get_or, refl, sym, ap, ap₂, ◌∙◌, arith}
use Rattle.std.proofs.Math.Nat.{div-eq_of_lt-le, div-mul-le_self}
use Rattle.std.proofs.Math.Seq.{drop-cons}
use Rattle.std.proofs.lemmas.List.{take-append-drop}
use Rattle.vitc_reader.specs.Runs.{total, IsCells, AreCells}

-- the whole number of cells that a run can be, to a quarter of a cell
abbrev pub nearest : ℕ → ℕ → ℕ
nearest n r = (460 * r + n) / (4 * n)

quarters : (n k : ℕ) → k * (4 * n) ≡ 4 * (k * n)
quarters n k = grind arith

quarters_more : (n k : ℕ) → (k + 1) * (4 * n) ≡ 4 * (k * n) + 4 * n
quarters_more n k = grind arith

is_nearest : (n r k : ℕ) → 1 ≤ n → IsCells n r k → nearest n r ≡ k
is_nearest n r k some cells =
    let a = quarters n k in
    let b = quarters_more n k in
    let near : 4 * ((115 * r - k * n) + (k * n - 115 * r)) ≤ n = cells.1 in
    let low : k * (4 * n) ≤ 460 * r + n = omega (arith, a, near) in
    let high : 460 * r + n < (k + 1) * (4 * n) = omega (arith, b, near) in
    div-eq_of_lt-le (4 * n) low high

-- the nearest number of cells lasts no longer than the run and a quarter of a cell
pub not_longer : (n r : ℕ) → 4 * (nearest n r * n) ≤ 460 * r + n
not_longer n r = let h = div-mul-le_self (460 * r + n) (4 * n) in let e = quarters n (nearest n r) in
    omega (arith, h, e)

-- it is the number of cells if it is some, and not much shorter
pub are_cells : (n r : ℕ) → 1 ≤ nearest n r → 460 * r + n - 4 * (nearest n r * n) ≤ 2 * n → IsCells n r (nearest n r)
are_cells n r some near = let h = not_longer n r in (some, omega (arith, h, near))

-- so there is none if the nearest is 0 or not near
pub not_none : (n r k : ℕ) → 1 ≤ n → IsCells n r k → nearest n r < 1 → ⊥
not_none n r k some cells low = let e = is_nearest n r k some cells in let one = cells.0 in omega (arith, e, one, low)

pub not_far : (n r k : ℕ) → 1 ≤ n → IsCells n r k → 2 * n < 460 * r + n - 4 * (nearest n r * n) → ⊥
not_far n r k some cells far =
    let e = is_nearest n r k some cells in
    let far' : 2 * n < 460 * r + n - 4 * (k * n) = rw e at far in
    let near = cells.1 in
    omega (arith, far', near)

-- a run has one number of cells
pub one_number : (n r k m : ℕ) → 1 ≤ n → IsCells n r k → IsCells n r m → k ≡ m
one_number n r k m some a b = sym (is_nearest n r k some a) ∙ is_nearest n r m some b

pub one_list : (n : ℕ) (runs cells others : List ℕ) → 1 ≤ n → AreCells n runs cells → AreCells n runs others
    → cells ≡ others
one_list n [] [] [] some a b = refl
one_list n [] [] (m ∷ others) some a b = absurd b
one_list n [] (k ∷ cells) others some a b = absurd a
one_list n (r ∷ runs) [] others some a b = absurd a
one_list n (r ∷ runs) (k ∷ cells) [] some a b = absurd b
one_list n (r ∷ runs) (k ∷ cells) (m ∷ others) some a b =
    ap₂ (λ (x : ℕ) (xs : List ℕ). x ∷ xs) (one_number n r k m some a.0 b.0) (one_list n runs cells others some a.1 b.1)

-- one run more has one number of cells more
pub AreCells-last : (n : ℕ) (runs cells : List ℕ) (r k : ℕ) → AreCells n runs cells → IsCells n r k
    → AreCells n (runs ++ r ∷ []) (cells ++ k ∷ [])
AreCells-last n [] [] r k a one = (one, tt)
AreCells-last n [] (j ∷ cells) r k a one = absurd a
AreCells-last n (s ∷ runs) [] r k a one = absurd a
AreCells-last n (s ∷ runs) (j ∷ cells) r k a one = (a.0, AreCells-last n runs cells r k a.1 one)

-- the cells of a list of runs, cut where the runs are cut
pub record Cut (n : ℕ) (before : List ℕ) (run : ℕ) (after cells : List ℕ) : Type 0 where
  pub front : List ℕ
  pub here : ℕ
  pub back : List ℕ
  pub split : cells ≡ front ++ here ∷ back
  pub front_read : AreCells n before front
  pub here_read : IsCells n run here

pub cut : (n : ℕ) (before : List ℕ) (run : ℕ) (after cells : List ℕ) → AreCells n (before ++ run ∷ after) cells
    → Cut n before run after cells
cut n [] run after [] a = absurd a
cut n [] run after (k ∷ cells) a =
    record { front = []; here = k; back = cells; split = refl; front_read = tt; here_read = a.0 }
cut n (r ∷ before) run after [] a = absurd a
cut n (r ∷ before) run after (k ∷ cells) a =
    let c = cut n before run after cells a.1 in
    record {
      front = k ∷ c.front;
      here = c.here;
      back = c.back;
      split = ap (λ (ks : List ℕ). k ∷ ks) c.split;
      front_read = (a.0, c.front_read);
      here_read = c.here_read;
    }

pub total-append : (xs ys : List ℕ) → total (xs ++ ys) ≡ total xs + total ys
total-append [] ys = omega arith
total-append (x ∷ xs) ys = let h = total-append xs ys in omega (arith, h)

-- the run at a place, with what comes before and after it
pub at_place : (xs : List ℕ) (i d : ℕ) → i < length xs → xs ≡ take i xs ++ get_or xs i d ∷ drop (suc i) xs
at_place xs i d lt = sym (take-append-drop i xs) ∙ ap (λ (ys : List ℕ). take i xs ++ ys) (drop-cons xs i d lt)
