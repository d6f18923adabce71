-- Of paths one comes first, and of those with scores one wins: what wins over a winner wins over what it beat.
use Rattle.std.proofs.Common.{◌≡◌, ℕ, ◌+◌, ◌<◌, ℤ, ◌+ℤ◌, ◌<ℤ◌, ◌≤ℤ◌, ◌⊎◌, inl, inr, List, [], ◌∷◌, arith}
use Rattle.std.proofs.lemmas.Int.{ints}
use Rattle.cell_path.specs.declared.cell.Cell.{Cell}
use Rattle.cell_path.specs.Best.{StandsFirst, Wins}
use Rattle.cell_path.specs.Number.{WinsBy}

pub stands_first-same : (path : List Cell) → StandsFirst path path
stands_first-same [] = tt
stands_first-same (cell ∷ before) = inr (omega arith, stands_first-same before)

pub stands_first-along : (p q r : List Cell) → StandsFirst p q → StandsFirst q r → StandsFirst p r
stands_first-along [] q r one two = tt
stands_first-along (c ∷ p) [] r one two = absurd one
stands_first-along (c ∷ p) (d ∷ q) [] one two = absurd two
stands_first-along (c ∷ p) (d ∷ q) (e ∷ r) (inl a) (inl b) = inl (omega arith)
stands_first-along (c ∷ p) (d ∷ q) (e ∷ r) (inl a) (inr b) = inl (omega (arith, b.0))
stands_first-along (c ∷ p) (d ∷ q) (e ∷ r) (inr a) (inl b) = inl (omega (arith, a.0))
stands_first-along (c ∷ p) (d ∷ q) (e ∷ r) (inr a) (inr b) =
    inr (omega (arith, a.0, b.0), stands_first-along p q r a.1 b.1)

pub wins-along : (s : ℤ) (p : List Cell) (t : ℤ) (q : List Cell) (u : ℤ) (r : List Cell)
    → Wins s p t q → Wins t q u r → Wins s p u r
wins-along s p t q u r (inl a) (inl b) = inl (omega (arith, ints))
wins-along s p t q u r (inl a) (inr b) = inl (omega (arith, ints, b.0))
wins-along s p t q u r (inr a) (inl b) = inl (omega (arith, ints, a.0))
wins-along s p t q u r (inr a) (inr b) = inr (omega (arith, ints, a.0, b.0), stands_first-along p q r a.1 b.1)

first_by-along : (m : ℕ) (p : List Cell) (n : ℕ) (q : List Cell) (o : ℕ) (r : List Cell)
    → (m < n) ⊎ ((m ≡ n) × StandsFirst p q) → (n < o) ⊎ ((n ≡ o) × StandsFirst q r)
    → (m < o) ⊎ ((m ≡ o) × StandsFirst p r)
first_by-along m p n q o r (inl a) (inl b) = inl (omega arith)
first_by-along m p n q o r (inl a) (inr b) = inl (omega (arith, b.0))
first_by-along m p n q o r (inr a) (inl b) = inl (omega (arith, a.0))
first_by-along m p n q o r (inr a) (inr b) = inr (omega (arith, a.0, b.0), stands_first-along p q r a.1 b.1)

pub wins_by-along : (s : ℤ) (m : ℕ) (p : List Cell) (t : ℤ) (n : ℕ) (q : List Cell) (u : ℤ) (o : ℕ) (r : List Cell)
    → WinsBy s m p t n q → WinsBy t n q u o r → WinsBy s m p u o r
wins_by-along s m p t n q u o r (inl a) (inl b) = inl (omega (arith, ints))
wins_by-along s m p t n q u o r (inl a) (inr b) = inl (omega (arith, ints, b.0))
wins_by-along s m p t n q u o r (inr a) (inl b) = inl (omega (arith, ints, a.0))
wins_by-along s m p t n q u o r (inr a) (inr b) =
    inr (omega (arith, ints, a.0, b.0), first_by-along m p n q o r a.1 b.1)

-- of beginnings that are not below in score, that of the first way wins
not_below-by : (s t : ℤ) → t ≤ℤ s → (t <ℤ s) ⊎ (t ≡ s)
not_below-by s t h = grind (arith, ints)

pub wins_by-rank : (s : ℤ) (m : ℕ) (p : List Cell) (t : ℤ) (n : ℕ) (q : List Cell)
    → t ≤ℤ s → m < n → WinsBy s m p t n q
wins_by-rank s m p t n q above first =
    elim (not_below-by s t above) [ inl less ↦ inl less | inr same ↦ inr (same, inl first) ]

-- the same gain to both, and the same cell behind both, change nothing
pub wins_by-more : (x s : ℤ) (base m : ℕ) (p : List Cell) (t : ℤ) (n : ℕ) (q : List Cell)
    → WinsBy s m p t n q → WinsBy (x +ℤ s) (base + m) p (x +ℤ t) (base + n) q
wins_by-more x s base m p t n q (inl less) = inl (omega (arith, ints))
wins_by-more x s base m p t n q (inr same) =
    let less : t ≡ s = same.0 in
    inr (
      omega (arith, ints),
      elim same.1 [ inl first ↦ inl (omega arith) | inr like ↦ inr (omega (arith, like.0), like.1) ],
    )
