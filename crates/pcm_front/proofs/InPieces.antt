-- The pieces of a distance make it up again, each of them is in its range, and those written before it ends are the
-- first of them.
use Rattle.std.proofs.Common.{◌≡◌, ℕ, zero, suc, ◌+◌, ◌-◌, ◌*◌, ◌/◌, ◌<◌, ◌≤◌, List, [], ◌∷◌, ◌++◌, replicate, sum}
use Rattle.std.proofs.Common.{sym, ap, ap₂, ◌∙◌, append_assoc, suc-mul, mul_comm, arith}
use Rattle.std.specs.List.{AllByRecursion}
use Rattle.std.proofs.Math.Nat.{div-mul-le_self, lt-div-mul-add, mul-add-div_right, mul-add}
use Rattle.std.proofs.lemmas.List.{replicate-append-replicate}
use Rattle.std.proofs.lemmas.List.Sums.{sum_by-cons}
use Rattle.pcm_front.specs.DistanceLemmas.{IsPiece}
use Rattle.limits.specs.declared.recording.TheConstants.{MAX_INTERVAL}
use Rattle.pcm_front.specs.Distance.{whole_pieces, pieces_in, pieces_of, IsInterval}

-- the whole pieces fall short of the distance, by a length at most
pub rest_within : (n d : ℕ) → 1 ≤ n → 1 ≤ d → ((d - 1) / n * n < d) × (d ≤ (d - 1) / n * n + n)
rest_within n d some some_too =
    let below = div-mul-le_self (d - 1) n in
    let above : d - 1 < (d - 1) / n * n + n = lt-div-mul-add (omega (arith, some)) in
    (omega (arith, below, some_too), omega (arith, above))

-- the same, if the factors are exchanged
rest_is : (n d : ℕ) → 1 ≤ n → 1 ≤ d → (n * whole_pieces n d < d) × (d ≤ n * whole_pieces n d + n)
rest_is n d some some_too = rw (mul_comm n (whole_pieces n d)) (rest_within n d some some_too)

-- ---- what they are

sum-pieces : (n x rest : ℕ) → sum (replicate n x ++ rest ∷ []) ≡ n * x + rest
sum-pieces zero x rest = omega arith
sum-pieces (suc n) x rest =
    sum_by-cons (λ k. k) x (replicate n x ++ rest ∷ []) ∙ ap (λ k. x + k) (sum-pieces n x rest)
    ∙ omega (arith, suc-mul n x)

pub sum-pieces_in : (n d : ℕ) → 1 ≤ n → 1 ≤ d → sum (pieces_in n d) ≡ d
sum-pieces_in n d some some_too =
    let rest = rest_is n d some some_too in
    let turned = mul_comm n (whole_pieces n d) in
    sum-pieces (whole_pieces n d) n (d - n * whole_pieces n d) ∙ omega (arith, rest.0, turned)

all-pieces : (m n x rest : ℕ) → IsPiece m x → IsPiece m rest → AllByRecursion (IsPiece m) (replicate n x ++ rest ∷ [])
all-pieces m zero x rest is is_too = (is_too, tt)
all-pieces m (suc n) x rest is is_too = (is, all-pieces m n x rest is is_too)

pub pieces_in-range : (n d : ℕ) → 1 ≤ n → 1 ≤ d → AllByRecursion (IsPiece n) (pieces_in n d)
pieces_in-range n d some some_too =
    let rest = rest_is n d some some_too in
    all-pieces n (whole_pieces n d) n (d - n * whole_pieces n d) (some, omega arith)
    (omega (arith, rest.0), omega (arith, rest.1))

-- ---- the greatest intervals

pub sum-pieces_of : (d : ℕ) → 1 ≤ d → sum (pieces_of d) ≡ d
sum-pieces_of d some = sum-pieces_in MAX_INTERVAL d (omega arith) some

pub pieces_of-intervals : (d : ℕ) → 1 ≤ d → AllByRecursion IsInterval (pieces_of d)
pieces_of-intervals d some = pieces_in-range MAX_INTERVAL d (omega arith) some

-- ---- the first of them

-- the whole pieces of what is left behind some of them
whole-behind : (n w d : ℕ) → 1 ≤ n → w * n < d → whole_pieces n d ≡ w + whole_pieces n (d - w * n)
whole-behind n w d some less =
    let split : d - 1 ≡ w * n + (d - w * n - 1) = omega (arith, less) in
    let some_too : zero < n = omega (arith, some) in
    ap (λ x. x / n) split ∙ mul-add-div_right some_too w (d - w * n - 1)

-- w pieces come first, if the distance is longer than they are
pub begun_first : (n w d : ℕ) → 1 ≤ n → w * n < d → pieces_in n d ≡ replicate w n ++ pieces_in n (d - w * n)
begun_first n w d some less =
    let k = whole_pieces n (d - w * n) in
    let both : n * (w + k) ≡ n * w + n * k = mul-add n w k in
    let turned = mul_comm n w in
    let rest : d - n * (w + k) ≡ (d - w * n) - n * k = omega (arith, both, turned) in
    ap (λ x. replicate x n ++ (d - n * x) ∷ []) (whole-behind n w d some less)
    ∙ ap₂ (λ (ws : List ℕ) r. ws ++ r ∷ []) (sym (replicate-append-replicate w k n)) rest
    ∙ append_assoc (replicate w n) (replicate k n) (((d - w * n) - n * k) ∷ [])
