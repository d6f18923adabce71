-- The first distances of a longer list, and a distance that fits an interval, for the proofs of the crates above. No
-- promise speaks of it.
use Rattle.std.proofs.Common.{◌≡◌, ℕ, ◌-◌, ◌*◌, ◌<◌, ◌≤◌, List, [], ◌∷◌, ◌++◌, replicate}
use Rattle.std.proofs.Common.{refl, ap, ap₂, ◌∙◌, arith}
use Rattle.std.specs.List.{flat_map, AllByRecursion}
use Rattle.std.proofs.Math.Nat.{div-eq_of_lt}
use Rattle.limits.specs.declared.recording.TheConstants.{MAX_INTERVAL}
use Rattle.pcm_front.specs.Distance.{gaps, gaps_after, pieces_in, pieces_of, whole_pieces, IsInterval}

-- ---- of more moments the first distances are those of the first

pub gaps_after-front : (x : ℕ) (ms more : List ℕ)
    → (rest : List ℕ) × (gaps_after x (ms ++ more) ≡ gaps_after x ms ++ rest)
gaps_after-front x [] more = (gaps_after x more, refl)
gaps_after-front x (y ∷ ms) more =
    let later = gaps_after-front y ms more in
    (later.0, ap (λ (ds : List ℕ). (y - x) ∷ ds) later.1)

pub gaps-front : (ms more : List ℕ) → (rest : List ℕ) × (gaps (ms ++ more) ≡ gaps ms ++ rest)
gaps-front [] more = (gaps more, refl)
gaps-front (x ∷ ms) more = gaps_after-front x ms more

-- ---- what fits is written whole

-- a distance of at most this many ticks
abbrev pub IsPiece : ℕ → ℕ → Type 0
IsPiece n d = (1 ≤ d) × (d ≤ n)

pub one_piece_in : (n d : ℕ) → IsPiece n d → pieces_in n d ≡ d ∷ []
one_piece_in n d is =
    let below : d - 1 < n = omega (arith, is.0, is.1) in
    let none : whole_pieces n d ≡ 0 = div-eq_of_lt below in
    ap (λ (k : ℕ). replicate k n ++ (d - n * k) ∷ []) none ∙ ap (λ (rest : ℕ). rest ∷ []) (omega arith)

pub whole_in : (n : ℕ) (ds : List ℕ) → AllByRecursion (IsPiece n) ds → flat_map (pieces_in n) ds ≡ ds
whole_in n [] are = refl
whole_in n (d ∷ ds) are = ap₂ ◌++◌ (one_piece_in n d are.0) (whole_in n ds are.1)

pub written_whole : (ds : List ℕ) → AllByRecursion IsInterval ds → flat_map pieces_of ds ≡ ds
written_whole ds are = whole_in MAX_INTERVAL ds are
