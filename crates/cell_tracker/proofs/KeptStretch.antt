-- A list that is a piece of a chain has one stretch, if it has a lock: the cells of the chain that lie wholly in the
-- list from the lock on.
use Rattle.std.proofs.Common.{◌≡◌, ℕ, ◌+◌, ◌<◌, ◌≤◌, List, [], ◌∷◌, ◌++◌, length, drop, get_or, None, inl, inr, refl}
use Rattle.std.proofs.Common.{ap, subst, sym, ◌∙◌, arith}
use Rattle.std.proofs.Common.{length-drop}
use Rattle.std.proofs.lemmas.Bool.{cases_order}
use Rattle.std.proofs.Math.Seq.{drop-append-add}
use Rattle.std.proofs.lemmas.List.{drop_at, drop_more, drop-drop, drop-append-le}
use Rattle.std.proofs.lemmas.Grind.{flat_map-append}
use Rattle.biphase.specs.declared.profile.Profile.{Profile}
use Rattle.biphase.specs.declared.cell.Cell.{Cell}
use Rattle.biphase.specs.declared.cell.Cell.TheVariants.{Zero}
use Rattle.biphase.specs.Tolerance.{kept_at_lock}
use Rattle.biphase.specs.Chain.{intervals_of, flat, kept_of, IsChain}
use Rattle.biphase.specs.ToleranceLemmas.{behind_zero, unequal_differ}
use Rattle.biphase.specs.Zeros.{IsZeroAt}
use Rattle.biphase.specs.ZeroLemmas.{greater_is_zero}
use Rattle.cell_tracker.specs.ChainPiece.{IsPiece, cells_between, cells_from, stretch_of_piece}
use Rattle.cell_tracker.specs.Lock.{IsLock, IsUnequalAt}
use Rattle.cell_tracker.specs.Stretch.{Stretch, end_of, IsStretch, AreStretches}
use Rattle.cell_tracker.proofs.CellsOfAPiece.{from_low, lies_between, none_fits_cut, no_break_cut, they_lie}
use Rattle.cell_tracker.proofs.LocalStretch.{stretch_from}
use Rattle.cell_tracker.proofs.OneStretch.{stretch_is_one}

-- what is in a chain from a place of the piece on is what is in the piece, with more behind it
pub piece_from : (profile : Profile) (intervals : List ℕ) (cells : List Cell) (cut k : ℕ)
    (is : IsPiece profile intervals cells cut)
    → k ≤ length intervals → drop (cut + k) (flat cells) ≡ drop k intervals ++ is.part.0
piece_from profile intervals cells cut k is within =
    sym (drop-drop k cut (flat cells)) ∙ ap (drop k) is.part.1 ∙ drop-append-le k intervals is.part.0 within

-- a list at two of its places
pub two_at : (intervals : List ℕ) (k : ℕ) → k + 1 < length intervals
    → drop k intervals ≡ get_or intervals k 0 ∷ get_or intervals (k + 1) 0 ∷ drop (k + 1 + 1) intervals
two_at intervals k within =
    drop_more intervals k 0 (omega arith) ∙ ap (λ (xs : List ℕ). get_or intervals k 0 ∷ xs)
    (drop_more intervals (k + 1) 0 within)

-- the greater interval of an unequal pair of the piece is a zero of the chain
pub pair_has_zero : (profile : Profile) (intervals : List ℕ) (cells : List Cell) (cut k : ℕ)
    → IsPiece profile intervals cells cut
    → IsUnequalAt profile intervals k
    → (get_or intervals k 0 < get_or intervals (k + 1) 0 → IsZeroAt cells (cut + (k + 1)) (get_or intervals (k + 1) 0))
    × (get_or intervals (k + 1) 0 < get_or intervals k 0 → IsZeroAt cells (cut + k) (get_or intervals k 0))
pair_has_zero profile intervals cells cut k is at =
    let a = get_or intervals k 0 in
    let b = get_or intervals (k + 1) 0 in
    let there : drop (cut + k) (flat cells) ≡ a ∷ b ∷ (drop (k + 1 + 1) intervals ++ is.part.0) =
    piece_from profile intervals cells cut k is (omega (arith, at.0))
    ∙ ap (λ (xs : List ℕ). xs ++ is.part.0) (two_at intervals k at.0) in
    let greater = greater_is_zero profile cells (cut + k) a b _ is.chain there at.1 in
    (λ rises. subst (λ n. IsZeroAt cells n b) (omega arith) (greater.0 rises), greater.1)

-- the lock of a piece is a zero of the chain
pub lock_is_zero : (profile : Profile) (intervals : List ℕ) (cells : List Cell) (cut start lock : ℕ)
    → IsPiece profile intervals cells cut
    → IsLock profile intervals start lock → (lock < length intervals) × ((x : ℕ) × IsZeroAt cells (cut + lock) x)
lock_is_zero profile intervals cells cut start lock is at =
    let a = get_or intervals at.pair 0 in
    let b = get_or intervals (at.pair + 1) 0 in
    let zero_of = pair_has_zero profile intervals cells cut at.pair is at.unequal in
    let within = at.unequal.0 in
    elim (cases_order a b) [
      | inl same ↦ absurd (unequal_differ profile a b at.unequal.1 same)
      | inr (inl rises) ↦
          let place : at.pair + 1 ≡ lock = sym (at.rising rises) in
          (omega arith, (b, subst (λ n. IsZeroAt cells (cut + n) b) place (zero_of.0 rises)))
      | inr (inr falls) ↦
          let place : at.pair ≡ lock = sym (at.falling falls) in
          (omega arith, (a, subst (λ n. IsZeroAt cells (cut + n) a) place (zero_of.1 falls)))
    ]

-- the cells of a chain that lie in the list from a zero on: the zero, and those of the cells behind it
pub cells_at_zero : (cells before after : List Cell) (cut place x : ℕ) (intervals : List ℕ)
    → cells ≡ before ++ Zero x ∷ after
    → length (flat before) ≡ cut + place → place < length intervals
    → cells_from cells cut intervals place
    ≡ Zero x ∷ cells_between (cut + place) (cut + length intervals) (cut + place + 1) after
cells_at_zero cells before after cut place x intervals are ends within =
    ap (λ (cs : List Cell). cells_from cs cut intervals place) are
    ∙ from_low (cut + place) (cut + length intervals) 0 before (Zero x ∷ after) (omega (arith, ends))
    ∙ lies_between (cut + place) (cut + length intervals) (cut + place) (Zero x) after (omega arith) (omega arith)

-- what comes behind a zero of the chain
behind_there : (profile : Profile) (intervals : List ℕ) (cells : List Cell) (cut place x : ℕ)
    (is : IsPiece profile intervals cells cut)
    (zero : IsZeroAt cells (cut + place) x) → place < length intervals
    → get_or intervals place 0 ∷ (drop (place + 1) intervals ++ is.part.0) ≡ x ∷ flat zero.after
behind_there profile intervals cells cut place x is zero within =
    ap (λ (xs : List ℕ). xs ++ is.part.0) (sym (drop_more intervals place 0 within))
    ∙ sym (piece_from profile intervals cells cut place is (omega arith))
    ∙ ap (λ (cs : List Cell). drop (cut + place) (flat cs)) zero.are
    ∙ ap (drop (cut + place)) (flat_map-append intervals_of zero.before (Zero x ∷ zero.after))
    ∙ drop_at (flat zero.before) (x ∷ flat zero.after) (cut + place) zero.place

-- the stretch of these cells, of a piece that begins at the place n of a list
abbrev pub stretch_of_piece_at : ℕ → List Cell → ℕ → List ℕ → ℕ → Stretch
stretch_of_piece_at n cells cut intervals place =
    record { lock = n + place; cells = cells_from cells cut intervals place; broken_at = None }

-- it is at each zero of the chain, whatever comes before the piece
pub stretch_at_zero : (profile : Profile) (before intervals : List ℕ) (cells : List Cell) (cut place x : ℕ)
    → IsPiece profile intervals cells cut → IsZeroAt cells (cut + place) x → place < length intervals
    → IsStretch profile (before ++ intervals) (stretch_of_piece_at (length before) cells cut intervals place)
stretch_at_zero profile before intervals cells cut place x is zero within =
    let s = stretch_of_piece_at (length before) cells cut intervals place in
    let there = behind_there profile intervals cells cut place x is zero within in
    let first : get_or intervals place 0 ≡ x = cc in
    let behind : drop (place + 1) intervals ++ is.part.0 ≡ flat zero.after = cc in
    let front = drop (place + 1) intervals in
    let chain = behind_zero profile zero.before zero.after x (subst (IsChain profile) zero.are is.chain) in
    let more = cells_between (cut + place) (cut + length intervals) (cut + place + 1) zero.after in
    let lie = they_lie profile (kept_at_lock profile x) (cut + place) (cut + length intervals)
    (cut + place + 1) zero.after front is.part.0 (omega arith)
    (omega (arith, length-drop (place + 1) intervals)) chain.1 (sym behind) in
    stretch_from profile (before ++ intervals) s x more lie.left (record {
      cells = cells_at_zero cells zero.before zero.after cut place x intervals zero.are zero.place within;
      ticks = chain.0;
      chain = lie.chain;
      there = drop-append-add before intervals place ∙ drop_more intervals place 0 within ∙ ap (λ v. v ∷ front) first
          ∙ ap (λ (xs : List ℕ). x ∷ xs) lie.are;
      none = none_fits_cut profile (kept_of profile (Zero x ∷ more)) lie.left lie.cut;
      broken = no_break_cut profile (kept_of profile (Zero x ∷ more)) (end_of s) lie.left lie.cut;
    })

-- at the lock of a piece is the stretch of its cells
pub stretch_at_lock : (profile : Profile) (intervals : List ℕ) (cells : List Cell) (cut start lock : ℕ)
    → IsPiece profile intervals cells cut
    → IsLock profile intervals start lock → IsStretch profile intervals (stretch_of_piece cells cut intervals lock)
stretch_at_lock profile intervals cells cut start lock is at =
    let zero_of = lock_is_zero profile intervals cells cut start lock is at in
    let found = stretch_at_zero profile [] intervals cells cut lock zero_of.1.0 is zero_of.1.1 zero_of.0 in
    subst (λ n. IsStretch profile intervals (record {
      lock = n;
      cells = cells_from cells cut intervals lock;
      broken_at =
          None;
    }))
    (omega arith) found

-- and this is its only stretch
pub kept_is_one_stretch : (profile : Profile) (intervals : List ℕ) (cells : List Cell) (cut lock : ℕ)
    → IsPiece profile intervals cells cut
    → IsLock profile intervals 0 lock → AreStretches profile intervals (stretch_of_piece cells cut intervals lock ∷ [])
kept_is_one_stretch profile intervals cells cut lock is at =
    (at, stretch_at_lock profile intervals cells cut 0 lock is at, refl)

-- so the chains of which the list is a piece agree from there on
pub chains_agree : (profile : Profile) (intervals : List ℕ) (one two : List Cell) (cut other lock : ℕ)
    → IsPiece profile intervals one cut
    → IsPiece profile intervals two other → IsLock profile intervals 0 lock
    → cells_from one cut intervals lock ≡ cells_from two other intervals lock
chains_agree profile intervals one two cut other lock is is_too at =
    ap (λ (s : Stretch). s.cells) (stretch_is_one profile intervals (stretch_of_piece one cut intervals lock)
    (stretch_of_piece two other intervals lock) refl (stretch_at_lock profile intervals one cut 0 lock is at)
    (stretch_at_lock profile intervals two other 0 lock is_too at))
