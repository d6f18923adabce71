-- Places and kinds of cells in the other order.
use Rattle.std.proofs.Common.{◌≡◌, ℕ, ◌+◌, ◌-◌, ◌<◌, ◌≤◌, List, [], ◌∷◌, ◌++◌, length, drop, get_or, reverse, map}
use Rattle.std.proofs.Common.{inl, inr, refl, ap, sym, ◌∙◌}
use Rattle.std.proofs.Common.{arith, append_assoc, length-append}
use Rattle.std.proofs.lemmas.Bool.{cases_lt, cases_order}
use Rattle.std.proofs.lemmas.List.{append-nil, drop_at, length-reverse, reverse-append, get_or-reverse}
use Rattle.std.proofs.lemmas.List.{map-append}
use Rattle.std.proofs.lemmas.Grind.{flat_map-append}
use Rattle.biphase.specs.declared.profile.Profile.{Profile}
use Rattle.biphase.specs.declared.cell.Cell.{Cell}
use Rattle.biphase.specs.declared.cell.Cell.TheVariants.{Zero}
use Rattle.biphase.specs.Chain.{intervals_of, flat, Kinds}
use Rattle.biphase.specs.ToleranceLemmas.{unequal_differ}
use Rattle.biphase.specs.Mirror.{mirror_of, mirrored}
use Rattle.biphase.specs.MirrorLemmas.{unequal_turned, front_kinds, mirrored_kinds, comparable_kinds}
use Rattle.biphase.specs.Zeros.{IsZeroAt}
use Rattle.cell_tracker.specs.ChainPiece.{IsPiece}
use Rattle.cell_tracker.specs.Lock.{IsLock, IsUnequalAt}
use Rattle.biphase.specs.ChainLemmas.{has_intervals}
use Rattle.cell_tracker.proofs.WhichShare.{lock_near}
use Rattle.cell_tracker.proofs.KeptStretch.{pair_has_zero}

-- ---- places in the other order

-- an unequal pair of the mirror is one of the recording
turned_back : (profile : Profile) (l : List ℕ) (k : ℕ) → IsUnequalAt profile (reverse l) k
    → (j : ℕ) × (j + k + 2 ≡ length l) × IsUnequalAt profile l j
    × (get_or l j 0 ≡ get_or (reverse l) (k + 1) 0) × (get_or l (j + 1) 0 ≡ get_or (reverse l) k 0)
turned_back profile l k at =
    let long = length-reverse l in
    let within : k + 1 < length l = omega (arith, at.0, long) in
    let j = length l - 2 - k in
    let first : length l - 1 - (k + 1) ≡ j = omega arith in
    let second : length l - 1 - k ≡ j + 1 = omega arith in
    let one : get_or l j 0 ≡ get_or (reverse l) (k + 1) 0 =
    ap (λ n. get_or l n 0) (sym first) ∙ sym (get_or-reverse l (k + 1) 0 within) in
    let two : get_or l (j + 1) 0 ≡ get_or (reverse l) k 0 =
    ap (λ n. get_or l n 0) (sym second) ∙ sym (get_or-reverse l k 0 (omega arith)) in
    (j, omega arith, (omega arith, rw (one, two) (unequal_turned profile _ _ at.1)), one, two)

-- the greater interval of the last unequal pair: a zero of the recording, where the mirror has its lock
pub last_zero : (profile : Profile) (l : List ℕ) (tape : List Cell) (cut first last : ℕ) → IsPiece profile l tape cut
    → (lock : IsLock profile l 0 first) → IsLock profile (reverse l) 0 last
    → (v : ℕ) × (v + last + 1 ≡ length l) × (first ≤ v) × ((x : ℕ) × IsZeroAt tape (cut + v) x)
last_zero profile l tape cut first last piece lock turned =
    let k = turned.pair in
    let back = turned_back profile l k turned.unequal in
    let j = back.0 in
    let a = get_or l j 0 in
    let b = get_or l (j + 1) 0 in
    let there = pair_has_zero profile l tape cut j piece back.2 in
    let near = lock_near profile l 0 first lock in
    let order : lock.pair ≤ j = elim (cases_lt j lock.pair) [
      | inl before ↦ absurd (lock.none_before j (omega arith) before back.2)
      | inr from ↦ from
    ] in
    elim (cases_order a b) [
      | inl same ↦ absurd (unequal_differ profile a b back.2.1 same)
      | inr (inl rises) ↦ (
          let at : last ≡ k = turned.falling (rw (← back.3, ← back.4) rises) in
          (j + 1, omega (arith, back.1), omega arith, (b, there.0 rises)))
      | inr (inr falls) ↦ (
          let at : last ≡ k + 1 = turned.rising (rw (← back.3, ← back.4) falls) in
          let before : first ≤ j = elim (cases_lt lock.pair j) [
            | inl earlier ↦ omega arith
            | inr same ↦ (
                let is : lock.pair ≡ j = omega arith in
                let here : get_or l lock.pair 0 ≡ a = ap (λ n. get_or l n 0) is in
                let next : get_or l (lock.pair + 1) 0 ≡ b = ap (λ n. get_or l (n + 1) 0) is in
                let there : first ≡ lock.pair = lock.falling (rw (here, next) falls) in
                omega arith)
          ] in
          (j, omega (arith, back.1), before, (a, there.1 falls)))
    ]

-- ---- the kinds

pub kinds_of_front : (profile : Profile) (one two : List Cell) → Kinds profile (one ++ two) → Kinds profile one
kinds_of_front profile [] two kinds = tt
kinds_of_front profile (cell ∷ one) two kinds = front_kinds profile cell one two kinds

pub kinds_mirrored : (profile : Profile) (cells : List Cell) → Kinds profile cells → Kinds profile (mirrored cells)
kinds_mirrored profile [] kinds = tt
kinds_mirrored profile (cell ∷ cells) kinds = mirrored_kinds profile cell cells kinds

-- a last zero is the first cell in the other order
pub mirrored_push : (cells : List Cell) (x : ℕ) → mirrored (cells ++ Zero x ∷ []) ≡ Zero x ∷ mirrored cells
mirrored_push cells x =
    ap (λ (cs : List Cell). reverse cs) (map-append mirror_of cells (Zero x ∷ []))
    ∙ reverse-append (map mirror_of cells) (Zero x ∷ [])

-- cells without an interval are none
no_cells : (cells : List Cell) → length (flat cells) ≡ 0 → cells ≡ []
no_cells [] none = refl
no_cells (cell ∷ cells) none = absurd (omega (
  arith,
  has_intervals cell,
  length-append (intervals_of cell) (flat cells),
  none,
))

-- of a list with these intervals, what is there in the other order
pub turned_there : (l one middle tail : List ℕ) (last : ℕ) → l ≡ one ++ (middle ++ tail) → length tail ≡ last
    → drop last (reverse l) ≡ reverse middle ++ reverse one
turned_there l one middle tail last are many =
    let joined : l ≡ (one ++ middle) ++ tail = are ∙ sym (append_assoc one middle tail) in
    ap (λ (xs : List ℕ). drop last (reverse xs)) joined
    ∙ ap (drop last) (reverse-append (one ++ middle) tail)
    ∙ drop_at (reverse tail) (reverse (one ++ middle)) last (length-reverse tail ∙ many)
    ∙ reverse-append one middle

-- where the mirror has the cells of the middle, from its first zero on
pub tells_cells : (profile : Profile) (x : ℕ) (mid after : List Cell) (rest : List ℕ)
    → Kinds profile (Zero x ∷ mirrored mid)
    → Kinds profile (Zero x ∷ after) → flat after ≡ flat (mirrored mid) ++ rest
    → (more : List Cell) × (after ≡ mirrored mid ++ more)
tells_cells profile x mid after rest kinds others same =
    elim (comparable_kinds profile (Zero x) (mirrored mid) after rest [] kinds others (sym same
    ∙ sym (append-nil (flat after)))) [
      | inl front ↦ front
      | inr (extra, is) ↦ (
          let fewer : length (flat (mirrored mid)) ≡ length (flat after) + length (flat extra) =
          ap (λ (cs : List Cell). length (flat cs)) is ∙ ap length (flat_map-append intervals_of after extra)
          ∙ length-append (flat after) (flat extra) in
          let none : extra ≡ [] =
          no_cells extra (omega (arith, fewer, ap length same, length-append (flat (mirrored mid)) rest)) in (
            [],
            sym (append-nil after) ∙ ap (λ (cs : List Cell). after ++ cs) (sym none) ∙ sym is
                ∙ sym (append-nil (mirrored mid)),
          ))
    ]
