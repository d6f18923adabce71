-- Which stretches behind damage share a zero with the recording.
use Rattle.std.proofs.Common.{◌≡◌, ℕ, ◌+◌, ◌-◌, ◌<◌, ◌≤◌, List, [], ◌∷◌, ◌++◌, length, drop, get_or, Option}
use Rattle.std.proofs.Common.{Some, ◌⊎◌, inl, inr}
use Rattle.std.proofs.Common.{refl, ap, subst, sym, ◌∙◌, arith, length-append, length-drop}
use Rattle.std.proofs.Math.Seq.{drop-append-add}
use Rattle.std.proofs.lemmas.Bool.{cases_lt, cases_order}
use Rattle.std.proofs.lemmas.List.{drop_more, get_or-append-add}
use Rattle.biphase.specs.declared.profile.Profile.{Profile}
use Rattle.biphase.specs.declared.cell.Cell.{Cell}
use Rattle.biphase.specs.declared.cell.Cell.TheVariants.{Zero}
use Rattle.biphase.specs.Latest.{Latest}
use Rattle.biphase.specs.Tolerance.{LooksAtLast, kept_at_lock}
use Rattle.biphase.specs.Tolerance.{IsFirstHalf}
use Rattle.biphase.specs.Chain.{flat, kept_of}
use Rattle.biphase.specs.ToleranceLemmas.{chain_on, last_at_lock, unequal_differ}
use Rattle.biphase.specs.ToleranceLemmas.{half_or_not}
use Rattle.biphase.specs.Zeros.{IsZeroAt}
use Rattle.biphase.specs.ZeroLemmas.{greater_is_zero}
use Rattle.cell_tracker.specs.FoundAgain.{IsSecondLock}
use Rattle.cell_tracker.specs.ChainPiece.{IsPiece}
use Rattle.cell_tracker.specs.Lock.{IsLock, IsUnequalAt}
use Rattle.cell_tracker.specs.Stretch.{Stretch, end_of, IsBreak, IsStretch}
use Rattle.cell_tracker.proofs.KeptStretch.{piece_from, two_at, pair_has_zero, lock_is_zero}
use Rattle.cell_tracker.proofs.LocalStretch.{locally}
use Rattle.cell_tracker.proofs.StretchGrows.{end_within}
use Rattle.cell_tracker.proofs.LastHalf.{EndsIn, last_interval, no_half, zero_half_half}
use Rattle.cell_tracker.proofs.SharesAZero.{Shares}
use Rattle.cell_tracker.proofs.ShiftedPlaces.{in_stretch, one_of_front, shift_back, two_of_front}

-- ---- which stretches share a zero
-- a stretch over both intervals of an unequal pair of the recording shares its greater interval
over_pair : (profile : Profile) → LooksAtLast profile → (before kept : List ℕ) (tape : List Cell) (cut k : ℕ)
    (s : Stretch) → IsPiece profile kept tape cut
    → IsUnequalAt profile kept k → IsStretch profile (before ++ kept) s → s.lock ≤ length before + k
    → length before + k + 2 ≤ end_of s
    → (q : ℕ) × (q ≤ k + 1) × Shares tape cut (length before) s q
over_pair profile looks before kept tape cut k s piece at is begins ends =
    let n = length before in
    let a = get_or kept k 0 in
    let b = get_or kept (k + 1) 0 in
    let j = n + k - s.lock in
    let there : drop (n + k) (before ++ kept) ≡ a ∷ b ∷ drop (k + 1 + 1) kept = drop-append-add before kept k
    ∙ two_at kept k at.0 in
    let inside = in_stretch profile (before ++ kept) s j (n + k) is (omega arith) (omega arith) in
    let two = two_of_front (drop j (flat s.cells)) is.chain.front.0 a b _ (inside ∙ there)
    (omega (arith, length-drop j (flat s.cells))) in
    let mine = greater_is_zero profile s.cells j a b two.0 (chain_on profile looks s.cells is.chain.chain) two.1 at.1 in
    let theirs = pair_has_zero profile kept tape cut k piece at in
    elim (cases_order a b) [
      | inl same ↦ absurd (unequal_differ profile a b at.1 same)
      | inr (inl rises) ↦ (
          let z = mine.0 rises in (
            k + 1,
            omega arith,
            record {
              older = z.before;
              newer = z.after;
              x = b;
              are = z.are;
              place = omega (arith, z.place);
              y = b;
              zero_there = theirs.0 rises;
            },
          ))
      | inr (inr falls) ↦ (
          let z = mine.1 falls in (
            k,
            omega arith,
            record {
              older = z.before;
              newer = z.after;
              x = a;
              are = z.are;
              place = omega (arith, z.place);
              y = a;
              zero_there = theirs.1 falls;
            },
          ))
    ]

-- a stretch that begins at a zero of the recording shares it
at_zero : (profile : Profile) (before kept : List ℕ) (tape : List Cell) (cut q y : ℕ) (s : Stretch)
    → IsStretch profile (before ++ kept) s
    → s.lock ≡ length before + q → IsZeroAt tape (cut + q) y → Shares tape cut (length before) s q
at_zero profile before kept tape cut q y s is at zero_there =
    let local = locally profile (before ++ kept) s is in
    record {
      older = [];
      newer = local.0;
      x = get_or (before ++ kept) s.lock 0;
      are = local.1.cells;
      place = omega (arith, at);
      y = y;
      zero_there = zero_there;
    }

-- if a break is past a place, so is the end of the cells, or the interval at that place waits as a half
late_end : (profile : Profile) (c : Latest) (after : ℕ) (rest : List ℕ) (place : Option ℕ) (limit : ℕ)
    → IsBreak profile c after rest place
    → ((b : ℕ) → place ≡ Some b → limit < b) → limit + 1 < after + length rest
    → (limit < after) ⊎ ((after ≡ limit) × ((x : ℕ) × (more : List ℕ) × (rest ≡ x ∷ more) × IsFirstHalf profile c x))
late_end profile c after [] place limit broken late within = inl (omega arith)
late_end profile c after (x ∷ []) place limit broken late within = inl (omega arith)
late_end profile c after (x ∷ y ∷ rest) place limit broken late within =
    elim (half_or_not profile c x) [
      | inl half ↦ (
          let past : limit < after + 1 = late (after + 1) (broken.0 half) in
          elim (cases_lt limit after) [
            | inl before ↦ inl before
            | inr at ↦ inr (omega arith, (x, y ∷ rest, refl, half))
          ])
      | inr no_half ↦ inl (late after (broken.1 no_half))
    ]

-- no stretch waits with a half at the second interval of the first pair if the second pair begins there
no_wait : (profile : Profile) → LooksAtLast profile → (before kept : List ℕ) (tape : List Cell) (cut k x : ℕ)
    (more : List ℕ) (s : Stretch)
    → IsPiece profile kept tape cut → IsUnequalAt profile kept k → IsUnequalAt profile kept (k + 1)
    → IsStretch profile (before ++ kept) s → s.lock ≤ length before + k → end_of s ≡ length before + k + 1
    → drop (end_of s) (before ++ kept) ≡ x ∷ more → IsFirstHalf profile (kept_of profile s.cells) x → ⊥
no_wait profile looks before kept tape cut k x more s piece at next is begins ends waits half =
    let l = before ++ kept in
    let n = length before in
    let a = get_or kept k 0 in
    let b = get_or kept (k + 1) 0 in
    let d = get_or kept (k + 1 + 1) 0 in
    let j = n + k - s.lock in
    let local = locally profile l s is in
    let there : drop (n + k) l ≡ a ∷ drop (k + 1) kept = drop-append-add before kept k
    ∙ drop_more kept k 0 (omega (arith, at.0)) in
    let inside = in_stretch profile l s j (n + k) is (omega arith) (omega arith) in
    let one : drop j (flat s.cells) ≡ a ∷ [] =
    one_of_front (drop j (flat s.cells)) is.chain.front.0 a _ (inside ∙ there)
    (omega (arith, length-drop j (flat s.cells))) in
    let z = get_or l s.lock 0 in
    let last : EndsIn profile (kept_of profile s.cells).last a =
    subst (λ c. EndsIn profile c a) (ap (λ (cs : List Cell). (kept_of profile cs).last) (sym local.1.cells))
    (last_interval profile (kept_at_lock profile z) (Zero z) local.0 j a
    (last_at_lock profile z) local.1.ticks local.1.chain
    (ap (λ (cs : List Cell). drop j (flat cs)) (sym local.1.cells) ∙ one)) in
    let place : end_of s ≡ n + (k + 1) = omega (arith, ends) in
    let at_end : x ∷ more ≡ b ∷ drop (k + 1 + 1) kept =
    sym waits ∙ ap (λ i. drop i l) place ∙ drop-append-add before kept (k + 1) ∙ drop_more kept (k + 1) 0 at.0 in
    let same : x ≡ b = cc in
    elim (cases_order a b) [
      | inl equal ↦ unequal_differ profile a b at.1 equal
      | inr (inl rises) ↦ no_half profile looks (kept_of profile s.cells) a b last at.1 rises
          (subst (λ v. IsFirstHalf profile (kept_of profile s.cells) v) same half)
      | inr (inr falls) ↦ zero_half_half profile looks tape (cut + k) a b d _ piece.chain
          ((pair_has_zero profile kept tape cut k piece at).1 falls)
          (piece_from profile kept tape cut k piece (omega (arith, at.0))
          ∙ ap (λ (xs : List ℕ). xs ++ piece.part.0) (two_at kept k at.0 ∙ ap (λ (xs : List ℕ). a ∷ b ∷ xs)
          (drop_more kept (k + 1 + 1) 0 next.0))) at.1 next.1
    ]

-- a lock is one of the two places of its pair
pub lock_near : (profile : Profile) (l : List ℕ) (start lock : ℕ) (is : IsLock profile l start lock)
    → (is.pair ≤ lock) × (lock ≤ is.pair + 1)
lock_near profile l start lock is =
    elim (cases_order (get_or l is.pair 0) (get_or l (is.pair + 1) 0)) [
      | inl same ↦ absurd (unequal_differ profile _ _ is.unequal.1 same)
      | inr (inl rises) ↦ let at = is.rising rises in (omega arith, omega arith)
      | inr (inr falls) ↦ let at = is.falling falls in (omega arith, omega arith)
    ]

-- a stretch that is locked behind the first interval of the recording's first pair, and before its second pair, is
-- locked at the second interval, a zero
locked_behind : (profile : Profile) (before kept : List ℕ) (tape : List Cell) (cut second start : ℕ) (s : Stretch)
    (is2 : IsSecondLock profile kept second) → IsPiece profile kept tape cut
    → (lock : IsLock profile (before ++ kept) start s.lock)
    → IsStretch profile (before ++ kept) s → lock.pair < length before + is2.next.pair
    → length before + is2.lock.pair < s.lock
    → (q : ℕ) × (q ≤ second) × Shares tape cut (length before) s q
locked_behind profile before kept tape cut second start s is2 piece lock is early behind =
    let l = before ++ kept in
    let n = length before in
    let k = is2.lock.pair in
    let near = lock_near profile l start s.lock lock in
    let order = is2.next.within in
    let high = lock_near profile kept (k + 1) second is2.next in
    let p = lock.pair - n in
    let at : lock.pair ≡ n + p = omega arith in
    let unequal : IsUnequalAt profile kept p =
    shift_back profile before kept p (subst (λ i. IsUnequalAt profile l i) at lock.unequal) in
    elim (cases_lt k p) [
      | inl later ↦ absurd (is2.next.none_before p (omega arith) (omega arith) unequal)
      | inr at_first ↦ (
          let same : lock.pair ≡ n + k = omega arith in
          let a = get_or kept k 0 in
          let b = get_or kept (k + 1) 0 in
          let here : get_or l lock.pair 0 ≡ a = ap (λ i. get_or l i 0) same ∙ get_or-append-add before kept k 0 in
          let place : lock.pair + 1 ≡ n + (k + 1) = omega arith in
          let next : get_or l (lock.pair + 1) 0 ≡ b = ap (λ i. get_or l i 0) place
          ∙ get_or-append-add before kept (k + 1) 0 in
          elim (cases_order a b) [
            | inl equal ↦ absurd (unequal_differ profile a b is2.lock.unequal.1 equal)
            | inr (inl rises) ↦ (
              k + 1,
              omega arith,
              at_zero profile before kept tape cut (k + 1) b s is (omega arith)
                  ((pair_has_zero profile kept tape cut k piece is2.lock.unequal).0 rises),
            )
            | inr (inr falls) ↦ (
                let there : s.lock ≡ lock.pair = lock.falling (rw (here, next) falls) in
                absurd (omega arith))
          ])
    ]

-- a stretch that is locked before the recording's second pair, and does not break before it, shares a zero
pub shares_late : (profile : Profile) → LooksAtLast profile
    → (before kept : List ℕ) (tape : List Cell) (cut second start : ℕ) (s : Stretch)
    (is2 : IsSecondLock profile kept second) → IsPiece profile kept tape cut
    → (lock : IsLock profile (before ++ kept) start s.lock)
    → IsStretch profile (before ++ kept) s → lock.pair < length before + is2.next.pair
    → ((b : ℕ) → s.broken_at ≡ Some b → length before + is2.next.pair < b)
    → (q : ℕ) × (q ≤ second) × Shares tape cut (length before) s q
shares_late profile looks before kept tape cut second start s is2 piece lock is early late =
    let l = before ++ kept in
    let n = length before in
    let k = is2.lock.pair in
    let k2 = is2.next.pair in
    let order = is2.next.within in
    let high = lock_near profile kept (k + 1) second is2.next in
    let over : s.lock ≤ n + k → n + k + 2 ≤ end_of s → (q : ℕ) × (q ≤ second) × Shares tape cut n s q =
    λ begins ends.
    let found = over_pair profile looks before kept tape cut k s piece is2.lock.unequal is begins ends in
    (found.0, omega (arith, found.1), found.2) in
    elim (cases_lt (n + k) s.lock) [
      | inl behind ↦ locked_behind profile before kept tape cut second start s is2 piece lock is early behind
      | inr begins ↦ (
          let c = kept_of profile s.cells in
          let inside = end_within profile l s is in
          let second_in = is2.next.unequal.0 in
          let ends = late_end profile c (end_of s) (drop (end_of s) l) s.broken_at (n + k2) is.broken late
          (omega (arith, length-drop (end_of s) l, length-append before kept, inside, second_in)) in
          elim ends [
            | inl past ↦ over begins (omega arith)
            | inr (at, (x, more, waits, half)) ↦ elim (cases_lt (k + 1) k2) [
              | inl apart ↦ over begins (omega arith)
              | inr joined ↦ (
                  let same : k2 ≡ k + 1 = omega arith in
                  absurd (no_wait profile looks before kept tape cut k x more s piece is2.lock.unequal
                  (subst (λ i. IsUnequalAt profile kept i) same is2.next.unequal) is begins (omega arith) waits half))
            ]
          ])
    ]

-- a stretch whose pair is the recording's second one is locked at the zero of it
pub at_second : (profile : Profile) (before kept : List ℕ) (tape : List Cell) (cut second start : ℕ) (s : Stretch)
    (is2 : IsSecondLock profile kept second) → IsPiece profile kept tape cut
    → (lock : IsLock profile (before ++ kept) start s.lock)
    → IsStretch profile (before ++ kept) s → lock.pair ≡ length before + is2.next.pair
    → (q : ℕ) × (q ≤ second) × Shares tape cut (length before) s q
at_second profile before kept tape cut second start s is2 piece lock is same =
    let l = before ++ kept in
    let n = length before in
    let k = is2.next.pair in
    let a = get_or kept k 0 in
    let b = get_or kept (k + 1) 0 in
    let here : get_or l lock.pair 0 ≡ a = ap (λ i. get_or l i 0) same ∙ get_or-append-add before kept k 0 in
    let place : lock.pair + 1 ≡ n + (k + 1) = omega arith in
    let next : get_or l (lock.pair + 1) 0 ≡ b = ap (λ i. get_or l i 0) place
    ∙ get_or-append-add before kept (k + 1) 0 in
    let zero_of = lock_is_zero profile kept tape cut (is2.lock.pair + 1) second piece is2.next in
    let at : s.lock ≡ n + second = elim (cases_order a b) [
      | inl equal ↦ absurd (unequal_differ profile a b is2.next.unequal.1 equal)
      | inr (inl rises) ↦ (
          let mine = lock.rising (rw (here, next) rises) in
          let theirs = is2.next.rising rises in
          omega arith)
      | inr (inr falls) ↦ (
          let mine = lock.falling (rw (here, next) falls) in
          let theirs = is2.next.falling falls in
          omega arith)
    ] in
    (second, omega arith, at_zero profile before kept tape cut second zero_of.1.0 s is at zero_of.1.1)
