-- A lock, its longest chain and its break are each fixed by the list, so a list has one list of stretches.
use Rattle.std.proofs.Common.{◌≡◌, ◌≢◌, ℕ, ◌+◌, ◌≤◌, List, [], ◌∷◌, ◌++◌, length, get_or, Option, Some, None, inl, inr}
use Rattle.std.proofs.Common.{refl, ap, subst}
use Rattle.std.proofs.Common.{sym, ◌∙◌, arith, length-append, MatchOption}
use Rattle.std.proofs.lemmas.Bool.{cases_order}
use Rattle.std.proofs.lemmas.List.{append-nil, nil_from_length}
use Rattle.biphase.specs.declared.profile.Profile.{Profile}
use Rattle.biphase.specs.declared.cell.Cell.{Cell}
use Rattle.biphase.specs.declared.cell.Cell.TheVariants.{Zero}
use Rattle.biphase.specs.Latest.{Latest}
use Rattle.biphase.specs.Tolerance.{kept_at_lock}
use Rattle.biphase.specs.Chain.{Begins}
use Rattle.biphase.specs.ChainLemmas.{comparable_after}
use Rattle.biphase.specs.ToleranceLemmas.{half_or_not, unequal_differ}
use Rattle.cell_tracker.specs.Lock.{IsLock}
use Rattle.cell_tracker.specs.Stretch.{Stretch, IsBreak, IsStretch, AreStretchesFrom}
use Rattle.cell_tracker.proofs.LocalStretch.{locally, tail_is}

-- two first unequal pairs are one
pair_is_one : (profile : Profile) (intervals : List ℕ) (start lock other : ℕ) (is : IsLock profile intervals start lock)
    (is_too : IsLock profile intervals start other) → is.pair ≡ is_too.pair
pair_is_one profile intervals start lock other is is_too =
    elim (cases_order is.pair is_too.pair) [
      | inl same ↦ same
      | inr (inl before) ↦ absurd (is_too.none_before is.pair is.within before is.unequal)
      | inr (inr after) ↦ absurd (is.none_before is_too.pair is_too.within after is_too.unequal)
    ]

-- two locks from one place are one
pub lock_is_one : (profile : Profile) (intervals : List ℕ) (start lock other : ℕ) → IsLock profile intervals start lock
    → IsLock profile intervals start other → lock ≡ other
lock_is_one profile intervals start lock other is is_too =
    let same : is.pair ≡ is_too.pair = pair_is_one profile intervals start lock other is is_too in
    let here = get_or intervals is.pair 0 in
    let next = get_or intervals (is.pair + 1) 0 in
    let here_too : here ≡ get_or intervals is_too.pair 0 = ap (λ k. get_or intervals k 0) same in
    let next_too : next ≡ get_or intervals (is_too.pair + 1) 0 = ap (λ k. get_or intervals (k + 1) 0) same in
    let differ : here ≢ next = unequal_differ profile here next is.unequal.1 in
    elim (cases_order here next) [
      | inl equal ↦ absurd (differ equal)
      | inr (inl rises) ↦ is.rising rises ∙ ap (λ k. k + 1) same
          ∙ sym (is_too.rising (rw (← here_too, ← next_too) rises))
      | inr (inr falls) ↦ is.falling falls ∙ same ∙ sym (is_too.falling (rw (← here_too, ← next_too) falls))
    ]

-- a front that is as long as the list is the list
pub front_is : (one two : List Cell) → Begins one two → length two ≤ length one → one ≡ two
front_is one two (rest, is) long =
    let none : rest ≡ [] = nil_from_length rest (omega (arith, ap length is, length-append one rest)) in
    sym (is ∙ ap (λ xs. one ++ xs) none ∙ append-nil one)

-- two breaks of one stretch are one
pub break_is_one : (profile : Profile) (c : Latest) (after : ℕ) (rest : List ℕ) (place other : Option ℕ)
    → IsBreak profile c after rest place
    → IsBreak profile c after rest other → place ≡ other
break_is_one profile c after [] place other is is_too = is ∙ sym is_too
break_is_one profile c after (x ∷ []) place other is is_too =
    elim (half_or_not profile c x) [
      | inl half ↦ is.0 half ∙ sym (is_too.0 half)
      | inr no_half ↦ is.1 no_half
          ∙ sym (is_too.1 no_half)
    ]
break_is_one profile c after (x ∷ y ∷ rest) place other is is_too =
    elim (half_or_not profile c x) [
      | inl half ↦ is.0 half ∙ sym (is_too.0 half)
      | inr no_half ↦ is.1 no_half
          ∙ sym (is_too.1 no_half)
    ]

-- a stretch by its parts
abbrev stretch_of : ℕ → List Cell → Option ℕ → Stretch
stretch_of lock cells place = record { lock = lock; cells = cells; broken_at = place }

-- two longest chains from one lock are one
cells_are_one : (profile : Profile) (intervals : List ℕ) (lock : ℕ) (cells others : List Cell) (place other : Option ℕ)
    → IsStretch profile intervals (stretch_of lock cells place)
    → IsStretch profile intervals (stretch_of lock others other) → cells ≡ others
cells_are_one profile intervals lock cells others place other is is_too =
    let one = locally profile intervals (stretch_of lock cells place) is in
    let two = locally profile intervals (stretch_of lock others other) is_too in
    let first = get_or intervals lock 0 in
    let fewer : length cells ≤ length others = is_too.longest cells is.chain in
    let more : length others ≤ length cells = is.longest others is_too.chain in
    elim (comparable_after profile (kept_at_lock profile first) one.0 two.0 _ _ one.1.chain two.1.chain
    (tail_is (sym one.1.there ∙ two.1.there))) [
      | inl front ↦ one.1.cells ∙ ap (λ xs. Zero first ∷ xs)
          (front_is one.0 two.0 front (omega (arith, more, ap length one.1.cells, ap length two.1.cells)))
          ∙ sym two.1.cells
      | inr front ↦ one.1.cells ∙ ap (λ xs. Zero first ∷ xs)
          (sym (front_is two.0 one.0 front (omega (arith, fewer, ap length one.1.cells, ap length two.1.cells))))
          ∙ sym two.1.cells
    ]

-- two stretches at one lock are one
pub stretch_is_one : (profile : Profile) (intervals : List ℕ) (stretch other : Stretch) → stretch.lock ≡ other.lock
    → IsStretch profile intervals stretch → IsStretch profile intervals other → stretch ≡ other
stretch_is_one profile intervals stretch other lock is is_too =
    let at_lock : IsStretch profile intervals (stretch_of stretch.lock other.cells other.broken_at) =
    subst (λ k. IsStretch profile intervals (stretch_of k other.cells other.broken_at)) (sym lock) is_too in
    let cells : stretch.cells ≡ other.cells =
    cells_are_one profile intervals stretch.lock stretch.cells other.cells stretch.broken_at other.broken_at is
    at_lock in
    let with_cells : IsStretch profile intervals (stretch_of stretch.lock stretch.cells other.broken_at) =
    subst (λ xs. IsStretch profile intervals (stretch_of stretch.lock xs other.broken_at)) (sym cells) at_lock in
    let place : stretch.broken_at ≡ other.broken_at =
    break_is_one profile _ _ _ stretch.broken_at other.broken_at is.broken with_cells.broken in
    ap (λ k. stretch_of k stretch.cells stretch.broken_at) lock
    ∙ ap (λ xs. stretch_of other.lock xs stretch.broken_at) cells
    ∙ ap (λ o. stretch_of other.lock other.cells o) place

-- what follows one break is one list
rest_is_one : (profile : Profile) (intervals : List ℕ) (place : Option ℕ) (more others : List Stretch)
    → ((start : ℕ) → AreStretchesFrom profile intervals start more → AreStretchesFrom profile intervals start others
    → more ≡ others)
    → MatchOption place (more ≡ []) (λ start. AreStretchesFrom profile intervals start more)
    → MatchOption place (others ≡ []) (λ start. AreStretchesFrom profile intervals start others) → more ≡ others
rest_is_one profile intervals None more others one is is_too = is ∙ sym is_too
rest_is_one profile intervals (Some start) more others one is is_too = one start is is_too

-- a list has one list of stretches from a place
pub stretches_are_one : (profile : Profile) (intervals : List ℕ) (start : ℕ) (stretches others : List Stretch)
    → AreStretchesFrom profile intervals start stretches → AreStretchesFrom profile intervals start others
    → stretches ≡ others
stretches_are_one profile intervals start [] [] are are_too = refl
stretches_are_one profile intervals start [] (other ∷ others) are are_too =
    absurd (are are_too.0.pair are_too.0.within are_too.0.unequal)
stretches_are_one profile intervals start (stretch ∷ more) [] are are_too =
    absurd (are_too are.0.pair are.0.within are.0.unequal)
stretches_are_one profile intervals start (stretch ∷ more) (other ∷ others) are are_too =
    let same : stretch ≡ other =
    stretch_is_one profile intervals stretch other
    (lock_is_one profile intervals start stretch.lock other.lock are.0 are_too.0) are.1 are_too.1 in
    let after : MatchOption stretch.broken_at (others ≡ []) (λ place. AreStretchesFrom profile intervals place others) =
    subst (λ one. MatchOption one.broken_at (others ≡ []) (λ place. AreStretchesFrom profile intervals place others))
    (sym same) are_too.2 in
    let tail : more ≡ others =
    rest_is_one profile intervals stretch.broken_at more others
    (λ place is is_too. stretches_are_one profile intervals place more others is is_too) are.2 after in
    ap (λ one. one ∷ more) same ∙ ap (λ xs. other ∷ xs) tail
