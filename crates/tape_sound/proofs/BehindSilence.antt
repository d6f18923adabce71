-- An interval before a tape that is no unequal pair with the first one changes nothing: the lock is one place later,
-- and the stretch is the same.
use Rattle.std.proofs.Common.{◌≡◌, ℕ, zero, suc, ◌+◌, ◌<◌, ◌≤◌, List, [], ◌∷◌, ◌++◌, length, take, drop, sum, map}
use Rattle.std.proofs.Common.{refl, ap, sym, subst, ◌∙◌, append-nil, add-one, Some, None, arith}
use Rattle.std.proofs.lemmas.List.Sums.{sum_by-cons}
use Rattle.std.specs.Prelude.{slice_index}
use Rattle.std.specs.List.{flat_map}
use Rattle.biphase.specs.declared.cell.Cell.{Cell}
use Rattle.biphase.specs.declared.cell.Cell.TheVariants.{Zero, One}
use Rattle.biphase.specs.declared.profile.Profile.{Profile}
use Rattle.biphase.specs.Latest.{Latest}
use Rattle.biphase.specs.KindLemmas.{chain_kinds}
use Rattle.biphase.specs.Chain.{flat, kept_of, IsChain}
use Rattle.cell_tracker.specs.ChainPiece.{IsPiece, cells_from, stretch_of_piece}
use Rattle.cell_tracker.specs.Lock.{IsLock, IsUnequalAt}
use Rattle.cell_tracker.specs.Stretch.{Stretch, AreStretches, IsBreak, IsChainFrom, IsStretch}
use Rattle.direction_reader.specs.declared.event.Event.{Event}
use Rattle.direction_reader.specs.ListEvents.{AreEvents, events_of_cells, events_of_stretch}
use Rattle.direction_reader.specs.Tape.{TellsTheTape}
use Rattle.tc_address.specs.declared.system.System.{System}
use Rattle.tape_sound.proofs.LaterEvents.{cells_later, later}

-- ---- the lock

at_next : (x : ℕ) (l : List ℕ) (k : ℕ) → slice_index (x ∷ l) (k + 1) ≡ slice_index l k
at_next x l k = ap (slice_index (x ∷ l)) (add-one k)

unequal_next : (profile : Profile) (x : ℕ) (l : List ℕ) (k : ℕ) → IsUnequalAt profile l k
    → IsUnequalAt profile (x ∷ l) (k + 1)
unequal_next profile x l k is =
    (let room = is.0 in omega arith, rw (at_next x l k, at_next x l (k + 1)) is.1)

unequal_before : (profile : Profile) (x : ℕ) (l : List ℕ) (k : ℕ) → IsUnequalAt profile (x ∷ l) (k + 1)
    → IsUnequalAt profile l k
unequal_before profile x l k is =
    (let room = is.0 in omega arith, rw (at_next x l k, at_next x l (k + 1)) at is.1)

-- the lock is one place later
pub later_lock : (profile : Profile) (x : ℕ) (l : List ℕ) (lock : ℕ) → ¬ IsUnequalAt profile (x ∷ l) 0
    → IsLock profile l 0 lock
    → IsLock profile (x ∷ l) 0 (lock + 1)
later_lock profile x l lock wild at = record {
  pair = at.pair + 1;
  within = omega arith;
  unequal = unequal_next profile x l at.pair at.unequal;
  none_before = none;
  rising = λ less. let rises = rw (at_next x l at.pair, at_next x l (at.pair + 1)) at less in
      ap (λ (k : ℕ). k + 1) (at.rising rises);
  falling = λ more. let falls = rw (at_next x l at.pair, at_next x l (at.pair + 1)) at more in
      ap (λ (k : ℕ). k + 1) (at.falling falls);
}
  where
    none : (k : ℕ) → 0 ≤ k → k < at.pair + 1 → ¬ IsUnequalAt profile (x ∷ l) k
    none zero some less = wild
    none (suc k) some less = λ is.
        at.none_before k (omega arith) (omega (arith, less))
        (unequal_before profile x l k (subst (IsUnequalAt profile (x ∷ l)) (sym (add-one k)) is))

-- ---- the stretch

-- what has no break has none wherever it ends
no_break : (profile : Profile) (kept : Latest) (after there : ℕ) (rest : List ℕ) → IsBreak profile kept after rest None
    → IsBreak profile kept there rest None
no_break profile kept after there [] is = refl
no_break profile kept after there (x ∷ []) is = (λ half. refl, λ no_half. absurd (none_some (is.1 no_half)))
  where
    none_some : None ≡ Some after → ⊥
    none_some e = absurd (cc)
no_break profile kept after there (x ∷ y ∷ rest) is = (
  λ half. absurd (none_some (after + 1) (is.0 half)),
  λ no_half.
      absurd (none_some after (is.1 no_half)),
)
  where
    none_some : (k : ℕ) → None ≡ Some k → ⊥
    none_some k e = absurd (cc)

-- chains from the one place are chains from the other
chain_later : (profile : Profile) (x : ℕ) (l : List ℕ) (lock : ℕ) (cells : List Cell)
    → IsChainFrom profile l lock cells → IsChainFrom profile (x ∷ l) (lock + 1) cells
chain_later profile x l lock cells is = record {
  first = (is.first.0, is.first.1 ∙ ap (λ (n : ℕ). Zero n ∷ is.first.0) (sym (at_next x l lock)));
  chain = is.chain;
  front = (is.front.0, ap (λ (k : ℕ). drop k (x ∷ l)) (add-one lock) ∙ is.front.1);
}

chain_sooner : (profile : Profile) (x : ℕ) (l : List ℕ) (lock : ℕ) (cells : List Cell)
    → IsChainFrom profile (x ∷ l) (lock + 1) cells → IsChainFrom profile l lock cells
chain_sooner profile x l lock cells is = record {
  first = (is.first.0, is.first.1 ∙ ap (λ (n : ℕ). Zero n ∷ is.first.0) (at_next x l lock));
  chain = is.chain;
  front = (is.front.0, sym (ap (λ (k : ℕ). drop k (x ∷ l)) (add-one lock)) ∙ is.front.1);
}

-- a stretch without a break
abbrev unbroken : ℕ → List Cell → Stretch
unbroken lock cells = record { lock = lock; cells = cells; broken_at = None }

stretch_later : (profile : Profile) (x : ℕ) (l : List ℕ) (lock : ℕ) (cells : List Cell)
    → IsStretch profile l (unbroken lock cells) → IsStretch profile (x ∷ l) (unbroken (lock + 1) cells)
stretch_later profile x l lock cells is =
    let end : ℕ = lock + length (flat cells) in
    let place : (lock + 1) + length (flat cells) ≡ suc end = omega arith in
    let there : drop ((lock + 1) + length (flat cells)) (x ∷ l) ≡ drop end l = ap (λ (k : ℕ). drop k (x ∷ l)) place in
    record {
      chain = chain_later profile x l lock cells is.chain;
      longest = λ others from. is.longest others (chain_sooner profile x l lock others from);
      broken = subst
          (λ (rest : List ℕ). IsBreak profile (kept_of profile cells) ((lock + 1) + length (flat cells)) rest None)
          (sym there)
          (no_break profile (kept_of profile cells) end ((lock + 1) + length (flat cells)) (drop end l) is.broken);
    }

-- ---- the events

-- what the laws say
pub record SilenceLaws : Type 0 where
  pub one : (profile : Profile) (intervals : List ℕ) (cells : List Cell) (cut lock : ℕ)
      → IsPiece profile intervals cells cut → IsLock profile intervals 0 lock
      → AreStretches profile intervals (stretch_of_piece cells cut intervals lock ∷ [])
  pub alike : (system : System) (profile : Profile) (intervals : List ℕ) (events others : List Event)
      → AreEvents system profile intervals events → AreEvents system profile intervals others → events ≡ others
  pub tell : (system : System) (profile : Profile) (intervals : List ℕ) (events : List Event)
      → AreEvents system profile intervals events → TellsTheTape system profile intervals events

-- behind an interval that is no unequal pair with the first one, the events are the same, later by it
pub events_behind : SilenceLaws → (system : System) (profile : Profile) (x : ℕ) (l : List ℕ) (tape : List Cell)
    (cut lock : ℕ) (events others : List Event) → IsPiece profile l tape cut → IsLock profile l 0 lock
    → ¬ IsUnequalAt profile (x ∷ l) 0 → AreEvents system profile l events → AreEvents system profile (x ∷ l) others
    → others ≡ map (later x) events
events_behind laws system profile x l tape cut lock events others piece at wild are are_too =
    let cells = cells_from tape cut l lock in
    let t : Stretch = unbroken (lock + 1) cells in
    let stretch = stretch_later profile x l lock cells (laws.one profile l tape cut lock piece at).1 in
    let list : List Event = flat_map (events_of_stretch system (x ∷ l)) (t ∷ []) in
    let there : AreEvents system profile (x ∷ l) list =
    (t ∷ [], (later_lock profile x l lock wild at, stretch, refl), refl) in
    let front : take (lock + 1) (x ∷ l) ≡ x ∷ take lock l = ap (λ (k : ℕ). take k (x ∷ l)) (add-one lock) in
    let tick : sum (take (lock + 1) (x ∷ l)) ≡ x + sum (take lock l) =
    ap sum front ∙ sum_by-cons (λ n. n) x (take lock l) in
    let said = (laws.tell system profile l events are).words tape cut lock piece at in
    laws.alike system profile (x ∷ l) others list are_too there
    ∙ append-nil (events_of_cells system (sum (take (lock + 1) (x ∷ l))) cells ++ [])
    ∙ append-nil (events_of_cells system (sum (take (lock + 1) (x ∷ l))) cells)
    ∙ ap (λ (n : ℕ). events_of_cells system n cells) tick
    ∙ cells_later x (sum (take lock l)) system cells
    ∙ ap (map (later x)) (sym said)

-- cells that begin with a zero and a one lock at once
pub first_lock : (profile : Profile) (c a b : ℕ) (more : List Cell) → IsChain profile (Zero c ∷ One a b ∷ more)
    → IsLock profile (flat (Zero c ∷ One a b ∷ more)) 0 0
first_lock profile c a b more chain =
    let kinds = chain_kinds profile (Zero c ∷ One a b ∷ more) chain in
    let falls = kinds.1.1 in
    record {
      pair = 0;
      within = omega arith;
      unequal = (omega arith, kinds.1.0);
      none_before = λ k some less. absurd (omega (arith, less));
      rising = λ rises. absurd (omega (arith, rises, falls));
      falling = λ falls_too. refl;
    }
