-- A state that stands for a piece of a chain has the one stretch of the piece: so its cells are a part of the chain,
-- and the piece ends behind the last of them, or inside the next one.
use Rattle.std.proofs.Common.{◌≡◌, ◌⊎◌, ℕ, ◌+◌, ◌-◌, ◌<◌, ◌≤◌, List, [], ◌∷◌, ◌++◌, length, drop, get_or, Some, IsSome}
use Rattle.std.proofs.Common.{All, inl, inr, refl, ap}
use Rattle.std.proofs.Common.{subst, sym, ◌∙◌, arith, length-append, append_assoc}
use Rattle.std.specs.Prelude.{⊤}
use Rattle.std.proofs.lemmas.Bool.{cases_lt, false≢true}
use Rattle.std.proofs.lemmas.List.{drop_at, drop_more}
use Rattle.std.proofs.lemmas.Option.{slice_get-get_or}
use Rattle.std.proofs.lemmas.Grind.{flat_map-append}
use Rattle.biphase.specs.declared.profile.Profile.{Profile}
use Rattle.biphase.specs.declared.cell.Cell.{Cell}
use Rattle.biphase.specs.declared.cell.Cell.TheVariants.{Zero, One}
use Rattle.biphase.specs.Latest.{Latest}
use Rattle.biphase.specs.Tolerance.{kept_at_lock, kept_next}
use Rattle.biphase.specs.Tolerance.{length_of}
use Rattle.biphase.specs.Chain.{intervals_of, flat, kept_after, kept_of}
use Rattle.biphase.specs.ToleranceLemmas.{last_at_lock, last_next}
use Rattle.cell_tracker.specs.ChainPiece.{IsPiece, cells_between, cells_from, stretch_of_piece}
use Rattle.cell_tracker.specs.Lock.{IsLock, HasNoLock}
use Rattle.cell_tracker.specs.PieceEnd.{StandsAtBoundary, StandsInsideOne}
use Rattle.cell_tracker.specs.StandsFor.{HuntingStandsFor, AtCellStandsFor, MidCellStandsFor, last_of}
use Rattle.cell_tracker.specs.State.{HuntingState, AtCellState, MidCellState}
use Rattle.cell_tracker.specs.Stretch.{Stretch, IsBroken, AreStretches, end_of}
use Rattle.cell_tracker.proofs.CellsOfAPiece.{ends_behind, lies_between, none_behind}
use Rattle.cell_tracker.proofs.KeptStretch.{cells_at_zero, kept_is_one_stretch, lock_is_zero, piece_from}
use Rattle.cell_tracker.proofs.OneStretch.{stretches_are_one}

-- ---- the cells that lie in a piece are a part of the chain

-- the next cell, if there is one, ends behind the piece
abbrev NextEndsBehind : ℕ → ℕ → List Cell → Type 0
NextEndsBehind high place [] = ⊤
NextEndsBehind high place (cell ∷ cells) = high < place + length (intervals_of cell)

record IsFront (high at : ℕ) (kept cells : List Cell) : Type 0 where
  rest : List Cell
  are : cells ≡ kept ++ rest
  next : NextEndsBehind high (at + length (flat kept)) rest

front_lies : (low high at : ℕ) (cells : List Cell) → low ≤ at → IsFront high at (cells_between low high at cells) cells
front_lies low high at [] begins = record { rest = []; are = refl; next = tt }
front_lies low high at (cell ∷ cells) begins =
    by_end (cases_lt high (at + length (intervals_of cell)))
    (front_lies low high (at + length (intervals_of cell)) cells (omega (arith, begins)))
  where
    end : ℕ
    end = at + length (intervals_of cell)

    by_end : (high < end) ⊎ (end ≤ high) → IsFront high end (cells_between low high end cells) cells
        → IsFront high at (cells_between low high at (cell ∷ cells)) (cell ∷ cells)
    by_end (inl behind) more =
        let none = ends_behind low high at cell cells begins behind
        ∙ none_behind low high end cells (omega arith) (omega (arith, behind)) in
        subst (λ (kept : List Cell). IsFront high at kept (cell ∷ cells)) (sym none)
        (record { rest = cell ∷ cells; are = refl; next = omega (arith, behind) })
    by_end (inr fits) more =
        let kept = cells_between low high end cells in
        let long = length-append (intervals_of cell) (flat kept) in
        let same : end + length (flat kept) ≡ at + length (flat (cell ∷ kept)) = omega (arith, long) in
        subst (λ (all : List Cell). IsFront high at all (cell ∷ cells))
        (sym (lies_between low high at cell cells begins fits)) (record {
          rest = more.rest;
          are = ap (λ (cs : List Cell). cell ∷ cs) more.are;
          next = subst (λ (n : ℕ). NextEndsBehind high n more.rest) same more.next;
        })

-- cells end with a last one, whose length is kept
record EndsWith (cells : List Cell) : Type 0 where
  front : List Cell
  cell : Cell
  are : cells ≡ front ++ cell ∷ []
  last_after : (profile : Profile) (c : Latest) → (kept_after profile c cells).last ≡ length_of cell
  last : (profile : Profile) → (kept_of profile cells).last ≡ length_of cell

ends_with : (first : Cell) (more : List Cell) → EndsWith (first ∷ more)
ends_with first [] = record {
  front = [];
  cell = first;
  are = refl;
  last_after = λ profile c. last_next profile c (length_of first);
  last = λ profile. last_at_lock profile (length_of first);
}
ends_with first (next ∷ more) =
    let rest = ends_with next more in
    record {
      front = first ∷ rest.front;
      cell = rest.cell;
      are = ap (λ (cs : List Cell). first ∷ cs) rest.are;
      last_after = λ profile c. rest.last_after profile (kept_next profile c (length_of first));
      last = λ profile. rest.last_after profile (kept_at_lock profile (length_of first));
    }

-- the cells of a piece from its lock on, with those of the chain before and behind them
record LieInChain (profile : Profile) (cells : List Cell) (cut lock : ℕ) (intervals : List ℕ) : Type 0 where
  before : List Cell
  cell : Cell
  rest : List Cell
  are : cells ≡ before ++ cell ∷ rest
  place : length (flat before) + length (intervals_of cell)
      ≡ cut + lock + length (flat (cells_from cells cut intervals lock))
  last : (kept_of profile (cells_from cells cut intervals lock)).last ≡ length_of cell
  next : NextEndsBehind (cut + length intervals) (cut + lock + length (flat (cells_from cells cut intervals lock))) rest

lie_in_chain : (profile : Profile) (intervals : List ℕ) (cells : List Cell) (cut lock : ℕ)
    → IsPiece profile intervals cells cut
    → IsLock profile intervals 0 lock → LieInChain profile cells cut lock intervals
lie_in_chain profile intervals cells cut lock is at =
    let zero_of = lock_is_zero profile intervals cells cut 0 lock is at in
    let x = zero_of.1.0 in
    let zero = zero_of.1.1 in
    let low = cut + lock in
    let high = cut + length intervals in
    let more = cells_between low high (low + 1) zero.after in
    let kept = cells_from cells cut intervals lock in
    let begins : kept ≡ Zero x ∷ more =
    cells_at_zero cells zero.before zero.after cut lock x intervals zero.are zero.place zero_of.0 in
    let front = front_lies low high (low + 1) zero.after (omega arith) in
    let end = ends_with (Zero x) more in
    let all : cells ≡ (zero.before ++ end.front) ++ end.cell ∷ front.rest =
    zero.are ∙ ap (λ (cs : List Cell). zero.before ++ Zero x ∷ cs) front.are
    ∙ ap (λ (cs : List Cell). zero.before ++ (cs ++ front.rest)) end.are
    ∙ ap (λ (cs : List Cell). zero.before ++ cs) (append_assoc end.front (end.cell ∷ []) front.rest)
    ∙ sym (append_assoc zero.before end.front (end.cell ∷ front.rest)) in
    let halves = ap length (flat_map-append intervals_of zero.before end.front) in
    let sum = length-append (flat zero.before) (flat end.front) in
    let spelled = ap (λ (cs : List Cell). length (flat cs)) end.are
    ∙ ap length (flat_map-append intervals_of end.front (end.cell ∷ [])) in
    let parts = length-append (flat end.front) (flat (end.cell ∷ [])) in
    let single = length-append (intervals_of end.cell) (flat []) in
    let place = zero.place in
    let length_kept = ap (λ (cs : List Cell). length (flat cs)) begins in
    let next : low + 1 + length (flat more) ≡ low + length (flat kept) = omega (arith, length_kept) in
    record {
      before = zero.before ++ end.front;
      cell = end.cell;
      rest = front.rest;
      are = all;
      place = omega (arith, halves, sum, spelled, parts, single, place, length_kept);
      last = ap (λ (cs : List Cell). (kept_of profile cs).last) begins ∙ end.last profile;
      next = subst (λ (n : ℕ). NextEndsBehind high n front.rest) next front.next;
    }

-- ---- the stretch of a state is that of the piece

record IsItsStretch (profile : Profile) (intervals : List ℕ) (cells : List Cell) (cut : ℕ)
    (stretch : Stretch) : Type 0 where
  lock : ℕ
  at : IsLock profile intervals 0 lock
  is : stretch ≡ stretch_of_piece cells cut intervals lock

-- of stretches that are the one of a piece each is it
first_is : (s t : Stretch) (more : List Stretch) → s ∷ more ≡ t ∷ [] → s ≡ t
first_is s t more e = cc

last_is : (earlier : List Stretch) (s t : Stretch) → earlier ++ s ∷ [] ≡ t ∷ [] → s ≡ t
last_is [] s t e = cc
last_is (r ∷ []) s t e = cc
last_is (r ∷ q ∷ earlier) s t e = cc

locked : (profile : Profile) (intervals : List ℕ) (cells : List Cell) (cut : ℕ) (s : Stretch) (more : List Stretch)
    → IsPiece profile intervals cells cut
    → AreStretches profile intervals (s ∷ more) → s ∷ more ≡ stretch_of_piece cells cut intervals s.lock ∷ []
locked profile intervals cells cut s more is are =
    stretches_are_one profile intervals 0 (s ∷ more) (stretch_of_piece cells cut intervals s.lock ∷ []) are
    (kept_is_one_stretch profile intervals cells cut s.lock is are.0)

its_stretch : (profile : Profile) (intervals : List ℕ) (cells : List Cell) (cut : ℕ) (earlier : List Stretch)
    (stretch : Stretch)
    → IsPiece profile intervals cells cut → AreStretches profile intervals (earlier ++ stretch ∷ [])
    → IsItsStretch profile intervals cells cut stretch
its_stretch profile intervals cells cut [] stretch is are =
    record {
      lock = stretch.lock;
      at = are.0;
      is = first_is stretch _ []
          (locked profile intervals cells cut stretch [] is are);
    }
its_stretch profile intervals cells cut (s ∷ earlier) stretch is are = record {
  lock = s.lock;
  at = are.0;
  is = last_is (s ∷ earlier) stretch _ (locked profile intervals cells cut s (earlier ++ stretch ∷ []) is are);
}

-- ---- the states

pub no_unequal_pair : (state : HuntingState) (intervals : List ℕ) (stretches : List Stretch) (cells : List Cell)
    (cut : ℕ)
    → HuntingStandsFor state intervals stretches → IsPiece state.profile intervals cells cut
    → HasNoLock state.profile intervals 0
no_unequal_pair state intervals stretches cells cut stands is =
    by_stretches stretches stands.stretches_are stands.all_broken
  where
    by_stretches : (ss : List Stretch) → AreStretches state.profile intervals ss → All IsBroken ss
        → HasNoLock state.profile intervals 0
    by_stretches [] are broken = are
    by_stretches (s ∷ more) are broken =
        let open_yet = ap (λ (t : Stretch). t.broken_at)
        (first_is s _ more (locked state.profile intervals cells cut s more is are)) in
        let some : IsSome s.broken_at = broken 0 s (omega arith) in
        absurd (false≢true (subst IsSome open_yet some))

pub at_boundary : (state : AtCellState) (intervals : List ℕ) (earlier : List Stretch) (stretch : Stretch)
    (cells : List Cell) (cut : ℕ)
    → AtCellStandsFor state intervals earlier stretch → IsPiece state.profile intervals cells cut
    → StandsAtBoundary state cells (cut + length intervals)
at_boundary state intervals earlier stretch cells cut stands is =
    let its = its_stretch state.profile intervals cells cut earlier stretch is stands.stretches_are in
    let lie = lie_in_chain state.profile intervals cells cut its.lock is its.at in
    let ends = sym (ap end_of its.is) ∙ stands.ends in
    let place = lie.place in
    record {
      before = lie.before;
      cell = lie.cell;
      after = lie.rest;
      are = lie.are;
      ends = omega (arith, place, ends);
      last = ap (λ (c : Latest). c.last) (sym stands.kept)
          ∙ ap (λ (s : Stretch). (kept_of state.profile s.cells).last) its.is ∙ lie.last;
    }

-- what is in the chain behind these cells is the last interval of the piece
half_there : (profile : Profile) (intervals : List ℕ) (cells : List Cell) (cut half : ℕ) (before rest : List Cell)
    (cell : Cell)
    → IsPiece profile intervals cells cut → last_of intervals ≡ Some half → cells ≡ before ++ cell ∷ rest
    → length (flat before) + length (intervals_of cell) + 1 ≡ cut + length intervals → 0 < length intervals
    → (more : List ℕ) × (flat rest ≡ half ∷ more)
half_there profile intervals cells cut half before rest cell is last are ends some =
    let k = length intervals - 1 in
    let x = get_or intervals k 0 in
    let same : x ≡ half = some_is x half (sym (slice_get-get_or intervals k 0 (omega (arith, some))) ∙ last) in
    let split : cells ≡ (before ++ cell ∷ []) ++ rest = are ∙ sym (append_assoc before (cell ∷ []) rest) in
    let flats = flat_map-append intervals_of (before ++ cell ∷ []) rest in
    let parts = ap length (flat_map-append intervals_of before (cell ∷ [])) in
    let sum = length-append (flat before) (flat (cell ∷ [])) in
    let single = length-append (intervals_of cell) (flat []) in
    let place : length (flat (before ++ cell ∷ [])) ≡ cut + k = omega (arith, parts, sum, single, ends, some) in
    let behind : drop (cut + k) (flat cells) ≡ flat rest =
    ap (λ (cs : List Cell). drop (cut + k) (flat cs)) split ∙ ap (drop (cut + k)) flats
    ∙ drop_at (flat (before ++ cell ∷ [])) (flat rest) (cut + k) place in
    let there = piece_from profile intervals cells cut k is (omega (arith, some)) in (
      drop (k + 1) intervals ++ is.part.0,
      sym behind ∙ there ∙ ap (λ (xs : List ℕ). xs ++ is.part.0) (drop_more intervals k 0 (omega (arith, some)))
          ∙ ap (λ (n : ℕ). n ∷ (drop (k + 1) intervals ++ is.part.0)) same,
    )
  where
    some_is : (a b : ℕ) → Some a ≡ Some b → a ≡ b
    some_is a b e = cc

-- a cell that ends behind the next place is a one
is_one : (half high : ℕ) (more : List ℕ) (rest : List Cell) → NextEndsBehind (high + 1) high rest
    → flat rest ≡ half ∷ more
    → (second : ℕ) × (after : List Cell) × (rest ≡ One half second ∷ after)
is_one half high more [] next there = cc
is_one half high more (Zero x ∷ after) next there = absurd (omega (arith, next))
is_one half high more (One a b ∷ after) next there =
    let first : a ≡ half = cc in
    (b, after, ap (λ (n : ℕ). One n b ∷ after) first)

pub inside_one : (state : MidCellState) (intervals : List ℕ) (earlier : List Stretch) (stretch : Stretch)
    (cells : List Cell) (cut : ℕ)
    → MidCellStandsFor state intervals earlier stretch → IsPiece state.profile intervals cells cut
    → StandsInsideOne state cells (cut + length intervals)
inside_one state intervals earlier stretch cells cut stands is =
    let its = its_stretch state.profile intervals cells cut earlier stretch is stands.stretches_are in
    let lie = lie_in_chain state.profile intervals cells cut its.lock is its.at in
    let ends : its.lock + length (flat (cells_from cells cut intervals its.lock)) + 1 ≡ length intervals =
    sym (ap (λ (s : Stretch). end_of s + 1) its.is) ∙ stands.ends in
    let place = lie.place in
    let end = cut + its.lock + length (flat (cells_from cells cut intervals its.lock)) in
    let one_more : cut + length intervals ≡ end + 1 = omega (arith, ends) in
    let there =
    half_there state.profile intervals cells cut state.half lie.before lie.rest lie.cell is stands.half lie.are
    (omega (arith, place, ends)) (omega (arith, ends)) in
    let one = is_one state.half end there.0 lie.rest (subst
    (λ (n : ℕ). NextEndsBehind n end lie.rest) one_more lie.next) there.1 in
    record {
      before = lie.before;
      cell = lie.cell;
      second = one.0;
      after = one.1;
      are = lie.are ∙ ap (λ (cs : List Cell). lie.before ++ lie.cell ∷ cs) one.2;
      ends = omega (arith, place, ends);
      last = ap (λ (c : Latest). c.last) (sym stands.kept)
          ∙ ap (λ (s : Stretch). (kept_of state.profile s.cells).last) its.is ∙ lie.last;
    }
