-- An open stretch gains the cell that an interval completes, waits behind a first half, or breaks.
use Rattle.std.proofs.Common.{◌≡◌, ℕ, ◌+◌, ◌-◌, ◌≤◌, List, [], ◌∷◌, ◌++◌, length, drop, get_or, Some, None, inl, inr}
use Rattle.std.proofs.Common.{refl, ap, subst, sym}
use Rattle.std.proofs.Common.{◌∙◌, arith, length-append, MatchOption}
use Rattle.std.proofs.lemmas.List.{append-nil, drop_more, drop_all, length_push}
use Rattle.std.proofs.lemmas.List.Elements.{All-push}
use Rattle.biphase.specs.declared.profile.Profile.{Profile}
use Rattle.biphase.specs.declared.cell.Cell.{Cell}
use Rattle.biphase.specs.declared.cell.Cell.TheVariants.{Zero, One}
use Rattle.biphase.specs.Latest.{Latest}
use Rattle.biphase.specs.Tolerance.{kept_at_lock, kept_next}
use Rattle.biphase.specs.Tolerance.{length_of, IsNext, IsFirstHalf}
use Rattle.biphase.specs.Chain.{flat, intervals_of, kept_of, IsCell, IsNextZero, IsNextOne}
use Rattle.cell_tracker.proofs.Chains.{chain-append, chain_lasts, kept_of-push}
use Rattle.biphase.specs.ToleranceLemmas.{half_lasts, zero_is_no_half, half_or_not, zero_lasts, one_lasts}
use Rattle.cell_tracker.specs.Lock.{HasNoLock}
use Rattle.cell_tracker.specs.State.{AtCellState, MidCellState, search_from}
use Rattle.cell_tracker.specs.Stretch.{Stretch, IsBroken, end_of, IsBreak, IsStretch, AreStretches, with_cell}
use Rattle.cell_tracker.specs.Stretch.{with_break}
use Rattle.cell_tracker.specs.StandsFor.{HuntingStandsFor, AtCellStandsFor, MidCellStandsFor}
use Rattle.cell_tracker.proofs.BeginsAtTheLock.{last_of-push, last_at, none_past}
use Rattle.cell_tracker.proofs.LocalStretch.{NoneFits, stretch_from, locally, flat_push}
use Rattle.cell_tracker.proofs.StretchGrows.{there_push, last_grows, no_stretch, earlier_broken, last_is_stretch}

-- an open stretch at the end of a list gains the cell that the interval completes
gains : (profile : Profile) (intervals : List ℕ) (x : ℕ) (earlier : List Stretch) (stretch : Stretch) (cell : Cell)
    (rest : List ℕ)
    → drop (end_of stretch) intervals ≡ rest → rest ++ x ∷ [] ≡ intervals_of cell → stretch.broken_at ≡ None
    → (1 ≤ (kept_of profile stretch.cells).last → IsCell profile cell)
    → IsNext profile (kept_of profile stretch.cells) cell
    → AreStretches profile intervals (earlier ++ stretch ∷ [])
    → AreStretches profile (intervals ++ x ∷ []) (earlier ++ with_cell cell stretch ∷ [])
gains profile intervals x earlier stretch cell rest rest_is whole open_yet fits near are =
    last_grows profile intervals x earlier stretch (with_cell cell stretch) refl (λ is.
    let local = locally profile intervals stretch is in
    let first = get_or intervals stretch.lock 0 in
    let more = local.0 in
    let last : kept_of profile stretch.cells ≡ kept_of profile (Zero first ∷ more) =
    ap (kept_of profile) local.1.cells in
    let ticks : 1 ≤ (kept_of profile stretch.cells).last =
    rw last (chain_lasts profile first more local.1.ticks local.1.chain) in
    let near_too : IsNext profile (kept_of profile (Zero first ∷ more)) cell =
    subst (λ c. IsNext profile c cell) last near in
    let before : drop stretch.lock intervals ≡ first ∷ (flat more ++ rest) =
    local.1.there ∙ ap (λ xs. first ∷ (flat more ++ xs)) rest_is in
    stretch_from profile (intervals ++ x ∷ []) (with_cell cell stretch) first (more ++ cell ∷ []) [] (record {
      cells = ap (λ cells. cells ++ cell ∷ []) local.1.cells;
      ticks = local.1.ticks;
      chain = chain-append profile (kept_at_lock profile first) more (cell ∷ []) local.1.chain
          (fits ticks, near_too, tt);
      there = there_push intervals stretch.lock first x (flat more) rest before
          ∙ ap (λ xs. first ∷ (flat more ++ xs)) (whole ∙ sym (append-nil (intervals_of cell)))
          ∙ ap (λ xs. first ∷ xs) (sym (flat_push more cell []));
      none = tt;
      broken = open_yet;
    }))
    (subst (λ place. MatchOption place (no_stretch ≡ []) (HasNoLock profile (intervals ++ x ∷ [])))
    (sym open_yet) refl) are

-- or it keeps its cells, and waits or breaks
holds : (profile : Profile) (intervals : List ℕ) (x : ℕ) (earlier : List Stretch) (stretch new : Stretch)
    (rest : List ℕ)
    → drop (end_of stretch) intervals ≡ rest → new.lock ≡ stretch.lock → new.cells ≡ stretch.cells
    → (NoneFits profile (kept_of profile stretch.cells) rest
    → NoneFits profile (kept_of profile stretch.cells) (rest ++ x ∷ []))
    → IsBreak profile (kept_of profile stretch.cells) (end_of stretch) (rest ++ x ∷ []) new.broken_at
    → MatchOption new.broken_at (no_stretch ≡ []) (HasNoLock profile (intervals ++ x ∷ []))
    → AreStretches profile intervals (earlier ++ stretch ∷ [])
    → AreStretches profile (intervals ++ x ∷ []) (earlier ++ new ∷ [])
holds profile intervals x earlier stretch new rest rest_is lock cells none broken after are =
    last_grows profile intervals x earlier stretch new lock (λ is.
    let local = locally profile intervals stretch is in
    let first = get_or intervals stretch.lock 0 in
    let more = local.0 in
    let last : kept_of profile stretch.cells ≡ kept_of profile (Zero first ∷ more) =
    ap (kept_of profile) local.1.cells in
    let before : drop stretch.lock intervals ≡ first ∷ (flat more ++ rest) =
    local.1.there ∙ ap (λ xs. first ∷ (flat more ++ xs)) rest_is in
    let none_before : NoneFits profile (kept_of profile stretch.cells) rest =
    subst (λ c. NoneFits profile c rest) (sym last) (subst
    (NoneFits profile (kept_of profile (Zero first ∷ more))) rest_is local.1.none) in
    let end : end_of stretch ≡ end_of new =
    ap (λ n. n + length (flat stretch.cells)) (sym lock) ∙ ap (λ cells. new.lock + length (flat cells)) (sym cells) in
    stretch_from profile (intervals ++ x ∷ []) new first more (rest ++ x ∷ []) (record {
      cells = cells ∙ local.1.cells;
      ticks = local.1.ticks;
      chain = local.1.chain;
      there = ap (λ n. drop n (intervals ++ x ∷ [])) lock
          ∙ there_push intervals stretch.lock first x (flat more) rest before;
      none = subst (λ c. NoneFits profile c (rest ++ x ∷ [])) last (none none_before);
      broken = subst (λ c. IsBreak profile c (end_of new) (rest ++ x ∷ []) new.broken_at) last
          (subst (λ end. IsBreak profile (kept_of profile stretch.cells) end
          (rest ++ x ∷ []) new.broken_at) end broken);
    }))
    after are

-- the last cell of a stretch lasts a tick or more
stretch_lasts : (profile : Profile) (intervals : List ℕ) (stretch : Stretch) → IsStretch profile intervals stretch
    → 1 ≤ (kept_of profile stretch.cells).last
stretch_lasts profile intervals stretch is =
    let local = locally profile intervals stretch is in
    rw local.1.cells (chain_lasts profile _ local.0 local.1.ticks local.1.chain)

-- what is kept of a stretch with one cell more
kept_with : (profile : Profile) (intervals : List ℕ) (earlier : List Stretch) (stretch : Stretch) (cell : Cell)
    (latest : Latest)
    → AreStretches profile intervals (earlier ++ stretch ∷ []) → kept_of profile stretch.cells ≡ latest
    → kept_of profile (stretch.cells ++ cell ∷ []) ≡ kept_next profile latest (length_of cell)
kept_with profile intervals earlier stretch cell latest are kept =
    let local = locally profile intervals stretch (last_is_stretch profile intervals 0 earlier stretch are) in
    let first = Zero (get_or intervals stretch.lock 0) in
    ap (λ cells. kept_of profile (cells ++ cell ∷ [])) local.1.cells
    ∙ kept_of-push profile first local.0 cell
    ∙ ap (λ cells. kept_next profile (kept_of profile cells) (length_of cell)) (sym local.1.cells)
    ∙ ap (λ c. kept_next profile c (length_of cell)) kept

-- the place after a stretch with one cell more
end_of-with_cell : (stretch : Stretch) (cell : Cell)
    → end_of (with_cell cell stretch) ≡ end_of stretch + length (intervals_of cell)
end_of-with_cell stretch cell =
    omega (
      arith,
      ap length (sym (append-nil (flat (stretch.cells ++ cell ∷ []))) ∙ flat_push stretch.cells cell []),
      ap length (append-nil (intervals_of cell)),
      length-append (flat stretch.cells) (intervals_of cell ++ []),
    )

-- the stretch gains a zero
pub gains_zero : (state : AtCellState) (intervals : List ℕ) (earlier : List Stretch) (stretch : Stretch) (x : ℕ)
    → AtCellStandsFor state intervals earlier stretch
    → IsNextZero state.profile state.latest x
    → AtCellStandsFor (record { profile = state.profile; latest = kept_next state.profile state.latest x })
    (intervals ++ x ∷ []) earlier
    (with_cell (Zero x) stretch)
gains_zero state intervals earlier stretch x stands zero =
    let near : IsNextZero state.profile (kept_of state.profile stretch.cells) x = rw stands.kept zero in
    record {
      stretches_are =
          gains state.profile intervals x earlier stretch (Zero x) []
          (drop_all (end_of stretch) intervals (omega (arith, stands.ends))) refl stands.open_yet
          (λ ticks.
          zero_lasts state.profile (kept_of state.profile stretch.cells) x ticks near) near stands.stretches_are;
      open_yet = stands.open_yet;
      ends = omega (arith, end_of-with_cell stretch (Zero x), stands.ends, length_push intervals x);
      kept = kept_with state.profile intervals earlier stretch (Zero x) state.latest stands.stretches_are stands.kept;
    }

-- the interval may be a first half
pub waits : (state : AtCellState) (intervals : List ℕ) (earlier : List Stretch) (stretch : Stretch) (x : ℕ)
    → AtCellStandsFor state intervals earlier stretch
    → IsFirstHalf state.profile state.latest x
    → MidCellStandsFor (record { profile = state.profile; latest = state.latest; half = x })
    (intervals ++ x ∷ []) earlier stretch
waits state intervals earlier stretch x stands half =
    let half_too : IsFirstHalf state.profile (kept_of state.profile stretch.cells) x = rw stands.kept half in
    let lasts =
    stretch_lasts state.profile intervals stretch
    (last_is_stretch state.profile intervals 0 earlier stretch stands.stretches_are) in
    let ticks : 1 ≤ x = half_lasts state.profile (kept_of state.profile stretch.cells) x lasts half_too in
    record {
      stretches_are =
          holds state.profile intervals x earlier stretch stretch []
          (drop_all (end_of stretch) intervals (omega (arith, stands.ends))) refl refl
          (λ _ zero. zero_is_no_half state.profile (kept_of state.profile stretch.cells) x ticks zero half_too)
          (λ _. stands.open_yet, λ no_half. absurd (no_half half_too))
          (subst (λ place. MatchOption place (no_stretch ≡ []) (HasNoLock state.profile (intervals ++ x ∷ [])))
          (sym stands.open_yet) refl) stands.stretches_are;
      open_yet = stands.open_yet;
      ends = omega (arith, stands.ends, length_push intervals x);
      kept = stands.kept;
      half = last_of-push intervals x;
    }

-- the stretch breaks at the interval
pub breaks : (state : AtCellState) (intervals : List ℕ) (earlier : List Stretch) (stretch : Stretch) (x : ℕ)
    → AtCellStandsFor state intervals earlier stretch
    → ¬ IsNextZero state.profile state.latest x → ¬ IsFirstHalf state.profile state.latest x
    → HuntingStandsFor (search_from state.profile x) (intervals ++ x ∷ [])
    (earlier ++ with_break (length intervals) stretch ∷ [])
breaks state intervals earlier stretch x stands no_zero no_half = record {
  stretches_are =
      holds state.profile intervals x earlier stretch (with_break (length intervals) stretch) []
      (drop_all (end_of stretch) intervals (omega (arith, stands.ends))) refl refl
      (λ _ zero. no_zero (rw (← stands.kept) zero))
      (λ half. absurd (no_half (rw (← stands.kept) half)), λ _. ap Some (sym stands.ends))
      (none_past state.profile intervals x) stands.stretches_are;
  all_broken =
      All-push IsBroken earlier (with_break (length intervals) stretch)
      (earlier_broken state.profile intervals 0 earlier stretch stands.stretches_are) refl;
  before = sym (last_of-push intervals x);
}

-- the list has the waiting half behind the stretch
half_behind : (state : MidCellState) (intervals : List ℕ) (earlier : List Stretch) (stretch : Stretch)
    → MidCellStandsFor state intervals earlier stretch
    → drop (end_of stretch) intervals ≡ state.half ∷ []
half_behind state intervals earlier stretch stands =
    let there = last_at intervals state.half stands.half in
    let same : end_of stretch ≡ length intervals - 1 = omega (arith, stands.ends) in
    drop_more intervals (end_of stretch) 0 (omega (arith, stands.ends))
    ∙ ap (λ y. y ∷ drop (end_of stretch + 1) intervals) (ap (λ n. get_or intervals n 0) same ∙ there.1)
    ∙ ap (λ xs. state.half ∷ xs) (drop_all (end_of stretch + 1) intervals (omega (arith, stands.ends)))

-- it may be one, since the stretch is open
half_may_be : (state : MidCellState) (intervals : List ℕ) (earlier : List Stretch) (stretch : Stretch)
    → MidCellStandsFor state intervals earlier stretch
    → IsFirstHalf state.profile (kept_of state.profile stretch.cells) state.half
half_may_be state intervals earlier stretch stands =
    let is = last_is_stretch state.profile intervals 0 earlier stretch stands.stretches_are in
    let broken : IsBreak state.profile (kept_of state.profile stretch.cells) (end_of stretch)
    (state.half ∷ []) stretch.broken_at =
    subst (λ rest. IsBreak state.profile (kept_of state.profile stretch.cells) (end_of stretch) rest stretch.broken_at)
    (half_behind state intervals earlier stretch stands) is.broken in
    elim (half_or_not state.profile (kept_of state.profile stretch.cells) state.half) [
      | inl half ↦ half
      | inr no_half ↦ let there : stretch.broken_at ≡ Some (end_of stretch) =
          broken.1 no_half in let nowhere : stretch.broken_at ≡ None = stands.open_yet in cc
    ]

-- the stretch gains a one
pub gains_one : (state : MidCellState) (intervals : List ℕ) (earlier : List Stretch) (stretch : Stretch) (y : ℕ)
    → MidCellStandsFor state intervals earlier stretch
    → IsNextOne state.profile state.latest state.half y
    → AtCellStandsFor (record {
      profile = state.profile;
      latest =
          kept_next state.profile state.latest (state.half + y);
    }) (intervals ++ y ∷ []) earlier
    (with_cell (One state.half y) stretch)
gains_one state intervals earlier stretch y stands one =
    let one_too : IsNextOne state.profile (kept_of state.profile stretch.cells) state.half y = rw stands.kept one in
    record {
      stretches_are =
          gains state.profile intervals y earlier stretch (One state.half y) (state.half ∷ [])
          (half_behind state intervals earlier stretch stands) refl stands.open_yet
          (λ ticks. let lasts = one_lasts state.profile
          (kept_of state.profile stretch.cells) state.half y ticks one_too in
          (lasts.0, lasts.1, one_too.1)) one_too.0 stands.stretches_are;
      open_yet = stands.open_yet;
      ends = omega (arith, end_of-with_cell stretch (One state.half y), stands.ends, length_push intervals y);
      kept = kept_with state.profile intervals earlier stretch
          (One state.half y) state.latest stands.stretches_are stands.kept;
    }

-- the stretch breaks behind its waiting half
pub breaks_behind : (state : MidCellState) (intervals : List ℕ) (earlier : List Stretch) (stretch : Stretch) (y : ℕ)
    → MidCellStandsFor state intervals earlier stretch
    → ¬ IsNextOne state.profile state.latest state.half y
    → HuntingStandsFor (search_from state.profile y) (intervals ++ y ∷ [])
    (earlier ++ with_break (length intervals) stretch ∷ [])
breaks_behind state intervals earlier stretch y stands no_one = record {
  stretches_are =
      holds state.profile intervals y earlier stretch (with_break (length intervals) stretch) (state.half ∷ [])
      (half_behind state intervals earlier stretch stands) refl refl
      (λ none. (none, λ one. no_one (rw (← stands.kept) one)))
      (λ _. ap Some (sym stands.ends), λ no_half. absurd (no_half (half_may_be state intervals earlier stretch stands)))
      (none_past state.profile intervals y) stands.stretches_are;
  all_broken =
      All-push IsBroken earlier (with_break (length intervals) stretch)
      (earlier_broken state.profile intervals 0 earlier stretch stands.stretches_are) refl;
  before = sym (last_of-push intervals y);
}
