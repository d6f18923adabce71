-- What a state answers to an interval is what the interval does to the tracker.
use Rattle.std.proofs.Common.{◌≡◌, ℕ, ◌+◌, List, length, refl, sym, ◌∙◌, ap, subst, Some, None, Option, ◌-◌, true}
use Rattle.std.proofs.Common.{false, arith}
use Rattle.biphase.specs.ToleranceLemmas.{last_at_lock, last_next}
use Rattle.biphase.specs.Latest.{Latest}
use Rattle.biphase.specs.declared.cell.Cell.TheVariants as cells
use Rattle.biphase.specs.declared.profile.Profile.{Profile}
use Rattle.cell_tracker.specs.Answer.{KeepsOfHunting, KeepsOfAtCell, KeepsOfMidCell}
use Rattle.cell_tracker.specs.State.{HuntingState, AtCellState, MidCellState, AtCellHeld, MidCellHeld, at_cell_with}
use Rattle.cell_tracker.specs.State.{mid_cell_with}
use Rattle.cell_tracker.specs.Stretch.{Stretch, begun}
use Rattle.cell_tracker.specs.StandsFor.{HuntingStandsFor, AtCellStandsFor, MidCellStandsFor}
use Rattle.cell_tracker.specs.StandsFor.{StandsAfterHunting, StandsAfterAtCell, StandsAfterMidCell}
use Rattle.cell_tracker.specs.declared.at_cell.FromAtCell.{FromAtCell}
use Rattle.cell_tracker.specs.declared.at_cell.FromAtCell.TheVariants as from_at
use Rattle.cell_tracker.specs.declared.hunting.FromHunting.{FromHunting}
use Rattle.cell_tracker.specs.declared.hunting.FromHunting.TheVariants.{Hunt, StartAt, StartMid, StartBroken}
use Rattle.cell_tracker.specs.declared.mid_cell.FromMidCell.{FromMidCell}
use Rattle.cell_tracker.specs.declared.mid_cell.FromMidCell.TheVariants as from_mid
use Rattle.direction_reader.specs.KeptStep.{IsStepped}
use Rattle.direction_reader.specs.Tracking.{AtCell, MidCell, Hunting}
use Rattle.direction_reader.specs.declared.state.Step.TheVariants.{Nothing, FirstZero, ZeroBefore, Break}
use Rattle.direction_reader.specs.declared.state.Step.TheVariants as steps
use Rattle.direction_reader.specs.StandsFor.{TrackerStandsFor, StandsAfter}

-- what each state says of the lists of intervals
abbrev HuntingMeans : HuntingState → FromHunting → Latest → ℕ → Type 0
HuntingMeans h from four x = (l : List ℕ) (es : List Stretch) → HuntingStandsFor h l es → StandsAfterHunting from four
    x l es

abbrev AtCellMeans : AtCellState → FromAtCell → Latest → ℕ → Type 0
AtCellMeans a from four x = (l : List ℕ) (es : List Stretch) (s : Stretch)
    → AtCellStandsFor a l es s → StandsAfterAtCell from four x l es s

abbrev MidCellMeans : MidCellState → FromMidCell → Latest → ℕ → Type 0
MidCellMeans m from four x = (l : List ℕ) (es : List Stretch) (s : Stretch)
    → MidCellStandsFor m l es s → StandsAfterMidCell from four x l es s

-- ---- the search

hunt_means : (h n : HuntingState) (four : Latest) (x : ℕ) → HuntingMeans h (Hunt n) four x
    → (l : List ℕ) (es : List Stretch) (o : Option Stretch)
    → TrackerStandsFor (Hunting h) l es o → StandsAfter (Hunting h) (Hunting n) x l es o Nothing
hunt_means h n four x means l es None is = (means l es is, λ some. cc)
hunt_means h n four x means l es (Some s) is = absurd is

pub hunt : (h n : HuntingState) (four : Latest) (x : ℕ) → KeepsOfHunting h x (Hunt n) four
    → HuntingMeans h (Hunt n) four x
    → IsStepped (Hunting h) x (Hunting n) Nothing
hunt h n four x keeps means = record {
  steps = ap (λ (s : HuntingState). s.before) keeps;
  profile = ap (λ (s : HuntingState). s.profile) keeps;
  stands = hunt_means h n four x means;
}

-- the stretch began with the interval before
broken_means : (h n : HuntingState) (four : Latest) (x first : ℕ) → HuntingMeans h (StartBroken n first) four x
    → h.before ≡ Some first → (l : List ℕ) (es : List Stretch) (o : Option Stretch)
    → TrackerStandsFor (Hunting h) l es o → StandsAfter (Hunting h) (Hunting n) x l es o Break
broken_means h n four x first means before l es None is =
    (begun (length l - 1) first, (first, sym is.before ∙ before, refl), means l es is)
broken_means h n four x first means before l es (Some s) is = absurd is

pub start_broken : (h n : HuntingState) (four : Latest) (x first : ℕ) → KeepsOfHunting h x (StartBroken n first) four
    → HuntingMeans h (StartBroken n first) four x → IsStepped (Hunting h) x (Hunting n) Break
start_broken h n four x first keeps means = record {
  steps = ap (λ (s : HuntingState). s.before) keeps.1;
  profile = ap (λ (s : HuntingState). s.profile) keeps.1;
  stands = broken_means h n four x first means keeps.0;
}

-- ---- a state that ends in what is held of it

at_means : (h : HuntingState) (a : AtCellHeld) (four : Latest) (x : ℕ) → HuntingMeans h (StartAt a) four x
    → (l : List ℕ) (es : List Stretch) (o : Option Stretch) → TrackerStandsFor (Hunting h) l es o
    → StandsAfter (Hunting h) (AtCell (at_cell_with a four)) x l es o FirstZero
at_means h a four x means l es None is = (refl, refl, means l es is)
at_means h a four x means l es (Some s) is = absurd is

-- a state that is held with this profile and this number
same_at : (a : AtCellHeld) (profile : Profile) (reference : ℕ) → a.profile ≡ profile → reference ≡ a.reference
    → a ≡ record { profile = profile; reference = reference }
same_at a profile reference one two = rw (← one, two) refl

same_mid : (m : MidCellHeld) (profile : Profile) (reference half : ℕ) → m.profile ≡ profile → reference ≡ m.reference
    → half ≡ m.half → m ≡ record { profile = profile; reference = reference; half = half }
same_mid m profile reference half one two three = rw (← one, two, three) refl

pub start_at : (h : HuntingState) (a : AtCellHeld) (four : Latest) (x : ℕ) (reference : ℕ) (profile : Profile)
    → h.profile ≡ profile
    → reference ≡ a.reference → KeepsOfHunting h x (StartAt a) four → HuntingMeans h (StartAt a) four x
    → IsStepped (Hunting h) x (AtCell (at_cell_with (record { profile = profile; reference = reference }) four))
    FirstZero
start_at h a four x reference profile its is keeps means =
    let same = same_at a profile reference (ap (λ (held : AtCellHeld). held.profile) keeps.held_is ∙ its) is in
    subst (λ (held : AtCellHeld). IsStepped (Hunting h) x (AtCell (at_cell_with held four)) FirstZero) same (record {
      steps = ap (λ (s : AtCellState). s.latest.last) keeps.with_four ∙ last_at_lock h.profile x;
      profile = ap (λ (s : AtCellState). s.profile) keeps.with_four;
      stands = at_means h a four x means;
    })

mid_means : (h : HuntingState) (m : MidCellHeld) (four : Latest) (x first : ℕ)
    → KeepsOfHunting h x (StartMid m first) four
    → HuntingMeans h (StartMid m first) four x → (l : List ℕ) (es : List Stretch) (o : Option Stretch)
    → TrackerStandsFor (Hunting h) l es o
    → StandsAfter (Hunting h) (MidCell (mid_cell_with m four)) x l es o (ZeroBefore first)
mid_means h m four x first keeps means l es None is =
    (refl, sym is.before ∙ keeps.0, ap (λ (s : MidCellState). s.half) keeps.1.with_four, means l es is)
mid_means h m four x first keeps means l es (Some s) is = absurd is

pub start_mid : (h : HuntingState) (m : MidCellHeld) (four : Latest) (x first reference half : ℕ) (profile : Profile)
    → h.profile ≡ profile
    → reference ≡ m.reference → half ≡ m.half → KeepsOfHunting h x (StartMid m first) four
    → HuntingMeans h (StartMid m first) four x
    → IsStepped (Hunting h) x (MidCell (mid_cell_with (record {
      profile = profile;
      reference = reference;
      half = half;
    }) four)) (ZeroBefore first)
start_mid h m four x first reference half profile its is waits keeps means =
    let same = same_mid m profile reference half (ap (λ (held : MidCellHeld). held.profile) keeps.1.held_is ∙ its) is
    waits in
    subst (λ (held : MidCellHeld). IsStepped (Hunting h) x (MidCell (mid_cell_with held four)) (ZeroBefore first)) same
    (record {
      steps = (keeps.0, ap (λ (s : MidCellState). s.half) keeps.1.with_four);
      profile = ap (λ (s : MidCellState). s.profile) keeps.1.with_four;
      stands = mid_means h m four x first keeps means;
    })

-- ---- the end of a cell

zero_means : (a : AtCellState) (n : AtCellHeld) (four : Latest) (x : ℕ) → AtCellMeans a (from_at.Zero n) four x
    → (l : List ℕ) (es : List Stretch) (o : Option Stretch) → TrackerStandsFor (AtCell a) l es o
    → StandsAfter (AtCell a) (AtCell (at_cell_with n four)) x l es o (steps.Cell false)
zero_means a n four x means l es None is = absurd is
zero_means a n four x means l es (Some s) is = (s, cells.Zero x, refl, refl, omega arith, refl, means l es s is)

pub zero_ends : (a held : AtCellHeld) (before : Latest) (n : AtCellHeld) (four : Latest) (x reference : ℕ) → a ≡ held
    → reference ≡ n.reference → KeepsOfAtCell (at_cell_with a before) x (from_at.Zero n) four
    → AtCellMeans (at_cell_with a before) (from_at.Zero n) four x
    → IsStepped (AtCell (at_cell_with held before)) x
    (AtCell (at_cell_with (record { profile = held.profile; reference = reference }) four)) (steps.Cell false)
zero_ends a held before n four x reference its is keeps means =
    let same = same_at n a.profile reference (ap (λ (held : AtCellHeld). held.profile) keeps.held_is) is in
    rw (← its) (subst (λ (next : AtCellHeld). IsStepped (AtCell (at_cell_with a before)) x (AtCell (at_cell_with next
    four)) (steps.Cell false))
    same (record {
      steps = (
        refl,
        ap (λ (s : AtCellState). s.latest.last) keeps.with_four ∙ last_next a.profile (at_cell_with a
            before).latest x,
      );
      profile = ap (λ (s : AtCellState). s.profile) keeps.with_four;
      stands = zero_means (at_cell_with a before) n four x means;
    }))

half_means : (a : AtCellState) (n : MidCellHeld) (four : Latest) (x : ℕ) → n.half ≡ x
    → AtCellMeans a (from_at.Half n) four x → (l : List ℕ) (es : List Stretch) (o : Option Stretch)
    → TrackerStandsFor (AtCell a) l es o
    → StandsAfter (AtCell a) (MidCell (mid_cell_with n four)) x l es o Nothing
half_means a n four x waits means l es None is = absurd is
half_means a n four x waits means l es (Some s) is = (means l es s is, λ some. omega (arith, waits))

pub half_waits : (a held : AtCellHeld) (before : Latest) (n : MidCellHeld) (four : Latest) (x reference half : ℕ)
    → a ≡ held
    → reference ≡ n.reference → half ≡ n.half → KeepsOfAtCell (at_cell_with a before) x (from_at.Half n) four
    → AtCellMeans (at_cell_with a before) (from_at.Half n) four x
    → IsStepped (AtCell (at_cell_with held before)) x
    (MidCell (mid_cell_with (record { profile = held.profile; reference = reference; half = half }) four)) Nothing
half_waits a held before n four x reference half its is waits keeps means =
    let same = same_mid n a.profile reference half (ap (λ (held : MidCellHeld). held.profile) keeps.held_is) is waits in
    let same_half = ap (λ (s : MidCellState). s.half) keeps.with_four in
    rw (← its) (subst (λ (next : MidCellHeld). IsStepped (AtCell (at_cell_with a before)) x (MidCell (mid_cell_with
    next four)) Nothing)
    same (record {
      steps = same_half;
      profile = ap (λ (s : MidCellState). s.profile) keeps.with_four;
      stands = half_means (at_cell_with a before) n four x same_half means;
    }))

-- ---- inside a one

one_means : (m : MidCellState) (n : AtCellHeld) (four : Latest) (x first second : ℕ) → first ≡ m.half → second ≡ x
    → MidCellMeans m (from_mid.One n first second) four x
    → (l : List ℕ) (es : List Stretch) (o : Option Stretch) → TrackerStandsFor (MidCell m) l es o
    → StandsAfter (MidCell m) (AtCell (at_cell_with n four)) x l es o (steps.Cell true)
one_means m n four x first second a b means l es None is = absurd is
one_means m n four x first second a b means l es (Some s) is =
    (s, cells.One first second, refl, refl, rw (a, b) refl, refl, means l es s is)

pub one_ends : (m held : MidCellHeld) (before : Latest) (n : AtCellHeld) (four : Latest) (x first second reference : ℕ)
    → m ≡ held
    → reference ≡ n.reference → KeepsOfMidCell (mid_cell_with m before) x (from_mid.One n first second) four
    → MidCellMeans (mid_cell_with m before) (from_mid.One n first second) four x
    → IsStepped (MidCell (mid_cell_with held before)) x
    (AtCell (at_cell_with (record { profile = held.profile; reference = reference }) four)) (steps.Cell true)
one_ends m held before n four x first second reference its is keeps means =
    let same = same_at n m.profile reference (ap (λ (held : AtCellHeld). held.profile) keeps.2.held_is) is in
    rw (← its) (subst (λ (next : AtCellHeld). IsStepped (MidCell (mid_cell_with m before)) x (AtCell (at_cell_with next
    four)) (steps.Cell true))
    same (record {
      steps = (
        refl,
        ap (λ (s : AtCellState). s.latest.last) keeps.2.with_four
            ∙ last_next m.profile (mid_cell_with m before).latest (m.half + x),
      );
      profile = ap (λ (s : AtCellState). s.profile) keeps.2.with_four;
      stands = one_means (mid_cell_with m before) n four x first second keeps.0 keeps.1 means;
    }))
