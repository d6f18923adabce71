-- An interval more leaves the stretches that are broken as they are, and adds a cell or a break to the one that is
-- open. So the stretches of the front of a list go on in those of the list.
use Rattle.std.proofs.Common.{◌≡◌, ℕ, Bool, true, false, List, [], ◌∷◌, ◌++◌, length, Some, None, refl, subst, sym, ap}
use Rattle.std.proofs.Common.{◌∙◌}
use Rattle.std.proofs.lemmas.List.{append-nil, append_assoc}
use Rattle.biphase.specs.Latest.{Latest}
use Rattle.biphase.specs.declared.profile.Profile.{Profile}
use Rattle.biphase.specs.declared.cell.Cell.{Cell}
use Rattle.biphase.specs.declared.cell.Cell.TheVariants.{Zero, One}
use Rattle.cell_tracker.specs.Stretch.{Stretch, IsBroken, AreStretches, with_cell, with_break}
use Rattle.cell_tracker.specs.Growing.{GrowsTo, GrowTo}
use Rattle.cell_tracker.proofs.Computed.{Tracked, hunting, at_cell, mid_cell, Tracks, stretches_in, from_pair}
use Rattle.cell_tracker.proofs.Computed.{from_cell, from_half, step}
use Rattle.cell_tracker.proofs.Computed.{run, steps, tracked_are, runs_from_nothing}
use Rattle.cell_tracker.proofs.OneStretch.{stretches_are_one}

-- a stretch goes on as it is
same_goes_on : (s : Stretch) → GrowsTo s s
same_goes_on s = record { lock = refl; cells = ([], sym (append-nil s.cells)); broken = λ _. refl }

-- stretches go on with others behind them
more_go_on : (ss others : List Stretch) → GrowTo ss (ss ++ others)
more_go_on [] others = tt
more_go_on (s ∷ ss) others = (same_goes_on s, more_go_on ss others)

same_go_on : (ss : List Stretch) → GrowTo ss ss
same_go_on [] = tt
same_go_on (s ∷ ss) = (same_goes_on s, same_go_on ss)

-- the last of them goes on
last_goes_on : (ss : List Stretch) (s t : Stretch) → GrowsTo s t → GrowTo (ss ++ s ∷ []) (ss ++ t ∷ [])
last_goes_on [] s t is = (is, tt)
last_goes_on (r ∷ ss) s t is = (same_goes_on r, last_goes_on ss s t is)

-- an open stretch is not broken
open_yet : (s t : Stretch) → s.broken_at ≡ None → IsBroken s → t ≡ s
open_yet s t none broken = absurd cc

cell_goes_on : (cell : Cell) (s : Stretch) → s.broken_at ≡ None → GrowsTo s (with_cell cell s)
cell_goes_on cell s none =
    record { lock = refl; cells = (cell ∷ [], refl); broken = open_yet s (with_cell cell s) none }

break_goes_on : (place : ℕ) (s : Stretch) → s.broken_at ≡ None → GrowsTo s (with_break place s)
break_goes_on place s none =
    record { lock = refl; cells = ([], sym (append-nil s.cells)); broken = open_yet s (with_break place s) none }

-- what goes on in what goes on
goes_on_through : (r s t : Stretch) → GrowsTo r s → GrowsTo s t → GrowsTo r t
goes_on_through r s t go more =
    let one = go.cells in
    let two = more.cells in
    record {
      lock = more.lock ∙ go.lock;
      cells = (one.0 ++ two.0, two.1 ∙ ap (λ cells. cells ++ two.0) one.1 ∙ append_assoc r.cells one.0 two.0);
      broken = λ is. let same = go.broken is in more.broken (subst (λ (s : Stretch). IsBroken s) (sym same) is) ∙ same;
    }

go_on_through : (rs ss ts : List Stretch) → GrowTo rs ss → GrowTo ss ts → GrowTo rs ts
go_on_through [] ss ts go more = tt
go_on_through (r ∷ rs) [] ts go more = absurd go
go_on_through (r ∷ rs) (s ∷ ss) [] go more = absurd more
go_on_through (r ∷ rs) (s ∷ ss) (t ∷ ts) go more =
    (goes_on_through r s t go.0 more.0, go_on_through rs ss ts go.1 more.1)

-- each answer of the tests makes the stretches go on
pair_goes_on : (profile : Profile) (n : ℕ) (ss : List Stretch) (z x : ℕ) (unequal rises half : Bool)
    → GrowTo ss (stretches_in (from_pair profile n ss z x unequal rises half))
pair_goes_on profile n ss z x false rises half = same_go_on ss
pair_goes_on profile n ss z x true true half = more_go_on ss _
pair_goes_on profile n ss z x true false true = more_go_on ss _
pair_goes_on profile n ss z x true false false = more_go_on ss _

from_cell_goes_on : (profile : Profile) (n : ℕ) (last : Latest) (ss : List Stretch) (s : Stretch) (x : ℕ)
    (zero half : Bool) → s.broken_at ≡ None
    → GrowTo (ss ++ s ∷ []) (stretches_in (from_cell profile n last ss s x zero half))
from_cell_goes_on profile n last ss s x true half none = last_goes_on ss s _ (cell_goes_on (Zero x) s none)
from_cell_goes_on profile n last ss s x false true none = same_go_on (ss ++ s ∷ [])
from_cell_goes_on profile n last ss s x false false none = last_goes_on ss s _ (break_goes_on n s none)

from_half_goes_on : (profile : Profile) (n : ℕ) (last : Latest) (half : ℕ) (ss : List Stretch) (s : Stretch) (x : ℕ)
    (one : Bool) → s.broken_at ≡ None
    → GrowTo (ss ++ s ∷ []) (stretches_in (from_half profile n last half ss s x one))
from_half_goes_on profile n last half ss s x true none = last_goes_on ss s _ (cell_goes_on (One half x) s none)
from_half_goes_on profile n last half ss s x false none = last_goes_on ss s _ (break_goes_on n s none)

-- an interval more
step_goes_on : (profile : Profile) (intervals : List ℕ) (state : Tracked) (x : ℕ) → Tracks profile intervals state
    → GrowTo (stretches_in state) (stretches_in (step profile (length intervals) state x))
step_goes_on profile intervals (hunting None ss) x tracks = same_go_on ss
step_goes_on profile intervals (hunting (Some z) ss) x tracks = pair_goes_on profile (length intervals) ss z x _ _ _
step_goes_on profile intervals (at_cell last ss s) x tracks =
    from_cell_goes_on profile (length intervals) last ss s x _ _ tracks.open_yet
step_goes_on profile intervals (mid_cell last half ss s) x tracks =
    from_half_goes_on profile (length intervals) last half ss s x _ tracks.open_yet

-- what is tracked of a list, and of the list with more behind it, whose stretches are those of the list gone on
abbrev GoesOnTo : Profile → Tracked → List ℕ → Type 0
GoesOnTo profile state whole =
    (later : Tracked) × Tracks profile whole later × GrowTo (stretches_in state) (stretches_in later)

run_goes_on : (profile : Profile) (intervals : List ℕ) (state : Tracked) (more : List ℕ)
    → Tracks profile intervals state
    → GoesOnTo profile state (intervals ++ more)
run_goes_on profile intervals state [] tracks =
    (state, subst (λ xs. Tracks profile xs state) (sym (append-nil intervals)) tracks, same_go_on (stretches_in state))
run_goes_on profile intervals state (x ∷ more) tracks =
    let next = step profile (length intervals) state x in
    let rest = run_goes_on profile (intervals ++ x ∷ []) next more (steps profile intervals state x tracks) in
    let through = go_on_through _ _ _ (step_goes_on profile intervals state x tracks) rest.2 in
    (rest.0, subst (λ xs. Tracks profile xs rest.0) (append_assoc intervals (x ∷ []) more) rest.1, through)

-- the stretches of the front of a list go on in those of the list
pub stretches_go_on : (profile : Profile) (front more : List ℕ) (ss ts : List Stretch) → AreStretches profile front ss
    → AreStretches profile (front ++ more) ts → GrowTo ss ts
stretches_go_on profile front more ss ts are are_too =
    let state = run profile 0 (hunting None []) front in
    let tracks = runs_from_nothing profile front in
    let later = run_goes_on profile front state more tracks in
    let first = stretches_are_one profile front 0 _ ss (tracked_are profile front state tracks) are in
    let second =
    stretches_are_one profile (front ++ more) 0 _ ts (tracked_are profile (front ++ more) later.0 later.1) are_too in
    subst (λ (xs : List Stretch). GrowTo xs ts) first (subst (λ (xs : List Stretch). GrowTo (stretches_in state) xs)
    second later.2)
