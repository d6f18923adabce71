-- What an interval does to the tracker's state, and to the stretch.
use Rattle.std.specs.Prelude.{◌≡◌, ℕ, ◌+◌, true, false, Some}
use Rattle.biphase.specs.declared.profile.Profile.{Profile}
use Rattle.cell_tracker.specs.State.{HuntingState, AtCellState, MidCellState}
use Rattle.direction_reader.specs.Tracking.{Tracking}
use Rattle.direction_reader.specs.Tracking.{AtCell, MidCell, Hunting}
use Rattle.direction_reader.specs.declared.state.Step.{Step}
use Rattle.direction_reader.specs.declared.state.Step.TheVariants.{Nothing, FirstZero, ZeroBefore, Cell, Break}

-- the tolerance that a state keeps
abbrev pub profile_of : Tracking → Profile
profile_of (AtCell a) = a.profile
profile_of (MidCell m) = m.profile
profile_of (Hunting h) = h.profile

-- the search begins at the interval
abbrev pub SearchesFrom : ℕ → Tracking → Type 0
SearchesFrom x (AtCell next) = ⊥
SearchesFrom x (MidCell next) = ⊥
SearchesFrom x (Hunting next) = next.before ≡ Some x

-- the interval waits as a first half
abbrev pub WaitsWith : ℕ → Tracking → Type 0
WaitsWith x (AtCell next) = ⊥
WaitsWith x (MidCell next) = next.half ≡ x
WaitsWith x (Hunting next) = ⊥

-- a cell of this length has just ended
abbrev pub EndsCell : ℕ → Tracking → Type 0
EndsCell length (AtCell next) = next.latest.last ≡ length
EndsCell length (MidCell next) = ⊥
EndsCell length (Hunting next) = ⊥

-- what the end of a cell makes of an interval
abbrev pub AtCellSteps : AtCellState → ℕ → Tracking → Step → Type 0
AtCellSteps a x next Nothing = WaitsWith x next
AtCellSteps a x next FirstZero = ⊥
AtCellSteps a x next (ZeroBefore zero) = ⊥
AtCellSteps a x next (Cell bit) = (bit ≡ false) × EndsCell x next
AtCellSteps a x next Break = SearchesFrom x next

-- what a waiting half makes of an interval
abbrev pub MidCellSteps : MidCellState → ℕ → Tracking → Step → Type 0
MidCellSteps m x next Nothing = ⊥
MidCellSteps m x next FirstZero = ⊥
MidCellSteps m x next (ZeroBefore zero) = ⊥
MidCellSteps m x next (Cell bit) = (bit ≡ true) × EndsCell (m.half + x) next
MidCellSteps m x next Break = SearchesFrom x next

-- what a search makes of an interval
abbrev pub HuntingSteps : HuntingState → ℕ → Tracking → Step → Type 0
HuntingSteps h x next Nothing = SearchesFrom x next
HuntingSteps h x next FirstZero = EndsCell x next
HuntingSteps h x next (ZeroBefore zero) = (h.before ≡ Some zero) × WaitsWith x next
HuntingSteps h x next (Cell bit) = ⊥
HuntingSteps h x next Break = SearchesFrom x next

-- what each state makes of an interval
abbrev pub Steps : Tracking → ℕ → Tracking → Step → Type 0
Steps (AtCell a) x next step = AtCellSteps a x next step
Steps (MidCell m) x next step = MidCellSteps m x next step
Steps (Hunting h) x next step = HuntingSteps h x next step
