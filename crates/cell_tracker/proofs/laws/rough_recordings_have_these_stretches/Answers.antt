use Rattle.std.proofs.Common.{[], ◌∷◌, refl}
use Rattle.biphase.specs.declared.cell.Cell.TheVariants.{Zero, One}
use Rattle.biphase.specs.declared.profile.Profile.TheVariants.{Rough}
use Rattle.cell_tracker.specs.Stretch.{begun, with_break, with_cell}
use Rattle.cell_tracker.proofs.Computed.{run, stretches_of, computed_are}
use Rattle.cell_tracker.proofs.laws.rough_recordings_have_these_stretches.Goals as goal

pub returns-clause-lock : goal.returns-clause-lock
unfolding stretches_of run
returns-clause-lock c = computed_are Rough (100 ∷ 100 ∷ 50 ∷ 50 ∷ 100 ∷ [])
    (with_cell (Zero 100) (with_cell (One 50 50) (begun 1 100)) ∷ []) refl

pub returns-clause-broken : goal.returns-clause-broken
unfolding stretches_of run
returns-clause-broken c =
    computed_are Rough (100 ∷ 50 ∷ 50 ∷ 74 ∷ []) (with_break 3 (with_cell (One 50 50) (begun 0 100)) ∷ []) refl

pub returns-clause-short : goal.returns-clause-short
unfolding stretches_of run
returns-clause-short c =
    computed_are Rough (100 ∷ 50 ∷ 50 ∷ 75 ∷ []) (with_cell (Zero 75) (with_cell (One 50 50) (begun 0 100)) ∷ []) refl

pub returns-clause-long : goal.returns-clause-long
unfolding stretches_of run
returns-clause-long c = computed_are Rough (100 ∷ 50 ∷ 50 ∷ 125 ∷ 125 ∷ 125 ∷ 125 ∷ 156 ∷ []) _ refl

pub returns-clause-longer : goal.returns-clause-longer
unfolding stretches_of run
returns-clause-longer c = computed_are Rough (100 ∷ 50 ∷ 50 ∷ 125 ∷ 125 ∷ 125 ∷ 125 ∷ 157 ∷ []) _ refl

pub returns-clause-third : goal.returns-clause-third
unfolding stretches_of run
returns-clause-third c = computed_are Rough (99 ∷ 33 ∷ []) (begun 0 99 ∷ []) refl

pub returns-clause-less : goal.returns-clause-less
unfolding stretches_of run
returns-clause-less c = computed_are Rough (100 ∷ 33 ∷ []) [] refl
