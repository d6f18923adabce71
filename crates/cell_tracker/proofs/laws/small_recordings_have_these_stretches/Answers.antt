use Rattle.std.proofs.Common.{[], ◌∷◌, ◌++◌, Some, None, refl}
use Rattle.biphase.specs.declared.cell.Cell.TheVariants.{One}
use Rattle.biphase.specs.declared.profile.Profile.TheVariants.{Normal}
use Rattle.cell_tracker.specs.Recording.{cells_of, recording, stretch_of}
use Rattle.cell_tracker.specs.Stretch.{begun, with_break, with_cell}
use Rattle.cell_tracker.proofs.Computed.{run, stretches_of, computed_are}
use Rattle.cell_tracker.proofs.laws.small_recordings_have_these_stretches.Goals as goal

pub returns-clause-word : goal.returns-clause-word
unfolding stretches_of run cells_of
returns-clause-word c =
    computed_are Normal (recording 82 0x2fff02000000000000002) (stretch_of 82 0x2fff02000000000000002 None ∷ []) refl

pub returns-clause-broken : goal.returns-clause-broken
unfolding stretches_of run cells_of
returns-clause-broken c = computed_are Normal (recording 82 0x2fff02000000000000002 ++ 5 ∷ [])
    (stretch_of 82 0x2fff02000000000000002 (Some 97) ∷ []) refl

pub returns-clause-half : goal.returns-clause-half
unfolding stretches_of run cells_of
returns-clause-half c = computed_are Normal (recording 82 0x2fff02000000000000002 ++ 12 ∷ [])
    (stretch_of 82 0x2fff02000000000000002 None ∷ []) refl

pub returns-clause-from_its_end : goal.returns-clause-from_its_end
unfolding stretches_of run cells_of
returns-clause-from_its_end c = computed_are Normal (recording 81 0x207ffa) (stretch_of 81 0x207ffa None ∷ []) refl

pub returns-clause-both : goal.returns-clause-both
unfolding stretches_of run cells_of
returns-clause-both c =
    computed_are Normal (recording 81 0x17ff80000000000007ffa) (stretch_of 81 0x17ff80000000000007ffa None ∷ []) refl

pub returns-clause-two : goal.returns-clause-two
unfolding stretches_of run cells_of
returns-clause-two c = computed_are Normal (24 ∷ 12 ∷ 24 ∷ 12 ∷ 12 ∷ [])
    (with_break 2 (begun 0 24) ∷ with_cell (One 12 12) (begun 2 24) ∷ []) refl
