use Rattle.std.proofs.Common.{◌-◌, ◌+◌, ◌++◌, ◌∷◌, arith}
use Rattle.cell_path.specs.declared.cell.Bit.TheVariants.{Zero}
use Rattle.step_grid.specs.declared.grid.Grid.TheVariants.{Repeat}
use Rattle.path_front.specs.Steps.{path_steps, sounds_of}
use Rattle.path_truth.specs.Tape.{tape_of}
use Rattle.path_truth.specs.Wave.{square_wave, with_noise}
use Rattle.path_truth.proofs.BestIsTape.{tape_is_best}
use Rattle.path_truth.proofs.DecidedSound.{decided_sound}
use Rattle.path_truth.proofs.SoundIntervals.{intervals-are}
use Rattle.path_truth.proofs.SoundSides.{sound_keeps}
use Rattle.path_truth.proofs.SquareWave.{noisy_wave}
use Rattle.path_truth.proofs.TapeOfBits.{early_zero, steady_tape}
use Rattle.path_truth.proofs.sound_laws.a_noisy_square_wave_is_its_tape.Goals as goal

pub returns-clause-path : goal.returns-clause-path
returns-clause-path c =
    λ place many repeats least level most sign later before noise within cells even some heard near below.
    let tape = tape_of place sign (later ++ Zero ∷ before) in
    let samples = with_noise noise (square_wave level many tape) in
    let steady = steady_tape place sign later before within in
    let is = noisy_wave place tape repeats many least level most noise steady cells even near some heard below in
    tape_is_best c.cells_are_decided_of_each_sound.ensures.best place tape
    (path_steps (sounds_of (Repeat repeats) least samples)) steady
    (sound_keeps place tape repeats least (level - most) (level + most) samples is)

pub returns-clause-intervals : goal.returns-clause-intervals
returns-clause-intervals c =
    λ place many repeats ticks least level most sign later before noise within cells even tick some heard near below
    few.
    let tape = tape_of place sign (later ++ Zero ∷ before) in
    let samples = with_noise noise (square_wave level many tape) in
    let steady = steady_tape place sign later before within in
    let is = noisy_wave place tape repeats many least level most noise steady cells even (omega (arith, near)) some
    heard below in
    intervals-are c.cells_are_decided_of_each_sound.ensures.in_all place tape repeats ticks least (level - most)
    (level + most) samples is (omega (arith, near)) tick (decided_sound place tape repeats least (level - most)
    (level + most) samples is (early_zero place sign later before within few))
