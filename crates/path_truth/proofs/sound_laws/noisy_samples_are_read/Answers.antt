use Rattle.std.proofs.Common.{◌≡◌, [], ◌∷◌, refl, rules, arith, subst}
use Rattle.step_grid.specs.declared.grid.Grid.TheVariants.{Repeat}
use Rattle.path_front.specs.Front.{AreIntervals}
use Rattle.path_truth.specs.Intervals.{intervals_of_tape}
use Rattle.path_truth.specs.Sound.{IsSoundOf}
use Rattle.path_truth.specs.Worked.{noisy_samples, sampled_tape}
use Rattle.path_truth.proofs.DecidedSound.{decided_sound}
use Rattle.path_truth.proofs.SoundIntervals.{intervals_in, intervals-are}
use Rattle.path_truth.proofs.sound_laws.noisy_samples_are_read.Goals as goal

sound : IsSoundOf 12 sampled_tape 2 59 59 141 noisy_samples
sound = record {
  steady = search rules;
  many = 8;
  cells = refl;
  sides = search rules;
  level = record {
    some = omega arith;
    heard = omega arith;
    near = omega arith;
    sizes = search rules;
  };
}

spelled : intervals_in 12 100 sampled_tape ≡ 1 ∷ 1_599 ∷ 800 ∷ 800 ∷ 1_600 ∷ []
unfolding intervals_of_tape
spelled = refl

pub returns-clause-sound : goal.returns-clause-sound
returns-clause-sound c = sound

pub returns-clause-read : goal.returns-clause-read
returns-clause-read c =
    subst (AreIntervals (Repeat 2) 100 59 noisy_samples) spelled
    (intervals-are c.cells_are_decided_of_each_sound.ensures.in_all 12 sampled_tape 2 100 59 59 141 noisy_samples sound
    (omega arith) (omega arith)
    (decided_sound 12 sampled_tape 2 59 59 141 noisy_samples sound (search rules)))
