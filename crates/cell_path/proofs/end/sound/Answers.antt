use Rattle.std.proofs.Common.{◌-◌, ◌/◌, ◌-ℤ◌, drop, arith, ap, sym, ◌∙◌}
use Rattle.cell_path.specs.Four.{low}
use Rattle.cell_path.specs.Path.{sound_in, total}
use Rattle.cell_path.specs.StandsFor.{steps_at}
use Rattle.cell_path.proofs.SoundOfBits.{sound_of_one, sound_of_zero, sum_at}
use Rattle.cell_path.proofs.end.sound.Goals as goal

pub returns-in-Zero : goal.returns-in-Zero
returns-in-Zero c = λ step steps within stand.
    let S = steps_at step steps in
    let n = c.args.length in
    let sums = c.args.sums.now in
    c.between.ensures step (total S) (total (drop n S)) within (sum_at sums steps step 0 stand (omega arith))
    (sum_at sums steps step n stand c.requires) ∙ ap low (sound_of_zero n S)
    ∙ ap (λ b. low (sound_in b n S)) (sym c.in-Zero.is)

pub returns-in-One : goal.returns-in-One
returns-in-One c = λ step steps within stand.
    let S = steps_at step steps in
    let n = c.args.length in
    let h = n / 2 in
    let sums = c.args.sums.now in
    let few = c.requires in
    let late = c.between-in-One.ensures step (total S) (total (drop h S)) within
    (sum_at sums steps step 0 stand (omega arith)) (sum_at sums steps step h stand (omega (arith, few))) in
    let early = c.between-in-One-2.ensures step (total (drop (n - h) S)) (total (drop n S)) within
    (sum_at sums steps step (n - h) stand (omega (arith, few))) (sum_at sums steps step n stand few) in
    c.minus.ensures step (total S -ℤ total (drop h S)) (total (drop (n - h) S) -ℤ total (drop n S)) within late early
    ∙ ap low (sound_of_one n S) ∙ ap (λ b. low (sound_in b n S)) (sym c.in-One.is)
