use Rattle.std.proofs.Common.{◌≡◌}
use Rattle.wave_file.proofs.stage.step_over.Goals as goal

pub returns-in-Riff : goal.returns-in-Riff
returns-in-Riff c =
    let begin : c.args.place ≡ 0 = rw c.in-Riff.is at c.requires.stage in
    rw (c.in-Riff.is, begin) (c.behind_form.ensures c.args.asked c.args.notes.now)

pub returns-in-Wave : goal.returns-in-Wave
returns-in-Wave c =
    let begin : c.args.place ≡ 4 = rw c.in-Wave.is at c.requires.stage in
    rw (c.in-Wave.is, begin) (c.behind_wave.ensures c.args.asked c.args.notes.now)

pub returns-in-Sizes : goal.returns-in-Sizes
returns-in-Sizes c = rw c.in-Sizes.is (c.behind_sizes.ensures c.args.asked c.args.place)
