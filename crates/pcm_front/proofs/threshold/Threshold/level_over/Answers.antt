use Rattle.std.specs.Prelude.{slice_range}
use Rattle.std.proofs.Common.{ap, sym}
use Rattle.std.proofs.lemmas.List.Folds.{fold_stays}
use Rattle.pcm_front.specs.Level.{next_level}
use Rattle.pcm_front.proofs.threshold.Threshold.level_over.Goals as goal

pub returns-in-Fixed-clause-value : goal.returns-in-Fixed-clause-value
returns-in-Fixed-clause-value g c =
    sym (fold_stays (next_level c.args.self) c.args.level (λ x. ap (λ t. next_level t c.args.level x) c.in-Fixed.is)
    (slice_range (g.S.Samples.list c.args.samples.now) c.args.at c.args.end))
