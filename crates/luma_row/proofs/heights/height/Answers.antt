use Rattle.std.proofs.Common.{rules, FitsSigned, to_z-of_z, pos, ◌-ℤ◌, ap₂, ◌∙◌, ℕ}
use Rattle.std.specs.Int.{w64}
use Rattle.luma_row.specs.Heights.{height}
use Rattle.luma_row.proofs.heights.height.Goals as goal

pub returns-clause-height : goal.returns-clause-height
unfolding height
returns-clause-height c =
    let fits : FitsSigned w64 c.difference.result = search rules in
    rw (to_z-of_z fits)
    (c.difference.ensures.value ∙ ap₂ (λ (a : ℕ) (b : ℕ). pos a -ℤ pos b) c.above.ensures.above c.below.ensures.below)
