use Rattle.std.proofs.Common.{rules}
use Rattle.luma_row.specs.Light.{fall}
use Rattle.luma_row.proofs.light.fall.Goals as goal

pub returns-clause-value : goal.returns-clause-value
unfolding fall
returns-clause-value c = search rules
