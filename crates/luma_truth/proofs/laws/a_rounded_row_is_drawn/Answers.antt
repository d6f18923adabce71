use Rattle.luma_truth.proofs.Rounded.{rounded_is_drawn}
use Rattle.luma_truth.proofs.TenHours.{ten_hours_fits}
use Rattle.luma_truth.proofs.laws.a_rounded_row_is_drawn.Goals as goal

pub returns-clause-rounded : goal.returns-clause-rounded
returns-clause-rounded c = rounded_is_drawn

pub returns-clause-fits : goal.returns-clause-fits
returns-clause-fits c = ten_hours_fits
