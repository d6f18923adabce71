use Rattle.luma_truth.proofs.Margins.{rounding_is_borne, twentieth_is_borne}
use Rattle.luma_truth.proofs.laws.the_margin_in_numbers.Goals as goal

pub returns-clause-twentieth : goal.returns-clause-twentieth
returns-clause-twentieth c = twentieth_is_borne

pub returns-clause-rounded : goal.returns-clause-rounded
returns-clause-rounded c = rounding_is_borne
