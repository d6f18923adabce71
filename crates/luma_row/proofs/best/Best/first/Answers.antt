use Rattle.luma_row.proofs.OneMore.{first_of_one}
use Rattle.luma_row.proofs.best.Best.first.Goals as goal

pub returns : goal.returns
returns c = λ worth is. first_of_one worth c.args.sum is
