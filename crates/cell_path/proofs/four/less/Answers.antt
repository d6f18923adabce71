use Rattle.std.proofs.Common.{arith}
use Rattle.std.proofs.lemmas.Bool.Decides.{nat_tests}
use Rattle.cell_path.proofs.Lowest.{less_no, less_yes}
use Rattle.cell_path.proofs.four.less.Goals as goal

pub returns-clause-yes : goal.returns-clause-yes
returns-clause-yes c = λ x y x_is y_is near is.
    let test = rw (x_is, y_is) at is in less_yes x y near (grind (arith, nat_tests))

pub returns-clause-no : goal.returns-clause-no
returns-clause-no c = λ x y x_is y_is near is.
    let test = rw (x_is, y_is) at is in less_no x y near (grind (arith, nat_tests))
