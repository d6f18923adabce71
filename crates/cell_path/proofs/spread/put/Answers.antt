use Rattle.std.proofs.Common.{rules, ◌≡◌, ◌%◌, length}
use Rattle.cell_path.specs.Four.{at_step}
use Rattle.cell_path.proofs.Lowest.{at_each_step}
use Rattle.cell_path.proofs.MarksOfFour.{is_put}
use Rattle.cell_path.proofs.spread.put.Goals as goal

pub returns-clause-here : goal.returns-clause-here
returns-clause-here c =
    let m = c.args.marks.now in
    let p = c.args.place in
    let f = c.args.four in
    let a : length m.first.marks ≡ 45 = search rules in
    let b : length m.second.marks ≡ 45 = search rules in
    let d : length m.third.marks ≡ 45 = search rules in
    let e : length m.fourth.marks ≡ 45 = search rules in
    at_each_step _
    (is_put m.first.marks p (at_step f 0 % 256) a c.requires) (is_put m.second.marks p (at_step f 1 % 256) b c.requires)
    (is_put m.third.marks p (at_step f 2 % 256) d c.requires) (is_put m.fourth.marks p (at_step f 3 % 256) e c.requires)
