use Rattle.std.proofs.Common.{◌-◌, ◌/◌}
use Rattle.path_front.proofs.LatestSound.{same_part}
use Rattle.path_front.proofs.measured.longer_sums.Goals as goal

pub returns-then-length-longer : goal.returns-then-length-longer
returns-then-length-longer c =
    let a = c.args in
    same_part a.latest.now a.short a.shorter_ago a.longer_ago (a.length / 2) (a.length - a.length / 2)
    c.if-length-longer.true c.requires.even c.requires.short
