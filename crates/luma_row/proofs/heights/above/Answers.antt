use Rattle.std.proofs.Common.{rules, ◌≡◌, get_or, arith}
use Rattle.luma_row.proofs.heights.above.Goals as goal

pub returns-clause-most : goal.returns-clause-most
returns-clause-most c =
    let light : c.from-light.result ≡ get_or c.args.cells.now c.args.bit 0 = search rules in
    let most = c.requires.cells c.args.bit c.requires.bit in
    omega (arith, light, most, c.times-near.ensures.most, c.times-next.ensures.most)
