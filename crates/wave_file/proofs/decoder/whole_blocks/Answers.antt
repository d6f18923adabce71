use Rattle.std.proofs.Common.{◌/◌, arith}
use Rattle.std.proofs.Math.Nat.{div-mul-le_self}
use Rattle.std.proofs.lemmas.Nat.{mul-le}
use Rattle.wave_file.proofs.decoder.whole_blocks.Goals as goal

pub returns-clause-inside : goal.returns-clause-inside
returns-clause-inside c =
    let most = div-mul-le_self c.args.inside c.args.block in
    let row = mul-le c.least.result c.args.block (c.args.inside / c.args.block) c.args.block c.least.ensures.blocks
    (omega arith) in
    omega (arith, most, row)
