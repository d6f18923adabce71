use Rattle.cell_path.proofs.MarksOfFour.{all_have}
use Rattle.cell_path.proofs.starts.mark.Goals as goal

pub returns : goal.returns
returns c =
    let w = c.mark_of.ensures in
    let x = c.mark_of-2.ensures in
    let y = c.mark_of-3.ensures in
    let z = c.mark_of-4.ensures in
    let marked = all_have c.mark_of.result c.mark_of-2.result c.mark_of-3.result c.mark_of-4.result
    c.args.plus c.args.minus c.args.plus_start c.args.minus_start
    (record { plus = w.plus; minus = w.minus; plus_way = w.plus_way; minus_way = w.minus_way })
    (record { plus = x.plus; minus = x.minus; plus_way = x.plus_way; minus_way = x.minus_way })
    (record { plus = y.plus; minus = y.minus; plus_way = y.plus_way; minus_way = y.minus_way })
    (record { plus = z.plus; minus = z.minus; plus_way = z.plus_way; minus_way = z.minus_way }) in
    record { marked = marked }
