use Rattle.std.proofs.Common.{◌≡◌, ◌-◌, ◌+ℤ◌, ◌-ℤ◌, arith, ap, sym, ◌∙◌}
use Rattle.std.proofs.lemmas.Int.{ints}
use Rattle.cell_path.specs.declared.cell.Sign.TheVariants.{Minus}
use Rattle.cell_path.specs.Four.{low}
use Rattle.cell_path.specs.Kept.{number_ago}
use Rattle.cell_path.specs.Path.{signed}
use Rattle.cell_path.proofs.end.behind.Goals as goal

pub returns-in-Minus : goal.returns-in-Minus
returns-in-Minus c = λ step x y within x_is y_is.
    let before = c.four-before.ensures step within
    ∙ ap (λ s. number_ago c.args.rows.now (c.args.length - 1 - step) c.args.place s) c.sign_before.ensures ∙ y_is in
    let turned : (y -ℤ x) ≡ (signed Minus x +ℤ y) = omega (arith, ints) in
    c.minus.ensures step y x within before x_is ∙ ap low turned
    ∙ ap (λ s. low (signed s x +ℤ y)) (sym c.in-Minus.is)
