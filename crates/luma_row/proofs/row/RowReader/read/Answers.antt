use Rattle.std.proofs.Common.{rules, ◌≡◌, true, false, List, ℕ, Option, ap, sym, subst, ◌∙◌}
use Rattle.std.specs.Option.{IfNone}
use Rattle.luma_row.specs.declared.place.Place.{Place}
use Rattle.luma_row.specs.declared.row.CodeRow.{CodeRow}
use Rattle.luma_row.specs.Cells.{cells_of, counts, swing}
use Rattle.luma_row.specs.Heights.{heights_of}
use Rattle.luma_row.specs.Row.{IsCode}
use Rattle.luma_row.proofs.OnePlace.{one_place}
use Rattle.luma_row.proofs.row.RowReader.read.Goals as goal

pub returns-in_err-place-clause-none : goal.returns-in_err-place-clause-none
returns-in_err-place-clause-none c =
    subst (λ (o : Option CodeRow). IfNone o ((code : CodeRow) → IsCode c.args.row.now code → ⊥))
    (sym c.from_residual.ensures)
    (λ code is. c.in_err-place.ensures.none code.place is.lies)

pub returns-then-not-counts-clause-none : goal.returns-then-not-counts-clause-none
returns-then-not-counts-clause-none c = λ code is.
    let row = c.args.row.now in
    let place = c.in_ok-place.place in
    let same = one_place row place code.place c.in_ok-place.ensures.lies is.lies in
    let fit = subst (λ (p : Place). counts p (cells_of row p) ≡ true) (sym same) is.it_counts in
    let isnt : c.counts.result ≡ false = search rules in
    let is_read = subst (λ (cells : List ℕ). c.counts.result ≡ counts place cells) c.cells_of-cells.ensures.cells
    c.counts.ensures in
    let no : true ≡ false = sym (is_read ∙ fit) ∙ isnt in
    cc no

pub returns-clause-code : goal.returns-clause-code
returns-clause-code c =
    let place = c.in_ok-place.place in
    let cells = c.cells_of-cells.ensures.cells in
    let fit : c.counts.result ≡ true = search rules in
    let contrast : c.has_contrast.result ≡ true = search rules in
    record {
      contrast = sym c.has_contrast.ensures ∙ contrast;
      lies = c.in_ok-place.ensures.lies;
      it_counts = subst (λ (xs : List ℕ). counts place xs ≡ true) cells (sym c.counts.ensures ∙ fit);
      swing_is = c.swing_of-swing.ensures.swing ∙ ap swing cells;
      heights_are = c.heights_of-heights.ensures.heights ∙ ap heights_of cells;
    }
