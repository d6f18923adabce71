use Rattle.std.proofs.Common.{◌≡◌, ◌+◌, ◌++◌, [], ℕ, ap, sym, subst, ◌∙◌, arith}
use Rattle.luma_field.specs.Field.{lines_of}
use Rattle.luma_field.specs.KeptReader.{FieldReading, StandsFor}
use Rattle.luma_field.proofs.RowsWhole.{KeepsIt, field_goes_on, field_is_whole}
use Rattle.luma_field.proofs.reader.PixelReader.take.Goals as goal

-- the field goes on
pub returns-then-number-height-clause-part : goal.returns-then-number-height-clause-part
returns-then-number-height-clause-part c = λ part stands.
    let s = c.args.self.now in
    let found = c.look.new.self.found in
    let row = c.args.row.now in
    let keeps : KeepsIt s row found =
    record { wide = c.requires; looked = c.look.ensures.looked; passed = c.look.ensures.passed } in
    let is = c.self.view_is ∙ c.look.ensures.same in
    let width = ap (λ (x : FieldReading). x.raster.width) is in
    let height = ap (λ (x : FieldReading). x.raster.height) is in
    let number = ap (λ (x : FieldReading). x.number) is in
    let next = ap (λ (x : FieldReading). let r : FieldReading = record {
      raster = x.raster;
      number = x.number + 1;
      found = x.found;
    } in r) is in
    subst (λ (x : FieldReading). StandsFor x (part ++ row)) (sym next)
    (field_goes_on s found part row keeps (omega (arith, c.height.ensures.valid.not_too_narrow, width))
    (omega (arith, c.if-number-height.true, c.height.ensures.value, height, number)) stands)

-- it ends
pub returns-clause-whole : goal.returns-clause-whole
returns-clause-whole c = λ part stands.
    let s = c.args.self.now in
    let found = c.look.new.self.found in
    let row = c.args.row.now in
    let keeps : KeepsIt s row found =
    record { wide = c.requires; looked = c.look.ensures.looked; passed = c.look.ensures.passed } in
    let is = c.self.view_is ∙ c.look.ensures.same in
    let width = ap (λ (x : FieldReading). x.raster.width) is in
    let height = ap (λ (x : FieldReading). x.raster.height) is in
    let number = ap (λ (x : FieldReading). x.number) is in
    let within = c.self.invariant.number in
    let last : s.number + 1 ≡ s.raster.height =
    omega (arith, c.if-number-height.false, c.height.ensures.value, height, number, within) in
    let said = c.lines-lines.ensures.lines ∙ (ap (λ (w : ℕ). lines_of w c.self.inside.found) c.width.ensures.value
    ∙ ap (λ (x : FieldReading). lines_of x.raster.width x.found) is) in
    let whole = field_is_whole s found part row c.lines-lines.result.items keeps
    (omega (arith, c.height.ensures.valid.not_too_narrow, width)) last said stands in
    let next = ap (λ (x : FieldReading). let r : FieldReading = record {
      raster = x.raster;
      number = 0;
      found = [];
    } in r) is in (
      whole.0,
      whole.1,
      rw c.new-self-inside.ensures
          (subst (λ (x : FieldReading). StandsFor x []) (sym next) whole.2),
    )
