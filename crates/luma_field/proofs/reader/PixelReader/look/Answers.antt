use Rattle.std.proofs.Common.{◌≡◌, ◌∷◌, [], ◌++◌, Some, None, take, ap, ◌∙◌, arith}
use Rattle.luma_field.specs.KeptReader.{FieldReading}
use Rattle.luma_field.specs.Rows.{found_from}
use Rattle.luma_field.proofs.FirstTwenty.{few, found_stays}
use Rattle.luma_field.proofs.reader.PixelReader.look.Goals as goal
use Rattle.luma_field.proofs.reader.PixelReader.look.Goals.{then-self-first-via-then-self-first}
use Rattle.luma_field.proofs.reader.PixelReader.look.Goals.{then-self-first-via-else-self-first+then-first-rows}

-- it is not looked at
pub returns-then-self-first-clause-looked : goal.returns-then-self-first-clause-looked
returns-then-self-first-clause-looked c = λ looked.
    let low = looked.0 in
    let high = looked.1 in
    let first = c.first-first.ensures.value in
    let same = ap (λ (s : FieldReading). s.raster.first) c.self.view_is in
    let rows = ap (λ (s : FieldReading). s.raster.rows) c.self.view_is in
    let number = ap (λ (s : FieldReading). s.number) c.self.view_is in
    elim c.then-self-first.branch [
      | then-self-first-via-then-self-first w ↦ absurd (omega (arith, low, first, same, number, w.if-self-first.true))
      | then-self-first-via-else-self-first+then-first-rows w ↦
          absurd (omega (arith, high, first, same, number, rows, w.rows.ensures.value, w.if-first-rows.true))
    ]

pub returns-in-Some-clause-same : goal.returns-in-Some-clause-same
returns-in-Some-clause-same c =
    ap (λ (s : FieldReading). record { raster = s.raster; number = s.number; found = c.keep.new.self })
    c.self.view_is

pub returns-in-Some-clause-looked : goal.returns-in-Some-clause-looked
unfolding found_from
returns-in-Some-clause-looked c = λ looked. (
  Some c.in-Some.code,
  c.in-Some.ensures.code,
  c.keep.ensures ∙ ap (λ (s : FieldReading). take 20 (s.found ++ record { number = s.number; row = c.in-Some.code }
      ∷ []))
      c.self.view_is,
)

pub returns-in-Some-clause-passed : goal.returns-in-Some-clause-passed
returns-in-Some-clause-passed c = λ passed.
    let first = c.first-first.ensures.value in
    let same = ap (λ (s : FieldReading). s.raster.first) c.self.view_is in
    let rows = ap (λ (s : FieldReading). s.raster.rows) c.self.view_is in
    let number = ap (λ (s : FieldReading). s.number) c.self.view_is in
    absurd (passed (
      omega (arith, first, same, number, c.if-self-first.false),
      omega (arith, first, same, number, rows, c.rows.ensures.value, c.if-first-rows.false),
    ))

pub returns-in_default-clause-looked : goal.returns-in_default-clause-looked
unfolding found_from
returns-in_default-clause-looked c = λ looked.
    let found : c.self.inside.found ≡ c.args.self.now.found = ap (λ (s : FieldReading). s.found) c.self.view_is in
    (None, c.in_default.ensures.none, found_stays c.self.inside.found c.args.self.now.found found c.self.invariant.few)

pub invariant_of-self : goal.invariant_of-self
invariant_of-self c = record {
  number = c.self.invariant.number;
  few = few c.keep.new.self _ c.keep.ensures;
}
