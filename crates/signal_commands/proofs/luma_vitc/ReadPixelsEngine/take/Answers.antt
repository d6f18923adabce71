use Rattle.std.proofs.Common.{◌+◌, ◌++◌, [], ℕ, List, take, append-nil, inr, refl, sym, subst, ap, ◌∙◌}
use Rattle.std.proofs.Common.{arith}
use Rattle.std.proofs.lemmas.List.{length-take-le}
use Rattle.line_file.specs.Grammar.{field_bytes}
use Rattle.luma_field.specs.Raster.{RasterSize}
use Rattle.signal_commands.specs.LumaVitc.{written_lines}
use Rattle.signal_commands.specs.KeptLuma.{IsCutRow, Stands}
use Rattle.signal_commands.proofs.LumaOn.{at_limit, at_none, at_some, field_whole, row_cut, row_longer}
use Rattle.signal_commands.proofs.luma_vitc.ReadPixelsEngine.take.Goals as goal

-- so many fields were taken, and here is another byte
pub returns-then-self-most-clause-halts : goal.returns-then-self-most-clause-halts
returns-then-self-most-clause-halts g c = λ front written stands. (
  [],
  g.O.Output.given_none c.args.out.now,
  at_limit c.args.self.now front written c.args.bytes.now stands (c.if-self-most.true ∙ c.most.ensures.value)
      c.requires.some,
)

-- a row that is not whole
pub returns-then-bytes-width-clause-waits : goal.returns-then-bytes-width-clause-waits
returns-then-bytes-width-clause-waits g c =
    let s = c.args.self.now in
    let bytes = c.args.bytes.now in
    let laws = c.joined_parts_are_taken_apart.ensures in
    let within = c.requires.going.2.has.within in
    let valid = c.width-width.ensures.valid in
    let width = ap (λ (r : RasterSize). r.width) c.raster.ensures in
    let cut : IsCutRow s bytes = record {
      some = c.requires.some;
      few = omega (arith, c.if-bytes-width.true, c.width-width.ensures.value, width);
      room = omega (arith, c.if-self-most.false, c.most.ensures.value, within);
    } in
    inr (
      omega arith,
      cut,
      record {
        few = omega (arith, cut.few, width, valid.not_too_wide);
        good = λ front written stands.
            let is = row_cut laws.apart laws.long s front written bytes cut stands in (is.1, is.2);
      },
    )

pub returns-then-bytes-width-clause-works : goal.returns-then-bytes-width-clause-works
returns-then-bytes-width-clause-works g c = λ front written stands. (
  [],
  g.O.Output.given_none c.args.out.now,
  rw (append-nil front, append-nil written) stands,
)

-- the row is that of the reader
pub take-lines-requires : goal.take-lines-requires
take-lines-requires g c =
    let there = c.if-bytes-width.false in
    let raster = ap (λ (r : RasterSize). r.width) (c.requires.going.2.has.raster ∙ sym c.raster.ensures) in
    length-take-le c.width-width.result c.args.bytes.now (omega (arith, there))
    ∙ omega (arith, c.width-width.ensures.value, raster)

-- the lines of a field
pub field_of-requires-clause-bits : goal.field_of-requires-clause-bits
field_of-requires-clause-bits g c =
    let stands = c.requires.going.2 in
    let whole = at_some _ c.take-lines.result c.in-Some.lines c.in-Some.is c.take-lines.ensures.whole stands.part
    stands.has.begun in
    c.a_field_says_its_lines.ensures.bits _ _ _ whole.1

-- the field goes on
pub returns-in_default-clause-works : goal.returns-in_default-clause-works
returns-in_default-clause-works g c = λ front written stands.
    let s = c.args.self.now in
    let width = c.width-width.result in
    let reader = c.take-lines.new.self in
    let bytes = take width c.args.bytes.now in
    let size = length-take-le width c.args.bytes.now (omega (arith, c.if-bytes-width.false)) in
    let laws = c.joined_parts_are_taken_apart.ensures in
    let next = record s { reader = reader; taken = s.taken + width } in (
      [],
      g.O.Output.given_none c.args.out.now,
      subst (λ (w : List ℕ). Stands next (front ++ bytes) w) (sym (append-nil written))
          (row_longer laws.apart laws.long s reader (s.taken + width) front written bytes stands
          c.take-lines.ensures.raster (omega (arith, size))
          (omega (arith, c.if-self-most.false, c.most.ensures.value, stands.has.within))
          (at_none _ c.take-lines.result c.in_default.is c.take-lines.ensures.part stands.part stands.has.begun)),
    )

pub returns-in_default-clause-going : goal.returns-in_default-clause-going
returns-in_default-clause-going g c =
    let was = c.requires.going in
    let works = returns-in_default-clause-works g c was.0 was.1 was.2 in
    (was.0 ++ take c.width-width.result c.args.bytes.now, was.1 ++ works.0, works.2)

-- the field is whole
pub returns-in-Some-clause-works : goal.returns-in-Some-clause-works
returns-in-Some-clause-works g c = λ front written stands.
    let s = c.args.self.now in
    let width = c.width-width.result in
    let bytes = take width c.args.bytes.now in
    let size = length-take-le width c.args.bytes.now (omega (arith, c.if-bytes-width.false)) in
    let laws = c.joined_parts_are_taken_apart.ensures in
    let whole = at_some _ c.take-lines.result c.in-Some.lines c.in-Some.is c.take-lines.ensures.whole stands.part
    stands.has.begun in
    let next = record s { reader = c.take-lines.new.self; taken = s.taken + width } in (
      field_bytes (written_lines c.in-Some.lines.items),
      rw (c.as_slice.ensures.value ∙ c.field_of.ensures) at c.gather.ensures,
      field_whole laws.apart laws.long s next front written bytes c.in-Some.lines.items stands refl
          c.take-lines.ensures.raster (omega (arith, size))
          (omega (arith, c.if-self-most.false, c.most.ensures.value, stands.has.within)) whole.0 whole.1 whole.2,
    )

pub returns-in-Some-clause-going : goal.returns-in-Some-clause-going
returns-in-Some-clause-going g c =
    let was = c.requires.going in
    let works = returns-in-Some-clause-works g c was.0 was.1 was.2 in
    (was.0 ++ take c.width-width.result c.args.bytes.now, was.1 ++ works.0, works.2)
