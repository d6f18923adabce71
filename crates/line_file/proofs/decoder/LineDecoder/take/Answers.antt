use Rattle.std.proofs.Common.{◌<◌, refl, sym, subst, arith}
use Rattle.line_file.specs.declared.decoder.TheConstants.{MAX_FIELDS}
use Rattle.line_file.specs.StandsFor.{Decoding, StandsFor}
use Rattle.line_file.proofs.DecoderMore.{cut_less, cut_told, field_added, field_fault}
use Rattle.line_file.proofs.DecoderMore.{limit_told}
use Rattle.line_file.proofs.OwnBytes.{own_field}
use Rattle.line_file.proofs.decoder.LineDecoder.take.Goals as goal

-- one field too many
pub returns-then-self-eq-MAX_FIELDS-clause-stops : goal.returns-then-self-eq-MAX_FIELDS-clause-stops
returns-then-self-eq-MAX_FIELDS-clause-stops c = λ front answers stands.
    let d = c.self.inside in
    let s = subst (λ (x : Decoding). StandsFor x front answers) (sym c.self.view_is) stands in
    limit_told c.in-Some.header d.place d.fields front c.args.bytes.now answers c.if-self-eq-MAX_FIELDS.true
    (omega (arith, c.requires)) (rw c.in-Some.is at s)

-- a field
pub overflow_add-self-in-Whole-field_in : goal.overflow_add-self-in-Whole-field_in
overflow_add-self-in-Whole-field_in c =
    let e = c.in-Whole-field_in.ensures in
    let most = (own_field c.self.inside.place c.args.bytes.now e.0 e.1).most in
    omega (arith, most, e.2, c.self.invariant.bytes, c.self.invariant.within)

pub invariant_of-self-in-Whole-field_in : goal.invariant_of-self-in-Whole-field_in
invariant_of-self-in-Whole-field_in c =
    let e = c.in-Whole-field_in.ensures in
    let most = (own_field c.self.inside.place c.args.bytes.now e.0 e.1).most in
    record {
      header = c.self.invariant.header;
      begin = rw c.in-Some.is tt;
      within = omega (arith, c.self.invariant.within, c.if-self-eq-MAX_FIELDS.false);
      bytes = omega (arith, most, e.2, c.self.invariant.bytes);
    }

pub returns-in-Whole-field_in-clause-takes : goal.returns-in-Whole-field_in-clause-takes
returns-in-Whole-field_in-clause-takes c =
    let d = c.self.inside in
    let e = c.in-Whole-field_in.ensures in
    let room : d.fields < MAX_FIELDS = omega (arith, c.self.invariant.within, c.if-self-eq-MAX_FIELDS.false) in
    rw (← c.self.view_is, c.in-Some.is, e.2)
    (field_added c.in-Some.header d.place d.fields c.args.bytes.now e.0 c.in-Whole-field_in.answer room e.1 e.3)

pub returns-in-Whole-field_in-clause-bounds : goal.returns-in-Whole-field_in-clause-bounds
returns-in-Whole-field_in-clause-bounds c =
    let e = c.in-Whole-field_in.ensures in
    let most = (own_field c.self.inside.place c.args.bytes.now e.0 e.1).most in (
      omega (arith, c.self.invariant.within, c.if-self-eq-MAX_FIELDS.false),
      omega (arith, most, e.2, c.self.invariant.bytes),
    )

-- a field that is not whole
pub returns-in-Short-field_in-clause-takes : goal.returns-in-Short-field_in-clause-takes
returns-in-Short-field_in-clause-takes c =
    let d = c.self.inside in
    let short = c.in-Short-field_in.ensures in
    let room : d.fields < MAX_FIELDS = omega (arith, c.self.invariant.within, c.if-self-eq-MAX_FIELDS.false) in
    rw (← c.self.view_is) (
      refl,
      record {
        some = omega (arith, c.requires);
        few = cut_less d.header d.place d.fields c.args.bytes.now (rw c.in-Some.is (room, short));
        short = rw c.in-Some.is (room, short);
      },
    )

pub returns-in-Short-field_in-clause-stops : goal.returns-in-Short-field_in-clause-stops
returns-in-Short-field_in-clause-stops c = λ front answers stands.
    let d = c.self.inside in
    let s = subst (λ (x : Decoding). StandsFor x front answers) (sym c.self.view_is) stands in
    let room : d.fields < MAX_FIELDS = omega (arith, c.self.invariant.within, c.if-self-eq-MAX_FIELDS.false) in
    cut_told d.header d.place d.fields front c.args.bytes.now answers (omega (arith, c.requires))
    (rw c.in-Some.is (room, c.in-Short-field_in.ensures)) s

-- a fault in it
pub returns-in-Fault-field_in-clause-stops : goal.returns-in-Fault-field_in-clause-stops
returns-in-Fault-field_in-clause-stops c = λ front answers stands.
    let d = c.self.inside in
    let s = subst (λ (x : Decoding). StandsFor x front answers) (sym c.self.view_is) stands in
    field_fault c.in-Some.header d.place d.fields front c.args.bytes.now answers c.in-Fault-field_in.fault
    (omega (arith, c.self.invariant.within, c.if-self-eq-MAX_FIELDS.false)) (omega (arith, c.requires))
    (rw c.in-Some.is at s) c.in-Fault-field_in.ensures
