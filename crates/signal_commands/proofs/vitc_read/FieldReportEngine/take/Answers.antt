use Rattle.std.proofs.Common.{inl, inr, ◌∙◌, [], take, ap, arith, refl, append-nil}
use Rattle.line_file.specs.Texts.{field_line}
use Rattle.signal_commands.specs.declared.vitc_read.FieldReport.{FieldReport}
use Rattle.signal_commands.proofs.FieldsGrow.{fits_more, less_to_come, none_more, printed, waits_for}
use Rattle.signal_commands.proofs.vitc_read.FieldReportEngine.take.Goals as goal
use Rattle.tc_io.specs.Verdict.{verdict_as}
use Rattle.tc_command.specs.declared.input_fault.InputFault.TheVariants.{Lines}

-- the bytes are too few
pub returns-in-Few-clause-waits : goal.returns-in-Few-clause-waits
returns-in-Few-clause-waits g c =
    let few = c.in-Few.ensures in
    let s = c.args.self.now in
    rw few.takes.0 (inr (omega arith, few.takes.1, waits_for s c.args.bytes.now few.takes.1 few.stops))

pub returns-in-Few-clause-works : goal.returns-in-Few-clause-works
returns-in-Few-clause-works g c = λ front written stands. (
  [],
  g.O.Output.given_none c.args.out.now,
  rw (c.in-Few.ensures.takes.0, append-nil front, append-nil written) stands,
)

-- the header
pub returns-in-Header-clause-works : goal.returns-in-Header-clause-works
returns-in-Header-clause-works g c = λ front written stands.
    let r = c.args.self.now in
    let mid : FieldReport = record r { decoder = c.take.new.self } in
    let taken = take c.in-Header.count c.args.bytes.now in
    let reads_on = c.in-Header.ensures.takes.stands front stands.answers stands.decoder in
    ([], g.O.Output.given_none c.args.out.now, none_more c.a_decoder_tells_the_file.ensures r mid front written taken stands reads_on refl)

-- a field is complete, and its line was written
pub returns-in-Field-clause-works : goal.returns-in-Field-clause-works
returns-in-Field-clause-works g c = λ front written stands.
    let r = c.args.self.now in
    let mid : FieldReport = record r { decoder = c.take.new.self } in
    let taken = take c.in-Field.count c.args.bytes.now in
    let reads_on = c.in-Field.ensures.takes.stands front stands.answers stands.decoder in (
      field_line r.fields c.in-Field.answer,
      c.print.ensures.line,
      printed c.a_decoder_tells_the_file.ensures r mid c.print.new.self front written taken c.in-Field.answer stands
          reads_on refl
          c.print.ensures.counted,
    )

pub returns-in-Field-clause-going : goal.returns-in-Field-clause-going
returns-in-Field-clause-going g c =
    fits_more c.args.self.now c.print.new.self c.take.new.self c.in-Field.answer c.requires.going
    c.in-Field.ensures.takes.fields c.in-Field.ensures.bounds.0 c.print.ensures.counted

pub returns-in-Field-clause-budget : goal.returns-in-Field-clause-budget
returns-in-Field-clause-budget g c = λ some.
    let adds = c.in-Field.ensures.takes in
    less_to_come c.args.self.now c.print.new.self c.take.new.self c.in-Field.answer c.in-Field.count adds.some
    adds.taken c.in-Field.ensures.bounds c.print.ensures.counted

-- the bytes have a fault
pub returns-in-Fault-clause-halts : goal.returns-in-Fault-clause-halts
returns-in-Fault-clause-halts g c = λ front written stands.
    let told = c.in-Fault.ensures.stops front stands.answers stands.decoder in (
      [],
      g.O.Output.given_none c.args.out.now,
      (
        record { is = ap (verdict_as Lines) told.0; unspent = λ spent. spent },
        (stands.answers, told.1, append-nil written ∙ stands.are),
      ),
    )

-- or a field too many
pub returns-in-Limit-clause-halts : goal.returns-in-Limit-clause-halts
returns-in-Limit-clause-halts g c = λ front written stands.
    let told = c.in-Limit.ensures.stops front stands.answers stands.decoder in (
      [],
      g.O.Output.given_none c.args.out.now,
      inl (
        record { is = ap (verdict_as Lines) told.0; unspent = λ spent. spent },
        (stands.answers, told.1, append-nil written ∙ stands.are),
      ),
    )
