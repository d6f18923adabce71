use Rattle.std.proofs.Common.{◌≡◌, inl, ◌++◌, ◌∷◌, ◌∙◌, [], take, length, sym, ap, arith, append-nil}
use Rattle.std.proofs.lemmas.List.{length-append}
use Rattle.mtc_reader.specs.Texts.{event_line}
use Rattle.signal_commands.specs.declared.mtc_read.MtcReport.{MtcReport}
use Rattle.signal_commands.specs.declared.mtc_read.TheConstants.{MAX_BYTES}
use Rattle.signal_commands.specs.MtcRead.{event_lines}
use Rattle.signal_commands.proofs.MidiGrows.{grown, none_counted, one_counted}
use Rattle.signal_commands.proofs.MidiLimit.{is_past, lines_at_limit}
use Rattle.signal_commands.proofs.mtc_read.MtcReportEngine.take.Goals as goal

-- as many bytes were read as may be, and here is another
pub returns-then-bytes-eq-MAX_BYTES-clause-halts : goal.returns-then-bytes-eq-MAX_BYTES-clause-halts
returns-then-bytes-eq-MAX_BYTES-clause-halts g c = λ front written stands.
    let bytes = c.args.bytes.now in
    let full : length front ≡ MAX_BYTES = sym stands.reader.count ∙ sym c.bytes.ensures
    ∙ c.if-bytes-eq-MAX_BYTES.true in (
      [],
      g.O.Output.given_none c.args.out.now,
      inl (
        record {
          is = is_past MAX_BYTES (front ++ bytes)
              (omega (arith, full, c.requires.some, length-append front bytes));
          unspent = λ spent. spent;
        },
        append-nil written ∙ stands.are ∙ sym (lines_at_limit MAX_BYTES front bytes full),
      ),
    )

-- the line of an event was written
pub returns-in-Some-clause-works : goal.returns-in-Some-clause-works
returns-in-Some-clause-works g c = λ front written stands.
    let bytes = c.args.bytes.now in
    let r = c.args.self.now in
    let next = c.print.new.self in
    let event = c.in-Some.event in
    let e = c.read-count.ensures in
    let p = c.print.ensures in
    let gives = rw c.in-Some.is at (e.gives front stands.reader) in
    let counts = one_counted r c.read-count.new.self next event (ap (λ (m : MtcReport). m.full) e.kept)
    (ap (λ (m : MtcReport). m.quarter) e.kept)
    (ap (λ (m : MtcReport). m.refused) e.kept) p.counted in (
      event_lines (event ∷ []),
      rw (append-nil (event_line event)) p.line,
      grown r next front written (take c.read-count.result.0 bytes) (event ∷ []) stands (rw p.reader e.within)
          (rw p.reader (e.stands front stands.reader)) gives counts,
    )

-- there is none
pub returns-in_default-clause-works : goal.returns-in_default-clause-works
returns-in_default-clause-works g c = λ front written stands.
    let bytes = c.args.bytes.now in
    let r = c.args.self.now in
    let next = c.read-count.new.self in
    let e = c.read-count.ensures in
    let gives = rw c.in_default.is at (e.gives front stands.reader) in
    let counts = none_counted r next (ap (λ (m : MtcReport). m.full) e.kept) (ap (λ (m : MtcReport). m.quarter) e.kept)
    (ap (λ (m : MtcReport). m.refused) e.kept) in (
      [],
      g.O.Output.given_none c.args.out.now,
      grown r next front written (take c.read-count.result.0 bytes) [] stands e.within (e.stands front stands.reader)
          gives counts,
    )
