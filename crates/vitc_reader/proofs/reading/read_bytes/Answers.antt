use Rattle.std.proofs.Common.{◌≡◌, ◌<◌, ◌*◌, ℕ, Ok, length, get_or, ap, ◌∙◌, arith}
use Rattle.std.proofs.lemmas.List.{take_rest}
use Rattle.byteorder.specs.Endian.{big_number}
use Rattle.vitc_reader.specs.Runs.{runs_of_bytes}
use Rattle.vitc_reader.proofs.ReadSoFar.{below_ninety, only}
use Rattle.vitc_reader.proofs.RunsOfBytes.{count_of, pair_at}
use Rattle.vitc_reader.proofs.TurnedSoFar.{below, not_read, refused_at, turned_by, turned_stands}
use Rattle.lemmas.specs.Results.{through}
use Rattle.vitc_reader.proofs.reading.read_bytes.Goals as goal

pub with-requires-clause-bits : goal.with-requires-clause-bits
with-requires-clause-bits c = below c.args.length (runs_of_bytes c.args.bytes.now) c.runs.index c.runs.line.bits
    c.runs.line.cells c.runs.invariant

pub returns-in_err-line-clause-refuses : goal.returns-in_err-line-clause-refuses
returns-in_err-line-clause-refuses c =
    let bytes = c.args.bytes.now in
    let there = c.runs-test.true in
    let lt : c.runs.index < length (runs_of_bytes bytes) = rw (count_of bytes) there in
    let run : c.read_u16-run.result ≡ get_or (runs_of_bytes bytes) c.runs.index 0 =
    c.read_u16-run.ensures ∙ ap (big_number 2) (take_rest bytes (2 * c.runs.index))
    ∙ pair_at c.runs.index bytes there in
    through c.from_residual.result c.from_residual.ensures.1 (λ fault same.
    rw same (refused_at c.args.length (runs_of_bytes bytes) c.runs.index c.read_u16-run.result c.runs.line
    c.in_err-line.field-0.0 c.runs.invariant lt run
    c.in_err-line.ensures.refuses))

pub returns-in_err-line-clause-only : goal.returns-in_err-line-clause-only
returns-in_err-line-clause-only c = λ bits stand.
    let bytes = c.args.bytes.now in
    let runs = runs_of_bytes bytes in
    let there = c.runs-test.true in
    let least = c.requires.length.0 in
    let lt : c.runs.index < length (runs_of_bytes bytes) = rw (count_of bytes) there in
    let run : c.read_u16-run.result ≡ get_or (runs_of_bytes bytes) c.runs.index 0 =
    c.read_u16-run.ensures ∙ ap (big_number 2) (take_rest bytes (2 * c.runs.index))
    ∙ pair_at c.runs.index bytes there in
    absurd (not_read c.args.length runs c.runs.index c.read_u16-run.result c.runs.line c.in_err-line.field-0.0 bits
    (omega (arith, least)) c.runs.invariant lt run c.in_err-line.ensures.refuses stand)

pub runs-preserved : goal.runs-preserved
runs-preserved c =
    let bytes = c.args.bytes.now in
    let there = c.runs-test.true in
    let lt : c.runs.index < length (runs_of_bytes bytes) = rw (count_of bytes) there in
    let run : c.read_u16-run.result ≡ get_or (runs_of_bytes bytes) c.runs.index 0 =
    c.read_u16-run.ensures ∙ ap (big_number 2) (take_rest bytes (2 * c.runs.index))
    ∙ pair_at c.runs.index bytes there in
    turned_by c.args.length (runs_of_bytes bytes) c.runs.index c.read_u16-run.result c.runs.line c.in_ok-line.line
    c.runs.invariant lt run
    c.in_ok-line.ensures.next

pub returns-clause-reads : goal.returns-clause-reads
returns-clause-reads c =
    let bytes = c.args.bytes.now in
    turned_stands c.args.length (runs_of_bytes bytes) c.runs.index c.runs.line.bits c.runs.line.cells c.runs.invariant
    (rw (count_of bytes) c.runs-test.false) c.requires.runs.0

pub returns-clause-only : goal.returns-clause-only
returns-clause-only c = λ bits stand.
    let runs = runs_of_bytes c.args.bytes.now in
    let least = c.requires.length.0 in
    let here = turned_stands c.args.length runs c.runs.index c.runs.line.bits c.runs.line.cells c.runs.invariant
    (rw (count_of c.args.bytes.now) c.runs-test.false) c.requires.runs.0 in
    ap (λ (n : ℕ). Ok n) (only c.args.length runs c.runs.line.bits bits (omega (arith, least)) here stand)

pub returns-clause-width : goal.returns-clause-width
returns-clause-width c =
    below_ninety c.runs.line.bits c.runs.line.cells
    (below c.args.length (runs_of_bytes c.args.bytes.now) c.runs.index c.runs.line.bits c.runs.line.cells
    c.runs.invariant) c.runs.invariant.so_far.few
