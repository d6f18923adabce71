use Rattle.std.proofs.Common.{ℕ, Ok, refl, ap, arith}
use Rattle.vitc_reader.proofs.ReadSoFar.{below_ninety, only}
use Rattle.vitc_reader.proofs.TurnedSoFar.{below, not_read, refused_at, turned_by, turned_stands}
use Rattle.lemmas.specs.Results.{through}
use Rattle.vitc_reader.proofs.reading.read_runs.Goals as goal

pub with-requires-clause-bits : goal.with-requires-clause-bits
with-requires-clause-bits c = below c.args.length c.args.runs.now c.runs.index c.runs.line.bits c.runs.line.cells
    c.runs.invariant

pub returns-in_err-line-clause-only : goal.returns-in_err-line-clause-only
returns-in_err-line-clause-only c = λ bits stand.
    let least = c.requires.length.0 in
    absurd (not_read c.args.length c.args.runs.now c.runs.index _ c.runs.line c.in_err-line.field-0.0 bits
    (omega (arith, least)) c.runs.invariant
    c.runs-test.true refl c.in_err-line.ensures.refuses stand)

pub returns-in_err-line-clause-refuses : goal.returns-in_err-line-clause-refuses
returns-in_err-line-clause-refuses c =
    through c.from_residual.result c.from_residual.ensures.1 (λ fault same.
    rw same (refused_at c.args.length c.args.runs.now c.runs.index _ c.runs.line c.in_err-line.field-0.0
    c.runs.invariant c.runs-test.true refl
    c.in_err-line.ensures.refuses))

pub runs-preserved : goal.runs-preserved
runs-preserved c =
    turned_by c.args.length c.args.runs.now c.runs.index _ c.runs.line c.in_ok-line.line c.runs.invariant
    c.runs-test.true refl
    c.in_ok-line.ensures.next

pub returns-clause-only : goal.returns-clause-only
returns-clause-only c = λ bits stand.
    let least = c.requires.length.0 in
    let here = turned_stands c.args.length c.args.runs.now c.runs.index c.runs.line.bits c.runs.line.cells
    c.runs.invariant
    c.runs-test.false c.requires.runs.0 in
    ap (λ (n : ℕ). Ok n) (only c.args.length c.args.runs.now c.runs.line.bits bits (omega (arith, least)) here stand)

pub returns-clause-width : goal.returns-clause-width
returns-clause-width c =
    below_ninety c.runs.line.bits c.runs.line.cells
    (below c.args.length c.args.runs.now c.runs.index c.runs.line.bits c.runs.line.cells c.runs.invariant)
    c.runs.invariant.so_far.few
