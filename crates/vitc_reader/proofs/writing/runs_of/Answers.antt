use Rattle.std.proofs.Common.{arith}
use Rattle.std.proofs.lemmas.List.{length-take-le}
use Rattle.vitc_reader.proofs.WrittenSoFar.{cells_left, room, write_more, all_written, exactly_written, odd_number}
use Rattle.vitc_reader.proofs.WrittenSoFar.{read_back}
use Rattle.vitc_reader.proofs.writing.runs_of.Goals as goal

-- bits that are left are within the line
pub begin_of-requires-clause-cell : goal.begin_of-requires-clause-cell
begin_of-requires-clause-cell c =
    cells_left c.args.length c.args.bits c.args.runs.now c.loop-rest.runs
    c.loop-rest.rest c.loop-rest.cell c.loop-rest.number c.run_of-cells.result c.loop-rest.is_high c.loop-rest.invariant
    c.requires.width c.run_of-cells.ensures.least c.run_of-cells.ensures.some

-- a run has a cell at least, so there is room for one more
pub offset_bounds-runs-number : goal.offset_bounds-runs-number
offset_bounds-runs-number c =
    let left = cells_left c.args.length c.args.bits c.args.runs.now c.loop-rest.runs
    c.loop-rest.rest c.loop-rest.cell c.loop-rest.number c.run_of-cells.result c.loop-rest.is_high c.loop-rest.invariant
    c.requires.width c.run_of-cells.ensures.least c.run_of-cells.ensures.some in
    let room = room c.args.length c.args.bits c.args.runs.now c.loop-rest.runs
    c.loop-rest.rest c.loop-rest.cell c.loop-rest.number c.loop-rest.is_high c.loop-rest.invariant in
    let least = c.run_of-cells.ensures.least in
    omega (arith, left, room, least)

pub bounds-runs-number : goal.bounds-runs-number
bounds-runs-number c =
    let left = cells_left c.args.length c.args.bits c.args.runs.now c.loop-rest.runs
    c.loop-rest.rest c.loop-rest.cell c.loop-rest.number c.run_of-cells.result c.loop-rest.is_high c.loop-rest.invariant
    c.requires.width c.run_of-cells.ensures.least c.run_of-cells.ensures.some in
    let room = room c.args.length c.args.bits c.args.runs.now c.loop-rest.runs
    c.loop-rest.rest c.loop-rest.cell c.loop-rest.number c.loop-rest.is_high c.loop-rest.invariant in
    let least = c.run_of-cells.ensures.least in
    omega (arith, left, room, least)

pub overflow_add-number : goal.overflow_add-number
overflow_add-number c =
    let left = cells_left c.args.length c.args.bits c.args.runs.now c.loop-rest.runs
    c.loop-rest.rest c.loop-rest.cell c.loop-rest.number c.run_of-cells.result c.loop-rest.is_high c.loop-rest.invariant
    c.requires.width c.run_of-cells.ensures.least c.run_of-cells.ensures.some in
    let room = room c.args.length c.args.bits c.args.runs.now c.loop-rest.runs
    c.loop-rest.rest c.loop-rest.cell c.loop-rest.number c.loop-rest.is_high c.loop-rest.invariant in
    let least = c.run_of-cells.ensures.least in
    omega (arith, left, room, least)

pub loop-rest-preserved : goal.loop-rest-preserved
loop-rest-preserved c =
    let left = cells_left c.args.length c.args.bits c.args.runs.now c.loop-rest.runs
    c.loop-rest.rest c.loop-rest.cell c.loop-rest.number c.run_of-cells.result c.loop-rest.is_high c.loop-rest.invariant
    c.requires.width c.run_of-cells.ensures.least c.run_of-cells.ensures.some in
    let room = room c.args.length c.args.bits c.args.runs.now c.loop-rest.runs
    c.loop-rest.rest c.loop-rest.cell c.loop-rest.number c.loop-rest.is_high c.loop-rest.invariant in
    let least = c.run_of-cells.ensures.least in
    let more = write_more c.args.length c.args.bits c.args.runs.now c.loop-rest.runs
    c.loop-rest.rest c.loop-rest.cell c.loop-rest.number c.run_of-cells.result c.loop-rest.is_high
    c.loop-rest.invariant c.requires.width (omega (arith, left, room, least)) c.run_of-cells.ensures.least
    c.run_of-cells.ensures.some
    c.run_of-cells.ensures.run c.run_of-cells.ensures.change c.run_of-cells.ensures.exact
    (omega (arith, c.loop-rest-test.true)) in
    rw (c.begin_of.ensures.value, c.begin_of-in-loop-rest.ensures.value) more

pub returns-clause-number : goal.returns-clause-number
returns-clause-number c =
    let s = rw c.loop-rest-test.false at c.loop-rest.invariant in
    (odd_number c.args.length c.args.bits c.args.runs.now c.loop-rest.runs c.loop-rest.cell c.loop-rest.number
    c.loop-rest.is_high s).1

pub returns-clause-written : goal.returns-clause-written
returns-clause-written c =
    let s = rw c.loop-rest-test.false at c.loop-rest.invariant in
    all_written c.args.length c.args.bits c.args.runs.now c.loop-rest.runs c.loop-rest.cell c.loop-rest.number
    c.loop-rest.is_high s

pub returns-clause-back : goal.returns-clause-back
returns-clause-back c =
    let s = rw c.loop-rest-test.false at c.loop-rest.invariant in
    let odd = odd_number c.args.length c.args.bits c.args.runs.now c.loop-rest.runs c.loop-rest.cell c.loop-rest.number
    c.loop-rest.is_high s in
    let size = c.loop-rest.invariant.size in
    let few = odd.1 in
    let e = length-take-le c.loop-rest.number c.loop-rest.runs (omega (arith, size, few)) in
    rw e odd

pub returns-clause-same : goal.returns-clause-same
returns-clause-same c =
    let s = rw c.loop-rest-test.false at c.loop-rest.invariant in
    read_back c.args.length c.args.bits c.args.runs.now c.loop-rest.runs c.loop-rest.cell c.loop-rest.number
    c.loop-rest.is_high c.requires.length.0 s

pub returns-clause-exact : goal.returns-clause-exact
returns-clause-exact c =
    let s = rw c.loop-rest-test.false at c.loop-rest.invariant in
    exactly_written c.args.length c.args.bits c.args.runs.now c.loop-rest.runs c.loop-rest.cell c.loop-rest.number
    c.loop-rest.is_high s
