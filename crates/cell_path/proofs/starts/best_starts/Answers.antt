use Rattle.std.proofs.Common.{arith, refl}
use Rattle.cell_path.proofs.LengthsOfCells.{is_even}
use Rattle.cell_path.proofs.OneMoreLength.{no_starts}
use Rattle.cell_path.proofs.starts.best_starts.Goals as goal

pub begin_some-requires-clause-even : goal.begin_some-requires-clause-even
begin_some-requires-clause-even c = is_even 1 1 20 refl

pub begin_some-requires-2-clause-even : goal.begin_some-requires-2-clause-even
begin_some-requires-2-clause-even c = is_even 2 21 32 refl

pub begin_some-requires-3-clause-even : goal.begin_some-requires-3-clause-even
begin_some-requires-3-clause-even c = is_even 4 33 44 refl

pub returns : goal.returns
returns c =
    let rows = c.args.rows.now in
    let levels = c.args.levels in
    let w = c.costs_of.ensures in
    let x = c.costs_of-2.ensures in
    let y = c.costs_of-3.ensures in
    let z = c.costs_of-4.ensures in
    let first = c.begin.ensures.started rows levels (record {
      shorter = λ some. absurd (omega (arith, some));
      longer = λ less. w.longer;
      jump = w.jump;
    }) (no_starts rows c.args.marks.now c.args.ends.now c.args.best levels) in
    let second = c.begin-2.ensures.started rows levels (record {
      shorter = λ some. x.shorter;
      longer = λ less. x.longer;
      jump = x.jump;
    }) (c.begin_some.ensures.started rows first) in
    let third = c.begin-3.ensures.started rows levels (record {
      shorter = λ some. y.shorter;
      longer = λ less. y.longer;
      jump = y.jump;
    }) (c.begin_some-2.ensures.started rows second) in
    record {
      started = c.begin-4.ensures.started rows levels (record {
        shorter = λ some. z.shorter;
        longer = λ less. absurd (omega (arith, less));
        jump = z.jump;
      }) (c.begin_some-3.ensures.started rows third);
    }
