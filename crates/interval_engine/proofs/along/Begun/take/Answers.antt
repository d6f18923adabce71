use Rattle.std.proofs.Common.{refl}
use Rattle.interval_engine.proofs.SpentOrNot.{spent_either, unspent_either}
use Rattle.interval_engine.proofs.along.Begun.take.Goals as goal

-- the intervals so far pass a limit of the command's own
pub returns-then-is_spent-clause-halts : goal.returns-then-is_spent-clause-halts
returns-then-is_spent-clause-halts g c =
    let s = c.args.self.now in
    let n = c.advance-taken.new.self in
    let e = c.advance-taken.ensures in
    spent_either g.B.Behind.printing g.B.Behind.stands g.O.Output.given g.B.Behind.fits s.version n.version s.behind
    n.behind s.taken n.taken s.intervals n.intervals c.args.out.now c.advance-taken.new.out c.args.bytes.now
    c.advance-taken.result g.B.Behind.stands_well (c.if-is_spent.ensures.spent refl) e.advances e.halts

-- they do not
pub returns-clause-halts : goal.returns-clause-halts
returns-clause-halts g c =
    let s = c.args.self.now in
    let n = c.advance-taken.new.self in
    unspent_either g.B.Behind.printing g.B.Behind.stands g.O.Output.given s.version s.behind n.behind s.taken
    s.intervals c.args.out.now c.advance-taken.new.out c.args.bytes.now c.advance-taken.result
    g.B.Behind.stands_well (c.if-is_spent.ensures.going refl) c.advance-taken.ensures.halts
