use Rattle.std.proofs.Common.{arith, ◌∙◌, ◌≤◌, [], subst, take, drop, length, ◌-◌, append-nil}
use Rattle.tc_command.specs.KeptBrings.{Brings, brings_more}
use Rattle.tc_command.specs.Halt.{IsHalt}
use Rattle.lemmas.specs.Lists.{cut_at, cut_more, within_rest}
use Rattle.lemmas.specs.Results.{through}
use Rattle.tc_io.specs.ByteLemmas.{are_bytes}
use Rattle.tc_command.proofs.running.take_all.Goals as goal

-- the bytes before these were worked on, and then these
pub bytes-preserved : goal.bytes-preserved
bytes-preserved g c =
    let i = c.bytes.invariant in
    let e = c.in_ok-count.ensures in
    let n = c.in_ok-count.count in
    let bytes = c.args.bytes.now in
    let some : 1 ≤ n = let is = c.if-count-eq0.false in omega (arith, is) in
    let less = e.budget some in
    record {
      within = within_rest c.bytes.at n bytes i.within e.count;
      going = e.going;
      budget = omega (arith, less, i.budget);
      falls = λ any. omega (arith, less, i.budget);
      choice = e.choice ∙ i.choice;
      works = subst (λ bs. Brings g.O.Output.given (g.E.Engine.stands c.args.engine.now)
          (g.E.Engine.stands c.take.new.self) c.args.out.now c.take.new.out bs) (cut_more c.bytes.at n bytes)
          (brings_more g.O.Output.given (g.E.Engine.stands c.args.engine.now) (g.E.Engine.stands c.bytes.engine)
          (g.E.Engine.stands c.take.new.self) c.args.out.now c.bytes.out c.take.new.out (take c.bytes.at bytes)
          (take n (take (length bytes - c.bytes.at) (drop c.bytes.at bytes))) (g.O.Output.given_more _ _ _) i.works
          e.works);
    }

-- the rest is too little, and nothing was worked on
pub returns-then-count-eq0-clause-works : goal.returns-then-count-eq0-clause-works
returns-then-count-eq0-clause-works g c =
    let i = c.bytes.invariant in
    let e = c.in_ok-count.ensures in
    let bytes = c.args.bytes.now in
    subst (λ bs. Brings g.O.Output.given (g.E.Engine.stands c.args.engine.now) (g.E.Engine.stands c.take.new.self)
    c.args.out.now c.take.new.out bs) (append-nil (take c.bytes.at bytes))
    (brings_more g.O.Output.given (g.E.Engine.stands c.args.engine.now) (g.E.Engine.stands c.bytes.engine)
    (g.E.Engine.stands c.take.new.self) c.args.out.now c.bytes.out c.take.new.out (take c.bytes.at bytes) []
    (g.O.Output.given_more _ _ _) i.works (rw c.if-count-eq0.true at e.works))

-- and the rest shows why it halts
pub returns-in_err-count-clause-halts : goal.returns-in_err-count-clause-halts
returns-in_err-count-clause-halts g c =
    let i = c.bytes.invariant in
    let bytes = c.args.bytes.now in
    let halts = IsHalt (g.E.Engine.meaning (g.E.Engine.choice c.bytes.engine)) c.in_err-count.field-0.0 in
    through c.from_residual.result c.from_residual.ensures.1 (λ halt same. rw (same, ← i.choice)
    (subst (λ bs. Brings g.O.Output.given (g.E.Engine.stands c.args.engine.now) halts c.args.out.now c.take.new.out bs)
    (cut_at c.bytes.at bytes i.within)
    (brings_more g.O.Output.given (g.E.Engine.stands c.args.engine.now) (g.E.Engine.stands c.bytes.engine) halts
    c.args.out.now c.bytes.out c.take.new.out (take c.bytes.at bytes)
    (take (length bytes - c.bytes.at) (drop c.bytes.at bytes)) (g.O.Output.given_more _ _ _) i.works
    c.in_err-count.ensures.halts)))

-- the bytes of a slice are bytes
pub returns-clause-bytes : goal.returns-clause-bytes
returns-clause-bytes g c = are_bytes c.args.bytes.now c.type_inv.bytes

pub returns-then-count-eq0-clause-bytes : goal.returns-then-count-eq0-clause-bytes
returns-then-count-eq0-clause-bytes g c = are_bytes c.args.bytes.now c.type_inv.bytes

pub returns-in_err-count-clause-bytes : goal.returns-in_err-count-clause-bytes
returns-in_err-count-clause-bytes g c = are_bytes c.args.bytes.now c.type_inv.bytes
