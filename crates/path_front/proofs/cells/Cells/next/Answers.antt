use Rattle.path_front.proofs.cells.Cells.next.Goals as goal

pub returns-in-Some-clause-gives : goal.returns-in-Some-clause-gives
returns-in-Some-clause-gives c = λ samples given stand.
    c.in-Some.ensures.gives samples given (c.steps.invariant.stands samples given stand)
