use Rattle.direction_reader.proofs.waiting.hear_events.Goals as goal

-- what is given lies within the ticks
pub returns-clause-within : goal.returns-clause-within
returns-clause-within c = λ n before tick late brings within.
    c.hear.ensures.within before tick late within
    (c.judge_found-forward.ensures.at tick (c.played.ensures.at n tick brings))
    (c.played-2.ensures.at n tick brings) c.played-2.ensures.way

-- and comes in turn
pub returns-clause-in_turn : goal.returns-clause-in_turn
returns-clause-in_turn c = λ n before tick late brings within.
    c.hear.ensures.in_turn before tick late within
    (c.judge_found-forward.ensures.at tick (c.played.ensures.at n tick brings))
    (c.played-2.ensures.at n tick brings)
