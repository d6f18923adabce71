use Rattle.std.proofs.Common.{◌≡◌, ◌-◌, ◌*◌, ◌++◌, [], ◌∷◌, replicate, subst}
use Rattle.pcm_front.specs.Distance.{pieces_in}
use Rattle.pcm_front.proofs.Passing.{begun_as, ended_as}
use Rattle.pcm_front.proofs.pace.Pace.intervals.Goals as goal

pub returns-in-Some-clause-intervals : goal.returns-in-Some-clause-intervals
returns-in-Some-clause-intervals c =
    let n = c.longest-length.result in
    let whole = c.pieces-whole.result in
    let are = subst (λ k. pieces_in n (c.in-Some.distance - c.begun-before.result * k) ≡ replicate whole.0 n ++ whole.1
    ∷ []) c.from.ensures
    c.pieces-whole.ensures.pieces in
    ended_as c.args.self c.args.before c.args.distance c.in-Some.distance c.args.now n whole.0 whole.1
    c.begun-before.result c.begun-begun.result
    c.requires.pace c.in-Some.is c.requires.passes c.longest-length.ensures c.begun-before.ensures.value
    c.begun-begun.ensures.value are

pub returns-in-None-clause-intervals : goal.returns-in-None-clause-intervals
returns-in-None-clause-intervals c =
    begun_as c.args.self c.args.before c.args.distance c.args.now c.longest-length.result c.begun-before.result
    c.begun-begun.result c.requires.pace
    c.in-None.is c.requires.passes c.longest-length.ensures c.begun-before.ensures.value c.begun-begun.ensures.value
