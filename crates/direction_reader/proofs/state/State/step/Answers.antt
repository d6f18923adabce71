use Rattle.direction_reader.proofs.TrackerSteps.{hunt, start_at, start_mid, start_broken, zero_ends, half_waits}
use Rattle.direction_reader.proofs.TrackerSteps.{one_ends}
use Rattle.direction_reader.proofs.state.State.step.Goals as goal
use Rattle.std.proofs.Common.{◌≡◌}

pub returns-in-Hunt-clause-stepped : goal.returns-in-Hunt-clause-stepped
returns-in-Hunt-clause-stepped c =
    rw c.in-Hunting.is (hunt c.in-Hunting.hunting c.in-Hunt.next c.feed.new.four c.args.x c.in-Hunt.ensures.keeps
    c.in-Hunt.ensures.stands)

pub returns-in-StartBroken-clause-stepped : goal.returns-in-StartBroken-clause-stepped
returns-in-StartBroken-clause-stepped c =
    rw c.in-Hunting.is (start_broken c.in-Hunting.hunting c.in-StartBroken.next c.feed.new.four c.args.x
    c.in-StartBroken.field-1
    c.in-StartBroken.ensures.keeps c.in-StartBroken.ensures.stands)

pub returns-in-StartAt-clause-stepped : goal.returns-in-StartAt-clause-stepped
returns-in-StartAt-clause-stepped c =
    let fits : c.in-Hunting.hunting.profile ≡ c.args.profile = rw c.in-Hunting.is at c.requires.fits in
    rw c.in-Hunting.is (start_at c.in-Hunting.hunting c.in-StartAt.at_cell c.feed.new.four c.args.x c.reference.result
    c.args.profile
    fits c.reference.ensures c.in-StartAt.ensures.keeps c.in-StartAt.ensures.stands)

pub returns-in-StartMid-clause-stepped : goal.returns-in-StartMid-clause-stepped
returns-in-StartMid-clause-stepped c =
    let fits : c.in-Hunting.hunting.profile ≡ c.args.profile = rw c.in-Hunting.is at c.requires.fits in
    rw c.in-Hunting.is (start_mid c.in-Hunting.hunting c.in-StartMid.mid_cell c.feed.new.four c.args.x
    c.in-StartMid.zero
    c.reference-in-StartMid.result c.half.result c.args.profile fits c.reference-in-StartMid.ensures c.half.ensures
    c.in-StartMid.ensures.keeps c.in-StartMid.ensures.stands)

pub returns-in-One-clause-stepped : goal.returns-in-One-clause-stepped
returns-in-One-clause-stepped c =
    rw c.in-MidCell.is (one_ends c.new-mid_cell.result _ c.args.four.now c.in-One.at_cell c.feed-in-MidCell.new.four
    c.args.x c.in-One.field-1
    c.in-One.field-2 c.reference-in-One.result c.new-mid_cell.ensures c.reference-in-One.ensures
    c.in-One.ensures.keeps c.in-One.ensures.stands)

pub returns-in-Zero-clause-stepped : goal.returns-in-Zero-clause-stepped
returns-in-Zero-clause-stepped c =
    rw c.in-AtCell.is (zero_ends c.new-at_cell.result _ c.args.four.now c.in-Zero.next c.feed-in-AtCell.new.four
    c.args.x
    c.reference-in-Zero.result c.new-at_cell.ensures c.reference-in-Zero.ensures c.in-Zero.ensures.keeps
    c.in-Zero.ensures.stands)

pub returns-in-Half-clause-stepped : goal.returns-in-Half-clause-stepped
returns-in-Half-clause-stepped c =
    rw c.in-AtCell.is (half_waits c.new-at_cell.result _ c.args.four.now c.in-Half.mid_cell c.feed-in-AtCell.new.four
    c.args.x
    c.reference-in-Half.result c.half-in-Half.result c.new-at_cell.ensures c.reference-in-Half.ensures
    c.half-in-Half.ensures
    c.in-Half.ensures.keeps c.in-Half.ensures.stands)
