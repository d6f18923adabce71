-- The line of a refused word and that of a break are the same under each header.
use Rattle.report_text.proofs.event.event_text.Goals as goal

pub returns-in-Refused : goal.returns-in-Refused
returns-in-Refused c = rw c.in-Refused.is (c.refused_text.ensures c.args.header.now)

pub returns-in-Lost : goal.returns-in-Lost
returns-in-Lost c = rw c.in-Lost.is (c.lost_text.ensures c.args.header.now)
