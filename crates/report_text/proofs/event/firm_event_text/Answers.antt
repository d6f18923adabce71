-- A word that is alone has its line.
use Rattle.report_text.proofs.event.firm_event_text.Goals as goal

pub returns-in-Alone : goal.returns-in-Alone
returns-in-Alone c = rw c.in-Alone.is c.alone_text.ensures
