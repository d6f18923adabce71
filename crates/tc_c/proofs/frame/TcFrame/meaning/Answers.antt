use Rattle.tc_c.proofs.OneFrame.{only_gone, only_heard, only_invented}
use Rattle.tc_c.proofs.frame.TcFrame.meaning.Goals as goal

-- numbers of one kind mean no frame of another
pub returns-in-1-clause-only : goal.returns-in-1-clause-only
returns-in-1-clause-only c = λ f means.
    only_heard c.args.self.now f c.heard.result c.in-1.is c.heard.ensures.only means

pub returns-in-2-clause-only : goal.returns-in-2-clause-only
returns-in-2-clause-only c = λ f means.
    only_invented c.args.self.now f c.invented.result c.in-2.is c.invented.ensures.only means

pub returns-in-3-clause-only : goal.returns-in-3-clause-only
returns-in-3-clause-only c = λ f means. only_gone c.args.self.now f c.gone.result c.in-3.is c.gone.ensures.only means
