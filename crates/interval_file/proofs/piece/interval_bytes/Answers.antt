use Rattle.interval_file.proofs.SpelledIntervals.{next_back}
use Rattle.interval_file.proofs.piece.interval_bytes.Goals as goal

-- what was written is read back, in each version
pub returns-in-One-clause-back : goal.returns-in-One-clause-back
returns-in-One-clause-back c = next_back c.args.version c.args.x c.requires.least c.requires.most

pub returns-in-Two-clause-back : goal.returns-in-Two-clause-back
returns-in-Two-clause-back c = next_back c.args.version c.args.x c.requires.least c.requires.most

pub returns-in-Two-2-clause-back : goal.returns-in-Two-2-clause-back
returns-in-Two-2-clause-back c = next_back c.args.version c.args.x c.requires.least c.requires.most
