use Rattle.vitc_reader.proofs.TableOfOnes.{ones_at}
use Rattle.vitc_reader.proofs.ones.ones.Goals as goal

pub returns : goal.returns
returns c = ones_at c.args.cells c.requires
