use Rattle.std.proofs.Common.{refl}
use Rattle.direction_reader.specs.Played.{low_bits}
use Rattle.direction_reader.proofs.firm_laws.the_sync_words_are_each_others_reverse.Goals as goal

pub returns-clause-backward : goal.returns-clause-backward
unfolding low_bits
returns-clause-backward c = refl
