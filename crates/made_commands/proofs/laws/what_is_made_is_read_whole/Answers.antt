use Rattle.std.proofs.Common.{arith}
use Rattle.biphase.specs.Chain.{flat}
use Rattle.made_commands.specs.Made.{made_cells, made_header}
use Rattle.made_commands.proofs.MadeIsRead.{made_is_read}
use Rattle.made_commands.proofs.MadeIsShort.{made_is_short}
use Rattle.made_commands.proofs.laws.what_is_made_is_read_whole.Goals as goal

pub returns-clause-few : goal.returns-clause-few
returns-clause-few c = made_is_short c.shaped_cells_are_a_chain.ensures.bits

pub returns-clause-back : goal.returns-clause-back
returns-clause-back c = λ s is. made_is_read c.steps_lead_to_labels.ensures c.words_of_labels_are_spelled.ensures
    c.shaped_cells_are_a_chain.ensures.chain c.shaped_cells_are_a_chain.ensures.bits
    c.shaped_cells_are_a_chain.ensures.intervals c.played_words_are_read.ensures s is

pub returns-clause-read : goal.returns-clause-read
returns-clause-read c = λ s is.
    let few = made_is_short c.shaped_cells_are_a_chain.ensures.bits s is in
    c.a_file_is_read_as_it_was_written.ensures.read _ (made_header s) (flat (made_cells s))
    (returns-clause-back c s is).file (omega (arith, few))
