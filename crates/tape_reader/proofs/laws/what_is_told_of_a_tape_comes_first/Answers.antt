use Rattle.tape_reader.proofs.OneOfFour.{told_of}
use Rattle.tape_reader.specs.Tape.{settings_of, told_until}
use Rattle.tape_reader.proofs.laws.what_is_told_of_a_tape_comes_first.Goals as goal

pub returns-clause-told : goal.returns-clause-told
returns-clause-told c =
    told_of c.what_it_has_told.ensures c.what_it_has_told-2.ensures c.what_it_has_told-3.ensures
    c.what_it_has_told-4.ensures

pub returns-clause-later : goal.returns-clause-later
returns-clause-later c = λ tape intervals more told events h are.
    let s = settings_of tape in
    c.what_is_told_comes_first.ensures.all s.witness s.system s.profile intervals more told events (told_until tape)
    (told_of c.what_it_has_told.ensures c.what_it_has_told-2.ensures c.what_it_has_told-3.ensures
    c.what_it_has_told-4.ensures tape intervals told h)
    are
