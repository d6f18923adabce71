use Rattle.std.proofs.Common.{◌+◌, ◌∙◌, ap, length, map, List}
use Rattle.cell_tracker.specs.ChainPiece.{cells_from}
use Rattle.direction_reader.specs.declared.event.Event.{Event}
use Rattle.pcm_front.specs.Distance.{gaps}
use Rattle.tape_sound.specs.OnTime.{untimed}
use Rattle.tape_sound.proofs.FoundPiece.{heard_piece}
use Rattle.tape_sound.proofs.SamePiece.{same_piece}
use Rattle.tape_sound.proofs.UntimedEvents.{same_events}
use Rattle.tape_sound.proofs.laws.what_is_heard_of_a_tape_is_read.Goals as goal

-- the events are those of the cells as they are found, which have the bits of the tape's own
pub returns-clause-words : goal.returns-clause-words
returns-clause-words c = λ system profile delay tape cut lock moments events heard are at.
    let own = heard_piece profile delay tape cut moments heard in
    let said = (c.events_tell_the_tape.ensures system profile (gaps moments) events are).words own.cells cut lock
    own.piece at in
    let found = cells_from own.cells cut (gaps moments) lock in
    ap (λ (l : List Event). map untimed l) said
    ∙ same_events system _ 0 found (cells_from tape cut (gaps moments) lock)
    (same_piece delay own.late (cut + lock) (cut + length (gaps moments)) 0 tape own.cells own.are)

pub returns-clause-no_break : goal.returns-clause-no_break
returns-clause-no_break c = λ system profile delay tape cut moments events heard are.
    let own = heard_piece profile delay tape cut moments heard in
    (c.events_tell_the_tape.ensures system profile (gaps moments) events are).no_break own.cells cut own.piece
