-- A clean recording of frames: cells of one length, with the bits 0 and 1 and then those of a word for each frame that
-- was heard or invented. And what is read from it.
use Rattle.std.specs.Prelude.{ℕ, suc, ◌+◌, ◌*◌, Bool, true, false, List, [], ◌∷◌, map}
use Rattle.std.specs.List.{flat_map}
use Rattle.biphase.specs.declared.cell.Cell.{Cell}
use Rattle.biphase.specs.Chain.{flat}
use Rattle.biphase.specs.Shape.{cell_with}
use Rattle.direction_reader.specs.declared.event.Event.{Event}
use Rattle.direction_reader.specs.declared.event.Event.TheVariants.{Word}
use Rattle.direction_reader.specs.Played.{Played, bits_of_words}
use Rattle.flywheel.specs.declared.frame.Frame.{Frame}
use Rattle.flywheel.specs.declared.frame.Frame.TheVariants.{Heard, Invented, Gone}
use Rattle.ltc_jam.specs.Word.{played_as}

-- the cells of bits, each of this many ticks
abbrev pub steady_cells : ℕ → List Bool → List Cell
steady_cells cell bits = map (cell_with cell) bits

-- the word that is written of a frame, in its direction; none where the time code is gone
abbrev pub words_of : Frame → List Played
words_of (Heard label direction joined tick) = played_as direction label ∷ []
words_of (Invented label direction step tick) = played_as direction label ∷ []
words_of (Gone tick) = []

-- the words of frames, in order
abbrev pub words_of_frames : List Frame → List Played
words_of_frames frames = flat_map words_of frames

-- the intervals that stand first: those of the bits 0 and 1, by which a reader locks
abbrev pub intervals_of_lead : ℕ → List ℕ
intervals_of_lead cell = flat (steady_cells cell (false ∷ true ∷ []))

-- the intervals of a frame
abbrev pub intervals_of_frame : ℕ → Frame → List ℕ
intervals_of_frame cell frame = flat (steady_cells cell (bits_of_words (words_of frame)))

-- the cells of a clean recording
abbrev pub clean_cells : ℕ → List Frame → List Cell
clean_cells cell frames = steady_cells cell (false ∷ true ∷ bits_of_words (words_of_frames frames))

-- ---- what is read from it

-- of words behind k others: each is read with the tick at its end, which is that of 82 cells and of 80 more for each
-- word before it, and with the length of 80 cells
unfoldable pub events_of_played : ℕ → ℕ → List Played → List Event
events_of_played cell k [] = []
events_of_played cell k (p ∷ more) =
    Word p.direction p.word ((82 + 80 * k) * cell) (80 * cell) ∷ events_of_played cell (suc k) more

-- an event for each frame that was heard or invented, in order, and no other
abbrev pub clean_events : ℕ → List Frame → List Event
clean_events cell frames = events_of_played cell 0 (words_of_frames frames)
