-- The recording that `ltc-make` makes, all of it at once: words from a label on, and cells of a shape.
use Rattle.std.specs.Prelude.{ℕ, true, false, List, ◌∷◌, map, take, drop}
use Rattle.std.specs.List.{range_with_len}
use Rattle.biphase.specs.declared.cell.Cell.{Cell}
use Rattle.biphase.specs.declared.profile.Profile.TheVariants.{Normal}
use Rattle.biphase.specs.Chain.{flat}
use Rattle.biphase.specs.Shape.{shaped}
use Rattle.tc_address.specs.declared.direction.Direction.{Direction}
use Rattle.tc_address.specs.Count.{system_with}
use Rattle.tc_address.specs.Label.{Address}
use Rattle.tc_address.specs.Numbering.{step}
use Rattle.direction_reader.specs.declared.event.Event.{Event}
use Rattle.direction_reader.specs.ListEvents.{duration, AreEvents}
use Rattle.direction_reader.specs.Played.{Played, bits_of_words, events_of_words}
use Rattle.flywheel.specs.Frames.{steps_in}
use Rattle.interval_file.specs.declared.header.FileVersion.TheVariants.{One}
use Rattle.interval_file.specs.declared.header.IntervalHeader.{IntervalHeader}
use Rattle.interval_file.specs.Grammar.{file_of, IsFile}
use Rattle.ltc_jam.specs.Word.{played_as}
use Rattle.tc_job.specs.Stripe.{Striping}
use Rattle.tc_command.specs.Told.{Told, told_made}

-- this many frames from a label on in a direction, each with its word
unfoldable pub frames_from : Direction → Address → ℕ → List Played
frames_from direction label frames =
    map (λ k. played_as direction (step label (steps_in direction k))) (range_with_len 0 frames)

-- the frames of a recording
abbrev pub made_frames : Striping → List Played
made_frames s = frames_from s.direction s.label s.frames

-- its cells: those of the bits 0 and 1, by which a reader locks, and then those of the frames
abbrev pub made_cells : Striping → List Cell
made_cells s = shaped s.shape (false ∷ true ∷ bits_of_words (made_frames s))

-- the header of the file, of version 1
abbrev pub made_header : Striping → IntervalHeader
made_header s = record { version = One; system = system_with s.label.count; tick_rate = s.tick_rate }

-- the file
abbrev pub made : Striping → List ℕ
made s = file_of (made_header s) (flat (made_cells s))

-- ---- what is read from it

-- an event a frame: its word, with the tick that is the sum of the cells to its end, and the length of its 80 cells
abbrev pub made_events : Striping → List Event
made_events s = events_of_words (duration (take 2 (made_cells s))) (drop 2 (made_cells s)) (made_frames s)

-- what was written is the file of its header and its intervals, and these are their events: each frame is read, none
-- is refused, and no code is lost
pub record IsReadBack (s : Striping) (written : List ℕ) : Type 0 where
  pub file : IsFile written (made_header s) (flat (made_cells s))
  pub events : AreEvents (system_with s.label.count) Normal (flat (made_cells s)) (made_events s)

-- what is claimed of `ltc-make`
abbrev pub told_ltc_make : Striping → Told
told_ltc_make s = told_made (made s) (IsReadBack s)
