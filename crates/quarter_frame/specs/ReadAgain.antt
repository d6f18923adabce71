-- What a reader of MIDI Time Code reads of frames that are sent: run by run, one full message and then one label for
-- each two frames, each at the byte that completes it.
use Rattle.std.specs.Prelude.{◌≡◌, ℕ, ◌+◌, ◌*◌, Bool, true, cond, List, [], ◌∷◌, ◌++◌, length, map}
use Rattle.std.specs.List.{flat_map, take_while}
use Rattle.tc_address.specs.declared.direction.Direction.{Direction}
use Rattle.tc_address.specs.declared.direction.Direction.TheVariants.{Forward, Backward}
use Rattle.tc_address.specs.Label.{Address, IsLabel}
use Rattle.flywheel.specs.declared.heard.HeardWord.{HeardWord}
use Rattle.flywheel.specs.declared.frame.Frame.{Frame}
use Rattle.flywheel.specs.declared.frame.Frame.TheVariants.{Heard, Invented, Gone}
use Rattle.mtc_reader.specs.declared.event.MtcEvent.{MtcEvent}
use Rattle.mtc_reader.specs.declared.event.MtcEvent.TheVariants.{Full, Quarter}
use Rattle.quarter_frame.specs.Runs.{before, begins_run}
use Rattle.flywheel.specs.Kinds.{is_gone}
use Rattle.flywheel.specs.GoOn.{goes_on}

-- the label of a frame, and the way in which the tape moved
pub record Placed : Type 0 where
  pub label : Address
  pub direction : Direction

-- those of a frame, but of an end
abbrev pub placed : Frame → List Placed
placed (Heard label direction joined tick) = record { label = label; direction = direction } ∷ []
placed (Invented label direction step tick) = record { label = label; direction = direction } ∷ []
placed (Gone tick) = []

-- those of some frames, one after another
abbrev pub all_placed : List Frame → List Placed
all_placed frames = flat_map placed frames

-- of two frames that follow each other in a run, the label that is one before the other: the first one's forward, the
-- second one's backward
abbrev pub earlier : Direction → Address → Address → Address
earlier Forward first second = first
earlier Backward first second = second

-- and the other one
abbrev pub later : Direction → Address → Address → Address
later Forward first second = second
later Backward first second = first

-- a frame goes on where the frame before it leads: it has its direction, and of their labels the earlier one is one
-- before the later
pub record IsNeighbour (first second : Placed) : Type 0 where
  pub direction : second.direction ≡ first.direction
  pub label : before (later first.direction first.label second.label) ≡ earlier first.direction first.label second.label

-- the labels of the quarter frames of a run, which begin at a byte place: for each two frames the earlier one, with the
-- run's direction, at the last of the pair's sixteen bytes. The last frame is read if it is one of two
abbrev pub pairs_read : ℕ → List Placed → List MtcEvent
pairs_read at [] = []
pairs_read at (first ∷ []) = []
pairs_read at (first ∷ second ∷ more) =
    Quarter first.direction (earlier first.direction first.label second.label) (at + 15) ∷ pairs_read (at + 16) more

-- a run that begins at a byte place, by its first frame and the others: a full message of ten bytes with the first
-- label, and the pairs
abbrev pub run_read : ℕ → Frame → List Frame → List MtcEvent
run_read at first others =
    map (λ (f : Placed). Full f.label (at + 9)) (placed first) ++ pairs_read (at + 10) (all_placed (first ∷ others))

-- how many bytes a run is: the full message, and four quarter frames of two bytes for each frame
abbrev pub run_length : Frame → List Frame → ℕ
run_length first others = 10 + 8 * length (all_placed (first ∷ others))

-- the runs, one after another, from a byte place on; `fresh` says whether the first frame here comes first or after an
-- end
abbrev pub read_from : ℕ → Bool → List Frame → List MtcEvent
read_from at fresh [] = []
read_from at fresh (frame ∷ more) =
    let others = take_while goes_on more in
    cond (begins_run fresh frame)
    (run_read at frame others ++ read_from (at + run_length frame others) (is_gone frame) more)
    (read_from at (is_gone frame) more)

-- what is read of frames
abbrev pub read_of : List Frame → List MtcEvent
read_of frames = read_from 0 true frames

-- each word has a label
abbrev pub AreLabelled : List HeardWord → Type 0
AreLabelled [] = Unit {0}
AreLabelled (word ∷ more) = IsLabel word.label × AreLabelled more
