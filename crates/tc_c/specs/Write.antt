-- What a call takes and writes.
use Rattle.std.specs.Prelude.{◌≡◌, ℕ, ℤ, Bool, true, Option, List, [], ◌∷◌, ◌++◌, map}
use Rattle.code_maker.specs.Sound as made
use Rattle.code_maker.specs.Sound.{MadeSound}
use Rattle.flywheel.specs.declared.frame.Frame.{Frame}
use Rattle.flywheel.specs.declared.heard.HeardWord.{HeardWord}
use Rattle.frame_wheel.specs.Wheel as wheel
use Rattle.frame_wheel.specs.Wheel.{WheelState}
use Rattle.mtc_reader.specs.declared.reader.MtcReader.{MtcReader}
use Rattle.quarter_frame.specs.declared.half.Half.{Half}
use Rattle.quarter_frame.specs.Runs.{mtc_of}
use Rattle.quarter_frame.specs.StandsFor as writer
use Rattle.sound_reader.specs.Sound as sound
use Rattle.sound_reader.specs.Sound.{SoundState}
use Rattle.tape_reader.specs.Tape as tape
use Rattle.tape_reader.specs.declared.reader.TapeReader.{TapeReader}
use Rattle.direction_reader.specs.declared.witness.Witness.{Witness}
use Rattle.direction_reader.specs.declared.witness.Witness.TheVariants.{NotAsked, Asked, Consecutive, Counted}
use Rattle.tc_c.specs.CEvent.{c_event, c_told}
use Rattle.tc_c.specs.CFrame.{c_frame}
use Rattle.tc_c.specs.CMtc.{c_mtc_event, HasTold}
use Rattle.tc_c.specs.declared.event.TcEvent.{TcEvent}
use Rattle.tc_c.specs.declared.frame.TcFrame.{TcFrame}
use Rattle.tc_c.specs.declared.mtc_event.TcMtcEvent.{TcMtcEvent}

-- from one state to a later one, of what stands for what it was given and what it gave of that: it was given these
-- more, and what was written is what it gave more, in numbers
abbrev pub GoesBy : {S A E C : Type 0} → (S → List A → List E → Type 0) → (E → C) → S → S → List A → List C → Type 0
GoesBy {A = A} {E = E} Stands number old new taken written = (own : List E) × (written ≡ map number own)
    × ((front : List A) (given : List E) → Stands old front given → Stands new (front ++ taken) (given ++ own))

-- from one state of a reader of sound to a later one: it was given these samples more, and what was written are the
-- events that it gave more, in numbers
abbrev pub Goes : SoundState → SoundState → List ℤ → List TcEvent → Type 0
Goes old new samples written = GoesBy sound.StandsFor c_event old new samples written

-- from one state of a reader of a tape to a later one: it was given these intervals more, and what was written are the
-- events that it told more, in numbers
abbrev pub TapeGoes : TapeReader → TapeReader → List ℕ → List TcEvent → Type 0
TapeGoes old new intervals written = GoesBy tape.StandsFor c_told old new intervals written

-- the room that a call for a tape asks for, in events: for three, or four of consecutive words
abbrev pub room_for : Witness → ℕ
room_for NotAsked = 3
room_for Asked = 3
room_for Consecutive = 4
room_for Counted = 3

-- that of a reader of a tape
abbrev pub room_of : TapeReader → ℕ
room_of t = room_for (tape.settings_of t).witness

-- from one state of a flywheel to a later one: it heard these words more, and what was written are the frames that it
-- gave more, in numbers. Where it is `done` these are all frames of its words up to its tick
abbrev pub WheelGoes : WheelState → WheelState → List HeardWord → Bool → List TcFrame → Type 0
WheelGoes old new heard done written = (own : List Frame) × (written ≡ map c_frame own)
    × ((words : List HeardWord) (given : List Frame) → wheel.StandsFor old words given
    → wheel.StandsFor new (words ++ heard) (given ++ own)
    × (done ≡ true → wheel.HasGivenAll new (words ++ heard) (given ++ own)))

-- from one state of a reader of MIDI Time Code to a later one: it was given these bytes more, and what was written are
-- the labels that they complete, in numbers
abbrev pub MtcGoes : MtcReader → MtcReader → List ℕ → List TcMtcEvent → Type 0
MtcGoes old new bytes written = GoesBy HasTold c_mtc_event old new bytes written

-- from one state of a writer of MIDI Time Code to a later one: it was given a frame more, and these bytes are what it
-- sends more
abbrev pub MtcWrites : Option Half → Option Half → Frame → List ℕ → Type 0
MtcWrites old new frame written = (frames : List Frame) → writer.StandsFor old frames
    → writer.StandsFor new (frames ++ frame ∷ []) × (mtc_of (frames ++ frame ∷ []) ≡ mtc_of frames ++ written)

-- from one state of a maker of sound to a later one: it was given these intervals more, and wrote these samples more
abbrev pub SoundMakes : MadeSound → MadeSound → List ℕ → List ℤ → Type 0
SoundMakes old new ticks written = (front : List ℕ) (given : List ℤ) → made.StandsFor old front given
    → made.StandsFor new (front ++ ticks) (given ++ written)
