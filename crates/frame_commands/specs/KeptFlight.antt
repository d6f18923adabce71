-- What a command along the frames of a recording keeps. No promise speaks of it.
use Rattle.std.specs.Prelude.{◌≡◌, ℕ, ◌+◌, ◌*◌, ◌^◌, ◌<◌, ◌≤◌, List, [], ◌∷◌, ◌++◌, count_by, length, sum}
use Rattle.std.specs.Prelude.{All, IfSome, None, Option, Some}
use Rattle.std.proofs.Common.{sym, ◌∙◌, ap}
use Rattle.direction_reader.specs.declared.event.Event.{Event}
use Rattle.limits.specs.declared.recording.TheConstants.{MAX_INTERVALS}
use Rattle.direction_reader.specs.Firm.{DoNotFall}
use Rattle.flywheel.specs.declared.frame.Frame.{Frame}
use Rattle.flywheel.specs.declared.frame.Frame.TheVariants.{Heard, Invented, Gone}
use Rattle.flywheel.specs.declared.heard.HeardWord.{HeardWord}
use Rattle.flywheel.specs.Frames.{frames}
use Rattle.flywheel.specs.StandsFor as flies
use Rattle.flywheel.specs.Wheel.{Wheel, frames_left, IsInRange}
use Rattle.interval_file.specs.declared.header.IntervalHeader.{IntervalHeader}
use Rattle.frame_commands.specs.declared.frames.Frames.{Frames}
use Rattle.tc_job.specs.declared.flight.Flight.{Flight}
use Rattle.tc_job.specs.declared.witness.Witness.{Witness}
use Rattle.frame_commands.specs.Heard.{AreHeardYet}
use Rattle.frame_commands.specs.Hearing.{Hearer, due_at, word_ticks}
use Rattle.frame_commands.specs.OfFrames.{FrameText, IsFlightPart, words_heard}
use Rattle.flywheel.specs.Kinds.{is_gone, is_heard, is_invented}

-- one frame more of its kind
abbrev pub counted : Frame → Frames → Frames
counted (Heard label direction joined tick) f = record f { heard = f.heard + 1 }
counted (Invented label direction step tick) f = record f { invented = f.invented + 1 }
counted (Gone tick) f = record f { gone = f.gone + 1 }

-- each of these frames was counted
pub record Counts (before after : Frames) (more : List Frame) : Type 0 where
  pub heard : after.heard ≡ before.heard + count_by is_heard more
  pub invented : after.invented ≡ before.invented + count_by is_invented more
  pub gone : after.gone ≡ before.gone + count_by is_gone more

-- each word brings at most 256 frames after it
abbrev pub FitsFrames : Frames → Type 0
FitsFrames f = f.invented + f.gone + frames_left f.wheel ≤ 256 * f.heard

-- the last word was heard at the tick or before
abbrev pub HeardBy : ℕ → Wheel → Type 0
HeardBy tick wheel = IfSome wheel.reference (λ (word : HeardWord). word.tick ≤ tick)

-- the counts fit this many words
pub record FitsFlight (f : Frames) (most : ℕ) : Type 0 where
  pub within : most ≤ 2 * MAX_INTERVALS + 2
  pub words : f.heard ≤ most
  pub more_frames : FitsFrames f

-- how many frames were given
abbrev pub frames_counted : Frames → ℕ
frames_counted f = f.heard + f.invented + f.gone

-- and so do those of a sink, which counts no more frames than it was given; and the last word was heard by a tick
pub record FitsSink (f : Frames) (own most until : ℕ) : Type 0 where
  pub flight : FitsFlight f most
  pub taken : own ≤ frames_counted f
  pub heard_by : HeardBy until f.wheel

-- words are to be heard up to a tick, at most two: the flywheel has heard its last word before, and the counts have
-- room for their frames
pub record IsReady (f : Frames) (most until : ℕ) : Type 0 where
  pub within : most ≤ 2 * MAX_INTERVALS + 2
  pub below : until < 2 ^ 60
  pub fits : FitsFrames f
  pub few : f.heard + 2 ≤ most

-- the words that wait come behind the last one that was heard, one after another
pub record TakesTurns (f : Frames) (until : ℕ) : Type 0 where
  pub from : ℕ
  pub heard_by : HeardBy from f.wheel
  pub turn : DoNotFall from (word_ticks f.words) until

-- the frames of that interval are given: its words that wait are in turn, and the counts have room for them
pub record IsGiving (f : Frames) (most until : ℕ) : Type 0 where
  pub within : most ≤ 2 * MAX_INTERVALS + 2
  pub below : until < 2 ^ 60
  pub fits : FitsFrames f
  pub few : f.heard + length f.words ≤ most
  pub waiting : All IsInRange f.words
  pub turns : TakesTurns f until

-- how many frames may still be given of that interval
abbrev pub frames_to_come : Frames → ℕ
frames_to_come f = 257 * length f.words + frames_left f.wheel

-- these frames were given of these words up to the tick, and the last of the words wait to be heard
pub record HasGiven (f : Frames) (until : ℕ) (words : List HeardWord) (given : List Frame) : Type 0 where
  pub heard : List HeardWord
  pub are : words ≡ heard ++ f.words
  pub earlier : ℕ
  pub before : earlier ≤ due_at f.words until
  pub wheel : flies.StandsFor f.wheel heard earlier given

-- the next frame is the first of those still to come, and there is none where all were given
abbrev pub GivesNext : Frames → ℕ → List HeardWord → List Frame → Option Frame → Type 0
GivesNext f until words given None = flies.HasGivenAll f.wheel words until given
GivesNext f until words given (Some frame) = HasGiven f until words (given ++ frame ∷ [])

-- with these frames more, all that were due up to a later tick were given
abbrev pub GivesDue : Wheel → Wheel → ℕ → List Frame → Type 0
GivesDue before after tick more =
    (words : List HeardWord) (earlier : ℕ) (given : List Frame) → flies.StandsFor before words earlier given
    → earlier ≤ tick → flies.HasGivenAll after words tick (given ++ more)

-- with these frames more, all that were due and those of these words were given up to a later tick
abbrev pub GivesAll : Wheel → Wheel → ℕ → List HeardWord → List Frame → Type 0
GivesAll before after until more_words more =
    (words : List HeardWord) (earlier : ℕ) (given : List Frame) → flies.StandsFor before words earlier given
    → earlier ≤ due_at more_words until → flies.HasGivenAll after (words ++ more_words) until (given ++ more)

-- before the first interval
pub record BeginsFlight (f : Frames) (limit : ℕ) : Type 0 where
  pub limit_is : f.wheel.limit ≡ limit
  pub wheel : flies.HasGivenAll f.wheel [] 0 []
  pub fits : FitsFlight f 0
  pub heard_by : HeardBy 0 f.wheel
  pub heard : f.heard ≡ 0
  pub invented : f.invented ≡ 0
  pub gone : f.gone ≡ 0

-- ---- what becomes of frames, in a sink of frames: `made` says what it writes, and `has_given` which frames it
-- was given

-- with these frames more, their bytes were given to the output
abbrev pub Sends : {S C O : Type 0} → (C → FrameText) → (S → C → IntervalHeader → List Frame → Type 0)
    → (O → O → List ℕ → Type 0) → S → S → O → O → List Frame → Type 0
Sends {S} {C} {O} made has_given given before after old new more =
    (choice : C) (header : IntervalHeader) (frames : List Frame) → has_given before choice header frames
    → has_given after choice header (frames ++ more)
    × ((bytes : List ℕ) × ((made choice).text header (frames ++ more) ≡ (made choice).text header frames ++ bytes)
    × given old new bytes)

-- the intervals and frames were counted
pub record CountsAll (f : Frames) (count ticks : ℕ) (intervals : List ℕ) (given : List Frame) : Type 0 where
  pub intervals_are : count ≡ length intervals
  pub ticks_are : ticks ≡ sum intervals
  pub heard : f.heard ≡ count_by is_heard given
  pub invented : f.invented ≡ count_by is_invented given
  pub gone : f.gone ≡ count_by is_gone given

-- it was given these intervals behind this header, and sent the frames of the words that are told
pub record Stands {S C : Type 0} (witness : Witness) (flight : C → Flight) (made : C → FrameText)
    (has_given : S → C → IntervalHeader → List Frame → Type 0)
    (h : Hearer) (f : Frames) (sink : S) (choice : C) (header : IntervalHeader) (intervals written : List ℕ)
    : Type 0 where
  pub system : h.system ≡ header.system
  pub keeps : h.profile ≡ (flight choice).profile
  pub count : h.count ≡ length intervals
  pub ticks : h.tick ≡ sum intervals
  pub limit_is : f.wheel.limit ≡ (flight choice).limit
  pub events : List Event
  pub reader : h.stands intervals events
  pub are_events : AreHeardYet witness header.system (flight choice).profile intervals events h.until
  pub given : List Frame
  pub wheel : flies.HasGivenAll f.wheel (words_heard events) h.until given
  pub sent : has_given sink choice header given
  pub are : written ≡ (made choice).text header given
  pub heard : f.heard ≡ count_by is_heard given
  pub invented : f.invented ≡ count_by is_invented given
  pub gone : f.gone ≡ count_by is_gone given

-- what it keeps fits this many intervals
pub record FitsHearing (h : Hearer) (f : Frames) (own count : ℕ) : Type 0 where
  pub within : count ≤ MAX_INTERVALS
  pub counts : h.count ≡ count
  pub until : h.until < 2 ^ 60
  pub sink : FitsSink f own (2 * count) h.until

-- what was written is a part of what the frames make
pub stands_well : {S C : Type 0} (witness : Witness) (flight : C → Flight) (made : C → FrameText)
    (has_given : S → C → IntervalHeader → List Frame → Type 0)
    (h : Hearer) (f : Frames) (sink : S) (choice : C) (header : IntervalHeader) (intervals written : List ℕ)
    → Stands witness flight made has_given h f sink choice header intervals written
    → IsFlightPart witness (flight choice) (made choice) header intervals written
stands_well witness flight made has_given h f sink choice header intervals written stands = record {
  events = stands.events;
  until = h.until;
  are_events = stands.are_events;
  are = stands.are ∙ ap ((made choice).text header)
      (sym (ap (λ (n : ℕ). frames n (words_heard stands.events) h.until) (sym stands.limit_is)
      ∙ stands.wheel.1));
}
