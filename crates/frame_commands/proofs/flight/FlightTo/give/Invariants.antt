use Rattle.std.proofs.Common.{◌≡◌, ◌≤◌, ◌++◌, ℕ, List}
use Rattle.flywheel.specs.declared.frame.Frame.{Frame}
use Rattle.flywheel.specs.declared.heard.HeardWord.{HeardWord}
use Rattle.flywheel.specs.StandsFor as flies
use Rattle.frame_commands.specs.Hearing.{due_at}
use Rattle.frame_commands.specs.KeptFlight.{Counts, frames_counted, frames_to_come, HasGiven, IsGiving, IsReady}
use Rattle.frame_commands.specs.KeptFlight.{Sends}
use Rattle.frame_commands.proofs.flight.FlightTo.give.Given as goal

-- the frames of the words so far were counted and sent
abbrev pub invariant-loop-frame : goal.invariant-loop-frame
invariant-loop-frame g l = record {
  giving : (most : ℕ) → IsReady l.fn.self.frames most l.fn.until → IsGiving l.self.frames most l.fn.until;
  reader : l.self.reader ≡ l.fn.self.reader;
  limit : l.self.frames.wheel.limit ≡ l.fn.self.frames.wheel.limit;
  room : g.T.FrameSink.taken l.self.sink ≤ frames_counted l.self.frames;
  given : (more : List Frame) × Counts l.fn.self.frames l.self.frames more
      × Sends g.T.FrameSink.made g.T.FrameSink.given g.O.Output.given l.fn.self.sink l.self.sink l.fn.out l.out more
      × ((words : List HeardWord) (earlier : ℕ) (given : List Frame)
      → flies.StandsFor l.fn.self.frames.wheel words earlier given → earlier ≤ due_at l.fn.self.frames.words l.fn.until
      → HasGiven l.self.frames l.fn.until (words ++ l.fn.self.frames.words) (given ++ more));
}

abbrev pub decreases-loop-frame : goal.decreases-loop-frame
decreases-loop-frame g l = frames_to_come l.self.frames
