-- Behind an interval the counts have room for the frames of two words more, and the words that it brought come behind
-- those that were heard.
use Rattle.std.proofs.Common.{ℕ, ◌+◌, ◌*◌, ◌^◌, ◌<◌, ◌≤◌, List, arith}
use Rattle.limits.specs.declared.recording.TheConstants.{MAX_INTERVALS}
use Rattle.direction_reader.specs.Firm.{DoNotFall}
use Rattle.flywheel.specs.declared.heard.HeardWord.{HeardWord}
use Rattle.frame_commands.specs.declared.frames.Frames.{Frames}
use Rattle.frame_commands.specs.Hearing.{Hearer, HearsOn, word_ticks}
use Rattle.frame_commands.specs.KeptFlight.{FitsHearing, FitsSink, IsReady, TakesTurns}
use Rattle.frame_commands.proofs.NextFrame.{heard_later}

pub ready_for : (h now : Hearer) (f : Frames) (words : List HeardWord) (own count x : ℕ) → FitsHearing h f own count
    → count < MAX_INTERVALS → HearsOn h x now → now.until < 2 ^ 60
    → IsReady (record f { words = words }) (2 * (count + 1)) now.until
ready_for h now f waiting own count x fits room on below =
    let words = fits.sink.flight.words in
    record {
      within = omega (arith, room);
      below = below;
      fits = fits.sink.flight.more_frames;
      few = omega (arith, words);
    }

pub ready_at_end : (h : Hearer) (f : Frames) (words : List HeardWord) (own count until : ℕ) → FitsHearing h f own count
    → until < 2 ^ 60 → IsReady (record f { words = words }) (2 * count + 2) until
ready_at_end h f waiting own count until fits below =
    let words = fits.sink.flight.words in
    let within = fits.within in
    record {
      within = omega (arith, within);
      below = below;
      fits = fits.sink.flight.more_frames;
      few = omega (arith, words);
    }

pub turns_of : (h : Hearer) (f : Frames) (own count until : ℕ) (words : List HeardWord) → FitsHearing h f own count
    → DoNotFall h.until (word_ticks words) until → TakesTurns (record f { words = words }) until
turns_of h f own count until words fits turn =
    record { from = h.until; heard_by = fits.sink.heard_by; turn = turn }

-- nothing was given
pub quiet_fits : (h now : Hearer) (f : Frames) (own count x : ℕ) → FitsHearing h f own count → count < MAX_INTERVALS
    → HearsOn h x now → h.until ≤ now.until → now.until < 2 ^ 60 → FitsHearing now f own (count + 1)
quiet_fits h now f own count x fits room on later below =
    let counts = fits.counts in
    let one = on.count in
    let words = fits.sink.flight.words in
    record {
      within = omega (arith, room);
      counts = omega (arith, counts, one);
      until = below;
      sink = record {
        flight = record {
          within = omega (arith, room);
          words = omega (arith, words);
          more_frames = fits.sink.flight.more_frames;
        };
        taken = fits.sink.taken;
        heard_by = heard_later f.wheel h.until now.until later fits.sink.heard_by;
      };
    }

-- frames were given
pub given_fits : (h now : Hearer) (f next : Frames) (own after count x : ℕ) → FitsHearing h f own count
    → count < MAX_INTERVALS → HearsOn h x now → now.until < 2 ^ 60
    → FitsSink next after (2 * (count + 1)) now.until → FitsHearing now next after (count + 1)
given_fits h now f next own after count x fits room on below sink =
    let counts = fits.counts in
    let one = on.count in
    record {
      within = omega (arith, room);
      counts = omega (arith, counts, one);
      until = below;
      sink = sink;
    }
