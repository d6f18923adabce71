-- When a sound has ended, the file of its best path is written whole.
use Rattle.std.proofs.Common.{Option, Some, None}
use Rattle.wave_file.specs.declared.format.WaveFormat.{WaveFormat}
use Rattle.signal_commands.specs.declared.path_sound.PathWords.{PathWords}
use Rattle.signal_commands.specs.declared.path_sound.PathWords.TheVariants.{Raw, Track}
use Rattle.signal_commands.specs.KeptPath.{path_of, IsWhole}
use Rattle.std.proofs.Common.{◌≡◌, ℕ, ℤ, List, ◌++◌, reverse, refl, ap, subst, sym, ◌∙◌}
use Rattle.interval_file.specs.declared.header.FileVersion.TheVariants.{One}
use Rattle.interval_file.specs.Grammar.{intervals_bytes}
use Rattle.path_front.specs.declared.judging.Phase.{Phase}
use Rattle.path_front.specs.declared.judging.Phase.TheVariants.{Sound, Rest, Drain}
use Rattle.path_front.specs.Cells.{SameSound}
use Rattle.path_front.specs.Front.{FrontState, GoesOn, IsFrontSettled}
use Rattle.path_front.specs.Judging.{IsSettled}
use Rattle.tc_job.specs.PathSlicing.{SlicesPath}
use Rattle.signal_commands.specs.declared.path_sound.PathSound.{PathSound}
use Rattle.signal_commands.specs.KeptPath.{HasGiven, HearsSamples, IsOfWords}
use Rattle.signal_commands.specs.PcmPath.{IsPathFile}
use Rattle.signal_commands.proofs.PathOn.{grown_file, whole_by}

drained_by : (state : FrontState) (phase : Phase) → state.judging.phase ≡ phase
    → (state.judging.phase ≡ Sound → ⊥) → IsSettled phase state.judging → state.judging.phase ≡ Drain
drained_by state Sound is ended settled = absurd (ended is)
drained_by state Rest is ended settled = absurd settled
drained_by state Drain is ended settled = is

-- a sound that has ended, and of which nothing is left, has given all
pub has_drained : (state : FrontState) → (state.judging.phase ≡ Sound → ⊥) → IsFrontSettled state
    → state.judging.phase ≡ Drain
has_drained state ended settled = drained_by state state.judging.phase refl ended settled.0

-- what was written is the file of all samples
pub all_written : (s next : PathSound) (samples : List ℤ) (written more : List ℕ) (hears : HearsSamples s samples written)
    → HasGiven next.front (reverse samples) (hears.given ++ more) → IsOfWords next → next.path ≡ s.path
    → next.front.judging.phase ≡ Drain → IsPathFile s.path samples (written ++ intervals_bytes One more)
all_written s next samples written more hears g words path drained =
    let given = hears.given ++ more in
    let whole = whole_by next.front.judging.cells.steps.grid next.path.grid next.front.ticks next.path.ticks
    next.front.judging.cells.steps.hold.least next.path.least (reverse samples) given words.grid
    words.ticks words.least (g.all drained) in
    subst (λ (p : SlicesPath). IsPathFile p samples (written ++ intervals_bytes One more)) path
    (record { intervals = given; are = whole; file = grown_file s next samples written more hears path })

-- the front is still that of the words
pub ends_of_words : (s next : PathSound) (ended : FrontState) → IsOfWords s
    → SameSound s.front.judging.cells ended.judging.cells → ended.ticks ≡ s.front.ticks → GoesOn ended next.front
    → next.path ≡ s.path → IsOfWords next
ends_of_words s next ended words same ticks goes path =
    let back = sym path in
    record {
      grid = goes.same.grid ∙ same.grid ∙ words.grid ∙ ap (λ (p : SlicesPath). p.grid) back;
      ticks = goes.ticks ∙ ticks ∙ words.ticks ∙ ap (λ (p : SlicesPath). p.ticks) back;
      least = goes.same.least ∙ same.least ∙ words.least ∙ ap (λ (p : SlicesPath). p.least) back;
    }

-- the end of a sound is no part of it
pub is_over : (phase : Phase) → phase ≡ Rest → phase ≡ Sound → ⊥
is_over phase rest sound = cc

-- the file of the path is what is written by the words
pub whole_is : (words : PathWords) (format : Option WaveFormat) (path : SlicesPath) (samples : List ℤ)
    (written : List ℕ) → path_of words format ≡ Some path → IsPathFile path samples written
    → IsWhole words format samples written
whole_is (Raw own) format path samples written is file =
    let same : path ≡ own = cc in subst (λ (p : SlicesPath). IsPathFile p samples written) same file
whole_is (Track track) None path samples written is file = absurd cc
whole_is (Track track) (Some format) path samples written is file = record { path = path; sound = is; file = file }
