-- If the reader locks at the first cell of a tape, and its cells as they are found follow one another, the words of
-- the tape are read, each on time.
use Rattle.std.proofs.Common.{◌≡◌, ℕ, ◌*◌, ◌≤◌, true, false, List, ◌∷◌, take, drop, sym, subst, ◌∙◌}
use Rattle.biphase.specs.declared.cell.Cell.{Cell}
use Rattle.biphase.specs.declared.profile.Profile.{Profile}
use Rattle.biphase.specs.declared.profile.Profile.TheVariants.{Rough}
use Rattle.biphase.specs.Chain.{bits, flat, FollowOn}
use Rattle.cell_tracker.specs.Lock.{IsLock}
use Rattle.direction_reader.specs.declared.event.Event.{Event}
use Rattle.direction_reader.specs.ListEvents.{duration, AreEvents}
use Rattle.direction_reader.specs.Played.{Played, AreSpelled, bits_of_words, events_of_words}
use Rattle.tc_address.specs.declared.system.System.{System}
use Rattle.tape_sound.specs.Heard.{AreFoundCells}
use Rattle.tape_sound.specs.Late.{IsSteadyFromALock, RunsEvenly}
use Rattle.tape_sound.specs.OnTime.{AreOnTime}
use Rattle.tape_sound.proofs.FoundIsAChain.{bits_found}
use Rattle.tape_sound.proofs.FourTogether.{follow_on_four}
use Rattle.tape_sound.proofs.KeepsTheSum.{from_a_lock}
use Rattle.tape_sound.proofs.WordsOnTime.{all_on_time}

-- what the laws of readings say
pub record LockedLaws : Type 0 where
  pub read : (system : System) (profile : Profile) (cells : List Cell) (words : List Played) → FollowOn profile cells
      → IsLock profile (flat cells) 0 0 → bits cells ≡ false ∷ true ∷ bits_of_words words → AreSpelled system words
      → AreEvents system profile (flat cells) (events_of_words (duration (take 2 cells)) (drop 2 cells) words)
  pub one : (system : System) (profile : Profile) (intervals : List ℕ) (events others : List Event)
      → AreEvents system profile intervals events → AreEvents system profile intervals others → events ≡ others

words_locked : LockedLaws → (system : System) (delay : ℕ) (tape : List Cell) (intervals : List ℕ) (words : List Played)
    (events : List Event) → (found : AreFoundCells delay tape intervals) → FollowOn Rough found.cells
    → IsLock Rough intervals 0 0 → bits tape ≡ false ∷ true ∷ bits_of_words words → AreSpelled system words
    → AreEvents system Rough intervals events
    → AreOnTime delay events (events_of_words (duration (take 2 tape)) (drop 2 tape) words)
words_locked laws system delay tape intervals words events found follow lock are spelled is =
    let all = events_of_words (duration (take 2 found.cells)) (drop 2 found.cells) words in
    let read = laws.read system Rough found.cells words follow
    (subst (λ (l : List ℕ). IsLock Rough l 0 0) found.same lock)
    (bits_found delay found.first tape found.cells found.are ∙ are) spelled in
    let same : events ≡ all = laws.one system Rough intervals events all is
    (subst (λ (l : List ℕ). AreEvents system Rough l all) (sym found.same) read) in
    subst
    (λ (l : List Event). AreOnTime delay l (events_of_words (duration (take 2 tape)) (drop 2 tape) words))
    (sym same)
    (all_on_time delay found.first tape found.cells words found.small found.are)

-- of a tape that is steady enough from a lock on
pub steady_locked : LockedLaws → (system : System) (delay : ℕ) (tape : List Cell) (intervals : List ℕ)
    (words : List Played) (events : List Event) → IsSteadyFromALock delay tape → AreFoundCells delay tape intervals
    → IsLock Rough intervals 0 0 → bits tape ≡ false ∷ true ∷ bits_of_words words → AreSpelled system words
    → AreEvents system Rough intervals events
    → AreOnTime delay events (events_of_words (duration (take 2 tape)) (drop 2 tape) words)
steady_locked laws system delay tape intervals words events steady found lock are spelled is =
    words_locked laws system delay tape intervals words events found
    (from_a_lock delay found.first tape found.cells found.small steady found.are) lock are spelled is

-- and of an even one whose first four cells are found to follow
pub even_locked : LockedLaws → (system : System) (half delay : ℕ) (tape : List Cell) (intervals : List ℕ)
    (words : List Played) (events : List Event) → 1 ≤ half → 47 * delay ≤ 16 * half → RunsEvenly half tape
    → (found : AreFoundCells delay tape intervals) → FollowOn Rough (take 4 found.cells)
    → IsLock Rough intervals 0 0 → bits tape ≡ false ∷ true ∷ bits_of_words words → AreSpelled system words
    → AreEvents system Rough intervals events
    → AreOnTime delay events (events_of_words (duration (take 2 tape)) (drop 2 tape) words)
even_locked laws system half delay tape intervals words events some wide even found four lock are spelled is =
    words_locked laws system delay tape intervals words events found
    (follow_on_four half delay found.first tape found.cells some wide even found.small found.are four) lock are spelled
    is
