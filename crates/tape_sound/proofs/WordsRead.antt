-- Of a sound with a margin the distances are the cells of the tape as they are found, so each word of the tape is read,
-- and nothing else.
use Rattle.std.proofs.Common.{◌≡◌, ℕ, ◌≤◌, true, false, ℤ, List, ◌∷◌, length, map, take, drop}
use Rattle.std.proofs.Common.{ap, sym, subst, ◌∙◌, arith}
use Rattle.std.specs.List.{AllByRecursion}
use Rattle.biphase.specs.declared.cell.Cell.{Cell}
use Rattle.limits.specs.declared.recording.TheConstants.{MAX_INTERVALS}
use Rattle.biphase.specs.declared.profile.Profile.{Profile}
use Rattle.biphase.specs.Chain.{bits, flat, IsChain}
use Rattle.direction_reader.specs.declared.event.Event.{Event}
use Rattle.direction_reader.specs.ListEvents.{duration, AreEvents}
use Rattle.direction_reader.specs.Played.{Played, AreSpelled, bits_of_words, events_of_words}
use Rattle.pcm_front.specs.declared.threshold.Threshold.{Threshold}
use Rattle.pcm_front.specs.Crossing.{moments}
use Rattle.pcm_front.specs.Distance.{distances, IsInterval}
use Rattle.tc_address.specs.declared.system.System.{System}
use Rattle.tape_sound.specs.Heard.{transitions, FitsAFile, HasMargin}
use Rattle.tape_sound.specs.OnTime.{told, untimed, AreOnTime}
use Rattle.tape_sound.proofs.FitsAFile.{found_fit, found_many}
use Rattle.tape_sound.proofs.FoundCells.{heard_whole, HeardWhole}
use Rattle.tape_sound.proofs.FoundIsAChain.{bits_found}
use Rattle.tape_sound.proofs.UntimedEvents.{words_told}
use Rattle.tape_sound.proofs.WithinTheDelay.{goes_over_within}
use Rattle.tape_sound.proofs.WordsOnTime.{all_on_time}

-- what the laws of readings say
pub record ReadingLaws : Type 0 where
  pub read : (system : System) (profile : Profile) (cells : List Cell) (words : List Played) → IsChain profile cells
      → bits cells ≡ false ∷ true ∷ bits_of_words words → AreSpelled system words
      → AreEvents system profile (flat cells) (events_of_words (duration (take 2 cells)) (drop 2 cells) words)
  pub one : (system : System) (profile : Profile) (intervals : List ℕ) (events others : List Event)
      → AreEvents system profile intervals events → AreEvents system profile intervals others → events ≡ others

pub heard_with : (profile : Profile) (f : ℕ) (threshold : Threshold) (tape : List Cell) (sound : List ℤ) → 1 ≤ f
    → (m : HasMargin profile f threshold tape sound)
    → HeardWhole profile m.delay m.start tape (moments f threshold sound)
heard_with profile f threshold tape sound some m =
    heard_whole profile m.delay m.start tape (moments f threshold sound) m.steady
    (goes_over_within f m.noise m.low m.high m.delay threshold (transitions m.start tape) m.clean sound some m.noisy
    m.stays m.goes_over)

-- the distances fit a file if the tape's intervals do
pub distances_fit : (profile : Profile) (f : ℕ) (threshold : Threshold) (tape : List Cell) (sound : List ℤ) → 1 ≤ f
    → (m : HasMargin profile f threshold tape sound) → FitsAFile m.delay tape
    → AllByRecursion IsInterval (distances f threshold sound)
    × (length (distances f threshold sound) ≤ MAX_INTERVALS)
distances_fit profile f threshold tape sound some m fits =
    let own = heard_with profile f threshold tape sound some m in
    let long : length (distances f threshold sound) ≡ length (flat tape) =
    sym (ap length own.same) ∙ found_many m.delay own.late tape own.cells own.are in (
      subst (λ (l : List ℕ). AllByRecursion IsInterval l) own.same
          (found_fit profile m.delay own.late tape own.cells own.small m.steady own.are fits.short),
      omega (arith, long, fits.few),
    )

-- the events of the distances are those of the words, as they are found
events_found : ReadingLaws → (system : System) (profile : Profile) (f : ℕ) (threshold : Threshold) (tape : List Cell)
    (words : List Played) (sound : List ℤ) (events : List Event) → (some : 1 ≤ f)
    → (m : HasMargin profile f threshold tape sound) → bits tape ≡ false ∷ true ∷ bits_of_words words
    → AreSpelled system words → AreEvents system profile (distances f threshold sound) events
    → let own = heard_with profile f threshold tape sound some m in
    events ≡ events_of_words (duration (take 2 own.cells)) (drop 2 own.cells) words
events_found laws system profile f threshold tape words sound events some m are spelled is =
    let own = heard_with profile f threshold tape sound some m in
    let all = events_of_words (duration (take 2 own.cells)) (drop 2 own.cells) words in
    let read = laws.read system profile own.cells words own.chain
    (bits_found m.delay own.late tape own.cells own.are ∙ are) spelled in
    laws.one system profile (distances f threshold sound) events all is
    (subst (λ (l : List ℕ). AreEvents system profile l all) own.same read)

pub words_read : ReadingLaws → (system : System) (profile : Profile) (f : ℕ) (threshold : Threshold) (tape : List Cell)
    (words : List Played) (sound : List ℤ) (events : List Event) → 1 ≤ f → HasMargin profile f threshold tape sound
    → bits tape ≡ false ∷ true ∷ bits_of_words words → AreSpelled system words
    → AreEvents system profile (distances f threshold sound) events → map untimed events ≡ told words
words_read laws system profile f threshold tape words sound events some m are spelled is =
    let own = heard_with profile f threshold tape sound some m in
    ap (λ (l : List Event). map untimed l)
    (events_found laws system profile f threshold tape words sound events some m are spelled is)
    ∙ words_told (duration (take 2 own.cells)) (drop 2 own.cells) words

-- and each of them on time
pub words_in_time : ReadingLaws → (system : System) (profile : Profile) (f : ℕ) (threshold : Threshold)
    (tape : List Cell)
    (words : List Played) (sound : List ℤ) (events : List Event) → 1 ≤ f
    → (m : HasMargin profile f threshold tape sound)
    → bits tape ≡ false ∷ true ∷ bits_of_words words → AreSpelled system words
    → AreEvents system profile (distances f threshold sound) events
    → AreOnTime m.delay events (events_of_words (duration (take 2 tape)) (drop 2 tape) words)
words_in_time laws system profile f threshold tape words sound events some m are spelled is =
    let own = heard_with profile f threshold tape sound some m in
    subst
    (λ (l : List Event). AreOnTime m.delay l (events_of_words (duration (take 2 tape)) (drop 2 tape) words))
    (sym (events_found laws system profile f threshold tape words sound events some m are spelled is))
    (all_on_time m.delay own.late tape own.cells words own.small own.are)
