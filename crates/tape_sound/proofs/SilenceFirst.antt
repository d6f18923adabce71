-- A silence of more than three cells is no unequal pair with the first zero of the tape, so the words behind it are
-- read, each later by it.
use Rattle.std.proofs.Common.{◌≡◌, ℕ, ◌+◌, ◌*◌, ◌<◌, ◌≤◌, Bool, true, false, ℤ, List, [], ◌∷◌, length, map, take}
use Rattle.std.proofs.Common.{drop}
use Rattle.std.proofs.Common.{refl, ap, sym, subst, ◌∙◌, append-nil, arith}
use Rattle.std.specs.List.{AllByRecursion}
use Rattle.biphase.specs.declared.cell.Cell.{Cell}
use Rattle.biphase.specs.declared.cell.Cell.TheVariants.{Zero, One}
use Rattle.limits.specs.declared.recording.TheConstants.{MAX_INTERVALS}
use Rattle.biphase.specs.declared.profile.Profile.{Profile}
use Rattle.biphase.specs.declared.profile.Profile.TheVariants.{Normal, Worn, Rough}
use Rattle.biphase.specs.Chain.{bits, flat, IsChain}
use Rattle.biphase.specs.Pair.{AreUnequal}
use Rattle.cell_tracker.specs.ChainPiece.{IsPiece}
use Rattle.direction_reader.specs.declared.event.Event.{Event}
use Rattle.direction_reader.specs.ListEvents.{duration, AreEvents}
use Rattle.direction_reader.specs.Played.{Played, AreSpelled, bits_of_words, events_of_words}
use Rattle.pcm_front.specs.declared.threshold.Threshold.{Threshold}
use Rattle.pcm_front.specs.Crossing.{moments}
use Rattle.pcm_front.specs.Distance.{distances, distances_from_start, IsInterval}
use Rattle.tc_address.specs.declared.system.System.{System}
use Rattle.tape_sound.specs.Heard.{first_length, BeginsLate, FitsBehindASilence, HasMargin}
use Rattle.tape_sound.specs.Late.{AreFoundAs}
use Rattle.tape_sound.specs.OnTime.{told, untimed, AreOnTime}
use Rattle.tape_sound.proofs.BehindSilence.{events_behind, first_lock, SilenceLaws}
use Rattle.tape_sound.proofs.FitsAFile.{found_fit, found_many}
use Rattle.tape_sound.proofs.FoundIsAChain.{bits_found}
use Rattle.tape_sound.proofs.FoundLength.{length_found}
use Rattle.tape_sound.proofs.LaterEvents.{words_later}
use Rattle.tape_sound.proofs.UntimedEvents.{words_told}
use Rattle.tape_sound.proofs.WordsOnTime.{all_on_time_from}
use Rattle.tape_sound.proofs.WordsRead.{heard_with, ReadingLaws}

-- ---- cells behind a silence

not_unequal : (profile : Profile) (a b : ℕ) → 3 * b < a → AreUnequal profile a b → ⊥
not_unequal Normal a b less unequal = let near = unequal.1 in omega arith
not_unequal Worn a b less unequal = let near = unequal.1 in omega arith
not_unequal Rough a b less unequal = let near = unequal.1 in omega arith

whole_piece : (profile : Profile) (cells : List Cell) → IsChain profile cells → IsPiece profile (flat cells) cells 0
whole_piece profile cells chain = record { chain = chain; part = ([], sym (append-nil (flat cells))) }

read_behind : SilenceLaws → ReadingLaws → (system : System) (profile : Profile) (x c a b : ℕ) (more : List Cell)
    (words : List Played) (events : List Event) → IsChain profile (Zero c ∷ One a b ∷ more)
    → bits (Zero c ∷ One a b ∷ more) ≡ false ∷ true ∷ bits_of_words words → AreSpelled system words → 3 * c < x
    → AreEvents system profile (x ∷ flat (Zero c ∷ One a b ∷ more)) events
    → events ≡ events_of_words (x + duration (Zero c ∷ One a b ∷ [])) more words
read_behind silence laws system profile x c a b more words events chain are spelled less is =
    let cells : List Cell = Zero c ∷ One a b ∷ more in
    let tick : ℕ = duration (Zero c ∷ One a b ∷ []) in
    events_behind silence system profile x (flat cells) cells 0 0 (events_of_words tick more words) events
    (whole_piece profile cells chain) (first_lock profile c a b more chain)
    (λ unequal. not_unequal profile x c less unequal.1) (laws.read system profile cells words chain are spelled) is
    ∙ words_later x tick more words

-- cells that begin with the bits 0 and 1
record BeginSo (cells : List Cell) : Type 0 where
  zero_long : ℕ
  first_half : ℕ
  second_half : ℕ
  more : List Cell
  are : cells ≡ Zero zero_long ∷ One first_half second_half ∷ more

begin_so : (cells : List Cell) (bs : List Bool) → bits cells ≡ false ∷ true ∷ bs → BeginSo cells
begin_so [] bs are = absurd (cc)
begin_so (One x y ∷ cells) bs are = absurd (cc)
begin_so (Zero c ∷ []) bs are = absurd (cc)
begin_so (Zero c ∷ Zero x ∷ cells) bs are = absurd (cc)
begin_so (Zero c ∷ One a b ∷ more) bs are =
    record { zero_long = c; first_half = a; second_half = b; more = more; are = refl }

cells_behind : SilenceLaws → ReadingLaws → (system : System) (profile : Profile) (x : ℕ) (cells : List Cell)
    (words : List Played) (events : List Event) → IsChain profile cells
    → bits cells ≡ false ∷ true ∷ bits_of_words words → AreSpelled system words → 3 * first_length cells < x
    → AreEvents system profile (x ∷ flat cells) events
    → events ≡ events_of_words (x + duration (take 2 cells)) (drop 2 cells) words
cells_behind silence laws system profile x cells words events chain are spelled less is =
    let own = begin_so cells (bits_of_words words) are in
    let shape : List Cell = Zero own.zero_long ∷ One own.first_half own.second_half ∷ own.more in
    read_behind silence laws system profile x own.zero_long own.first_half own.second_half own.more words events
    (subst (IsChain profile) own.are chain)
    (subst (λ (l : List Cell). bits l ≡ false ∷ true ∷ bits_of_words words) own.are are) spelled
    (subst (λ (l : List Cell). 3 * first_length l < x) own.are less)
    (subst (λ (l : List Cell). AreEvents system profile (x ∷ flat l) events) own.are is)
    ∙ ap (λ (l : List Cell). events_of_words (x + duration (take 2 l)) (drop 2 l) words) (sym own.are)

-- ---- a sound that begins with a silence

first_near : (delay first : ℕ) (tape cells : List Cell) → first ≤ delay → AreFoundAs delay first tape cells
    → first_length cells ≤ first_length tape + delay
first_near delay first [] [] early found = omega arith
first_near delay first [] (x ∷ cells) early found = absurd found
first_near delay first (cell ∷ tape) [] early found = absurd found
first_near delay first (cell ∷ tape) (x ∷ cells) early found =
    let length = length_found delay first found.0 cell x found.2 in
    let small = found.1 in omega (arith, length, small)

-- what the law of the first distance says
abbrev pub FirstDistance : Type 0
FirstDistance = (f : ℕ) (threshold : Threshold) (samples : List ℤ) (first : ℕ) (more : List ℕ)
    → moments f threshold samples ≡ first ∷ more
    → distances_from_start f threshold samples ≡ first ∷ distances f threshold samples

-- the distances from the first sample on: that of the first crossing comes before the others
from_start : FirstDistance → (profile : Profile) (f : ℕ) (threshold : Threshold) (tape : List Cell) (sound : List ℤ)
    → (some : 1 ≤ f) → (m : HasMargin profile f threshold tape sound)
    → let own = heard_with profile f threshold tape sound some m in
    distances_from_start f threshold sound ≡ (m.start + own.late) ∷ flat own.cells
from_start distance profile f threshold tape sound some m =
    let own = heard_with profile f threshold tape sound some m in
    distance f threshold sound (m.start + own.late) own.more own.begin
    ∙ ap (λ (l : List ℕ). (m.start + own.late) ∷ l) (sym own.same)

-- the events are those of the words, as they are found
events_behind_silence : SilenceLaws → ReadingLaws → FirstDistance → (system : System) (profile : Profile) (f : ℕ)
    (threshold : Threshold) (tape : List Cell) (words : List Played) (sound : List ℤ) (events : List Event)
    → (some : 1 ≤ f) → (m : HasMargin profile f threshold tape sound) → BeginsLate m.delay m.start tape
    → bits tape ≡ false ∷ true ∷ bits_of_words words → AreSpelled system words
    → AreEvents system profile (distances_from_start f threshold sound) events
    → let own = heard_with profile f threshold tape sound some m in
    events ≡ events_of_words ((m.start + own.late) + duration (take 2 own.cells)) (drop 2 own.cells) words
events_behind_silence silence laws distance system profile f threshold tape words sound events some m late are spelled
    is =
    let own = heard_with profile f threshold tape sound some m in
    let near = first_near m.delay own.late tape own.cells own.small own.are in
    cells_behind silence laws system profile (m.start + own.late) own.cells words events own.chain
    (bits_found m.delay own.late tape own.cells own.are ∙ are) spelled (omega (arith, near, late))
    (subst (λ (l : List ℕ). AreEvents system profile l events)
    (from_start distance profile f threshold tape sound some m) is)

pub words_behind : SilenceLaws → ReadingLaws → FirstDistance → (system : System) (profile : Profile) (f : ℕ)
    (threshold : Threshold) (tape : List Cell) (words : List Played) (sound : List ℤ) (events : List Event) → 1 ≤ f
    → (m : HasMargin profile f threshold tape sound) → BeginsLate m.delay m.start tape
    → bits tape ≡ false ∷ true ∷ bits_of_words words → AreSpelled system words
    → AreEvents system profile (distances_from_start f threshold sound) events → map untimed events ≡ told words
words_behind silence laws distance system profile f threshold tape words sound events some m late are spelled is =
    let own = heard_with profile f threshold tape sound some m in
    ap (λ (l : List Event). map untimed l)
    (events_behind_silence silence laws distance system profile f threshold tape words sound events some m late are
    spelled
    is)
    ∙ words_told ((m.start + own.late) + duration (take 2 own.cells)) (drop 2 own.cells) words

-- each of them on time, by the ticks from the first sample
pub words_behind_in_time : SilenceLaws → ReadingLaws → FirstDistance → (system : System) (profile : Profile) (f : ℕ)
    (threshold : Threshold) (tape : List Cell) (words : List Played) (sound : List ℤ) (events : List Event) → 1 ≤ f
    → (m : HasMargin profile f threshold tape sound) → BeginsLate m.delay m.start tape
    → bits tape ≡ false ∷ true ∷ bits_of_words words → AreSpelled system words
    → AreEvents system profile (distances_from_start f threshold sound) events
    → AreOnTime m.delay events (events_of_words (m.start + duration (take 2 tape)) (drop 2 tape) words)
words_behind_in_time silence laws distance system profile f threshold tape words sound events some m late are spelled is
    =
    let own = heard_with profile f threshold tape sound some m in
    let there : List Event = events_of_words (m.start + duration (take 2 tape)) (drop 2 tape) words in
    subst (λ (l : List Event). AreOnTime m.delay l there)
    (sym (events_behind_silence silence laws distance system profile f threshold tape words sound events some m late are
    spelled is))
    (all_on_time_from m.delay own.late m.start tape own.cells words own.small own.are)

pub from_start_fit : FirstDistance → (profile : Profile) (f : ℕ) (threshold : Threshold) (tape : List Cell)
    (sound : List ℤ) → 1 ≤ f → (m : HasMargin profile f threshold tape sound) → BeginsLate m.delay m.start tape
    → FitsBehindASilence m.delay m.start tape → AllByRecursion IsInterval (distances_from_start f threshold sound)
    × (length (distances_from_start f threshold sound) ≤ MAX_INTERVALS)
from_start_fit distance profile f threshold tape sound some m late fits =
    let own = heard_with profile f threshold tape sound some m in
    let are = from_start distance profile f threshold tape sound some m in
    let many = found_many m.delay own.late tape own.cells own.are in
    let silence : IsInterval (m.start + own.late) =
    (omega (arith, late), omega (arith, own.small, fits.silence_fits)) in (
      subst (λ (l : List ℕ). AllByRecursion IsInterval l) (sym are)
          (silence, found_fit profile m.delay own.late tape own.cells own.small m.steady own.are fits.tape_fits),
      let long = ap length are in omega (arith, long, many, fits.few),
    )
