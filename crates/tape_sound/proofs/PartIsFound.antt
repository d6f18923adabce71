-- A part of a sound with a margin has the crossings of its part of the tape, so the distances hold a piece of the tape.
use Rattle.std.proofs.Common.{◌≡◌, ℕ, ◌+◌, ◌-◌, ◌≤◌, ℤ, List, [], ◌∷◌, ◌++◌, length, refl, ap, ◌∙◌, arith}
use Rattle.biphase.specs.declared.cell.Cell.{Cell}
use Rattle.biphase.specs.declared.profile.Profile.{Profile}
use Rattle.biphase.specs.declared.profile.Profile.TheVariants.{Rough}
use Rattle.biphase.specs.Tolerance.{LooksAtLast}
use Rattle.cell_tracker.specs.ChainPiece.{cells_from}
use Rattle.direction_reader.specs.declared.event.Event.{Event}
use Rattle.direction_reader.specs.ListEvents.{AreEvents}
use Rattle.direction_reader.specs.Tape.{FindsTheTape, FindsTheTapeBehindOnes}
use Rattle.pcm_front.specs.declared.threshold.Threshold.{Threshold}
use Rattle.pcm_front.specs.Distance.{distances, gaps, gaps_after}
use Rattle.tc_address.specs.declared.system.System.{System}
use Rattle.tape_sound.specs.Heard.{AreHeard}
use Rattle.tape_sound.specs.Margin.{moments_in, ComeWithin}
use Rattle.tape_sound.specs.Part.{FindThePart, FindThePartBehindOnes, PartHasMargin}
use Rattle.tape_sound.proofs.EvenFound.{even_found}
use Rattle.tape_sound.proofs.FoundIsAChain.{bits_found}
use Rattle.tape_sound.proofs.FoundPiece.{heard_piece}
use Rattle.pcm_front.specs.DistanceLemmas.{gaps-front}
use Rattle.tape_sound.proofs.BetweenTheBounds.{part_within}
use Rattle.tape_sound.proofs.ThreeParts.{parts}
use Rattle.tape_sound.proofs.SamePiece.{same_piece}

gaps_after-parts : (x : ℕ) (one two three : List ℕ)
    → (before behind : List ℕ) × (gaps_after x (one ++ (two ++ three)) ≡ (before ++ gaps two) ++ behind)
gaps_after-parts x [] [] three = ([], gaps_after x three, refl)
gaps_after-parts x [] (m ∷ two) three =
    let front = gaps-front (m ∷ two) three in
    ((m - x) ∷ [], front.0, ap (λ (l : List ℕ). (m - x) ∷ l) front.1)
gaps_after-parts x (y ∷ one) two three =
    let more = gaps_after-parts y one two three in
    ((y - x) ∷ more.0, more.1, ap (λ (l : List ℕ). (y - x) ∷ l) more.2)

gaps-parts : (one two three : List ℕ) → (before behind : List ℕ)
    × (gaps (one ++ (two ++ three)) ≡ (before ++ gaps two) ++ behind)
gaps-parts [] [] three = ([], gaps three, refl)
gaps-parts [] (m ∷ two) three = let front = gaps-front (m ∷ two) three in ([], front.0, front.1)
gaps-parts (x ∷ one) two three = gaps_after-parts x one two three

pub part_is_found : ((system : System) (profile : Profile) (intervals : List ℕ) (events : List Event)
    → AreEvents system profile intervals events
    → FindsTheTape system profile intervals events)
    → (system : System) (profile : Profile) (f : ℕ) (threshold : Threshold) (tape : List Cell) (cut : ℕ)
    (sound : List ℤ) (first count : ℕ)
    (events : List Event) → LooksAtLast profile → 1 ≤ f → PartHasMargin profile f threshold tape cut sound first count
    → AreEvents system profile (distances f threshold sound) events
    → FindThePart system profile f threshold tape cut sound first count events
part_is_found finds system profile f threshold tape cut sound first count events looks some m are =
    let own = moments_in f threshold sound (first + 1) count in
    let within : ComeWithin m.delay m.heard own =
    part_within f m.noise m.low m.high threshold m.clean sound some first ((first + 1) + count) m.near m.stays m.delay
    m.heard m.side first count
    (omega arith) (omega arith) m.stands m.no_sooner m.within in
    let heard : AreHeard profile m.delay tape cut own = record {
      start = m.start;
      steady = m.steady;
      before = m.before;
      heard = m.heard;
      behind = m.behind;
      are = m.are;
      place = m.place;
      within = within;
    } in
    let cells = heard_piece profile m.delay tape cut own heard in
    let split = gaps-parts (moments_in f threshold sound 0 (first + 1)) own
    (moments_in f threshold sound ((first + 1) + count) (length sound - ((first + 1) + count))) in
    let list : distances f threshold sound ≡ (split.0 ++ gaps own) ++ split.1 =
    ap gaps (parts f threshold sound (first + 1) count m.room) ∙ split.2 in
    record {
      before = split.0;
      kept = gaps own;
      kept_are = refl;
      behind = split.1;
      are = list;
      tell = λ second is. (
        cells_from cells.cells cut (gaps own) second,
        same_piece m.delay cells.late (cut + second) (cut + length (gaps own)) 0 tape cells.cells cells.are,
        finds system profile (distances f threshold sound) events are looks split.0 (gaps own) split.1 cells.cells cut
            second list cells.piece is,
      );
    }

-- the same under the rough tolerance, behind even ones
pub part_is_found_behind_ones : ((system : System) (profile : Profile) (intervals : List ℕ) (events : List Event)
    → AreEvents system profile intervals events → FindsTheTapeBehindOnes system profile intervals events)
    → (system : System) (f : ℕ) (threshold : Threshold) (tape : List Cell) (cut : ℕ) (sound : List ℤ) (first count : ℕ)
    (events : List Event) → 1 ≤ f → (m : PartHasMargin Rough f threshold tape cut sound first count)
    → AreEvents system Rough (distances f threshold sound) events
    → FindThePartBehindOnes system m.delay f threshold tape cut sound first count events
part_is_found_behind_ones finds system f threshold tape cut sound first count events some m are =
    let own = moments_in f threshold sound (first + 1) count in
    let within : ComeWithin m.delay m.heard own =
    part_within f m.noise m.low m.high threshold m.clean sound some first ((first + 1) + count) m.near m.stays m.delay
    m.heard m.side first count
    (omega arith) (omega arith) m.stands m.no_sooner m.within in
    let heard : AreHeard Rough m.delay tape cut own = record {
      start = m.start;
      steady = m.steady;
      before = m.before;
      heard = m.heard;
      behind = m.behind;
      are = m.are;
      place = m.place;
      within = within;
    } in
    let cells = heard_piece Rough m.delay tape cut own heard in
    let split = gaps-parts (moments_in f threshold sound 0 (first + 1)) own
    (moments_in f threshold sound ((first + 1) + count) (length sound - ((first + 1) + count))) in
    let list : distances f threshold sound ≡ (split.0 ++ gaps own) ++ split.1 =
    ap gaps (parts f threshold sound (first + 1) count m.room) ∙ split.2 in
    record {
      before = split.0;
      kept = gaps own;
      kept_are = refl;
      behind = split.1;
      are = list;
      cells = cells.cells;
      bits_are = bits_found m.delay cells.late tape cells.cells cells.are;
      piece = cells.piece;
      even = λ end run. even_found m.delay cells.late tape cells.cells (gaps own) cut end cells.small cells.are run;
      tell = λ end second run next. finds system Rough (distances f threshold sound) events are split.0 (gaps own)
          split.1 cells.cells cut end second list cells.piece run next;
    }
