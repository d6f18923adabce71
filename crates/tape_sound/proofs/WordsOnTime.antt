-- A word ends as late as the transition at its end is found, and lasts longer by what this is later than the one at its
-- begin.
use Rattle.std.proofs.Common.{◌≡◌, ℕ, zero, suc, ◌+◌, ◌≤◌, List, [], ◌∷◌, take, drop, refl, arith}
use Rattle.direction_reader.specs.PlayedLemmas.{duration-cons}
use Rattle.biphase.specs.declared.cell.Cell.{Cell}
use Rattle.direction_reader.specs.ListEvents.{duration}
use Rattle.direction_reader.specs.Played.{Played, events_of_words}
use Rattle.tape_sound.specs.Late.{AreFoundAs}
use Rattle.tape_sound.specs.OnTime.{AreOnTime}
use Rattle.tape_sound.proofs.FoundLength.{length_found}

-- behind some cells: how late the transition there is, and how long they last
pub record Behind (delay first : ℕ) (tape cells : List Cell) (count : ℕ) : Type 0 where
  pub late : ℕ
  pub small : late ≤ delay
  pub rest : AreFoundAs delay late (drop count tape) (drop count cells)
  pub lasts : duration (take count cells) + first ≡ duration (take count tape) + late

pub behind : (delay first count : ℕ) (tape cells : List Cell) → first ≤ delay → AreFoundAs delay first tape cells
    → Behind delay first tape cells count
behind delay first zero tape cells early found = record { late = first; small = early; rest = found; lasts = refl }
behind delay first (suc count) [] [] early found = record { late = first; small = early; rest = tt; lasts = refl }
behind delay first (suc count) [] (x ∷ cells) early found = absurd found
behind delay first (suc count) (cell ∷ tape) [] early found = absurd found
behind delay first (suc count) (cell ∷ tape) (x ∷ cells) early found =
    let more = behind delay found.0 count tape cells found.1 found.3 in
    let one = length_found delay first found.0 cell x found.2 in
    record {
      late = more.late;
      small = more.small;
      rest = more.rest;
      lasts = omega (arith, more.lasts, one, duration-cons x (take count cells), duration-cons cell (take count tape));
    }

-- where the tick is as late as the transition, less how late the first one was
pub words_on_time : (delay first late tick there : ℕ) (tape cells : List Cell) (words : List Played) → first ≤ delay
    → late ≤ delay → tick + first ≡ there + late → AreFoundAs delay late tape cells
    → AreOnTime delay (events_of_words tick cells words) (events_of_words there tape words)
unfolding events_of_words
words_on_time delay first late tick there tape cells [] early small at found = tt
words_on_time delay first late tick there tape cells (p ∷ more) early small at found =
    let own = behind delay late 80 tape cells small found in
    let lasts = own.lasts in
    let next : (tick + duration (take 80 cells)) + first ≡ (there + duration (take 80 tape)) + own.late =
    omega (arith, at, lasts) in (
      (
        refl,
        refl,
        (omega (arith, next, own.small, early), omega (arith, next, own.small, early)),
        (omega (arith, lasts, own.small, small), omega (arith, lasts, own.small, small)),
      ),
      words_on_time delay first own.late (tick + duration (take 80 cells)) (there + duration (take 80 tape))
          (drop 80 tape) (drop 80 cells) more early own.small next own.rest,
    )

-- the words behind the first two cells, by the ticks from the first transition that is found
pub all_on_time : (delay first : ℕ) (tape cells : List Cell) (words : List Played) → first ≤ delay
    → AreFoundAs delay first tape cells
    → AreOnTime delay (events_of_words (duration (take 2 cells)) (drop 2 cells) words)
    (events_of_words (duration (take 2 tape)) (drop 2 tape) words)
all_on_time delay first tape cells words early found =
    let own = behind delay first 2 tape cells early found in
    words_on_time delay first own.late (duration (take 2 cells)) (duration (take 2 tape)) (drop 2 tape) (drop 2 cells)
    words early own.small own.lasts own.rest

-- and by the ticks from before it, at which the tape has not begun
pub all_on_time_from : (delay first start : ℕ) (tape cells : List Cell) (words : List Played) → first ≤ delay
    → AreFoundAs delay first tape cells
    → AreOnTime delay (events_of_words ((start + first) + duration (take 2 cells)) (drop 2 cells) words)
    (events_of_words (start + duration (take 2 tape)) (drop 2 tape) words)
all_on_time_from delay first start tape cells words early found =
    let own = behind delay first 2 tape cells early found in
    let lasts = own.lasts in
    words_on_time delay 0 own.late ((start + first) + duration (take 2 cells)) (start + duration (take 2 tape))
    (drop 2 tape) (drop 2 cells) words (omega arith) own.small (omega (arith, lasts)) own.rest
