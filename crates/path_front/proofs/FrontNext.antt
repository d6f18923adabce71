-- What is written goes on with the intervals of each cell that is judged.
use Rattle.std.proofs.Common.{◌≡◌, ℕ, ℤ, List, [], ◌∷◌, ◌++◌, reverse, false, refl, ap, ap₂, subst, sym, ◌∙◌}
use Rattle.std.specs.List.{flat_map}
use Rattle.std.proofs.lemmas.List.{append_assoc, append-nil, reverse-reverse}
use Rattle.path_front.specs.declared.gate.Ear.{Ear}
use Rattle.path_front.specs.declared.gate.Judged.{Judged}
use Rattle.path_front.specs.declared.judging.Phase.{Phase}
use Rattle.path_front.specs.declared.judging.Phase.TheVariants.{Sound, Rest, Drain}
use Rattle.path_front.specs.declared.measured.Measured.{Measured}
use Rattle.path_front.specs.Cells.{measured_cells, sounds_in}
use Rattle.path_front.specs.Front.{intervals_before, judgements, AreIntervals, FrontState, FrontStandsFor}
use Rattle.path_front.specs.Front.{IsAllGiven, IsFrontSettled}
use Rattle.path_front.specs.Gate.{breaks, GateState}
use Rattle.path_front.specs.Judging.{is_drain, CellsIn, ForMore, GivesJudged, GivesNone, IsSettled, JudgingState}
use Rattle.path_front.specs.Judging.{JudgingStandFor}
use Rattle.path_front.specs.Tiles.{tiles_of}

-- the intervals go on with those of the next cell
pub flat_pushed : (ticks : ℕ) (cells : List Judged) (cell : Judged)
    → flat_map (tiles_of ticks) (cells ++ cell ∷ []) ≡ flat_map (tiles_of ticks) cells ++ tiles_of ticks cell
flat_pushed ticks [] cell = append-nil (tiles_of ticks cell)
flat_pushed ticks (c ∷ cells) cell =
    ap (λ l. tiles_of ticks c ++ l) (flat_pushed ticks cells cell)
    ∙ sym (append_assoc (tiles_of ticks c) (flat_map (tiles_of ticks) cells) (tiles_of ticks cell))

written_next : (ticks : ℕ) (ear : Ear) (judged behind : List Measured) (answer : Judged)
    → answer.breaks ≡ breaks ear judged answer.cell behind
    → intervals_before ticks ear judged (answer.cell ∷ behind) ++ tiles_of ticks answer
    ≡ intervals_before ticks ear (answer.cell ∷ judged) behind
unfolding judgements
written_next ticks ear judged behind answer is =
    sym (flat_pushed ticks (judgements ear judged (answer.cell ∷ behind)) answer)
    ∙ ap (λ b. flat_map (tiles_of ticks) (judgements ear judged (answer.cell ∷ behind)
    ++ record { cell = answer.cell; breaks = b } ∷ [])) is

-- what holds of all that may come, holds behind what came
for_moved : (old new : Phase) (came : List Measured) (before now : List Measured → Type 0)
    → (old ≡ Drain → came ≡ []) → (old ≡ Drain → new ≡ Drain)
    → ((more : List Measured) → before (came ++ more) → now more) → ForMore old before → ForMore new now
for_moved Sound Sound came before now drained keeps goes holds = λ more. goes more (holds (came ++ more))
for_moved Sound Rest came before now drained keeps goes holds = λ more. goes more (holds (came ++ more))
for_moved Sound Drain came before now drained keeps goes holds = goes [] (holds (came ++ []))
for_moved Rest Sound came before now drained keeps goes holds = λ more. goes more (holds (came ++ more))
for_moved Rest Rest came before now drained keeps goes holds = λ more. goes more (holds (came ++ more))
for_moved Rest Drain came before now drained keeps goes holds = goes [] (holds (came ++ []))
for_moved Drain new came before now drained keeps goes holds =
    subst (λ p. ForMore p now) (sym (keeps refl))
    (goes [] (subst before (sym (ap (λ l. l ++ []) (drained refl))) holds))

for_both : (phase : Phase) (a b both : List Measured → Type 0)
    → ((more : List Measured) → a more → b more → both more) → ForMore phase a → ForMore phase b → ForMore phase both
for_both Sound a b both goes x y = λ more. goes more (x more) (y more)
for_both Rest a b both goes x y = λ more. goes more (x more) (y more)
for_both Drain a b both goes x y = goes [] x y

for_each : (phase : Phase) (a now : List Measured → Type 0) → ((more : List Measured) → a more → now more)
    → ForMore phase a → ForMore phase now
for_each Sound a now goes x = λ more. goes more (x more)
for_each Rest a now goes x = λ more. goes more (x more)
for_each Drain a now goes x = goes [] x

at_drain : (phase : Phase) (holds : List Measured → Type 0) → phase ≡ Drain → ForMore phase holds → holds []
at_drain phase holds is all = subst (λ p. ForMore p holds) is all

abbrev pub front : JudgingState → ℕ → List ℕ → FrontState
front judging ticks tiles = record { judging = judging; ticks = ticks; tiles = tiles }

-- a cell is judged, and its intervals are due
pub filled : (old new : JudgingState) (ticks : ℕ) (answer : Judged) (samples : List ℤ) (given : List ℕ)
    → GivesJudged old new answer → new.gate.ear ≡ old.gate.ear
    → FrontStandsFor (front old ticks []) samples given
    → FrontStandsFor (front new ticks (tiles_of ticks answer)) samples given
filled old new ticks answer samples given gives least stand =
    let m = gives.moves in
    let judged = stand.judged in
    let moved = for_moved old.phase new.phase m.came
    (λ more. given ++ [] ≡ intervals_before ticks old.gate.ear judged (old.gate.ahead ++ more))
    (λ more. given ≡ intervals_before ticks new.gate.ear judged (answer.cell ∷ (new.gate.ahead ++ more)))
    m.drained m.keeps
    (λ more is. sym (append-nil given) ∙ is
    ∙ ap (intervals_before ticks old.gate.ear judged)
    (sym (append_assoc old.gate.ahead m.came more) ∙ ap (λ l. l ++ more) m.moved)
    ∙ ap (λ n. intervals_before ticks n judged (answer.cell ∷ (new.gate.ahead ++ more))) (sym least))
    stand.out in
    record {
      judged = answer.cell ∷ judged;
      judging = gives.stands samples judged stand.judging;
      out = for_both new.phase
          (λ more. given ≡ intervals_before ticks new.gate.ear judged (answer.cell ∷ (new.gate.ahead ++ more)))
          (λ more. answer.breaks ≡ breaks new.gate.ear judged answer.cell (new.gate.ahead ++ more))
          (λ more. given ++ tiles_of ticks answer
          ≡ intervals_before ticks new.gate.ear (answer.cell ∷ judged) (new.gate.ahead ++ more))
          (λ more is judges. ap (λ l. l ++ tiles_of ticks answer) is
          ∙ written_next ticks new.gate.ear judged (new.gate.ahead ++ more) answer judges)
          moved (gives.judges samples judged stand.judging);
    }

-- none is judged
pub none_filled : (old new : JudgingState) (ticks : ℕ) (tiles : List ℕ) (samples : List ℤ) (given : List ℕ)
    → GivesNone old new → new.gate.ear ≡ old.gate.ear → FrontStandsFor (front old ticks tiles) samples given
    → FrontStandsFor (front new ticks tiles) samples given
none_filled old new ticks tiles samples given gives least stand =
    let m = gives.moves in
    let judged = stand.judged in
    record {
      judged = judged;
      judging = gives.stands samples judged stand.judging;
      out = for_moved old.phase new.phase m.came
          (λ more. given ++ tiles ≡ intervals_before ticks old.gate.ear judged (old.gate.ahead ++ more))
          (λ more. given ++ tiles ≡ intervals_before ticks new.gate.ear judged (new.gate.ahead ++ more))
          m.drained m.keeps
          (λ more is. is
          ∙ ap (intervals_before ticks old.gate.ear judged)
          (sym (append_assoc old.gate.ahead m.came more) ∙ ap (λ l. l ++ more) m.moved)
          ∙ ap (λ n. intervals_before ticks n judged (new.gate.ahead ++ more)) (sym least))
          stand.out;
    }

-- an interval is given
pub one_given : (judging : JudgingState) (ticks interval : ℕ) (tiles : List ℕ) (samples : List ℤ) (given : List ℕ)
    → FrontStandsFor (front judging ticks (interval ∷ tiles)) samples given
    → FrontStandsFor (front judging ticks tiles) samples (given ++ interval ∷ [])
one_given judging ticks interval tiles samples given stand = record {
  judged = stand.judged;
  judging = stand.judging;
  out = for_each judging.phase
      (λ more. given ++ interval ∷ tiles
      ≡ intervals_before ticks judging.gate.ear stand.judged (judging.gate.ahead ++ more))
      (λ more. (given ++ interval ∷ []) ++ tiles
      ≡ intervals_before ticks judging.gate.ear stand.judged (judging.gate.ahead ++ more))
      (λ more is. append_assoc given (interval ∷ []) tiles ∙ is) stand.out;
}

-- at the end all intervals are given
pub all_given : (judging : JudgingState) (ticks : ℕ) (samples : List ℤ) (given : List ℕ) → judging.phase ≡ Drain
    → judging.gate.ahead ≡ [] → FrontStandsFor (front judging ticks []) samples given
    → AreIntervals judging.cells.steps.grid ticks judging.cells.steps.hold.least samples given
all_given judging ticks samples given drain none stand =
    let judged = stand.judged in
    let sounds = sounds_in judging.cells samples in
    let cells = stand.judging.given in
    let order : reverse judged ≡ reverse (measured_cells sounds cells) =
    sym (append-nil (reverse judged)) ∙ ap (λ l. reverse judged ++ l) (sym none) ∙ stand.judging.order in
    let same : judged ≡ measured_cells sounds cells =
    sym (reverse-reverse judged) ∙ ap reverse order ∙ reverse-reverse (measured_cells sounds cells) in
    let out = at_drain judging.phase
    (λ more. given ++ [] ≡ intervals_before ticks judging.gate.ear judged (judging.gate.ahead ++ more)) drain
    stand.out in
    record {
      cells = cells;
      decided = subst (λ p. CellsIn p judging.cells samples cells) drain stand.judging.cells;
      intervals_are = sym (append-nil given) ∙ out
          ∙ ap (λ a. intervals_before ticks judging.gate.ear judged (a ++ [])) none
          ∙ ap₂ (λ n l. intervals_before ticks n l []) stand.judging.ear same;
    }

pub settled_all : (state : FrontState) (samples : List ℤ) (given : List ℕ) → IsFrontSettled state
    → FrontStandsFor state samples given → IsAllGiven state samples given
settled_all state samples given settled stand = λ drain.
    all_given state.judging state.ticks samples given drain
    (subst (λ p. IsSettled p state.judging) drain settled.0)
    (subst (λ t. FrontStandsFor (front state.judging state.ticks t) samples given) settled.1 stand)

-- before the first sample
pub nothing_yet : (judging : JudgingState) (ticks : ℕ) → judging.phase ≡ Sound → JudgingStandFor judging [] []
    → FrontStandsFor (front judging ticks []) [] []
unfolding judgements
nothing_yet judging ticks phase stand = record {
  judged = [];
  judging = stand;
  out = subst (λ p. ForMore p (λ more. [] ≡ intervals_before ticks judging.gate.ear [] (judging.gate.ahead ++ more)))
      (sym phase) (λ more. refl);
}

for_open : (phase : Phase) (holds : List Measured → Type 0) → is_drain phase ≡ false → ForMore Sound holds
    → ForMore phase holds
for_open Sound holds opened all = all
for_open Rest holds opened all = all
for_open Drain holds opened all = all []

-- samples come, or the sound ends
pub goes_along : (old new : JudgingState) (ticks : ℕ) (tiles : List ℕ) (samples more : List ℤ) (given : List ℕ)
    → new.gate ≡ old.gate → old.phase ≡ Sound → is_drain new.phase ≡ false
    → ((judged : List Measured) → JudgingStandFor old samples judged → JudgingStandFor new more judged)
    → FrontStandsFor (front old ticks tiles) samples given → FrontStandsFor (front new ticks tiles) more given
goes_along old new ticks tiles samples more given gate phase opened goes stand =
    let judged = stand.judged in
    record {
      judged = judged;
      judging = goes judged stand.judging;
      out = subst (λ (g : GateState). ForMore new.phase (λ m. given ++ tiles
          ≡ intervals_before ticks g.ear judged (g.ahead ++ m))) (sym gate)
          (for_open new.phase (λ m. given ++ tiles ≡ intervals_before ticks old.gate.ear judged (old.gate.ahead ++ m))
          opened
          (subst (λ p. ForMore p (λ m. given ++ tiles
          ≡ intervals_before ticks old.gate.ear judged (old.gate.ahead ++ m))) phase stand.out));
    }
