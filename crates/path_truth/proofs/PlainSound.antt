-- The sound of samples that keep their level, without the hold, has their sides and sizes.
use Rattle.std.proofs.Common.{◌≡◌, ℕ, zero, suc, ◌-◌, ℤ, pos, ◌<ℤ◌, List, [], ◌∷◌, ◌++◌}
use Rattle.std.proofs.Common.{length, drop, replicate, refl, ap, subst, sym, arith}
use Rattle.std.specs.List.{AllByRecursion}
use Rattle.std.proofs.lemmas.List.{length-map}
use Rattle.cell_path.specs.declared.cell.Cell.{Cell}
use Rattle.cell_path.specs.declared.cell.Sign.{Sign}
use Rattle.cell_path.specs.declared.lengths.TheConstants.{LENGTHS}
use Rattle.cell_path.specs.Lengths.{length_in}
use Rattle.cell_path.specs.Path.{signed}
use Rattle.step_grid.specs.declared.grid.Grid.TheVariants.{Repeat}
use Rattle.path_front.specs.declared.group.Sounds.{Sounds}
use Rattle.path_front.specs.Cells.{plain}
use Rattle.path_front.specs.Clip.{clipped}
use Rattle.path_front.specs.Grid.{on_grid}
use Rattle.path_front.specs.Steps.{path_steps, sounds_of, with_held}
use Rattle.path_truth.specs.Sides.{AreOnSide, KeepsItsSides}
use Rattle.path_truth.specs.Sound.{alone, IsSized, IsSoundOf, KeepsItsLevel}
use Rattle.path_truth.proofs.MeasuredTape.{IsTapeIn}
use Rattle.path_truth.proofs.SoundLength.{steps-length}
use Rattle.path_truth.proofs.SoundSides.{before-keeps, heard-as, latest_of, sounds-cons}
use Rattle.path_truth.proofs.Stretched.{like-tape, AreLike}

repeated-on : (k : ℕ) (sign : Sign) (latest : Sounds) (before : List Sounds) → pos 0 <ℤ signed sign latest.clipped
    → AreOnSide sign k (alone (plain (replicate k latest ++ before)))
repeated-on zero sign latest before on = tt
repeated-on (suc k) sign latest before on =
    (record { side = on; level = omega arith }, repeated-on k sign latest before on)

repeated-drop : (k : ℕ) (latest : Sounds) (before : List Sounds)
    → drop k (alone (plain (replicate k latest ++ before))) ≡ alone (plain before)
repeated-drop zero latest before = refl
repeated-drop (suc k) latest before = repeated-drop k latest before

repeated-sized : (low high k : ℕ) (latest : Sounds) (before : List Sounds) → IsSized low high latest.clipped
    → AllByRecursion (IsSized low high) (plain before)
    → AllByRecursion (IsSized low high) (plain (replicate k latest ++ before))
repeated-sized low high zero latest before is are = are
repeated-sized low high (suc k) latest before is are = (is, repeated-sized low high k latest before is are)

no-plain : (k least : ℕ) → alone (plain (sounds_of (Repeat k) least [])) ≡ []
unfolding clipped with_held on_grid
no-plain k least = refl

plain-sized : (k least low high : ℕ) (samples : List ℤ) → KeepsItsLevel least low high samples
    → AllByRecursion (IsSized low high) (plain (sounds_of (Repeat k) least samples))
unfolding clipped with_held on_grid
plain-sized k least low high [] keeps = tt
plain-sized k least low high (sample ∷ before) keeps =
    repeated-sized low high k (latest_of least sample before) (sounds_of (Repeat k) least before)
    (heard-as least low high sample before keeps).sized
    (plain-sized k least low high before (before-keeps least low high sample before keeps))

plain-like : (k least low high : ℕ) (samples : List ℤ) → KeepsItsLevel least low high samples
    → AreLike k (alone samples) (alone (plain (sounds_of (Repeat k) least samples)))
plain-like k least low high [] keeps = ap length (no-plain k least)
plain-like k least low high (sample ∷ before) keeps =
    let latest = latest_of least sample before in
    let sounds = sounds_of (Repeat k) least before in
    let more = before-keeps least low high sample before keeps in
    let heard = heard-as least low high sample before keeps in
    subst (λ l. AreLike k (alone (sample ∷ before)) (alone (plain l))) (sym (sounds-cons k least sample before)) (
      (λ sign on. repeated-on k sign latest sounds (heard.plain sign on.side)),
      subst (AreLike k (alone before)) (sym (repeated-drop k latest sounds)) (plain-like k least low high before more),
    )

plain-length : (sounds : List Sounds) → length (plain sounds) ≡ length sounds
plain-length sounds = length-map sounds (λ (s : Sounds). s.clipped)

-- the tape ends with the sound
pub tape-in : (place : ℕ) (tape : List Cell) (repeats least low high : ℕ) (samples : List ℤ)
    → IsSoundOf place tape repeats least low high samples
    → IsTapeIn place low high (sounds_of (Repeat repeats) least samples)
    (length (path_steps (sounds_of (Repeat repeats) least samples))) tape
tape-in place tape repeats least low high samples is =
    let sounds = sounds_of (Repeat repeats) least samples in
    let all = alone (plain sounds) in
    let long = plain-length sounds in
    let steps = steps-length sounds in
    let none : 0 ≡ length (plain sounds) - length (path_steps sounds) = omega (arith, long, steps) in
    let whole : KeepsItsSides (length_in LENGTHS place) all tape =
    subst (λ n. KeepsItsSides n all tape) is.cells
    (like-tape repeats is.many tape (alone samples) all is.sides
    (plain-like repeats least low high samples is.level)) in
    record {
      within = is.steady.in_list;
      sized = plain-sized repeats least low high samples is.level;
      go = is.steady.cells;
      ends = omega (arith, long, steps);
      keeps = subst (λ d. KeepsItsSides (length_in LENGTHS place) (drop d all) tape) none whole;
    }
