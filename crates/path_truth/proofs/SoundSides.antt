-- The steps of samples that keep their level are on the sides of their samples.
use Rattle.std.proofs.Common.{◌≡◌, ℕ, zero, suc, ◌≤◌, ℤ, pos, ◌<ℤ◌, unsigned_abs, List, [], ◌∷◌, ◌++◌}
use Rattle.std.proofs.Common.{length, drop, map, replicate, refl, ap, subst, sym, arith}
use Rattle.std.specs.List.{AllByRecursion}
use Rattle.cell_path.specs.declared.cell.Cell.{Cell}
use Rattle.cell_path.specs.declared.cell.Sign.{Sign}
use Rattle.cell_path.specs.declared.lengths.TheConstants.{LENGTHS}
use Rattle.cell_path.specs.Lengths.{length_in}
use Rattle.cell_path.specs.Path.{signed}
use Rattle.step_grid.specs.declared.grid.Grid.TheVariants.{Repeat}
use Rattle.path_front.specs.declared.group.Sounds.{Sounds}
use Rattle.path_front.specs.Clip.{clip_at, clipped, clipped_to}
use Rattle.path_front.specs.Grid.{on_grid}
use Rattle.path_front.specs.Hold.{held_at, loudness_of}
use Rattle.path_front.specs.Steps.{path_steps, sounds_of, with_held}
use Rattle.path_truth.specs.Sides.{AreOnSide, KeepsItsSides}
use Rattle.path_truth.specs.Sound.{alone, IsSized, IsSoundOf, KeepsItsLevel}
use Rattle.path_truth.proofs.Clipping.{clip_at-least, clipped-sized, clipped_to-left}
use Rattle.path_truth.proofs.Holding.{held-side}
use Rattle.path_truth.proofs.MeanSize.{mean-least, AreAbove}
use Rattle.path_truth.proofs.Stretched.{like-tape, AreLike}

-- none is silent
abbrev AreLoud : List Sounds → Type 0
AreLoud sounds = AllByRecursion (λ s. 1 ≤ unsigned_abs s.clipped) sounds

loud-repeated : (k : ℕ) (latest : Sounds) (before : List Sounds) → 1 ≤ unsigned_abs latest.clipped → AreLoud before
    → AreLoud (replicate k latest ++ before)
loud-repeated zero latest before is are = are
loud-repeated (suc k) latest before is are = (is, loud-repeated k latest before is are)

loud-sizes : (sounds : List Sounds) → AreLoud sounds → AreAbove 1 (map (λ (s : Sounds). unsigned_abs s.clipped) sounds)
loud-sizes [] are = tt
loud-sizes (latest ∷ before) are = (are.0, loud-sizes before are.1)

-- the steps of one sound, in front of others
repeated-on : (k : ℕ) (sign : Sign) (latest : Sounds) (before : List Sounds) → 1 ≤ unsigned_abs latest.clipped
    → AreLoud before → pos 0 <ℤ signed sign latest.held
    → AreOnSide sign k (path_steps (replicate k latest ++ before))
unfolding path_steps
repeated-on zero sign latest before is are on = tt
repeated-on (suc k) sign latest before is are on =
    let more = replicate k latest ++ before in
    let sizes = loud-sizes more (loud-repeated k latest before is are) in (
      record {
        side = on;
        level = mean-least 1 (unsigned_abs latest.clipped) (map (λ (s : Sounds). unsigned_abs s.clipped) more)
            (is, sizes);
      },
      repeated-on k sign latest before is are on,
    )

repeated-drop : (k : ℕ) (latest : Sounds) (before : List Sounds)
    → drop k (path_steps (replicate k latest ++ before)) ≡ path_steps before
unfolding path_steps
repeated-drop zero latest before = refl
repeated-drop (suc k) latest before = repeated-drop k latest before

-- the latest sample, as it is heard
abbrev pub latest_of : ℕ → ℤ → List ℤ → Sounds
latest_of least sample before =
    let left = clipped_to (clip_at (loudness_of (clipped before)).peak (sample ∷ before)) sample in
    record { clipped = left; held = held_at least (left ∷ clipped before) }

pub sounds-cons : (k least : ℕ) (sample : ℤ) (before : List ℤ) → sounds_of (Repeat k) least (sample ∷ before)
    ≡ replicate k (latest_of least sample before) ++ sounds_of (Repeat k) least before
unfolding clipped with_held on_grid
sounds-cons k least sample before = refl

no-sounds : (k least : ℕ) → path_steps (sounds_of (Repeat k) least []) ≡ []
unfolding path_steps clipped with_held on_grid
no-sounds k least = refl

pub before-keeps : (least low high : ℕ) (sample : ℤ) (before : List ℤ) → KeepsItsLevel least low high (sample ∷ before)
    → KeepsItsLevel least low high before
before-keeps least low high sample before keeps =
    record { some = keeps.some; heard = keeps.heard; near = keeps.near; sizes = keeps.sizes.1 }

pub record IsHeardAs (low high : ℕ) (sample : ℤ) (heard : Sounds) : Type 0 where
  pub sized : IsSized low high heard.clipped
  pub loud : 1 ≤ unsigned_abs heard.clipped
  pub plain : (sign : Sign) → pos 0 <ℤ signed sign sample → pos 0 <ℤ signed sign heard.clipped
  pub side : (sign : Sign) → pos 0 <ℤ signed sign sample → pos 0 <ℤ signed sign heard.held

pub heard-as : (least low high : ℕ) (sample : ℤ) (before : List ℤ) → KeepsItsLevel least low high (sample ∷ before)
    → IsHeardAs low high sample (latest_of least sample before)
heard-as least low high sample before keeps =
    let peak = (loudness_of (clipped before)).peak in
    let most = clip_at peak (sample ∷ before) in
    let left = clipped_to-left most low high sample (clip_at-least peak low high sample before keeps.sizes) keeps.some
    keeps.sizes.0 in
    let level : KeepsItsLevel least low high (clipped_to most sample ∷ clipped before) =
    record {
      some = keeps.some;
      heard = keeps.heard;
      near = keeps.near;
      sizes = (left.sized, clipped-sized low high before keeps.some keeps.sizes.1);
    } in
    let some = keeps.some in
    record {
      sized = left.sized;
      plain = left.side;
      loud = omega (arith, left.sized.least, some);
      side = λ sign on. held-side least low high sign (clipped_to most sample) (clipped before) level
          (left.side sign on);
    }

are-loud : (k least low high : ℕ) (samples : List ℤ) → KeepsItsLevel least low high samples
    → AreLoud (sounds_of (Repeat k) least samples)
unfolding clipped with_held on_grid
are-loud k least low high [] keeps = tt
are-loud k least low high (sample ∷ before) keeps =
    loud-repeated k (latest_of least sample before) (sounds_of (Repeat k) least before)
    (heard-as least low high sample before keeps).loud
    (are-loud k least low high before (before-keeps least low high sample before keeps))

are-like : (k least low high : ℕ) (samples : List ℤ) → KeepsItsLevel least low high samples
    → AreLike k (alone samples) (path_steps (sounds_of (Repeat k) least samples))
are-like k least low high [] keeps = ap length (no-sounds k least)
are-like k least low high (sample ∷ before) keeps =
    let latest = latest_of least sample before in
    let sounds = sounds_of (Repeat k) least before in
    let more = before-keeps least low high sample before keeps in
    let heard = heard-as least low high sample before keeps in
    let loud = are-loud k least low high before more in
    subst (λ l. AreLike k (alone (sample ∷ before)) (path_steps l)) (sym (sounds-cons k least sample before)) (
      (λ sign on. repeated-on k sign latest sounds heard.loud loud (heard.side sign on.side)),
      subst (AreLike k (alone before)) (sym (repeated-drop k latest sounds)) (are-like k least low high before more),
    )

pub sound_keeps : (place : ℕ) (tape : List Cell) (repeats least low high : ℕ) (samples : List ℤ)
    → IsSoundOf place tape repeats least low high samples
    → KeepsItsSides (length_in LENGTHS place) (path_steps (sounds_of (Repeat repeats) least samples)) tape
sound_keeps place tape repeats least low high samples is =
    subst (λ n. KeepsItsSides n (path_steps (sounds_of (Repeat repeats) least samples)) tape) is.cells
    (like-tape repeats is.many tape (alone samples) (path_steps (sounds_of (Repeat repeats) least samples)) is.sides
    (are-like repeats least low high samples is.level))
