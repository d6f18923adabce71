-- Of each sample there are as many steps as it is repeated.
use Rattle.std.proofs.Common.{◌≡◌, ℕ, suc, ◌+◌, ◌*◌, ℤ, List, [], ◌∷◌, length, replicate, ap, ap₂, refl, ◌∙◌, arith}
use Rattle.std.proofs.Math.Nat.{suc-mul}
use Rattle.std.proofs.lemmas.List.{length-append, length-replicate}
use Rattle.step_grid.specs.declared.grid.Grid.TheVariants.{Repeat}
use Rattle.path_front.specs.declared.group.Sounds.{Sounds}
use Rattle.path_front.specs.Clip.{clipped}
use Rattle.path_front.specs.Grid.{on_grid}
use Rattle.path_front.specs.Steps.{path_steps, sounds_of, with_held}
use Rattle.path_truth.proofs.SoundSides.{latest_of, sounds-cons}

pub steps-length : (sounds : List Sounds) → length (path_steps sounds) ≡ length sounds
unfolding path_steps
steps-length [] = refl
steps-length (s ∷ sounds) = ap suc (steps-length sounds)

one_more : (many repeats : ℕ) → repeats + many * repeats ≡ suc many * repeats
one_more many repeats = omega (arith, suc-mul many repeats)

no-length : (k least : ℕ) → length (sounds_of (Repeat k) least []) ≡ 0 * k
unfolding clipped with_held on_grid
no-length k least = omega arith

pub sounds-length : (k least : ℕ) (samples : List ℤ)
    → length (sounds_of (Repeat k) least samples) ≡ length samples * k
sounds-length k least [] = no-length k least
sounds-length k least (sample ∷ before) =
    ap length (sounds-cons k least sample before)
    ∙ length-append (replicate k (latest_of least sample before)) (sounds_of (Repeat k) least before)
    ∙ ap₂ (λ a b. a + b) (length-replicate k (latest_of least sample before)) (sounds-length k least before)
    ∙ one_more (length before) k
