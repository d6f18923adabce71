-- A sound that is made of intervals is a list of runs of one size, so it is sliced into the intervals again.
use Rattle.std.proofs.Common.{◌≡◌, ℕ, zero, suc, ◌*◌, ◌≤◌, ℤ, pos, List, [], ◌∷◌, ◌++◌, length, map, replicate, refl}
use Rattle.std.proofs.Common.{ap, ap₂, subst, sym, ◌∙◌, one-mul, arith}
use Rattle.std.specs.List.{AllByRecursion}
use Rattle.std.proofs.lemmas.List.{length-replicate}
use Rattle.pcm_front.specs.declared.side.Side.{Side}
use Rattle.pcm_front.specs.declared.side.Side.TheVariants.{High, Low}
use Rattle.pcm_front.specs.declared.threshold.Threshold.TheVariants.{Fixed}
use Rattle.pcm_front.specs.Side.{other_side, upward}
use Rattle.pcm_front.specs.Distance.{IsInterval, distances}
use Rattle.pcm_front.specs.Runs.{IsOfSize, Alternate, joined}
use Rattle.pcm_front.specs.Sound.{sound_runs, sound}
use Rattle.pcm_front.proofs.RunByRun.{runs_of_size}

-- the runs of the intervals, and the last run
abbrev inner : ℕ → Side → List ℕ → List (List ℤ)
inner size side [] = []
inner size side (x ∷ xs) = replicate x (upward side (pos size)) ∷ inner size (other_side side) xs

abbrev last_run : ℕ → Side → List ℕ → List ℤ
last_run size side [] = upward side (pos size) ∷ []
last_run size side (x ∷ xs) = last_run size (other_side side) xs

sound_runs-split : (size : ℕ) (side : Side) (xs : List ℕ) → inner size side xs ++ last_run size side xs
    ∷ [] ≡ sound_runs size side xs
sound_runs-split size side [] = refl
sound_runs-split size side (x ∷ xs) = ap (λ more. replicate x (upward side (pos size)) ∷ more)
    (sound_runs-split size (other_side side) xs)

all_of_size : (size : ℕ) (side : Side) (n : ℕ)
    → AllByRecursion (IsOfSize size side) (replicate n (upward side (pos size)))
all_of_size size side zero = tt
all_of_size size side (suc n) = (refl, all_of_size size side n)

in_turn : (size : ℕ) (side : Side) (xs : List ℕ) → AllByRecursion IsInterval xs →
    Alternate (IsOfSize size) side (inner size side xs ++ last_run size side xs ∷ [])
in_turn size side [] are = (omega arith, (refl, tt), tt)
in_turn size side (x ∷ xs) are =
    let long : length (replicate x (upward side (pos size))) ≡ x = length-replicate x (upward side (pos size)) in
    (subst (λ n. 1 ≤ n) (sym long) are.0.0, all_of_size size side x, in_turn size (other_side side) xs are.1)

lengths : (f size : ℕ) (side : Side) (xs : List ℕ) → map (λ run. f * length run) (inner size side xs) ≡ map (λ x. f * x)
    xs
lengths f size side [] = refl
lengths f size side (x ∷ xs) =
    ap₂ (λ n more. (f * n) ∷ more) (length-replicate x (upward side (pos size))) (lengths f size (other_side side) xs)

pub sliced_again : (f t size : ℕ) (xs : List ℕ) → 1 ≤ t → t ≤ size → AllByRecursion IsInterval xs →
    distances f (Fixed t) (sound size xs) ≡ map (λ x. f * x) xs
sliced_again f t size xs some above are =
    let first : List ℤ = upward Low (pos size) ∷ [] in
    let turns : Alternate (IsOfSize size) Low (first ∷ (inner size High xs ++ last_run size High xs ∷ [])) =
    (omega arith, (refl, tt), in_turn size High xs are) in
    ap (λ runs. distances f (Fixed t) (joined (first ∷ runs))) (sym (sound_runs-split size High xs))
    ∙ runs_of_size f t size Low first (inner size High xs) (last_run size High xs) some above turns
    ∙ lengths f size High xs

pub one_times : (xs : List ℕ) → map (λ x. 1 * x) xs ≡ xs
one_times [] = refl
one_times (x ∷ xs) = ap₂ (λ y more. y ∷ more) (one-mul x) (one_times xs)
