-- A tape whose lengths are counted in samples is as steady in ticks, if the delay is a sample.
use Rattle.std.proofs.Common.{◌≡◌, ℕ, ◌+◌, ◌*◌, ◌<◌, ◌≤◌, Bool, true, false, List, [], ◌∷◌, map, refl, ap, sym}
use Rattle.std.proofs.Common.{subst, mul-add}
use Rattle.std.proofs.Common.{mul-le-mul_left, arith}
use Rattle.biphase.specs.declared.cell.Cell.{Cell}
use Rattle.biphase.specs.declared.cell.Cell.TheVariants.{Zero, One}
use Rattle.biphase.specs.declared.profile.Profile.{Profile}
use Rattle.biphase.specs.declared.profile.Profile.TheVariants.{Normal, Worn, Rough}
use Rattle.biphase.specs.Chain.{bits, flat}
use Rattle.biphase.specs.Tolerance.{length_of}
use Rattle.tape_sound.specs.Late.{drift_from, IsSteady, Outlasts, RunOn}
use Rattle.tape_sound.specs.Made.{scaled, scaled_cell}

pub flat_scaled : (f : ℕ) (tape : List Cell) → flat (scaled f tape) ≡ map (λ x. f * x) (flat tape)
flat_scaled f [] = refl
flat_scaled f (Zero c ∷ tape) = ap (λ (l : List ℕ). f * c ∷ l) (flat_scaled f tape)
flat_scaled f (One a b ∷ tape) = ap (λ (l : List ℕ). f * a ∷ f * b ∷ l) (flat_scaled f tape)

pub bits_scaled : (f : ℕ) (tape : List Cell) → bits (scaled f tape) ≡ bits tape
bits_scaled f [] = refl
bits_scaled f (Zero c ∷ tape) = ap (λ (l : List Bool). false ∷ l) (bits_scaled f tape)
bits_scaled f (One a b ∷ tape) = ap (λ (l : List Bool). true ∷ l) (bits_scaled f tape)

length_scaled : (f : ℕ) (cell : Cell) → length_of (scaled_cell f cell) ≡ f * length_of cell
length_scaled f (Zero c) = refl
length_scaled f (One a b) = sym (mul-add f a b)

-- lengths that differ by at most `most` samples differ by at most f times as many ticks
apart_scaled : (f a b most : ℕ) → a ≤ b + most → f * a ≤ f * b + f * most
apart_scaled f a b most less =
    let product : f * a ≤ f * (b + most) = mul-le-mul_left f less in
    omega (arith, product, mul-add f b most)

-- the drift of a cell
drift_scaled : (f p : ℕ) (cell : Cell) → drift_from (f * p) (scaled_cell f cell) ≤ f * drift_from p cell
drift_scaled f p (Zero c) =
    let more = apart_scaled f c p (drift_from p (Zero c)) (omega arith) in
    let less = apart_scaled f p c (drift_from p (Zero c)) (omega arith) in
    omega (arith, more, less)
drift_scaled f p (One a b) =
    let drift : ℕ = drift_from p (One a b) in
    let more = apart_scaled f (a + b) p drift (omega arith) in
    let less = apart_scaled f p (a + b) drift (omega arith) in
    let first = apart_scaled f a b drift (omega arith) in
    let second = apart_scaled f b a drift (omega arith) in
    omega (arith, more, less, first, second, mul-add f a b)

-- drifts and delays that are together less than a cell are so in ticks too
long_scaled : (f drifts delays drift c : ℕ) → 1 ≤ f → drifts * drift + delays * 1 < c
    → drifts * (f * drift) + delays * f < f * c
long_scaled f drifts delays drift c some less =
    let product : f * (drifts * drift + delays * 1 + 1) ≤ f * c = mul-le-mul_left f (omega (arith, less)) in
    let whole : f * (drifts * drift + delays * 1 + 1) ≡ drifts * (f * drift) + delays * f + f = grind arith in
    omega (arith, product, whole, some)

outlasts_scaled : (profile : Profile) (f drift c drift_there : ℕ) → 1 ≤ f → drift_there ≤ f * drift
    → Outlasts profile 1 drift c → Outlasts profile f drift_there (f * c)
outlasts_scaled Normal f drift c there some less long =
    let ticks = long_scaled f 16 32 drift c some long in omega (arith, ticks, less)
outlasts_scaled Worn f drift c there some less long =
    let ticks = long_scaled f 12 24 drift c some long in omega (arith, ticks, less)
outlasts_scaled Rough f drift c there some less long =
    let eight = long_scaled f 8 10 drift c some long.0 in
    let twelve = long_scaled f 12 9 drift c some long.1 in
    (omega (arith, eight, less), omega (arith, twelve, less))

runs_scaled : (profile : Profile) (f p : ℕ) (tape : List Cell) → 1 ≤ f → RunOn profile 1 p tape
    → RunOn profile f (f * p) (scaled f tape)
runs_scaled profile f p [] some runs = tt
runs_scaled profile f p (cell ∷ tape) some runs = (
  subst (λ (l : ℕ). Outlasts profile f (drift_from (f * p) (scaled_cell f cell)) l) (sym (length_scaled f cell))
      (outlasts_scaled profile f (drift_from p cell) (length_of cell) (drift_from (f * p) (scaled_cell f cell)) some
      (drift_scaled f p cell) runs.0),
  subst (λ (l : ℕ). RunOn profile f l (scaled f tape)) (sym (length_scaled f cell))
      (runs_scaled profile f (length_of cell) tape some runs.1),
)

pub steady_scaled : (profile : Profile) (f : ℕ) (tape : List Cell) → 1 ≤ f → IsSteady profile 1 tape
    → IsSteady profile f (scaled f tape)
steady_scaled profile f [] some steady = tt
steady_scaled profile f (cell ∷ tape) some steady =
    subst (λ (l : ℕ). RunOn profile f l (scaled f (cell ∷ tape))) (sym (length_scaled f cell))
    (runs_scaled profile f (length_of cell) (cell ∷ tape) some steady)
