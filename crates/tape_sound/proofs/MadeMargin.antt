-- The sound that is made of a steady tape, and noise, has a margin for it: it goes over within a sample, all the way.
use Rattle.std.proofs.Common.{◌≡◌, ℕ, zero, suc, ◌+◌, ◌-◌, ◌*◌, ◌/◌, ◌≤◌, max, true, false, unsigned_abs}
use Rattle.std.proofs.Common.{ℤ, pos, neg_ℤ, ◌≤ℤ◌, int_le, ◌-ℤ◌, List, [], ◌∷◌, ◌++◌, length, map, replicate}
use Rattle.std.proofs.Common.{ap, sym, subst, ◌∙◌, arith}
use Rattle.std.specs.Prelude.{◌+ℤ◌}
use Rattle.std.specs.List.{AllByRecursion}
use Rattle.std.proofs.lemmas.Int.{ints}
use Rattle.std.proofs.Math.IntN.{neg_ℤ-neg_ℤ}
use Rattle.biphase.specs.declared.cell.Cell.{Cell}
use Rattle.biphase.specs.declared.cell.Cell.TheVariants.{Zero, One}
use Rattle.biphase.specs.declared.profile.Profile.{Profile}
use Rattle.biphase.specs.Chain.{flat}
use Rattle.pcm_front.specs.declared.side.Side.{Side}
use Rattle.pcm_front.specs.declared.side.Side.TheVariants.{High, Low}
use Rattle.pcm_front.specs.declared.threshold.Threshold.{Threshold}
use Rattle.pcm_front.specs.declared.threshold.Threshold.TheVariants.{Fixed}
use Rattle.pcm_front.specs.Crossing.{apart}
use Rattle.pcm_front.specs.Level.{least_of}
use Rattle.pcm_front.specs.Runs.{joined}
use Rattle.pcm_front.specs.Side.{other_side, upward}
use Rattle.pcm_front.specs.Sound.{sound, sound_runs}
use Rattle.tape_sound.specs.Heard.{transitions, transitions_after, HasMargin}
use Rattle.tape_sound.specs.Late.{drift_from, IsSteady}
use Rattle.tape_sound.specs.Made.{scaled}
use Rattle.tape_sound.specs.Margin.{tick_to_bound, turns, ComeBehind, ComeWithin, GoesOverAt, IsNoisy}
use Rattle.tape_sound.specs.Margin.{StaysBetween}
use Rattle.tape_sound.proofs.FollowedLevel.{stays_between, PeakLaw}
use Rattle.tape_sound.proofs.LastsLong.{half_drift, lasts, steady_rest}
use Rattle.tape_sound.proofs.MadeTurns.{sound_turns}
use Rattle.tape_sound.proofs.NoLater.{tick_within}
use Rattle.tape_sound.proofs.ScaledTape.{flat_scaled, steady_scaled}

-- ---- how it goes over

behind_all : (t u : ℕ) (xs : List ℕ) → u ≤ t → ComeBehind (transitions_after t xs) (transitions_after u xs)
behind_all t u [] less = tt
behind_all t u (x ∷ xs) less = (omega (arith, less), behind_all (t + x) (u + x) xs (omega (arith, less)))

within_all : (delay t u : ℕ) (xs : List ℕ) → u ≤ t → t ≤ u + delay
    → ComeWithin delay (transitions_after u xs) (transitions_after t xs)
within_all delay t u [] less most = tt
within_all delay t u (x ∷ xs) less most = (
  omega (arith, less),
  omega (arith, most),
  within_all delay (t + x) (u + x) xs (omega (arith, less))
      (omega (arith, most)),
)

-- a bound within the size: above the one side, and not above the other
record IsWithinSize (size : ℕ) (bound : ℤ) : Type 0 where
  below : int_le bound (neg_ℤ (pos size)) ≡ false
  above : int_le bound (pos size) ≡ true
  most : bound ≤ℤ pos size

made_goes_over : (f size : ℕ) (low high : ℤ) (tape : List Cell) → 1 ≤ f → IsWithinSize size low → IsWithinSize size high
    → AllByRecursion (λ x. 1 ≤ x) (flat tape)
    → GoesOverAt f (λ place. low) (λ place. high) f (transitions 0 (scaled f tape)) (sound size (flat tape))
made_goes_over f size low high tape some low_is high_is long =
    let made : List ℤ = sound size (flat tape) in
    let xs : List ℕ = map (λ x. f * x) (flat tape) in
    let from : transitions 0 (scaled f tape) ≡ 0 ∷ transitions_after 0 xs =
    ap (λ (l : List ℕ). 0 ∷ transitions_after 0 l) (flat_scaled f tape) in
    let t = tick_to_bound f low (neg_ℤ (pos size)) (pos size) in
    let u = tick_to_bound f high (neg_ℤ (pos size)) (pos size) in
    let u_within = tick_within f high (neg_ℤ (pos size)) (pos size) some high_is.most in
    let lows : ComeBehind (t ∷ transitions_after t xs) (0 ∷ transitions_after 0 xs) =
    (omega arith, behind_all t 0 xs (omega arith)) in
    let highs : ComeWithin f (0 ∷ transitions_after 0 xs) (u ∷ transitions_after u xs) =
    (omega arith, omega (arith, u_within.1), within_all f u 0 xs (omega arith) (omega (arith, u_within.1))) in
    let count : ℕ = length made - (0 + 1) in
    record {
      side = Low;
      first = 0;
      there = omega arith;
      stands = ap (int_le high) (neg_ℤ-neg_ℤ (pos size)) ∙ high_is.above;
      before = λ place less. absurd (omega (arith, less));
      no_sooner = subst (ComeBehind (turns f (λ place. low) made Low (0 + 1) count)) (sym from)
          (subst (λ (l : List ℕ). ComeBehind l (0 ∷ transitions_after 0 xs))
          (sym (sound_turns f size low low_is.below low_is.above (flat tape) long)) lows);
      within = subst (λ (l : List ℕ). ComeWithin f l (turns f (λ place. high) made Low (0 + 1) count)) (sym from)
          (subst (λ (l : List ℕ). ComeWithin f (0 ∷ transitions_after 0 xs) l)
          (sym (sound_turns f size high high_is.below high_is.above (flat tape) long)) highs);
    }

-- the intervals of a steady tape are some
steady_some : (profile : Profile) (tape : List Cell) → IsSteady profile 1 tape → AllByRecursion (λ x. 1 ≤ x) (flat tape)
steady_some profile [] steady = tt
steady_some profile (Zero c ∷ tape) steady =
    let long = lasts profile 1 (drift_from c (Zero c)) c steady.0 in
    (omega (arith, long), steady_some profile tape (steady_rest profile 1 c tape steady.1))
steady_some profile (One a b ∷ tape) steady =
    let long = lasts profile 1 (drift_from (a + b) (One a b)) (a + b) steady.0 in
    let drift = half_drift (a + b) a b in (
      omega (arith, long, drift.1),
      (omega (arith, long, drift.0), steady_some profile tape (steady_rest profile 1 (a + b) tape steady.1)),
    )

made_margin : (profile : Profile) (f size noise : ℕ) (low high : ℤ) (threshold : Threshold) (tape : List Cell)
    (noisy : List ℤ) → 1 ≤ f → IsWithinSize size low → IsWithinSize size high
    → IsNoisy (λ place. noise) (sound size (flat tape)) noisy
    → StaysBetween (λ place. low) (λ place. high) (λ place. noise) threshold noisy → IsSteady profile 1 tape
    → HasMargin profile f threshold (scaled f tape) noisy
made_margin profile f size noise low high threshold tape noisy some low_is high_is near stays steady = record {
  delay = f;
  start = 0;
  noise = λ place. noise;
  low = λ place. low;
  high = λ place. high;
  clean = sound size (flat tape);
  noisy = near;
  stays = stays;
  goes_over = made_goes_over f size low high tape some low_is high_is (steady_some profile tape steady);
  steady = steady_scaled profile f tape some steady;
}

-- ---- if the threshold and the noise leave room

low_within : (size t noise : ℕ) → 1 ≤ t → t + noise ≤ size → IsWithinSize size (pos t -ℤ pos noise)
low_within size t noise some room =
    record { below = grind (arith, ints); above = grind (arith, ints); most = grind (arith, ints) }

high_within : (size t noise : ℕ) → 1 ≤ t → t + noise ≤ size → IsWithinSize size (pos t +ℤ pos noise)
high_within size t noise some room =
    record { below = grind (arith, ints); above = grind (arith, ints); most = grind (arith, ints) }

above_low : (t noise : ℕ) → ((pos t -ℤ pos noise) +ℤ pos noise) ≤ℤ pos t
above_low t noise = grind (arith, ints)

below_high : (t noise : ℕ) → (pos t +ℤ pos noise) ≤ℤ (pos t +ℤ pos noise)
below_high t noise = grind (arith, ints)

pub fixed_margin : (profile : Profile) (f size noise t : ℕ) (tape : List Cell) (noisy : List ℤ) → 1 ≤ f → 1 ≤ t
    → t + noise ≤ size → IsNoisy (λ place. noise) (sound size (flat tape)) noisy → IsSteady profile 1 tape
    → HasMargin profile f (Fixed t) (scaled f tape) noisy
fixed_margin profile f size noise t tape noisy some least room near steady =
    let most : ℕ = max noise noise in
    let room_too : t + most ≤ size = omega (arith, room) in
    made_margin profile f size noise (pos t -ℤ pos most) (pos t +ℤ pos most) (Fixed t) tape noisy some
    (low_within size t most least room_too) (high_within size t most least room_too) near
    (λ place there. record { some = least; above = above_low t most; below = below_high t most }) steady

-- ---- a threshold that follows

all_replicate : (P : ℤ → Type 0) (n : ℕ) (x : ℤ) (rest : List ℤ) → P x → AllByRecursion P rest
    → AllByRecursion P (replicate n x ++ rest)
all_replicate P zero x rest is all = all
all_replicate P (suc n) x rest is all = (is, all_replicate P n x rest is all)

size_of : (size : ℕ) (side : Side) → unsigned_abs (upward side (pos size)) ≤ size
size_of size High = grind (arith, ints)
size_of size Low = grind (arith, ints)

runs_sized : (size : ℕ) (side : Side) (intervals : List ℕ)
    → AllByRecursion (λ sample. unsigned_abs sample ≤ size) (joined (sound_runs size side intervals))
runs_sized size side [] = (size_of size side, tt)
runs_sized size side (interval ∷ more) =
    all_replicate (λ sample. unsigned_abs sample ≤ size) interval (upward side (pos size))
    (joined (sound_runs size (other_side side) more)) (size_of size side) (runs_sized size (other_side side) more)

-- no sample of a made sound is greater than its size, and with the noise none than both
noisy_size : (size noise : ℕ) (x y : ℤ) → unsigned_abs x ≤ size → apart y x ≤ noise → unsigned_abs y ≤ size + noise
noisy_size size noise x y small near = grind (arith, ints)

noisy_sizes : (size noise : ℕ) (clean noisy : List ℤ) → IsNoisy (λ place. noise) clean noisy
    → AllByRecursion (λ sample. unsigned_abs sample ≤ size) clean
    → AllByRecursion (λ sample. unsigned_abs sample ≤ size + noise) noisy
noisy_sizes size noise clean [] near sizes = tt
noisy_sizes size noise [] (y ∷ noisy) near sizes = let long = near.long in absurd (omega arith)
noisy_sizes size noise (x ∷ clean) (y ∷ noisy) near sizes = (
  noisy_size size noise x y sizes.0 (near.near 0 (omega arith)),
  noisy_sizes size noise clean noisy
      (record {
        long = let long = near.long in omega arith;
        near = λ place there.
            near.near (suc place) (omega (arith, there));
      })
      sizes.1,
)

pub followed_margin : PeakLaw → (profile : Profile) (f size noise : ℕ) (threshold : Threshold) (tape : List Cell)
    (noisy : List ℤ) → 1 ≤ f → 1 ≤ least_of threshold → least_of threshold + noise ≤ size → 3 * noise ≤ size
    → IsNoisy (λ place. noise) (sound size (flat tape)) noisy → IsSteady profile 1 tape
    → HasMargin profile f threshold (scaled f tape) noisy
followed_margin peaks profile f size noise threshold tape noisy some least room third near steady =
    let most : ℕ = max (least_of threshold) ((size + noise) / 2) in
    let sizes = noisy_sizes size noise (sound size (flat tape)) noisy near
    (size_of size Low, runs_sized size High (flat tape)) in
    let step : ℕ = max noise noise in
    made_margin profile f size noise (pos (least_of threshold) -ℤ pos step) (pos most +ℤ pos step) threshold tape
    noisy
    some (low_within size (least_of threshold) step least (omega (arith, room)))
    (high_within size most step (omega (arith, least)) (omega (arith, room, third))) near
    (stays_between peaks threshold (size + noise) (λ place. noise) noisy least sizes) steady
