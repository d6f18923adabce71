-- A threshold that moves one way over each part of a sound, but for a ripple, stays between what it is at the ends of
-- the part; and one that moves so from each sample to the next moves so over the part.
use Rattle.std.proofs.Common.{◌≡◌, ℕ, zero, suc, ◌+◌, ◌-◌, ◌<◌, ◌≤◌, min, max, Bool, true, false, cond, ℤ}
use Rattle.std.proofs.Common.{List, [], ◌∷◌, length, refl, subst, arith}
use Rattle.std.specs.Prelude.{nat_le, nat_lt}
use Rattle.std.proofs.lemmas.Bool.Decides.{nat_tests}
use Rattle.pcm_front.specs.declared.threshold.Threshold.{Threshold}
use Rattle.pcm_front.specs.Level.{least_of, threshold_at}
use Rattle.tape_sound.specs.Margin.{noise_in_step, StaysBetween}
use Rattle.tape_sound.specs.Ramps.{along, high_along, least_in, low_along, most_in, noise_along}
use Rattle.tape_sound.specs.Ramps.{AreRamps, MovesOneWay, Ramp}
use Rattle.tape_sound.proofs.FollowedLevel.{above_by, at_least, below_by}

-- ---- over one part

rising : (begins ends ripple t : ℕ) → begins ≤ t + ripple → t ≤ ends + ripple
    → (min begins ends - ripple ≤ t) × (t ≤ max begins ends + ripple)
rising begins ends ripple t low high = (omega (arith, low), omega (arith, high))

falling : (begins ends ripple t : ℕ) → t ≤ begins + ripple → ends ≤ t + ripple
    → (min begins ends - ripple ≤ t) × (t ≤ max begins ends + ripple)
falling begins ends ripple t high low = (omega (arith, low), omega (arith, high))

by_way : (threshold : Threshold) (sound : List ℤ) (first : ℕ) (ramp : Ramp) (up : Bool) → 1 ≤ ramp.long
    → threshold_at threshold sound first ≡ ramp.begins
    → threshold_at threshold sound (first + (ramp.long - 1)) ≡ ramp.ends
    → MovesOneWay up ramp.ripple threshold sound first ramp.long
    → (place : ℕ) → first ≤ place → place < first + ramp.long
    → (least_in ramp ≤ threshold_at threshold sound place) × (threshold_at threshold sound place ≤ most_in ramp)
by_way threshold sound first ramp true some at_begin at_end moves place from less =
    let t : ℕ = threshold_at threshold sound place in
    let low = moves first place (omega arith) from less in
    let high = moves place (first + (ramp.long - 1)) from (omega (arith, less)) (omega (arith, some)) in
    rising ramp.begins ramp.ends ramp.ripple t (subst (λ (n : ℕ). n ≤ t + ramp.ripple) at_begin low)
    (subst (λ (n : ℕ). t ≤ n + ramp.ripple) at_end high)
by_way threshold sound first ramp false some at_begin at_end moves place from less =
    let t : ℕ = threshold_at threshold sound place in
    let high = moves first place (omega arith) from less in
    let low = moves place (first + (ramp.long - 1)) from (omega (arith, less)) (omega (arith, some)) in
    falling ramp.begins ramp.ends ramp.ripple t (subst (λ (n : ℕ). t ≤ n + ramp.ripple) at_begin high)
    (subst (λ (n : ℕ). n ≤ t + ramp.ripple) at_end low)

-- ---- over all of them

less_when : (a b : ℕ) → nat_lt a b ≡ true → a < b
less_when a b is = grind (arith, nat_tests)

no_less_when : (a b : ℕ) → nat_lt a b ≡ false → b ≤ a
no_less_when a b is = grind (arith, nat_tests)

chosen : (t a b c d : ℕ) (test : Bool) → (test ≡ true → (a ≤ t) × (t ≤ c)) → (test ≡ false → (b ≤ t) × (t ≤ d))
    → (cond test a b ≤ t) × (t ≤ cond test c d)
chosen t a b c d true here later = here refl
chosen t a b c d false here later = later refl

within_ramps : (threshold : Threshold) (sound : List ℤ) (ramps : List Ramp) (first : ℕ)
    → AreRamps threshold sound first ramps → (place : ℕ) → first ≤ place → place < length sound
    → (along least_in ramps (place - first) ≤ threshold_at threshold sound place)
    × (threshold_at threshold sound place ≤ along most_in ramps (place - first))
within_ramps threshold sound [] first are place from less = absurd (omega (arith, are, from, less))
within_ramps threshold sound (ramp ∷ ramps) first are place from less =
    let t : ℕ = threshold_at threshold sound place in
    chosen t (least_in ramp) (along least_in ramps (place - first - ramp.long)) (most_in ramp)
    (along most_in ramps (place - first - ramp.long)) (nat_lt (place - first) ramp.long)
    (λ is. let near = less_when (place - first) ramp.long is in
    by_way threshold sound first ramp (nat_le ramp.begins ramp.ends) are.0.some are.0.at_begin are.0.at_end
    are.0.one_way place from (omega (arith, from, near)))
    (λ is. let far = no_less_when (place - first) ramp.long is in
    let same : place - (first + ramp.long) ≡ place - first - ramp.long = omega arith in
    subst (λ (k : ℕ). (along least_in ramps k ≤ t) × (t ≤ along most_in ramps k)) same
    (within_ramps threshold sound ramps (first + ramp.long) are.1 place (omega (arith, from, far)) less))

pub stays_along : (threshold : Threshold) (ramps : List Ramp) (sound : List ℤ) → 1 ≤ least_of threshold
    → AreRamps threshold sound 0 ramps
    → StaysBetween (low_along ramps) (high_along ramps) (noise_along ramps) threshold sound
stays_along threshold ramps sound some are place there =
    let t : ℕ = threshold_at threshold sound place in
    let n : ℕ = noise_in_step (noise_along ramps) place in
    let same : place - 0 ≡ place = omega arith in
    let between = subst (λ (k : ℕ). (along least_in ramps k ≤ t) × (t ≤ along most_in ramps k)) same
    (within_ramps threshold sound ramps 0 are place (omega arith) there) in
    let least = at_least threshold sound place in
    record {
      some = omega (arith, some, least);
      above = above_by (along least_in ramps place) n t between.0;
      below = below_by (along most_in ramps place) n t between.1;
    }

-- ---- from sample to sample

climbs : (f : ℕ → ℕ) (first count : ℕ) → ((place : ℕ) → first ≤ place → place + 1 < first + count
    → f place ≤ f (place + 1)) → (early steps : ℕ) → first ≤ early → early + steps < first + count
    → f early ≤ f (early + steps)
climbs f first count up early zero from less =
    let same : early ≡ early + zero = omega arith in subst (λ (n : ℕ). f early ≤ f n) same (omega arith)
climbs f first count up early (suc steps) from less =
    let before = climbs f first count up early steps from (omega (arith, less)) in
    let step = up (early + steps) (omega (arith, from)) (omega (arith, less)) in
    let same : early + steps + 1 ≡ early + suc steps = omega arith in
    subst (λ (n : ℕ). f early ≤ f n) same (omega (arith, before, step))

sinks : (f : ℕ → ℕ) (first count : ℕ) → ((place : ℕ) → first ≤ place → place + 1 < first + count
    → f (place + 1) ≤ f place) → (early steps : ℕ) → first ≤ early → early + steps < first + count
    → f (early + steps) ≤ f early
sinks f first count down early zero from less =
    let same : early ≡ early + zero = omega arith in subst (λ (n : ℕ). f n ≤ f early) same (omega arith)
sinks f first count down early (suc steps) from less =
    let before = sinks f first count down early steps from (omega (arith, less)) in
    let step = down (early + steps) (omega (arith, from)) (omega (arith, less)) in
    let same : early + steps + 1 ≡ early + suc steps = omega arith in
    subst (λ (n : ℕ). f n ≤ f early) same (omega (arith, before, step))

pub rises_by_steps : (threshold : Threshold) (sound : List ℤ) (first count : ℕ)
    → ((place : ℕ) → first ≤ place → place + 1 < first + count
    → threshold_at threshold sound place ≤ threshold_at threshold sound (place + 1))
    → MovesOneWay true 0 threshold sound first count
rises_by_steps threshold sound first count up early late from order less =
    let f : ℕ → ℕ = threshold_at threshold sound in
    let same : early + (late - early) ≡ late = omega (arith, order) in
    let rise = subst (λ (n : ℕ). f early ≤ f n) same
    (climbs f first count up early (late - early) from (omega (arith, order, less))) in
    omega (arith, rise)

pub falls_by_steps : (threshold : Threshold) (sound : List ℤ) (first count : ℕ)
    → ((place : ℕ) → first ≤ place → place + 1 < first + count
    → threshold_at threshold sound (place + 1) ≤ threshold_at threshold sound place)
    → MovesOneWay false 0 threshold sound first count
falls_by_steps threshold sound first count down early late from order less =
    let f : ℕ → ℕ = threshold_at threshold sound in
    let same : early + (late - early) ≡ late = omega (arith, order) in
    let fall = subst (λ (n : ℕ). f n ≤ f early) same
    (sinks f first count down early (late - early) from (omega (arith, order, less))) in
    omega (arith, fall)
