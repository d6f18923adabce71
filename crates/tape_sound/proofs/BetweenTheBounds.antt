-- Noise moves no crossing past those of the clean sound: if the sound lies on a side, the clean sound has reached it
-- at the low bound, and if that reaches it at the high bound, the sound lies there.
use Rattle.std.proofs.Common.{◌≡◌, ℕ, zero, suc, ◌+◌, ◌-◌, ◌*◌, ◌<◌, ◌≤◌, max, Bool, true, false, cond, ℤ, pos, ◌≤ℤ◌}
use Rattle.std.proofs.Common.{Option, Some, List, [], ◌∷◌, ◌++◌, ◌⊎◌, inl, inr, map, refl, ap, subst, sym, ◌∙◌, add-one}
use Rattle.std.proofs.Common.{mul-suc, mul-le-mul_left, arith}
use Rattle.std.specs.List.{AllByRecursion}
use Rattle.std.specs.List.{filter, range_with_len}
use Rattle.std.specs.Option.{option_or}
use Rattle.pcm_front.specs.declared.side.Side.{Side}
use Rattle.pcm_front.specs.declared.threshold.Threshold.{Threshold}
use Rattle.pcm_front.specs.Level.{threshold_at}
use Rattle.pcm_front.specs.Side.{other_side, sample_at, side_at, side_after, upward}
use Rattle.pcm_front.specs.Crossing.{apart, is_crossing, tick_to, moment}
use Rattle.tape_sound.specs.Margin.{noise_in_step, reach_moment, reaches, tick_to_bound, turns, turns_by}
use Rattle.tape_sound.specs.Margin.{ComeBehind, ComeWithin, HasRoom}
use Rattle.tape_sound.proofs.CrossingsAreTurns.{crossings_are_turns, is_on, is_on_itself, lies_on, lies_there}
use Rattle.tape_sound.proofs.CrossingsAreTurns.{moment_to, on_is}
use Rattle.pcm_front.specs.SideLemmas.{side_above}
use Rattle.tape_sound.proofs.NoLater.{lower_reached, near_upward, other_way, reach, reached, tick_less, tick_within}
use Rattle.tape_sound.proofs.TurnsInOrder.{Leads, turns_behind}

step_bounds : (f i tick : ℕ) → 1 ≤ i → tick ≤ f → f * (i - 1) + tick ≤ f * (i + 1 - 1)
step_bounds f i tick first most =
    let place : i + 1 - 1 ≡ suc (i - 1) = omega (arith, first) in
    let product : f * (i + 1 - 1) ≡ f * (i - 1) + f = ap (λ (k : ℕ). f * k) place ∙ mul-suc f (i - 1) ∙ (omega arith) in
    omega (arith, product, most)

-- what lies between others in order comes within the delay if they do
squeezed : (delay : ℕ) (from lows ms highs : List ℕ) → ComeBehind lows from → ComeBehind ms lows → ComeBehind highs ms
    → ComeWithin delay from highs → ComeWithin delay from ms
squeezed delay [] lows ms (h ∷ highs) low own high within = absurd within
squeezed delay (c ∷ from) lows ms [] low own high within = absurd within
squeezed delay [] [] [] [] low own high within = tt
squeezed delay [] [] (m ∷ ms) [] low own high within = absurd own
squeezed delay [] (l ∷ lows) ms [] low own high within = absurd low
squeezed delay (c ∷ from) lows [] (h ∷ highs) low own high within = absurd high
squeezed delay (c ∷ from) [] (m ∷ ms) (h ∷ highs) low own high within = absurd own
squeezed delay (c ∷ from) (l ∷ lows) (m ∷ ms) (h ∷ highs) low own high within = (
  omega (arith, low.0, own.0),
  omega (arith, high.0, within.1),
  squeezed delay from lows ms highs low.1 own.1 high.1 within.2,
)

-- each of them comes within the delay, or each but the last
abbrev pub EndsWithin : ℕ → ℕ → List ℕ → List ℕ → Type 0
EndsWithin delay last from ms = ComeWithin delay from ms ⊎ ComeWithin delay (from ++ last ∷ []) ms

squeezed_but_last : (delay last : ℕ) (from lows ms highs : List ℕ) → ComeBehind lows (from ++ last ∷ [])
    → ComeBehind ms lows → ComeBehind highs ms → ComeWithin delay from highs
    → AllByRecursion (λ m. m ≤ last + delay) ms → EndsWithin delay last from ms
squeezed_but_last delay last [] lows ms (h ∷ highs) low own high within most = absurd within
squeezed_but_last delay last [] lows [] [] low own high within most = inl tt
squeezed_but_last delay last [] [] (m ∷ ms) [] low own high within most = absurd own
squeezed_but_last delay last [] (l ∷ lows) (m ∷ []) [] low own high within most =
    inr (omega (arith, low.0, own.0), most.0, tt)
squeezed_but_last delay last [] (l ∷ []) (m ∷ n ∷ ms) [] low own high within most = absurd own.1
squeezed_but_last delay last [] (l ∷ o ∷ lows) (m ∷ n ∷ ms) [] low own high within most = absurd low.1
squeezed_but_last delay last (c ∷ from) lows ms [] low own high within most = absurd within
squeezed_but_last delay last (c ∷ from) lows [] (h ∷ highs) low own high within most = absurd high
squeezed_but_last delay last (c ∷ from) [] (m ∷ ms) (h ∷ highs) low own high within most = absurd own
squeezed_but_last delay last (c ∷ from) (l ∷ lows) (m ∷ ms) (h ∷ highs) low own high within most =
    elim (squeezed_but_last delay last from lows ms highs low.1 own.1 high.1 within.2 most.1) [
      | inl all ↦ inl (omega (arith, low.0, own.0), omega (arith, high.0, within.1), all)
      | inr all ↦ inr (omega (arith, low.0, own.0), omega (arith, high.0, within.1), all)
    ]

-- a turn in these places comes no later than the last of them
one_most : (most m : ℕ) (b : Bool) (over on : List ℕ) → (b ≡ true → m ≤ most)
    → AllByRecursion (λ t. t ≤ most) over → AllByRecursion (λ t. t ≤ most) on
    → AllByRecursion (λ t. t ≤ most) (cond b (m ∷ over) on)
one_most most m true over on small overs ons = (small refl, overs)
one_most most m false over on small overs ons = ons

turns_most : (f most : ℕ) (goes : ℕ → Side → Bool) (at : ℕ → Side → ℕ) (a k : ℕ)
    → ((i : ℕ) → a ≤ i → i < a + k → (side : Side) → goes i side ≡ true → at i side ≤ f * (i + 1 - 1))
    → f * (a + k - 1) ≤ most → (side : Side) → AllByRecursion (λ t. t ≤ most) (turns_by goes at side a k)
turns_most f most goes at a zero bound ends side = tt
turns_most f most goes at a (suc k) bound ends side =
    let later : (s : Side) → AllByRecursion (λ t. t ≤ most) (turns_by goes at s (a + 1) k) =
    turns_most f most goes at (a + 1) k (λ i g h. bound i (omega (arith, g)) (omega (arith, h)))
    (subst (λ (n : ℕ). f * n ≤ most) (omega arith) ends) in
    let grows : f * (a + 1 - 1) ≤ f * (a + suc k - 1) = mul-le-mul_left f (omega arith) in
    one_most most (at a (other_side side)) (goes a (other_side side)) (turns_by goes at (other_side side) (a + 1) k)
    (turns_by goes at side (a + 1) k)
    (λ is. let own = bound a (omega arith) (omega arith) (other_side side) is in omega (arith, own, grows, ends))
    (later (other_side side)) (later side)

-- ---- a clean sound and noise

-- what is no more than one of two is no more than the greater
no_more : (a before here : ℕ) → a ≤ here → a ≤ max before here
no_more a before here less = omega (arith, less)

no_more_before : (a before here : ℕ) → a ≤ before → a ≤ max before here
no_more_before a before here less = omega (arith, less)

module _ (f : ℕ) (noise : ℕ → ℕ) (low high : ℕ → ℤ) (threshold : Threshold) (clean sound : List ℤ) (some : 1 ≤ f)
    (first end : ℕ)
    (near : (i : ℕ) → first ≤ i → i < end → apart (sample_at sound i) (sample_at clean i) ≤ noise i)
    (stays : (i : ℕ) → first ≤ i → i < end
    → HasRoom (low i) (high i) (noise_in_step noise i) (threshold_at threshold sound i)) where
  abbrev th : ℕ → ℕ
  th i = threshold_at threshold sound i

  abbrev x : ℕ → Side → ℤ
  x i side = upward side (sample_at sound i)

  abbrev c : ℕ → Side → ℤ
  c i side = upward side (sample_at clean i)

  abbrev n : ℕ → ℕ
  n i = noise_in_step noise i

  near_at : (i : ℕ) (side : Side) → first ≤ i → i < end → apart (x i side) (c i side) ≤ noise i
  near_at i side g h = near_upward (noise i) (sample_at sound i) (sample_at clean i) side (near i g h)

  -- in the step to a sample, both of its samples are as near as the noise of the step says
  near_here : (i : ℕ) (side : Side) → first ≤ i → i < end → apart (x i side) (c i side) ≤ n i
  near_here i side g h = no_more (apart (x i side) (c i side)) (noise (i - 1)) (noise i) (near_at i side g h)

  near_before : (i : ℕ) (side : Side) → first ≤ i - 1 → i - 1 < end → apart (x (i - 1) side) (c (i - 1) side) ≤ n i
  near_before i side g h =
      no_more_before (apart (x (i - 1) side) (c (i - 1) side)) (noise (i - 1)) (noise i) (near_at (i - 1) side g h)

  back_here : (i : ℕ) (side : Side) → first ≤ i → i < end → apart (c i side) (x i side) ≤ n i
  back_here i side g h = other_way (n i) (x i side) (c i side) (near_here i side g h)

  back_before : (i : ℕ) (side : Side) → first ≤ i - 1 → i - 1 < end → apart (c (i - 1) side) (x (i - 1) side) ≤ n i
  back_before i side g h = other_way (n i) (x (i - 1) side) (c (i - 1) side) (near_before i side g h)

  above_at : (i : ℕ) (side : Side) → lies_on threshold sound i side ≡ true → pos (th i) ≤ℤ x i side
  above_at i side is = side_above (th i) (sample_at sound i) side (on_is side (side_at threshold sound i) is)

  -- the moment of the sound, if it lies on a side
  moment_is : (i : ℕ) (side : Side) → lies_on threshold sound i side ≡ true
      → moment f threshold sound i ≡ f * (i - 1) + tick_to_bound f (pos (th i)) (x (i - 1) side) (x i side)
  moment_is i side is =
      ap (λ (o : Option Side). f * (i - 1) + tick_to o f (th i) (sample_at sound (i - 1)) (sample_at sound i))
      (on_is side (side_at threshold sound i) is)

  pub low_reached : (i : ℕ) → first ≤ i → i < end → (side : Side) → lies_on threshold sound i side ≡ true
      → low i ≤ℤ c i side
  low_reached i g h side is =
      lower_reached (pos (th i)) (low i) (n i) (x i side) (c i side) (stays i g h).above (near_here i side g h)
      (above_at i side is)

  low_leads : Leads f (first + 1) end (lies_on threshold sound)
      (λ place side. reaches (low place) side (sample_at clean place)) (moment_to f threshold sound)
      (λ place side. reach_moment f (low place) clean place side)
  low_leads = record {
    too = λ i g h side is. reach (low i) (c i side) (low_reached i (omega (arith, g)) h side is);
    later = λ i g h side is.
        let g_too : first ≤ i = omega (arith, g) in
        let less = tick_less f (pos (th i)) (low i) (n i) (x (i - 1) side) (x i side) (c (i - 1) side) (c i side) some
        (stays i g_too h).above
        (near_before i side (omega (arith, g)) (omega (arith, h))) (near_here i side g_too h) (above_at i side is)
        (low_reached i g_too h side is) in
        let same = moment_is i side is in omega (arith, same, less);
    least = λ i g h side is. let same = moment_is i side is in omega (arith, same);
    most = λ i g h side is.
        let within = tick_within f (low i) (c (i - 1) side) (c i side) some (reached (low i) (c i side) is) in
        step_bounds f i (tick_to_bound f (low i) (c (i - 1) side) (c i side)) (omega (arith, g)) within.1;
  }

  high_reached : (i : ℕ) → first ≤ i → i < end → (side : Side) → reaches (high i) side (sample_at clean i) ≡ true
      → pos (th i) ≤ℤ x i side
  high_reached i g h side is =
      lower_reached (high i) (pos (th i)) (n i) (c i side) (x i side) (stays i g h).below (back_here i side g h)
      (reached (high i) (c i side) is)

  pub high_on : (i : ℕ) → first ≤ i → i < end → (side : Side) → reaches (high i) side (sample_at clean i) ≡ true
      → lies_on threshold sound i side ≡ true
  high_on i g h side is =
      ap (is_on side) (lies_there (th i) (sample_at sound i) side (stays i g h).some (high_reached i g h side is))
      ∙ is_on_itself side

  high_leads : Leads f (first + 1) end (λ place side. reaches (high place) side (sample_at clean place))
      (lies_on threshold sound) (λ place side. reach_moment f (high place) clean place side)
      (moment_to f threshold sound)
  high_leads = record {
    too = λ i g h side is. high_on i (omega (arith, g)) h side is;
    later = λ i g h side is.
        let g_too : first ≤ i = omega (arith, g) in
        let on = high_on i g_too h side is in
        let less = tick_less f (high i) (pos (th i)) (n i) (c (i - 1) side) (c i side) (x (i - 1) side) (x i side) some
        (stays i g_too h).below
        (back_before i side (omega (arith, g)) (omega (arith, h))) (back_here i side g_too h)
        (reached (high i) (c i side) is) (high_reached i g_too h side is) in
        let same = moment_is i side on in omega (arith, same, less);
    least = λ i g h side is. omega arith;
    most = λ i g h side is.
        let within = tick_within f (pos (th i)) (x (i - 1) side) (x i side) some (above_at i side is) in
        let same = moment_is i side is in
        let bound = step_bounds f i (tick_to_bound f (pos (th i)) (x (i - 1) side) (x i side)) (omega (arith, g))
        within.1 in
        omega (arith, same, bound);
  }

  -- from a place at which the clean sound is on a side, the crossings in the k places behind it are turns
  crossings_from : (side : Side) (stop k : ℕ) → first ≤ stop → stop < end
      → reaches (high stop) side (sample_at clean stop) ≡ true
      → map (moment f threshold sound) (filter (is_crossing threshold sound) (range_with_len (stop + 1) k))
      ≡ turns_by (lies_on threshold sound) (moment_to f threshold sound) side (stop + 1) k
  crossings_from side stop k from there stands =
      let on : side_at threshold sound stop ≡ Some side =
      on_is side (side_at threshold sound stop) (high_on stop from there side stands) in
      let after : side_after threshold sound (stop + 1) ≡ Some side =
      ap (side_after threshold sound) (add-one stop) ∙ ap
      (λ (o : Option Side). option_or o (side_after threshold sound stop)) on in
      crossings_are_turns f threshold sound (stop + 1) k side after

  -- in these places each crossing comes within the delay of its own moment
  pub part_within : (delay : ℕ) (from : List ℕ) (side : Side) (stop k : ℕ) → first ≤ stop → (stop + 1) + k ≤ end
      → reaches (high stop) side (sample_at clean stop) ≡ true → ComeBehind (turns f low clean side (stop + 1) k) from
      → ComeWithin delay from (turns f high clean side (stop + 1) k)
      → ComeWithin delay from (map (moment f threshold sound)
      (filter (is_crossing threshold sound) (range_with_len (stop + 1) k)))
  part_within delay from side stop k low_bound room stands behind within =
      let own = turns_by (lies_on threshold sound) (moment_to f threshold sound) side (stop + 1) k in
      let lows = turns_behind f (first + 1) end _ _ _ _ low_leads (stop + 1) k (omega (arith, low_bound)) room side in
      let highs = turns_behind f (first + 1) end _ _ _ _ high_leads (stop + 1) k (omega (arith, low_bound)) room side in
      subst (ComeWithin delay from) (sym (crossings_from side stop k low_bound (omega (arith, room)) stands))
      (squeezed delay from (turns f low clean side (stop + 1) k) own (turns f high clean side (stop + 1) k) behind lows
      highs within)

  -- so it is when the clean sound may not go all the way behind the last moment, if nothing comes later than the delay
  -- behind that one
  pub part_within_but_last : (delay last : ℕ) (from : List ℕ) (side : Side) (stop k : ℕ) → first ≤ stop
      → (stop + 1) + k ≤ end → reaches (high stop) side (sample_at clean stop) ≡ true
      → ComeBehind (turns f low clean side (stop + 1) k) (from ++ last ∷ [])
      → ComeWithin delay from (turns f high clean side (stop + 1) k) → f * ((stop + 1) + k - 1) ≤ last + delay
      → EndsWithin delay last from (map (moment f threshold sound)
      (filter (is_crossing threshold sound) (range_with_len (stop + 1) k)))
  part_within_but_last delay last from side stop k low_bound room stands behind within ends =
      let own = turns_by (lies_on threshold sound) (moment_to f threshold sound) side (stop + 1) k in
      let lows = turns_behind f (first + 1) end _ _ _ _ low_leads (stop + 1) k (omega (arith, low_bound)) room side in
      let highs = turns_behind f (first + 1) end _ _ _ _ high_leads (stop + 1) k (omega (arith, low_bound)) room side in
      let all = turns_most f (last + delay) (lies_on threshold sound) (moment_to f threshold sound) (stop + 1) k
      (λ i g h s is. high_leads.most i (omega (arith, g, low_bound)) (omega (arith, h, room)) s is) ends side in
      subst (EndsWithin delay last from) (sym (crossings_from side stop k low_bound (omega (arith, room)) stands))
      (squeezed_but_last delay last from (turns f low clean side (stop + 1) k) own
      (turns f high clean side (stop + 1) k) behind lows highs within all)
