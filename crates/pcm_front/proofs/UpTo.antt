-- Samples that bring nothing up to a place, and one more: what was taken runs on.
use Rattle.std.proofs.Common.{◌≡◌, false, ℕ, ◌+◌, ◌-◌, ◌*◌, ◌^◌, ◌<◌, ◌≤◌, ℤ, pos, List, [], ◌∷◌, ◌++◌, length, take}
use Rattle.std.proofs.Common.{get_or, IfSome, Option, None, Some}
use Rattle.std.proofs.Common.{refl, ap, subst, sym, ◌∙◌, append-nil, mul-add, take-add, arith}
use Rattle.std.specs.Option.{is_some}
use Rattle.std.specs.Prelude.{slice_range}
use Rattle.std.proofs.lemmas.List.{length-take-le}
use Rattle.pcm_front.specs.KeptRuns.{RunsTo}
use Rattle.pcm_front.specs.Pace.{ticks_since}
use Rattle.pcm_front.specs.StandsFor.{distances_in, passed_in, Stand}
use Rattle.pcm_front.specs.State.{FinderState, WindowState}
use Rattle.pcm_front.proofs.Together.{runs_then, take-more}

ticks_more : (o : Option ℕ) (a b : ℕ) → a ≤ b → ticks_since o a ≤ ticks_since o b
ticks_more None a b later = omega arith
ticks_more (Some moment) a b later = omega (arith, later)

-- more have passed if the tick is later
pub passed_more : (before now : FinderState) → now.latest ≡ before.latest → before.tick ≤ now.tick
    → passed_in before ≤ passed_in now
passed_more before now same later =
    subst (λ o. ticks_since before.latest before.tick ≤ ticks_since o now.tick) (sym same)
    (ticks_more before.latest before.tick now.tick later)

pub run_passes : (before now : FinderState) (w v : WindowState) (taken : List ℤ) → now.latest ≡ before.latest
    → RunsTo before now w v taken None
    → passed_in before ≤ passed_in now
run_passes before now w v taken same runs = passed_more before now same (omega (arith, runs.tick))

take-range : (xs : List ℤ) (at end : ℕ) → at ≤ end → take at xs ++ slice_range xs at end ≡ take end xs
take-range xs at end order =
    let all : at + (end - at) ≡ end = omega (arith, order) in
    sym (take-add at (end - at) xs) ∙ ap (λ k. take k xs) all

-- samples up to a place, and on to another
pub passed_to : (a b c : FinderState) (w v u : WindowState) (xs : List ℤ) (at end : ℕ) → at ≤ end
    → RunsTo a b w v (take at xs) None
    → RunsTo b c v u (slice_range xs at end) None → RunsTo a c w u (take end xs) None
passed_to a b c w v u xs at end order first more =
    subst (λ l. RunsTo a c w u l None) (take-range xs at end order)
    (runs_then a b c w v u (take at xs) (slice_range xs at end) None first more)

-- and the one there
pub one_more_to : (a b c : FinderState) (w v u : WindowState) (xs : List ℤ) (end : ℕ) (s : ℤ) (distance : Option ℕ)
    → end < length xs
    → s ≡ get_or xs end (pos 0) → RunsTo a b w v (take end xs) None → RunsTo b c v u (s ∷ []) distance
    → RunsTo a c w u (take (end + 1) xs) distance
one_more_to a b c w v u xs end s distance within is first one =
    rw (take-more end xs within, sym is) (runs_then a b c w v u (take end xs) (s ∷ []) distance first one)

-- there is room for the rest
pub room_left : (f g tick start at : ℕ) (xs : List ℤ) → g ≡ f → at ≤ length xs → tick ≡ start + f * length (take at xs)
    → start + f * length xs ≤ 2 ^ 62 → tick + g * (length xs - at) ≤ 2 ^ 62
room_left f g tick start at xs same within is room =
    let all : f * length xs ≡ f * at + f * (length xs - at) =
    ap (λ n. f * n) (omega (arith, within)) ∙ mul-add f at (length xs - at) in
    let now : tick ≡ start + f * at = is ∙ ap (λ n. start + f * n) (length-take-le at xs within) in
    rw same (omega (arith, all, now, room))

-- before it nothing came
pub none_before : (a b : FinderState) (w v : WindowState) (xs : List ℤ) (end : ℕ) → RunsTo a b w v (take end xs) None
    → (front : List ℤ)
    → Stand a w front → distances_in a w (front ++ take ((end + 1) - 1) xs) ≡ distances_in a w front
none_before a b w v xs end runs front stands =
    let back : (end + 1) - 1 ≡ end = omega arith in
    ap (λ k. distances_in a w (front ++ take k xs)) back ∙ runs.brings front stands
    ∙ append-nil (distances_in a w front)

-- ---- a distance that came or not

pub if_some : (o : Option ℕ) (P : Type 0) → P → IfSome o (λ d. P)
if_some None P is = tt
if_some (Some d) P is = is

pub none_is : (o : Option ℕ) → is_some o ≡ false → o ≡ None
none_is None is = refl
none_is (Some d) is = absurd (cc)

-- the rest comes with the distance
pub none_both : (r d : Option ℕ) → is_some r ≡ is_some d → r ≡ None → d ≡ None
none_both r d same is = none_is d (sym same ∙ ap is_some is)

pub if_both : (r d : Option ℕ) (P : Type 0) → is_some r ≡ is_some d → IfSome d (λ x. P) → IfSome r (λ x. P)
if_both None d P same has = tt
if_both (Some r) None P same has = absurd (cc)
if_both (Some r) (Some d) P same has = has
