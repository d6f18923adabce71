-- The intervals of some samples come first, whatever samples follow, at each pace: a crossing lies behind all ticks
-- that have passed.
use Rattle.std.proofs.Common.{◌≡◌, ◌⊎◌, inl, inr, ℕ, ◌+◌, ◌-◌, ◌*◌, ◌/◌, ◌<◌, ◌≤◌, Bool, true, false, cond, ℤ, pos}
use Rattle.std.proofs.Common.{List, [], ◌∷◌, ◌++◌, length, map, replicate, sum}
use Rattle.std.proofs.Common.{Option, Some, None, refl, sym, ap, ap₂, subst, ◌∙◌, append_assoc, append-nil, zero-add}
use Rattle.std.proofs.Common.{arith}
use Rattle.std.specs.List.{flat_map, AllByRecursion}
use Rattle.std.specs.Option.{option_or, option_to_list}
use Rattle.std.proofs.Math.Nat.{zero-div, div-eq_of_lt}
use Rattle.std.proofs.lemmas.Bool.{cases_lt}
use Rattle.std.proofs.lemmas.List.Elements.{recursion_from_All}
use Rattle.pcm_front.specs.declared.level.Level.{Level}
use Rattle.pcm_front.specs.declared.pace.Pace.{Pace}
use Rattle.pcm_front.specs.declared.pace.Pace.TheVariants.{Ended, Passing}
use Rattle.pcm_front.specs.declared.side.Side.{Side}
use Rattle.pcm_front.specs.declared.start.Start.{Start}
use Rattle.pcm_front.specs.declared.start.Start.TheVariants.{Crossing, Tick}
use Rattle.pcm_front.specs.declared.threshold.Threshold.{Threshold}
use Rattle.pcm_front.specs.declared.threshold.Threshold.TheVariants.{Fixed, Follow, Deep}
use Rattle.pcm_front.specs.Crossing.{tick_to}
use Rattle.limits.specs.declared.recording.TheConstants.{MAX_INTERVAL}
use Rattle.pcm_front.specs.Distance.{distances_by, distances_since, intervals_by, pieces_in, IsInterval}
use Rattle.pcm_front.specs.Level.{silent, threshold_by}
use Rattle.pcm_front.specs.Pace.{begun, begun_in, intervals_at, longest, passed_by, passed_since, ticks_since, IsPace}
use Rattle.pcm_front.specs.Pace.{Passes}
use Rattle.pcm_front.specs.Settings.{Settings}
use Rattle.pcm_front.specs.Side.{side_of, differs}
use Rattle.pcm_front.specs.StandsFor.{passed_in, Finds}
use Rattle.pcm_front.specs.State.{between, crossing_in, distance_at, fresh, late_start, level_in, state_after}
use Rattle.pcm_front.specs.State.{state_of, FinderState}
use Rattle.pcm_front.specs.Sums.{sums}
use Rattle.pcm_front.proofs.InPieces.{begun_first, sum-pieces_in}
use Rattle.pcm_front.specs.DistanceLemmas.{whole_in}
use Rattle.pcm_front.proofs.Passing.{begun-below, grown, more_begun, passed_is}
use Rattle.pcm_front.proofs.Rising.{side_of_crossing, sliced-some}
use Rattle.pcm_front.proofs.Rounding.{tick_to-within}
use Rattle.pcm_front.proofs.StandsStill.{brings_distance, stands_still}
use Rattle.pcm_front.proofs.SumsStay.{sums-stay}

-- ---- a crossing that is to come

one_value : (x m : ℕ) → Some x ≡ Some m → x ≡ m
one_value x m e = cc

crossing-by : (b : Bool) (before now : Option Side) (tick f t : ℕ) (x y : ℤ) (m : ℕ) → 1 ≤ f → side_of t y ≡ now
    → differs before now ≡ b
    → cond b (Some (tick + tick_to now f t x y)) None ≡ Some m → tick < m
crossing-by false before now tick f t x y m some side is e = absurd cc
crossing-by true before now tick f t x y m some side is e =
    let found = side_of_crossing before now is in
    let within = tick_to-within found.0 f t x y some (side ∙ found.1) in
    let same = one_value (tick + tick_to (Some found.0) f t x y) m
    (subst (λ o. Some (tick + tick_to o f t x y) ≡ Some m) found.1 e) in
    omega (arith, within.0, same)

-- its moment lies behind the tick of the samples so far
crossing-later : (state : FinderState) (y : ℤ) (m : ℕ) → 1 ≤ state.fineness → crossing_in state y ≡ Some m
    → state.tick < m
crossing-later state y m some e =
    let t = threshold_by state.threshold (level_in state y) in
    crossing-by (differs state.side (side_of t y)) state.side (side_of t y) state.tick state.fineness t state.before y m
    some refl refl e

-- a distance that ends is longer than what has passed
later_than : (latest crossing : Option ℕ) (tick f : ℕ) → ((m : ℕ) → crossing ≡ Some m → tick < m)
    → (ticks_since latest tick ≡ 0) ⊎ Passes (ticks_since latest tick) (between latest crossing)
    (ticks_since (option_or crossing latest) (tick + f))
later_than None crossing tick f later = inl refl
later_than (Some l) None tick f later = inr (omega arith)
later_than (Some l) (Some m) tick f later = by_order (cases_lt l tick)
  where
    by_order : (l < tick) ⊎ (tick ≤ l) → (tick - l ≡ 0) ⊎ (tick - l < m - l)
    by_order (inl less) = let behind = later m refl in inr (omega (arith, less, behind))
    by_order (inr more) = inl (omega (arith, more))

none_at : (o : Option ℕ) → ticks_since o 0 ≡ 0
none_at None = refl
none_at (Some m) = omega arith

-- nothing has passed, or more passes
ahead : (state : FinderState) (xs : List ℤ) (y : ℤ) → Finds state xs
    → (passed_in state ≡ 0) ⊎ Passes (passed_in state) (distance_at state y) (passed_in (state_after state y))
ahead state xs y finds = by_fineness (cases_lt 0 state.fineness)
  where
    by_fineness : (0 < state.fineness) ⊎ (state.fineness ≤ 0)
        → (passed_in state ≡ 0) ⊎ Passes (passed_in state) (distance_at state y) (passed_in (state_after state y))
    by_fineness (inl some) =
        later_than state.latest (crossing_in state y) state.tick state.fineness
        (λ m e. crossing-later state y m (omega (arith, some)) e)
    by_fineness (inr none) =
        let no : state.fineness ≡ 0 = omega (arith, none) in
        let tick : state.tick ≡ 0 = finds.tick ∙ ap (λ f. f * length xs) no ∙ omega arith in
        inl (ap (ticks_since state.latest) tick ∙ none_at state.latest)

-- ---- what comes to the intervals

none_begun : (pace : Pace) → begun_in pace 0 ≡ 0
none_begun Ended = refl
none_begun (Passing n) = zero-div n

passing : (pace : Pace) (before : ℕ) (distance : Option ℕ) (now : ℕ) → IsPace pace → Passes before distance now
    → (rest : List ℕ) × (begun pace before ++ rest ≡ flat_map (pieces_in (longest pace)) (option_to_list distance)
    ++ begun pace now)
passing pace before None now is more = (_, more_begun pace before now is more)
passing pace before (Some d) now is less =
    let n = longest pace in
    let left = pieces_in n (d - begun_in pace before * n) in (
      left ++ begun pace now,
      sym (append_assoc (begun pace before) left (begun pace now))
          ∙ ap (λ (l : List ℕ). l ++ begun pace now)
          (sym (begun_first n (begun_in pace before) d is.0 (begun-below pace before d less))
          ∙ sym (append-nil (pieces_in n d))),
    )

due : (pace : Pace) (before : ℕ) (distance : Option ℕ) (now : ℕ) → IsPace pace → (before ≡ 0)
    ⊎ Passes before distance now
    → (rest : List ℕ) × (begun pace before ++ rest ≡ flat_map (pieces_in (longest pace)) (option_to_list distance)
    ++ begun pace now)
due pace before distance now is (inl none) =
    let cut = pieces_in (longest pace) in (
      flat_map cut (option_to_list distance) ++ begun pace now,
      ap (λ k. replicate k (longest pace) ++ (flat_map cut (option_to_list distance) ++ begun pace now))
          (ap (begun_in pace) none ∙ none_begun pace),
    )
due pace before distance now is (inr passes) = passing pace before distance now is passes

-- the intervals of sums
abbrev intervals_since : Pace → Start → ℕ → Threshold → List ℤ → List ℕ
intervals_since pace start f t xs =
    flat_map (pieces_in (longest pace)) (distances_since start f t xs) ++ begun pace (passed_since start f t xs)

-- one sum more
one_more : (pace : Pace) (state : FinderState) (xs : List ℤ) (y : ℤ) → IsPace pace → Finds state xs
    → (rest : List ℕ) × (intervals_since pace state.start state.fineness state.threshold (xs ++ y ∷ [])
    ≡ intervals_since pace state.start state.fineness state.threshold xs ++ rest)
one_more pace state xs y is finds =
    let next = stands_still state xs y finds in
    let comes = due pace (passed_in state) (distance_at state y) (passed_in (state_after state y)) is
    (ahead state xs y finds) in
    let ds = distances_since state.start state.fineness state.threshold xs in (
      comes.0,
      ap₂ (λ (ds : List ℕ) n. flat_map (pieces_in (longest pace)) ds ++ begun pace n) (brings_distance state xs y finds)
          (sym (passed_is (state_after state y) (xs ++ y ∷ []) next))
          ∙ grown pace ds (distance_at state y) comes.0 (passed_in state) (passed_in (state_after state y)) comes.1
          ∙ ap (λ n. (flat_map (pieces_in (longest pace)) ds ++ begun pace n) ++ comes.0) (passed_is state xs finds),
    )

sums_more : (pace : Pace) (state : FinderState) (xs more : List ℤ) → IsPace pace → Finds state xs
    → (rest : List ℕ) × (intervals_since pace state.start state.fineness state.threshold (xs ++ more)
    ≡ intervals_since pace state.start state.fineness state.threshold xs ++ rest)
sums_more pace state xs [] is finds =
    let how = intervals_since pace state.start state.fineness state.threshold in
    ([], ap how (append-nil xs) ∙ sym (append-nil (how xs)))
sums_more pace state xs (y ∷ more) is finds =
    let how = intervals_since pace state.start state.fineness state.threshold in
    let first = one_more pace state xs y is finds in
    let later = sums_more pace (state_after state y) (xs ++ y ∷ []) more is (stands_still state xs y finds) in (
      first.0 ++ later.0,
      ap how (sym (append_assoc xs (y ∷ []) more)) ∙ later.1 ∙ ap (λ (l : List ℕ). l ++ later.0) first.1
          ∙ append_assoc (how xs) first.0 later.0,
    )

-- ---- each list of sums is found

abbrev Found : ℕ → Threshold → Start → List ℤ → Type 0
Found f t start xs = (tick : ℕ) × (before : ℤ) × (level : Level) × (side : Option Side) × (latest : Option ℕ)
    × Finds (state_of f t start tick before level side latest) xs

late_zero : (f : ℕ) → Some f ≡ Some (0 + f)
late_zero f = ap (λ m. Some m) (sym (zero-add f))

silent_so_far : (t : Threshold) (f : ℕ) (start : Start) → Finds (fresh f t start) []
silent_so_far (Fixed t) f Crossing =
    record { tick = omega arith; before = refl; level = tt; side = refl; latest = refl }
silent_so_far (Fixed t) f Tick =
    record { tick = omega arith; before = refl; level = tt; side = refl; latest = late_zero f }
silent_so_far (Follow t) f Crossing =
    record { tick = omega arith; before = refl; level = refl; side = refl; latest = refl }
silent_so_far (Follow t) f Tick =
    record { tick = omega arith; before = refl; level = refl; side = refl; latest = late_zero f }
silent_so_far (Deep t) f Crossing =
    record { tick = omega arith; before = refl; level = refl; side = refl; latest = refl }
silent_so_far (Deep t) f Tick =
    record { tick = omega arith; before = refl; level = refl; side = refl; latest = late_zero f }

found_on : (f : ℕ) (t : Threshold) (start : Start) (xs more : List ℤ) → Found f t start xs
    → Found f t start (xs ++ more)
found_on f t start xs [] found = subst (Found f t start) (sym (append-nil xs)) found
found_on f t start xs (y ∷ more) (tick, before, level, side, latest, finds) =
    let next = state_after (state_of f t start tick before level side latest) y in
    subst (Found f t start) (append_assoc xs (y ∷ []) more)
    (found_on f t start (xs ++ y ∷ []) more (
      next.tick,
      next.before,
      next.level,
      next.side,
      next.latest,
      stands_still (state_of f t start tick before level side latest) xs y finds,
    ))

found : (f : ℕ) (t : Threshold) (start : Start) (xs : List ℤ) → Found f t start xs
found f t start xs = found_on f t start [] xs (0, pos 0, silent, None, late_start start f, silent_so_far t f start)

-- so the intervals of some samples come first
pub intervals-stay : (pace : Pace) (s : Settings) (xs more : List ℤ) → IsPace pace
    → (rest : List ℕ) × (intervals_at pace s (xs ++ more) ≡ intervals_at pace s xs ++ rest)
intervals-stay pace s xs more is =
    let zs = sums s.smooth xs in
    let later = sums-stay s.smooth xs more in
    let (tick, before, level, side, latest, finds) = found s.fineness s.threshold s.start zs in
    let rest = sums_more pace (state_of s.fineness s.threshold s.start tick before level side latest) zs later.0 is
    finds in
    (rest.0, ap (intervals_since pace s.start s.fineness s.threshold) later.1 ∙ rest.1)

-- ---- what the pieces are

-- whole distances
pub ended_so : (s : Settings) (xs : List ℤ) → intervals_at Ended s xs ≡ intervals_by s xs
ended_so s xs = append-nil (intervals_by s xs)

each_joined : (n : ℕ) (ds : List ℕ) → 1 ≤ n → AllByRecursion (λ d. 1 ≤ d) ds → map (λ d. sum (pieces_in n d)) ds ≡ ds
each_joined n [] some are = refl
each_joined n (d ∷ ds) some are = ap₂ (λ x xs. x ∷ xs) (sum-pieces_in n d some are.0) (each_joined n ds some are.1)

-- each distance is its pieces, joined
pub joined_so : (n : ℕ) (s : Settings) (xs : List ℤ) → 1 ≤ n → 1 ≤ s.fineness
    → map (λ d. sum (pieces_in n d)) (distances_by s xs) ≡ distances_by s xs
joined_so n s xs some fine =
    each_joined n (distances_by s xs) some (recursion_from_All (λ d. 1 ≤ d) (distances_by s xs) (sliced-some s xs fine))

both : (n : ℕ) (ds : List ℕ) → AllByRecursion (λ d. 1 ≤ d) ds → AllByRecursion (λ d. d ≤ n) ds
    → AllByRecursion (λ d. (1 ≤ d) × (d ≤ n)) ds
both n [] some most = tt
both n (d ∷ ds) some most = ((some.0, most.0), both n ds some.1 most.1)

within_more : (n m : ℕ) (ds : List ℕ) → n ≤ m → AllByRecursion (λ d. d ≤ n) ds → AllByRecursion (λ d. d ≤ m) ds
within_more n m [] more are = tt
within_more n m (d ∷ ds) more are = (omega (arith, more, are.0), within_more n m ds more are.1)

-- if no distance is longer than a piece, and none has begun that is, nothing changes
pub short_so : (n : ℕ) (s : Settings) (xs : List ℤ) → IsInterval n → 1 ≤ s.fineness
    → AllByRecursion (λ d. d ≤ n) (distances_by s xs)
    → passed_by s xs < n → intervals_at (Passing n) s xs ≡ intervals_by s xs
short_so n s xs is fine most few =
    let ds = distances_by s xs in
    let some = recursion_from_All (λ d. 1 ≤ d) ds (sliced-some s xs fine) in
    let none : passed_by s xs / n ≡ 0 = div-eq_of_lt few in
    ap₂ (λ (l : List ℕ) k. l ++ replicate k n) (whole_in n ds (both n ds some most)) none
    ∙ append-nil ds
    ∙ sym (whole_in MAX_INTERVAL ds (both MAX_INTERVAL ds some (within_more n MAX_INTERVAL ds is.1 most)))
