-- An interval at the end of a list changes its last stretch alone.
use Rattle.std.proofs.Common.{◌≡◌, ℕ, ◌+◌, ◌-◌, ◌<◌, ◌≤◌, List, [], ◌∷◌, ◌++◌, length, drop, get_or, Option, Some, None}
use Rattle.std.proofs.Common.{inl, inr, refl, ap}
use Rattle.std.proofs.Common.{subst, sym, ◌∙◌, arith, append_assoc, length-append, All, IsSome, is_some, MatchOption}
use Rattle.std.proofs.lemmas.Bool.{false≢true}
use Rattle.std.proofs.lemmas.List.Elements.{All-nil, All-cons, All-head, All-tail}
use Rattle.std.proofs.lemmas.Option.{MatchOption-at_some}
use Rattle.std.proofs.lemmas.List.{drop-append-le, length-drop, length_push}
use Rattle.biphase.specs.declared.profile.Profile.{Profile}
use Rattle.biphase.specs.Latest.{Latest}
use Rattle.biphase.specs.declared.cell.Cell.TheVariants.{Zero}
use Rattle.biphase.specs.Tolerance.{IsFirstHalf}
use Rattle.biphase.specs.Chain.{flat, kept_of}
use Rattle.biphase.specs.ToleranceLemmas.{first_half, half_or_not}
use Rattle.cell_tracker.specs.Lock.{HasNoLock, IsLock}
use Rattle.cell_tracker.specs.Stretch.{Stretch, IsBroken, end_of, IsBreak, IsStretch, AreStretchesFrom, AreStretches}
use Rattle.cell_tracker.proofs.LocalStretch.{NoneFits, stretch_from, locally}
use Rattle.cell_tracker.proofs.LockStays.{lock_stays}

-- a list that has something at a place goes on past it
pub place_within : (intervals : List ℕ) (k x : ℕ) (rest : List ℕ) → drop k intervals ≡ x ∷ rest → k < length intervals
place_within intervals k x rest there = omega (arith, ap length there, length-drop k intervals)

-- what comes from a place on, with an interval at the end
pub there_push : (intervals : List ℕ) (lock first x : ℕ) (more rest : List ℕ)
    → drop lock intervals ≡ first ∷ (more ++ rest) → drop lock (intervals ++ x ∷ [])
    ≡ first ∷ (more ++ (rest ++ x ∷ []))
there_push intervals lock first x more rest there =
    let within : lock < length intervals = place_within intervals lock first (more ++ rest) there in
    drop-append-le lock intervals (x ∷ []) (omega arith) ∙ ap (λ xs. xs ++ x ∷ []) there
    ∙ ap (λ xs. first ∷ xs) (append_assoc more rest (x ∷ []))

-- an interval at the end does not touch a break, nor what comes before it
rest_stays : (profile : Profile) (c : Latest) (after : ℕ) (rest : List ℕ) (place : Option ℕ) (broken x : ℕ)
    → NoneFits profile c rest → IsBreak profile c after rest place → place ≡ Some broken
    → NoneFits profile c (rest ++ x ∷ []) × IsBreak profile c after (rest ++ x ∷ []) place
rest_stays profile c after [] place broken x none is some = cc
rest_stays profile c after (h ∷ []) place broken x none is some =
    let no_half : ¬ IsFirstHalf profile c h = λ half. let nowhere : place ≡ None = is.0 half in cc in
    ((none, λ one. no_half (first_half profile c h x one)), (λ half. absurd (no_half half), is.1))
rest_stays profile c after (h ∷ y ∷ rest) place broken x none is some = (none, is)

-- a stretch that broke stays
pub stretch_stays : (profile : Profile) (intervals : List ℕ) (stretch : Stretch) (broken x : ℕ)
    → IsStretch profile intervals stretch → stretch.broken_at ≡ Some broken
    → IsStretch profile (intervals ++ x ∷ []) stretch
stretch_stays profile intervals stretch broken x is some =
    let local = locally profile intervals stretch is in
    let first = get_or intervals stretch.lock 0 in
    let more = local.0 in
    let rest = drop (end_of stretch) intervals in
    let stays =
    rest_stays profile (kept_of profile (Zero first ∷ more))
    (end_of stretch) rest stretch.broken_at broken x local.1.none local.1.broken some in
    stretch_from profile (intervals ++ x ∷ []) stretch first more (rest ++ x ∷ []) (record {
      cells = local.1.cells;
      ticks = local.1.ticks;
      chain = local.1.chain;
      there = there_push intervals stretch.lock first x (flat more) rest local.1.there;
      none = stays.0;
      broken = stays.1;
    })

-- the rest of a list behind a break goes on to it
break_is : (profile : Profile) (c : Latest) (after : ℕ) (rest : List ℕ) (place : Option ℕ) (broken : ℕ)
    → IsBreak profile c after rest place → place ≡ Some broken → broken < after + length rest
break_is profile c after [] place broken is some = cc
break_is profile c after (h ∷ []) place broken is some =
    elim (half_or_not profile c h) [
      | inl half ↦ let nowhere : place ≡ None = is.0 half in cc
      | inr no_half ↦ let there : place ≡ Some after = is.1 no_half in let same : broken ≡ after = cc in omega arith
    ]
break_is profile c after (h ∷ y ∷ rest) place broken is some =
    elim (half_or_not profile c h) [
      | inl half ↦ let there : place ≡ Some (after + 1) = is.0 half in let same : broken ≡ after + 1 = cc in omega arith
      | inr no_half ↦ let there : place ≡ Some after = is.1 no_half in let same : broken ≡ after = cc in omega arith
    ]

-- a stretch ends in the list
pub end_within : (profile : Profile) (intervals : List ℕ) (stretch : Stretch) → IsStretch profile intervals stretch
    → end_of stretch ≤ length intervals
end_within profile intervals stretch is =
    let local = locally profile intervals stretch is in
    let within : stretch.lock < length intervals = place_within intervals stretch.lock _ _ local.1.there in
    omega (
      arith,
      ap length is.chain.front.1,
      length-drop stretch.lock intervals,
      length-append (flat stretch.cells) is.chain.front.0,
    )

-- a break is at a place of the list
pub break_within : (profile : Profile) (intervals : List ℕ) (stretch : Stretch) (broken : ℕ)
    → IsStretch profile intervals stretch → stretch.broken_at ≡ Some broken → broken < length intervals
break_within profile intervals stretch broken is some =
    let below =
    break_is profile (kept_of profile stretch.cells) (end_of stretch)
    (drop (end_of stretch) intervals) stretch.broken_at broken is.broken some in
    omega (arith, below, end_within profile intervals stretch is, length-drop (end_of stretch) intervals)

-- a value that is there
some_value : {A : Type 0} (o : Option A) → IsSome o → (value : A) × (o ≡ Some value)
some_value None is = absurd (false≢true is)
some_value (Some value) is = (value, refl)

-- if the stretches at the front are broken, those behind them alone change
pub last_changes : (profile : Profile) (intervals : List ℕ) (x start : ℕ) (earlier last new : List Stretch)
    → start ≤ length intervals - 1 → All IsBroken earlier
    → ((from : ℕ) → from ≤ length intervals - 1 → AreStretchesFrom profile intervals from last
    → AreStretchesFrom profile (intervals ++ x ∷ []) from new)
    → AreStretchesFrom profile intervals start (earlier ++ last)
    → AreStretchesFrom profile (intervals ++ x ∷ []) start (earlier ++ new)
last_changes profile intervals x start [] last new low broken step are = step start low are
last_changes profile intervals x start (stretch ∷ earlier) last new low broken step are =
    let there = some_value stretch.broken_at (All-head IsBroken stretch earlier broken) in
    let within = break_within profile intervals stretch there.0 are.1 there.1 in
    let after : AreStretchesFrom profile intervals there.0 (earlier ++ last) =
    MatchOption-at_some (earlier ++ last ≡ [])
    (λ place. AreStretchesFrom profile intervals place (earlier ++ last)) there.0 there.1 are.2 in
    let rest : AreStretchesFrom profile (intervals ++ x ∷ []) there.0 (earlier ++ new) =
    last_changes profile intervals x there.0 earlier last new (omega arith)
    (All-tail IsBroken stretch earlier broken) step after in (
      lock_stays profile intervals x start stretch.lock are.0,
      stretch_stays profile intervals stretch there.0 x are.1 there.1,
      subst (λ place. MatchOption place (earlier ++ new ≡ [])
          (λ from. AreStretchesFrom profile (intervals ++ x ∷ []) from (earlier ++ new))) (sym there.1) rest,
    )

-- what has a stretch behind it is broken
followed_breaks : (o : Option ℕ) (earlier : List Stretch) (last : Stretch) (After : ℕ → Type 0)
    → MatchOption o (earlier ++ last ∷ [] ≡ []) After → (place : ℕ) × (o ≡ Some place) × After place
followed_breaks None earlier last After nothing = absurd (omega (arith, ap length nothing, length_push earlier last))
followed_breaks (Some place) earlier last After after = (place, refl, after)

-- all stretches before the last one are broken
pub earlier_broken : (profile : Profile) (intervals : List ℕ) (start : ℕ) (earlier : List Stretch) (last : Stretch)
    → AreStretchesFrom profile intervals start (earlier ++ last ∷ []) → All IsBroken earlier
earlier_broken profile intervals start [] last are = All-nil IsBroken
earlier_broken profile intervals start (stretch ∷ earlier) last are =
    let followed =
    followed_breaks stretch.broken_at earlier last
    (λ place. AreStretchesFrom profile intervals place (earlier ++ last ∷ [])) are.2 in
    All-cons IsBroken stretch earlier (ap is_some followed.1)
    (earlier_broken profile intervals followed.0 earlier last followed.2)

-- no stretches
abbrev pub no_stretch : List Stretch
no_stretch = []

-- the last stretch alone changes, and keeps its lock
pub last_grows : (profile : Profile) (intervals : List ℕ) (x : ℕ) (earlier : List Stretch) (stretch new : Stretch)
    → new.lock ≡ stretch.lock → (IsStretch profile intervals stretch → IsStretch profile (intervals ++ x ∷ []) new)
    → MatchOption new.broken_at (no_stretch ≡ []) (HasNoLock profile (intervals ++ x ∷ []))
    → AreStretches profile intervals (earlier ++ stretch ∷ [])
    → AreStretches profile (intervals ++ x ∷ []) (earlier ++ new ∷ [])
last_grows profile intervals x earlier stretch new same grows after are =
    last_changes profile intervals x 0 earlier (stretch ∷ []) (new ∷ []) (omega arith)
    (earlier_broken profile intervals 0 earlier stretch are)
    (λ from low last. (
      subst (IsLock profile (intervals ++ x ∷ []) from) (sym same)
          (lock_stays profile intervals x from stretch.lock last.0),
      grows last.1,
      after,
    )) are

-- the last stretch is one
pub last_is_stretch : (profile : Profile) (intervals : List ℕ) (start : ℕ) (earlier : List Stretch) (last : Stretch)
    → AreStretchesFrom profile intervals start (earlier ++ last ∷ []) → IsStretch profile intervals last
last_is_stretch profile intervals start [] last are = are.1
last_is_stretch profile intervals start (stretch ∷ earlier) last are =
    let followed =
    followed_breaks stretch.broken_at earlier last
    (λ place. AreStretchesFrom profile intervals place (earlier ++ last ∷ [])) are.2 in
    last_is_stretch profile intervals followed.0 earlier last followed.2
