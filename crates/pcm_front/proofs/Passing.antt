-- A crossing that is still to come lies behind all ticks that have passed, so the pieces that come before a distance
-- ends are the first of its pieces.
use Rattle.std.proofs.Common.{◌≡◌, ℕ, zero, suc, ◌+◌, ◌-◌, ◌*◌, ◌/◌, ◌<◌, ◌≤◌, ℤ, List, [], ◌∷◌, ◌++◌, length}
use Rattle.std.proofs.Common.{replicate, ◌^◌, IfSome}
use Rattle.std.proofs.Common.{Option, Some, None, refl, sym, ap, ap₂, ◌∙◌, append_assoc, append-nil, mul-suc, arith}
use Rattle.std.specs.List.{flat_map}
use Rattle.std.specs.Option.{option_map, option_to_list}
use Rattle.std.proofs.Math.Nat.{div-mul-le_self}
use Rattle.std.proofs.lemmas.Grind.{flat_map-append}
use Rattle.std.proofs.lemmas.List.{replicate-append-replicate}
use Rattle.std.proofs.lemmas.Nat.{le-div}
use Rattle.pcm_front.specs.declared.interval.Intervals.{Intervals}
use Rattle.pcm_front.specs.declared.pace.Pace.{Pace}
use Rattle.pcm_front.specs.declared.pace.Pace.TheVariants.{Ended, Passing}
use Rattle.pcm_front.specs.declared.slicer.Slicer.{Slicer}
use Rattle.pcm_front.specs.Distance.{distances_by, pieces_in}
use Rattle.pcm_front.specs.Pace.{begun, begun_in, intervals_at, intervals_in, longest, passed_as, passed_by}
use Rattle.pcm_front.specs.Pace.{passed_since}
use Rattle.pcm_front.specs.Pace.{ticks_since, IsPace, Passes}
use Rattle.pcm_front.specs.Settings.{Settings}
use Rattle.pcm_front.specs.StandsFor.{passed_in, passed_of, settings_of, Finds, StandsFor}
use Rattle.pcm_front.specs.State.{FinderState}
use Rattle.pcm_front.specs.Sums.{sums}
use Rattle.pcm_front.proofs.InPieces.{begun_first}

-- ---- the ticks that pass

-- moments that are late by a sample, and a tick that is too
late-since : (o : Option ℕ) (f n : ℕ) → ticks_since (option_map (λ m. m + f) o) (f * n) ≡ ticks_since o (f * (n - 1))
late-since None f n = refl
late-since (Some m) f zero = omega arith
late-since (Some m) f (suc n) =
    let back : suc n - 1 ≡ n = omega arith in rw back (omega (arith, mul-suc f n))

pub passed_is : (finder : FinderState) (sums : List ℤ) → Finds finder sums
    → passed_in finder ≡ passed_since finder.start finder.fineness finder.threshold sums
passed_is finder sums finds = ap₂ ticks_since finds.latest finds.tick ∙ late-since _ finder.fineness (length sums)

-- ---- the pieces that are written

pub begun-below : (pace : Pace) (passed d : ℕ) → passed < d → begun_in pace passed * longest pace < d
begun-below Ended passed d less = omega (arith, less)
begun-below (Passing n) passed d less = let below = div-mul-le_self passed n in omega (arith, less, below)

begun-grows : (pace : Pace) (before now : ℕ) → IsPace pace → before ≤ now → begun_in pace before ≤ begun_in pace now
begun-grows Ended before now is more = omega arith
begun-grows (Passing n) before now is more =
    let below = div-mul-le_self before n in le-div (before / n) now n (omega (arith, is.0)) (omega (arith, below, more))

-- a distance that ended
pub ended : (pace : Pace) (before d now whole rest : ℕ) → IsPace pace → before < d
    → pieces_in (longest pace) (d - begun_in pace before * longest pace) ≡ replicate whole (longest pace) ++ rest ∷ []
    → begun pace before ++ (replicate whole (longest pace) ++ (rest ∷ begun pace now))
    ≡ flat_map (pieces_in (longest pace)) (d ∷ []) ++ begun pace now
ended pace before d now whole rest is less are =
    let n = longest pace in
    let all : pieces_in n d ≡ begun pace before ++ (replicate whole n ++ rest ∷ []) =
    begun_first n (begun_in pace before) d is.0 (begun-below pace before d less)
    ∙ ap (λ (l : List ℕ). begun pace before ++ l) are in
    ap (λ (l : List ℕ). begun pace before ++ l) (sym (append_assoc (replicate whole n) (rest ∷ []) (begun pace now)))
    ∙ sym (append_assoc (begun pace before) (replicate whole n ++ rest ∷ []) (begun pace now))
    ∙ ap (λ (l : List ℕ). l ++ begun pace now) (sym all ∙ sym (append-nil (pieces_in n d)))

-- the same, with the numbers under other names
pub ended_as : (pace : Pace) (before : ℕ) (distance : Option ℕ) (d now n whole rest first last : ℕ) → IsPace pace
    → distance ≡ Some d
    → Passes before distance now → n ≡ longest pace → first ≡ begun_in pace before → last ≡ begun_in pace now
    → pieces_in n (d - first * n) ≡ replicate whole n ++ rest ∷ []
    → begun pace before ++ (replicate whole n ++ (rest ∷ replicate last n))
    ≡ flat_map (pieces_in (longest pace)) (option_to_list distance) ++ begun pace now
ended_as pace before distance d now n whole rest first last is distance_is passes n_is first_is last_is are =
    let less = rw distance_is at passes in
    let are_so = rw (n_is, first_is) at are in
    rw (n_is, last_is, distance_is) (ended pace before d now whole rest is less are_so)

-- one that has not
pub more_begun : (pace : Pace) (before now : ℕ) → IsPace pace → before ≤ now
    → begun pace before ++ replicate (begun_in pace now - begun_in pace before) (longest pace) ≡ begun pace now
more_begun pace before now is more =
    let grows = begun-grows pace before now is more in
    let all : begun_in pace before + (begun_in pace now - begun_in pace before) ≡ begun_in pace now =
    omega (arith, grows) in
    replicate-append-replicate (begun_in pace before) (begun_in pace now - begun_in pace before) (longest pace)
    ∙ ap (λ k. replicate k (longest pace)) all

pub begun_as : (pace : Pace) (before : ℕ) (distance : Option ℕ) (now n first last : ℕ) → IsPace pace → distance ≡ None
    → Passes before distance now → n ≡ longest pace → first ≡ begun_in pace before → last ≡ begun_in pace now
    → begun pace before ++ replicate (last - first) n ≡ flat_map (pieces_in (longest pace)) (option_to_list distance)
    ++ begun pace now
begun_as pace before distance now n first last is distance_is passes n_is first_is last_is =
    let more = rw distance_is at passes in
    rw (n_is, first_is, last_is, distance_is) (more_begun pace before now is more)

-- ---- the intervals of some samples, and of more

-- what comes to the intervals, if one distance more comes at most
pub grown : (pace : Pace) (ds : List ℕ) (distance : Option ℕ) (rest : List ℕ) (before now : ℕ)
    → begun pace before ++ rest ≡ flat_map (pieces_in (longest pace)) (option_to_list distance) ++ begun pace now
    → flat_map (pieces_in (longest pace)) (ds ++ option_to_list distance) ++ begun pace now
    ≡ (flat_map (pieces_in (longest pace)) ds ++ begun pace before) ++ rest
grown pace ds distance rest before now are =
    let cut = pieces_in (longest pace) in
    let first = flat_map cut ds in
    let last = flat_map cut (option_to_list distance) in
    ap (λ (l : List ℕ). l ++ begun pace now) (flat_map-append cut ds (option_to_list distance))
    ∙ append_assoc first last (begun pace now)
    ∙ ap (λ (l : List ℕ). first ++ l) (sym are)
    ∙ sym (append_assoc first (begun pace before) rest)

pub brought : (pace : Pace) (s : Settings) (front more : List ℤ) (distance : Option ℕ) (p : Intervals) (before now : ℕ)
    → distances_by s (front ++ more) ≡ distances_by s front ++ option_to_list distance → before ≡ passed_by s front
    → now ≡ passed_by s (front ++ more)
    → begun pace before ++ intervals_in p ≡ flat_map (pieces_in (longest pace)) (option_to_list distance)
    ++ begun pace now
    → intervals_at pace s (front ++ more) ≡ intervals_at pace s front ++ intervals_in p
brought pace s front more distance p before now brings before_is now_is are =
    ap₂ (λ (ds : List ℕ) n. flat_map (pieces_in (longest pace)) ds ++ begun pace n) brings (sym now_is)
    ∙ grown pace (distances_by s front) distance (intervals_in p) before now are
    ∙ ap (λ n. (flat_map (pieces_in (longest pace)) (distances_by s front) ++ begun pace n) ++ intervals_in p) before_is

-- ---- the ticks, as far as they say how many pieces are written

pub passes_as : (pace : Pace) (before : ℕ) (distance : Option ℕ) (now first last : ℕ) → first ≡ passed_as pace before
    → last ≡ passed_as pace now → IfSome distance (λ d. (1 ≤ d) × (d ≤ 2 ^ 62)) → Passes before distance now
    → Passes first distance last
passes_as Ended before None now first last first_is last_is range passes = omega arith
passes_as Ended before (Some d) now first last first_is last_is range passes = omega (arith, range.0)
passes_as (Passing n) before distance now first last first_is last_is range passes = rw (first_is, last_is) passes

are_as : (pace : Pace) (before : ℕ) (distance : Option ℕ) (now first last : ℕ) (p : Intervals)
    → first ≡ passed_as pace before
    → last ≡ passed_as pace now
    → begun pace first ++ intervals_in p ≡ flat_map (pieces_in (longest pace)) (option_to_list distance)
    ++ begun pace last
    → begun pace before ++ intervals_in p ≡ flat_map (pieces_in (longest pace)) (option_to_list distance)
    ++ begun pace now
are_as Ended before distance now first last p first_is last_is are = are
are_as (Passing n) before distance now first last p first_is last_is are = rw (first_is, last_is) at are

-- the same of a slicer that was given them
pub brought_by : (pace : Pace) (old new : Slicer) (front more : List ℤ) (distance : Option ℕ) (p : Intervals)
    (before now : ℕ)
    → settings_of new ≡ settings_of old → before ≡ passed_as pace (passed_of old) → now ≡ passed_as pace (passed_of new)
    → StandsFor old front → StandsFor new (front ++ more)
    → distances_by (settings_of old) (front ++ more) ≡ distances_by (settings_of old) front ++ option_to_list distance
    → begun pace before ++ intervals_in p ≡ flat_map (pieces_in (longest pace)) (option_to_list distance)
    ++ begun pace now
    → intervals_at pace (settings_of old) (front ++ more) ≡ intervals_at pace (settings_of old) front ++ intervals_in p
brought_by pace old new front more distance p before now same before_is now_is was is brings are =
    let first = passed_is old.finder (sums old.window.smooth front) was.finds in
    let last = passed_is new.finder (sums new.window.smooth (front ++ more)) is.finds
    ∙ ap (λ (s : Settings). passed_by s (front ++ more)) same in
    brought pace (settings_of old) front more distance p (passed_of old) (passed_of new) brings first last
    (are_as pace (passed_of old) distance (passed_of new) before now p before_is now_is are)
