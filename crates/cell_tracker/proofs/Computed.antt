-- The stretches of a list, computed: the states are fed one interval after another, so each list has its stretches.
use Rattle.std.proofs.Common.{◌≡◌, ℕ, ◌+◌, ◌-◌, ◌*◌, ◌<◌, ◌≤◌, Bool, true, false, not, ◌&&◌, leb, ltb, List, [], ◌∷◌}
use Rattle.std.proofs.Common.{◌++◌, length, min}
use Rattle.std.proofs.Common.{max, Option, Some, None, refl, subst, sym, ◌∙◌, arith, append_assoc}
use Rattle.std.specs.Int.{abs_diff}
use Rattle.std.proofs.lemmas.Bool.{leb-true, le-leb, ltb-true, lt-ltb, false≢true}
use Rattle.std.proofs.lemmas.List.{append-nil, length_push}
use Rattle.std.proofs.lemmas.List.Elements.{All-nil}
use Rattle.biphase.specs.declared.profile.Profile.{Profile}
use Rattle.biphase.specs.declared.cell.Cell.TheVariants.{Zero, One}
use Rattle.biphase.specs.declared.profile.Profile.TheVariants.{Normal, Worn, Rough}
use Rattle.biphase.specs.declared.profile.Ratio.{Ratio}
use Rattle.biphase.specs.declared.profile.Tolerance.{Tolerance}
use Rattle.biphase.specs.declared.profile.SumTolerance.{SumTolerance}
use Rattle.biphase.specs.declared.profile.TheConstants.{NORMAL, WORN, ROUGH}
use Rattle.biphase.specs.Latest.{Latest}
use Rattle.biphase.specs.Profile.{equal_of, unequal_of, IsAtLeast, IsAtMost}
use Rattle.biphase.specs.Tolerance.{sum_of, kept_at_lock, kept_next, FollowsSum}
use Rattle.biphase.specs.Pair.{AreUnequal}
use Rattle.biphase.specs.Tolerance.{IsFirstHalf}
use Rattle.biphase.specs.Chain.{IsNextZero, IsNextOne}
use Rattle.cell_tracker.specs.Stretch.{Stretch, IsBroken, AreStretches, begun, with_cell, with_break}
use Rattle.cell_tracker.specs.StandsFor.{HuntingStandsFor, AtCellStandsFor, MidCellStandsFor}
use Rattle.cell_tracker.proofs.BeginsAtTheLock.{hunt_first, hunt_equal, start_at, start_mid, start_broken}
use Rattle.cell_tracker.proofs.GainsOrBreaks.{gains_zero, waits, breaks, gains_one, breaks_behind}

-- the test is true exactly if the fact holds
record Tells (test : Bool) (P : Type 0) : Type 0 where
  yes_it_is : test ≡ true → P
  no_it_is_not : test ≡ false → P → ⊥

leb_tells : (a b : ℕ) → Tells (leb a b) (a ≤ b)
leb_tells a b =
    record { yes_it_is = leb-true a b; no_it_is_not = λ fails below. false≢true (sym fails ∙ le-leb a b below) }

ltb_tells : (a b : ℕ) → Tells (ltb a b) (a < b)
ltb_tells a b =
    record { yes_it_is = ltb-true a b; no_it_is_not = λ fails below. false≢true (sym fails ∙ lt-ltb a b below) }

and_tells : (one two : Bool) {P Q : Type 0} → Tells one P → Tells two Q → Tells (one && two) (P × Q)
and_tells true true p q =
    record {
      yes_it_is = λ _. (p.yes_it_is refl, q.yes_it_is refl);
      no_it_is_not = λ fails. absurd (false≢true (sym fails));
    }
and_tells true false p q =
    record { yes_it_is = λ holds. absurd (false≢true holds); no_it_is_not = λ _ both. q.no_it_is_not refl both.1 }
and_tells false two p q =
    record { yes_it_is = λ holds. absurd (false≢true holds); no_it_is_not = λ _ both. p.no_it_is_not refl both.0 }

not_tells : (test : Bool) {P : Type 0} → Tells test P → Tells (not test) (¬ P)
not_tells true p =
    record { yes_it_is = λ holds. absurd (false≢true holds); no_it_is_not = λ _ no_p. no_p (p.yes_it_is refl) }
not_tells false p =
    record { yes_it_is = λ _. p.no_it_is_not refl; no_it_is_not = λ fails. absurd (false≢true (sym fails)) }

-- the tests of biphase
abbrev is_between : Ratio → Ratio → ℕ → ℕ → Bool
is_between low high a b = leb (low.part * b) (low.whole * a) && leb (high.whole * a) (high.part * b)

abbrev is_near : Tolerance → Latest → ℕ → Bool
is_near tolerance latest length = leb (tolerance.cell * abs_diff length latest.last) latest.last

abbrev are_near : Tolerance → Latest → ℕ → ℕ → Bool
are_near tolerance latest x y = is_near tolerance latest (x + y) && leb (tolerance.half * abs_diff x y) (x + y)

abbrev is_half_of : SumTolerance → ℕ → ℕ → Bool
is_half_of tolerance sum x = is_between tolerance.least_half tolerance.greatest_half x sum

abbrev is_one_of : SumTolerance → ℕ → ℕ → ℕ → Bool
is_one_of tolerance sum x y =
    is_half_of tolerance sum x && (is_half_of tolerance sum y && is_between tolerance.least_cell tolerance.greatest_cell
    (x + y) sum)

abbrev pub is_zero : Profile → Latest → ℕ → Bool
is_zero Normal latest x = is_near NORMAL latest x
is_zero Worn latest x = is_near WORN latest x
is_zero Rough latest x = is_between ROUGH.least_cell ROUGH.greatest_cell x (sum_of latest)

abbrev pub is_half : Profile → Latest → ℕ → Bool
is_half Normal latest x = is_between NORMAL.least_half NORMAL.greatest_half x latest.last
is_half Worn latest x = is_between WORN.least_half WORN.greatest_half x latest.last
is_half Rough latest x = is_half_of ROUGH (sum_of latest) x

abbrev pub is_one : Profile → Latest → ℕ → ℕ → Bool
is_one Normal latest x y = are_near NORMAL latest x y
is_one Worn latest x y = are_near WORN latest x y
is_one Rough latest x y = is_one_of ROUGH (sum_of latest) x y

abbrev pub is_unequal : Profile → ℕ → ℕ → Bool
is_unequal profile a b =
    let equal = equal_of profile in
    let unequal = unequal_of profile in
    not (leb (equal.part * max a b) (equal.whole * min a b)) && leb (unequal.part * max a b) (unequal.whole * min a b)

between_tells : (low high : Ratio) (a b : ℕ) → Tells (is_between low high a b) (IsAtLeast low a b × IsAtMost high a b)
between_tells low high a b = and_tells _ _ (leb_tells _ _) (leb_tells _ _)

zero_tells : (profile : Profile) (latest : Latest) (x : ℕ) → Tells (is_zero profile latest x)
    (IsNextZero profile latest x)
zero_tells Normal latest x = leb_tells _ _
zero_tells Worn latest x = leb_tells _ _
zero_tells Rough latest x = between_tells ROUGH.least_cell ROUGH.greatest_cell x (sum_of latest)

half_tells : (profile : Profile) (latest : Latest) (x : ℕ) → Tells (is_half profile latest x)
    (IsFirstHalf profile latest x)
half_tells Normal latest x = between_tells NORMAL.least_half NORMAL.greatest_half x latest.last
half_tells Worn latest x = between_tells WORN.least_half WORN.greatest_half x latest.last
half_tells Rough latest x = between_tells ROUGH.least_half ROUGH.greatest_half x (sum_of latest)

-- two halves and a sum
sum_tells : (latest : Latest) (x y : ℕ) → Tells (is_one_of ROUGH (sum_of latest) x y)
    (FollowsSum ROUGH (sum_of latest) (One x y))
sum_tells latest x y =
    let first = between_tells ROUGH.least_half ROUGH.greatest_half x (sum_of latest) in
    let second = between_tells ROUGH.least_half ROUGH.greatest_half y (sum_of latest) in
    let whole = between_tells ROUGH.least_cell ROUGH.greatest_cell (x + y) (sum_of latest) in
    let rest = and_tells _ _ second whole in
    let all = and_tells _ _ first rest in
    record {
      yes_it_is = λ holds. let is = all.yes_it_is holds in (is.0, is.1.0, is.1.1);
      no_it_is_not = λ fails is. all.no_it_is_not fails (is.0, (is.1, is.2));
    }

one_tells : (profile : Profile) (latest : Latest) (x y : ℕ) → Tells (is_one profile latest x y)
    (IsNextOne profile latest x y)
one_tells Normal latest x y = and_tells _ _ (leb_tells _ _) (leb_tells _ _)
one_tells Worn latest x y = and_tells _ _ (leb_tells _ _) (leb_tells _ _)
one_tells Rough latest x y =
    let sum = sum_tells latest x y in
    record { yes_it_is = λ holds. (sum.yes_it_is holds, tt); no_it_is_not = λ fails is. sum.no_it_is_not fails is.0 }

unequal_tells : (profile : Profile) (a b : ℕ) → Tells (is_unequal profile a b) (AreUnequal profile a b)
unequal_tells profile a b = and_tells _ _ (not_tells _ (leb_tells _ _)) (leb_tells _ _)

-- a state of the tracker with the stretches so far
pub data Tracked : Type 0 where
  hunting : Option ℕ → List Stretch → Tracked
  at_cell : Latest → List Stretch → Stretch → Tracked
  mid_cell : Latest → ℕ → List Stretch → Stretch → Tracked

-- it stands for the list
abbrev pub Tracks : Profile → List ℕ → Tracked → Type 0
Tracks profile intervals (hunting before stretches) =
    HuntingStandsFor (record { profile = profile; before = before }) intervals stretches
Tracks profile intervals (at_cell last earlier stretch) =
    AtCellStandsFor (record { profile = profile; latest = last }) intervals earlier stretch
Tracks profile intervals (mid_cell last half earlier stretch) =
    MidCellStandsFor (record { profile = profile; latest = last; half = half }) intervals earlier stretch

-- the stretches so far
abbrev pub stretches_in : Tracked → List Stretch
stretches_in (hunting before stretches) = stretches
stretches_in (at_cell last earlier stretch) = earlier ++ stretch ∷ []
stretches_in (mid_cell last half earlier stretch) = earlier ++ stretch ∷ []

-- what the interval at place n makes of it, by the answers of the tests
abbrev pub from_pair : Profile → ℕ → List Stretch → ℕ → ℕ → Bool → Bool → Bool → Tracked
from_pair profile n stretches z x false rises half = hunting (Some x) stretches
from_pair profile n stretches z x true true half = at_cell (kept_at_lock profile x) stretches (begun n x)
from_pair profile n stretches z x true false true = mid_cell (kept_at_lock profile z) x stretches (begun (n - 1) z)
from_pair profile n stretches z x true false false = hunting (Some x) (stretches ++ with_break n (begun (n - 1) z) ∷ [])

abbrev pub from_cell : Profile → ℕ → Latest → List Stretch → Stretch → ℕ → Bool → Bool → Tracked
from_cell profile n last earlier stretch x true half =
    at_cell (kept_next profile last x) earlier (with_cell (Zero x) stretch)
from_cell profile n last earlier stretch x false true = mid_cell last x earlier stretch
from_cell profile n last earlier stretch x false false = hunting (Some x) (earlier ++ with_break n stretch ∷ [])

abbrev pub from_half : Profile → ℕ → Latest → ℕ → List Stretch → Stretch → ℕ → Bool → Tracked
from_half profile n last half earlier stretch x true =
    at_cell (kept_next profile last (half + x)) earlier (with_cell (One half x) stretch)
from_half profile n last half earlier stretch x false = hunting (Some x) (earlier ++ with_break n stretch ∷ [])

abbrev pub step : Profile → ℕ → Tracked → ℕ → Tracked
step profile n (hunting None stretches) x = hunting (Some x) stretches
step profile n (hunting (Some z) stretches) x =
    from_pair profile n stretches z x (is_unequal profile z x) (ltb z x) (is_half profile (kept_at_lock profile z) x)
step profile n (at_cell last earlier stretch) x =
    from_cell profile n last earlier stretch x (is_zero profile last x) (is_half profile last x)
step profile n (mid_cell last half earlier stretch) x =
    from_half profile n last half earlier stretch x (is_one profile last half x)

-- each step keeps what it stands for
pair_steps : (profile : Profile) (intervals : List ℕ) (stretches : List Stretch) (z x : ℕ) (unequal rises half : Bool)
    → Tells unequal (AreUnequal profile z x) → Tells rises (z < x)
    → Tells half (IsFirstHalf profile (kept_at_lock profile z) x)
    → Tracks profile intervals (hunting (Some z) stretches)
    → Tracks profile (intervals ++ x ∷ []) (from_pair profile (length intervals) stretches z x unequal rises half)
pair_steps profile intervals stretches z x false rises half u r h tracks =
    hunt_equal _ intervals stretches z x tracks refl (u.no_it_is_not refl)
pair_steps profile intervals stretches z x true true half u r h tracks =
    start_at _ intervals stretches z x tracks refl (u.yes_it_is refl) (r.yes_it_is refl)
pair_steps profile intervals stretches z x true false true u r h tracks =
    let no_rise = r.no_it_is_not refl in
    start_mid _ intervals stretches z x tracks refl (u.yes_it_is refl) (omega arith) (h.yes_it_is refl)
pair_steps profile intervals stretches z x true false false u r h tracks =
    let no_rise = r.no_it_is_not refl in
    start_broken _ intervals stretches z x tracks refl (u.yes_it_is refl) (omega arith) (h.no_it_is_not refl)

cell_steps : (profile : Profile) (intervals : List ℕ) (last : Latest) (earlier : List Stretch) (stretch : Stretch)
    (x : ℕ)
    (zero half : Bool)
    → Tells zero (IsNextZero profile last x) → Tells half (IsFirstHalf profile last x)
    → Tracks profile intervals (at_cell last earlier stretch)
    → Tracks profile (intervals ++ x ∷ []) (from_cell profile (length intervals) last earlier stretch x zero half)
cell_steps profile intervals last earlier stretch x true half z h tracks =
    gains_zero _ intervals earlier stretch x tracks (z.yes_it_is refl)
cell_steps profile intervals last earlier stretch x false true z h tracks =
    waits _ intervals earlier stretch x tracks (h.yes_it_is refl)
cell_steps profile intervals last earlier stretch x false false z h tracks =
    breaks _ intervals earlier stretch x tracks (z.no_it_is_not refl) (h.no_it_is_not refl)

half_steps : (profile : Profile) (intervals : List ℕ) (last : Latest) (half : ℕ) (earlier : List Stretch)
    (stretch : Stretch) (x : ℕ)
    (one : Bool)
    → Tells one (IsNextOne profile last half x)
    → Tracks profile intervals (mid_cell last half earlier stretch)
    → Tracks profile (intervals ++ x ∷ []) (from_half profile (length intervals) last half earlier stretch x one)
half_steps profile intervals last half earlier stretch x true o tracks =
    gains_one _ intervals earlier stretch x tracks (o.yes_it_is refl)
half_steps profile intervals last half earlier stretch x false o tracks =
    breaks_behind _ intervals earlier stretch x tracks (o.no_it_is_not refl)

pub steps : (profile : Profile) (intervals : List ℕ) (state : Tracked) (x : ℕ) → Tracks profile intervals state
    → Tracks profile (intervals ++ x ∷ []) (step profile (length intervals) state x)
steps profile intervals (hunting None stretches) x tracks = hunt_first _ intervals stretches x tracks refl
steps profile intervals (hunting (Some z) stretches) x tracks =
    pair_steps profile intervals stretches z x _ _ _ (unequal_tells profile z x) (ltb_tells z x)
    (half_tells profile (kept_at_lock profile z) x) tracks
steps profile intervals (at_cell last earlier stretch) x tracks =
    cell_steps profile intervals last earlier stretch x _ _ (zero_tells profile last x) (half_tells profile last x)
    tracks
steps profile intervals (mid_cell last half earlier stretch) x tracks =
    half_steps profile intervals last half earlier stretch x _ (one_tells profile last half x) tracks

-- the intervals from place n on, one after another
unfoldable pub run : Profile → ℕ → Tracked → List ℕ → Tracked
run profile n state [] = state
run profile n state (x ∷ rest) = run profile (n + 1) (step profile n state x) rest

runs : (profile : Profile) (intervals : List ℕ) (state : Tracked) (rest : List ℕ) → Tracks profile intervals state
    → Tracks profile (intervals ++ rest) (run profile (length intervals) state rest)
unfolding run
runs profile intervals state [] tracks = subst (λ xs. Tracks profile xs state) (sym (append-nil intervals)) tracks
runs profile intervals state (x ∷ rest) tracks =
    let more : Tracks profile (intervals ++ x ∷ [] ++ rest)
    (run profile (length (intervals ++ x ∷ [])) (step profile (length intervals) state x) rest) =
    runs profile (intervals ++ x ∷ []) (step profile (length intervals) state x) rest
    (steps profile intervals state x tracks) in
    subst (λ n. Tracks profile (intervals ++ x ∷ rest) (run profile n (step profile (length intervals) state x) rest))
    (length_push intervals x)
    (subst (λ xs. Tracks profile xs (run profile (length (intervals ++ x ∷ []))
    (step profile (length intervals) state x) rest))
    (append_assoc intervals (x ∷ []) rest) more)

-- the stretches of a list
unfoldable pub stretches_of : Profile → List ℕ → List Stretch
stretches_of profile intervals = stretches_in (run profile 0 (hunting None []) intervals)

pub tracked_are : (profile : Profile) (intervals : List ℕ) (state : Tracked) → Tracks profile intervals state
    → AreStretches profile intervals (stretches_in state)
tracked_are profile intervals (hunting before stretches) tracks = tracks.stretches_are
tracked_are profile intervals (at_cell last earlier stretch) tracks = tracks.stretches_are
tracked_are profile intervals (mid_cell last half earlier stretch) tracks = tracks.stretches_are

-- what is tracked of a list from nothing on
pub runs_from_nothing : (profile : Profile) (intervals : List ℕ)
    → Tracks profile intervals (run profile 0 (hunting None []) intervals)
runs_from_nothing profile intervals = runs profile [] (hunting None []) intervals (record {
  stretches_are = λ k low at. omega (arith, at.0);
  all_broken = All-nil IsBroken;
  before = refl;
})

-- they are
pub stretches_of-are : (profile : Profile) (intervals : List ℕ)
    → AreStretches profile intervals (stretches_of profile intervals)
unfolding stretches_of
stretches_of-are profile intervals = tracked_are profile intervals _ (runs_from_nothing profile intervals)

-- what is computed are the stretches
pub computed_are : (profile : Profile) (intervals : List ℕ) (stretches : List Stretch)
    → stretches_of profile intervals ≡ stretches
    → AreStretches profile intervals stretches
computed_are profile intervals stretches same =
    subst (AreStretches profile intervals) same (stretches_of-are profile intervals)
