-- Moves one after another: a place that is the best of its neighbours stays, and one that is chosen fits the row.
use Rattle.std.proofs.Common.{◌≡◌, ◌≢◌, ℕ, zero, suc, ◌+◌, ◌/◌, ◌%◌, ◌<◌, ◌≤◌, ◌==◌, Bool, true, false, cond, List}
use Rattle.std.proofs.Common.{length, refl, ap, ap₂, sym, subst, arith}
use Rattle.std.proofs.lemmas.Bool.Decides.{nat_tests}
use Rattle.luma_row.specs.declared.place.Place.{Place}
use Rattle.luma_row.specs.Choice.{IsFirstBest}
use Rattle.luma_row.specs.Climb.{halved, moved, neighbour, worth, Climbs, Moves, Refines}
use Rattle.luma_row.specs.KeptBest.{IsBestOf}
use Rattle.luma_row.specs.KeptPlace.{IsInRow}
use Rattle.luma_row.specs.Light.{IsRow}
use Rattle.luma_row.specs.Place.{fits, score}

pub one_move : (row : List ℕ) (step moves : ℕ) (from between to : Place) → Climbs row step moves from between
    → Moves row step between to → Climbs row step (moves + 1) from to
one_move row step moves from between to climbs move =
    let e : suc moves ≡ moves + 1 = omega arith in
    subst (λ n. Climbs row step n from to) e (between, climbs, move)

-- where the best neighbour is the place itself, it stays
pub itself : (row : List ℕ) (step : ℕ) (place : Place) → IsFirstBest 9 (worth row place step) 0
    → Moves row step place place
itself row step place best = (0, best, refl)

pub still : (row : List ℕ) (step moves more : ℕ) (from at : Place) → Climbs row step moves from at
    → Moves row step at at
    → Climbs row step (moves + more) from at
still row step moves zero from at climbs move =
    let e : moves ≡ moves + 0 = omega arith in subst (λ n. Climbs row step n from at) e climbs
still row step moves (suc more) from at climbs move =
    let e : suc (moves + more) ≡ moves + suc more = omega arith in
    subst (λ n. Climbs row step n from at) e (at, still row step moves more from at climbs move, move)

worth_more : (b f : Bool) (own other least : ℕ) → least < cond b own (cond f other 0) → b ≡ false → f ≡ true
worth_more true f own other least h isnt = absurd (cc)
worth_more false true own other least h isnt = refl
worth_more false false own other least h isnt = absurd (omega arith)

-- a neighbour that is chosen fits
chosen_fits : (row : List ℕ) (step number : ℕ) (place : Place) → IsFirstBest 9 (worth row place step) number
    → number ≢ 0
    → fits (length row) (neighbour place step number) ≡ true
chosen_fits row step number place best other =
    let some : 0 < number = grind arith in
    let isnt : (number == 0) ≡ false = grind (arith, nat_tests) in
    worth_more (number == 0) (fits (length row) (neighbour place step number)) (score row place)
    (score row (neighbour place step number)) (worth row place step 0) (best.first 0 some) isnt

-- and what it is worth is the sum of its falls
pub chosen_score : (row : List ℕ) (step number : ℕ) (place : Place) → IsFirstBest 9 (worth row place step) number
    → number ≢ 0
    → worth row place step number ≡ score row (neighbour place step number)
chosen_score row step number place best other =
    let isnt : (number == 0) ≡ false = grind (arith, nat_tests) in
    let fit = chosen_fits row step number place best other in
    rw (isnt, fit) refl

-- with no step each neighbour is the place itself
stands : (place number : ℕ) → moved place 0 number ≡ place
stands place zero = refl
stands place (suc zero) = omega arith
stands place (suc (suc n)) = omega arith

worth_of_one : (b f : Bool) (own other : ℕ) → own ≡ other → cond b own (cond f other 0) ≤ own
worth_of_one true f own other same = omega arith
worth_of_one false true own other same = omega (arith, same)
worth_of_one false false own other same = omega arith

no_more : (row : List ℕ) (place : Place) (number : ℕ) → worth row place 0 number ≤ score row place
no_more row place number =
    let same : place ≡ neighbour place 0 number =
    ap₂ (λ (f l : ℕ). record { first = f; last = l }) (sym (stands place.first (number / 3)))
    (sym (stands place.last (number % 3))) in
    worth_of_one (number == 0) (fits (length row) (neighbour place 0 number)) (score row place)
    (score row (neighbour place 0 number)) (ap (score row) same)

pub no_step : (row : List ℕ) (place : Place) (sum number : ℕ) → IsBestOf 1 (worth row place 0) sum number
    → IsBestOf 9 (worth row place 0) sum number
no_step row place sum number b =
    let e : number ≡ 0 = omega (arith, b.best.below) in
    let s = b.sum_is in
    record {
      sum_is = b.sum_is;
      best = record {
        below = omega (arith, e);
        greatest = λ other h.
            let m = no_more row place other in
            subst (λ n. worth row place 0 other ≤ worth row place 0 n) (sym e) m;
        first = b.best.first;
      };
    }

fits_in_row : (row : List ℕ) (place : Place) → IsRow row → fits (length row) place ≡ true → IsInRow place
fits_in_row row place is fit =
    let a = is.0 in
    let b = is.1 in
    record { order = grind (arith, nat_tests); last = grind (arith, nat_tests) }

pub chosen_in_row : (row : List ℕ) (step number : ℕ) (place : Place) → IsRow row
    → IsFirstBest 9 (worth row place step) number
    → number ≢ 0 → IsInRow (neighbour place step number)
chosen_in_row row step number place is best other =
    fits_in_row row (neighbour place step number) is (chosen_fits row step number place best other)

-- one more step of the refinement
pub one_step : (row : List ℕ) (first steps step : ℕ) (from between to : Place) → Refines row first steps from between
    → step ≡ halved first steps → Climbs row step 6 between to → Refines row first (steps + 1) from to
one_step row first steps step from between to refines is climbs =
    let e : suc steps ≡ steps + 1 = omega arith in
    subst (λ n. Refines row first n from to) e (between, refines, subst (λ s. Climbs row s 6 between to) is climbs)

pub half_step : (first steps step : ℕ) → step ≡ halved first steps → step / 2 ≡ halved first (steps + 1)
half_step first steps step is =
    let e : suc steps ≡ steps + 1 = omega arith in
    subst (λ n. step / 2 ≡ halved first n) e (ap (λ s. s / 2) is)
