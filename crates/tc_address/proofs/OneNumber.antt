-- Each number of the day has one label and each label one number, so each is found from the other.
use Rattle.std.proofs.Common.{◌≡◌, ℕ, zero, suc, ◌+◌, ◌<◌, ◌≤◌, Bool, true, false, cond, not, List, [], ◌∷◌}
use Rattle.std.proofs.Common.{length, Some, None, slice_get, ℤ, pos, ◌+ℤ◌, refl, sym, ◌∙◌, ap, subst, arith}
use Rattle.std.specs.List.{position_or_len}
use Rattle.std.specs.Option.{unwrap_or}
use Rattle.std.proofs.lemmas.Option.{slice_get_past, slice_get_within}
use Rattle.std.proofs.lemmas.Bool.Decides.{nat_tests}
use Rattle.tc_address.specs.declared.count.Count.{Count}
use Rattle.tc_address.specs.declared.count.Count.TheVariants.{C24, C25, C30, Drop30}
use Rattle.tc_address.specs.Label.{Address, address, IsLabel, labels}
use Rattle.tc_address.specs.Numbering.{day_length, is_same_time, number_of, step}
use Rattle.tc_address.specs.Circle.{moved}
use Rattle.tc_address.proofs.AroundTheDay.{moved-below, moved-zero, moved-add}
use Rattle.tc_address.proofs.DroppedLabels.{place_of, label_with, label_with-place, place-below}
use Rattle.tc_address.proofs.DayInOrder.{IsAt, Runs, labels_run, length_labels}

-- what is at a place of a run has the number of that place
Runs-get : (c : Count) (n m k : ℕ) (xs : List Address) → Runs c n xs m → n + k < m →
    (a : Address) × (slice_get xs k ≡ Some a) × IsAt c (n + k) a
Runs-get c n m k [] e h = absurd (omega (arith, e))
Runs-get c n m zero (x ∷ xs) r h = let P : ℕ → Type 0 = λ j. IsAt c j x in (x, refl, subst P (omega arith) r.0)
Runs-get c n m (suc k) (x ∷ xs) r h =
    let e : n + 1 + k ≡ n + suc k = omega arith in
    let P : ℕ → Type 0 = λ j. (a : Address) × (slice_get xs k ≡ Some a) × IsAt c j a in
    subst P e (Runs-get c (n + 1) m k xs r.1 (omega arith))

-- the label that is at a place of the day
pub found_at : (c : Count) (n : ℕ) → n < day_length c → (a : Address) × (slice_get (labels c) n ≡ Some a) × IsAt c n a
found_at c n h =
    let P : ℕ → Type 0 = λ j. (a : Address) × (slice_get (labels c) n ≡ Some a) × IsAt c j a in
    subst P (omega arith) (Runs-get c 0 (day_length c) n (labels c) (labels_run c) (omega arith))

pub get_labels : (c : Count) (n : ℕ) → n < day_length c → slice_get (labels c) n ≡ Some (label_with c n)
get_labels c n h = let found = found_at c n h in found.1 ∙ ap (λ a. Some a) found.2.same

pub is_label_with : (c : Count) (n : ℕ) → n < day_length c → IsLabel (label_with c n)
is_label_with c n h = let found = found_at c n h in subst IsLabel found.2.same found.2.label

pub get_labels_past : (c : Count) (n : ℕ) → day_length c ≤ n → slice_get (labels c) n ≡ None
get_labels_past c n h = slice_get_past (labels c) n (omega (arith, length_labels c))

same_parts : (c d : Count) (h i m n s t f g : ℕ) → c ≡ d → h ≡ i → m ≡ n → s ≡ t → f ≡ g
    → address c h m s f ≡ address d i n t g
same_parts c d h i m n s t f g p q r v w = cc

-- two labels of a count with the same time are one
same_time : (a b : Address) → a.count ≡ b.count → is_same_time a b ≡ true → a ≡ b
same_time a b e t =
    let hours : a.hours ≡ b.hours = grind (arith, nat_tests) in
    let minutes : a.minutes ≡ b.minutes = grind (arith, nat_tests) in
    let seconds : a.seconds ≡ b.seconds = grind (arith, nat_tests) in
    let frames : a.frames ≡ b.frames = grind (arith, nat_tests) in
    same_parts a.count b.count a.hours b.hours a.minutes b.minutes a.seconds b.seconds a.frames b.frames e hours minutes
    seconds frames

same_time_self : (a : Address) → is_same_time a a ≡ true
same_time_self a = grind (arith, nat_tests)

-- the first label of a run is the one that is looked for, or has a lower number
position_step : (c : Count) (n : ℕ) (x a : Address) (rest : ℕ) (b : Bool) → is_same_time x a ≡ b → IsLabel a
    → a.count ≡ c → IsAt c n x →
    n ≤ place_of a → (n + 1 ≤ place_of a → n + 1 + rest ≡ place_of a) → n + cond (not b) (1 + rest) 0 ≡ place_of a
position_step c n x a rest true t l e at low later =
    let same : place_of x ≡ place_of a = ap place_of (same_time x a (at.count ∙ sym e) t) in
    omega (arith, same, at.number)
position_step c n x a rest false t l e at low later =
    let apart : n ≡ place_of a → ⊥ = λ q.
    let itself = label_with-place a.count a.hours a.minutes a.seconds a.frames l in
    let same : x ≡ a = at.same ∙ ap (label_with c) q ∙ ap (λ k. label_with k (place_of a)) (sym e) ∙ itself in
    let alike : is_same_time x a ≡ true = ap (λ y. is_same_time y a) same ∙ same_time_self a in
    cc in
    let more : n + 1 ≤ place_of a = omega (arith, apart) in
    omega (arith, later more)

-- as many labels of a run come before one as its number says
Runs-position : (c : Count) (n m : ℕ) (xs : List Address) (a : Address) → IsLabel a → a.count ≡ c → n ≤ place_of a
    → place_of a < m →
    Runs c n xs m → n + position_or_len (λ other. is_same_time other a) xs ≡ place_of a
Runs-position c n m [] a l e low high r = absurd (omega (arith, r))
Runs-position c n m (x ∷ xs) a l e low high r =
    let rest : n + 1 ≤ place_of a → n + 1 + position_or_len (λ other. is_same_time other a) xs ≡ place_of a =
    λ more. Runs-position c (n + 1) m xs a l e more high r.1 in
    position_step c n x a (position_or_len (λ other. is_same_time other a) xs) (is_same_time x a) refl l e r.0 low rest

-- the number of a label, by arithmetic
pub number_of_place : (a : Address) → IsLabel a → number_of a ≡ place_of a
unfolding number_of
number_of_place a l =
    let bound : place_of a < day_length a.count = place-below a.count a.hours a.minutes a.seconds a.frames l in
    let e : 0 + position_or_len (λ other. is_same_time other a) (labels a.count) ≡ place_of a =
    Runs-position a.count 0 (day_length a.count) (labels a.count) a l refl (omega arith) bound (labels_run a.count) in
    omega (arith, e)

pub number_of_below : (a : Address) → IsLabel a → number_of a < day_length a.count
number_of_below a l = omega (arith, number_of_place a l, place-below a.count a.hours a.minutes a.seconds a.frames l)

-- a label is at the place that its number says
pub get_number_of : (a : Address) → IsLabel a → slice_get (labels a.count) (number_of a) ≡ Some a
get_number_of a l =
    let bound = place-below a.count a.hours a.minutes a.seconds a.frames l in
    ap (slice_get (labels a.count)) (number_of_place a l) ∙ get_labels a.count (place_of a) bound
    ∙ ap (λ b. Some b) (label_with-place a.count a.hours a.minutes a.seconds a.frames l)

-- what is at a place is a label with the number of that place
pub number_of_get : (c : Count) (n : ℕ) (a : Address) → slice_get (labels c) n ≡ Some a → (number_of a ≡ n)
    × (a.count ≡ c) × IsLabel a
number_of_get c n a e =
    let within : n < day_length c = omega (arith, slice_get_within (labels c) n a e, length_labels c) in
    let found = found_at c n within in
    let b = found.0 in
    let same : b ≡ a = let both : Some b ≡ Some a = sym found.1 ∙ e in cc in
    let label : IsLabel a = subst IsLabel same found.2.label in (
      number_of_place a label ∙ ap place_of (sym same) ∙ found.2.number,
      ap (λ x. x.count) (sym same)
          ∙ found.2.count,
      label,
    )

-- the label at the place that a step leads to
pub step_at : (a b : Address) (steps : ℤ) (n : ℕ) → slice_get (labels a.count) n ≡ Some b →
    n ≡ moved (day_length a.count) (number_of a) steps → b ≡ step a steps
unfolding step
step_at a b steps n found e =
    let there : slice_get (labels a.count) (moved (length (labels a.count)) (number_of a) steps) ≡ Some b =
    ap (λ d. slice_get (labels a.count) (moved d (number_of a) steps)) (length_labels a.count)
    ∙ ap (slice_get (labels a.count)) (sym e) ∙ found in
    sym (ap (λ o. unwrap_or o a) there)

pub day_length-pos : (c : Count) → 0 < day_length c
day_length-pos C24 = omega arith
day_length-pos C25 = omega arith
day_length-pos C30 = omega arith
day_length-pos Drop30 = omega arith

-- a step of a label leads to a label, whose number is the place that the step leads to
pub step_get : (a : Address) (steps : ℤ) → slice_get (labels a.count) (moved (day_length a.count) (number_of a) steps)
    ≡ Some (step a steps)
step_get a steps =
    let n = moved (day_length a.count) (number_of a) steps in
    let found = found_at a.count n (moved-below (day_length a.count) (number_of a) steps (day_length-pos a.count)) in
    found.1 ∙ ap (λ b. Some b) (step_at a found.0 steps n found.1 refl)

pub step-zero : (a : Address) → IsLabel a → step a (pos 0) ≡ a
step-zero a l =
    let bound : number_of a < day_length a.count = number_of_below a l in
    sym (step_at a a (pos 0) (number_of a) (get_number_of a l)
    (sym (moved-zero (day_length a.count) (number_of a) bound)))

pub step-add : (a : Address) (j k : ℤ) → step (step a j) k ≡ step a (j +ℤ k)
step-add a j k =
    let first = number_of_get a.count (moved (day_length a.count) (number_of a) j) (step a j) (step_get a j) in
    let count : (step a j).count ≡ a.count = first.1 in
    let number : number_of (step a j) ≡ moved (day_length a.count) (number_of a) j = first.0 in
    let place : moved (day_length (step a j).count) (number_of (step a j)) k ≡ moved (day_length a.count) (number_of a)
    (j +ℤ k) =
    ap (λ c. moved (day_length c) (number_of (step a j)) k) count ∙ ap (λ n. moved (day_length a.count) n k) number
    ∙ moved-add (day_length a.count) (number_of a) j k (day_length-pos a.count) in
    let found : slice_get (labels a.count) (moved (day_length a.count) (number_of a) (j +ℤ k))
    ≡ Some (step (step a j) k) =
    ap (slice_get (labels a.count)) (sym place)
    ∙ ap (λ c. slice_get (labels c) (moved (day_length (step a j).count) (number_of (step a j)) k)) (sym count)
    ∙ step_get (step a j) k in
    step_at a (step (step a j) k) (j +ℤ k) (moved (day_length a.count) (number_of a) (j +ℤ k)) found refl
