-- The number of a label is had by arithmetic from its digits, and so is the label that a step leads to.
use Rattle.std.proofs.Common.{◌≡◌, ℕ, ◌+◌, ◌*◌, true, List, [], ◌∷◌, ℤ, pos, neg_ℤ, ap, sym, ◌∙◌, arith}
use Rattle.std.specs.List.{AllByRecursion}
use Rattle.tc_address.specs.declared.count.Count.{Count}
use Rattle.tc_address.specs.declared.count.Count.TheVariants.{C24, C25, C30, Drop30}
use Rattle.tc_address.specs.Count.{rate_of, system_with}
use Rattle.tc_address.specs.Circle.{moved}
use Rattle.tc_address.specs.DropFrame.{dropped_before}
use Rattle.tc_address.specs.KnownLabels.{AreApart, AreNumbered}
use Rattle.tc_address.specs.Label.{Address, address, IsLabel, is_label}
use Rattle.tc_address.specs.LabelLemmas.{label_by_test}
use Rattle.tc_address.specs.Numbering.{day_length, number_of, step}
use Rattle.tc_address.proofs.AroundTheDay.{moved-below}
use Rattle.tc_address.proofs.DroppedLabels.{dropped_below, frame_of_day, label_with, place, place_of, place_by_tens}
use Rattle.tc_address.proofs.OneNumber.{day_length-pos, get_labels, number_of_place, step_at}

-- a place is that of its frame of the day, less the two labels of each minute before it that drops them
place_by_digits : (c : Count) (h m s f : ℕ) → IsLabel (address c h m s f)
    → place c h m s f + dropped_before c (60 * h + m) ≡ frame_of_day c h m s f
place_by_digits C24 h m s f l = omega arith
place_by_digits C25 h m s f l = omega arith
place_by_digits C30 h m s f l = omega arith
place_by_digits Drop30 h m s f l = omega (arith, place_by_tens h m s f l, dropped_below Drop30 h m s f)

pub number_by_digits : (a : Address) → IsLabel a → number_of a + dropped_before a.count (60 * a.hours + a.minutes)
    ≡ rate_of (system_with a.count) * (60 * (60 * a.hours + a.minutes) + a.seconds) + a.frames
number_by_digits a l =
    ap (λ n. n + dropped_before a.count (60 * a.hours + a.minutes)) (number_of_place a l)
    ∙ place_by_digits a.count a.hours a.minutes a.seconds a.frames l

-- the label that a step leads to, by arithmetic
abbrev stepped : Address → ℤ → Address
stepped a k = label_with a.count (moved (day_length a.count) (place_of a) k)

step-stepped : (a : Address) (k : ℤ) → IsLabel a → step a k ≡ stepped a k
step-stepped a k l =
    let place : moved (day_length a.count) (place_of a) k ≡ moved (day_length a.count) (number_of a) k =
    ap (λ n. moved (day_length a.count) n k) (sym (number_of_place a l)) in
    let below = moved-below (day_length a.count) (place_of a) k (day_length-pos a.count) in
    sym (step_at a (stepped a k) k (moved (day_length a.count) (place_of a) k)
    (get_labels a.count (moved (day_length a.count) (place_of a) k) below) place)

-- rows that arithmetic finds so
abbrev pub AreNumberedByDigits : List (Address × ℕ) → Type 0
AreNumberedByDigits rows = AllByRecursion (λ row. (is_label row.0 ≡ true) × (place_of row.0 ≡ row.1)) rows

pub are_numbered : (rows : List (Address × ℕ)) → AreNumberedByDigits rows → AreNumbered rows
are_numbered [] found = found
are_numbered (row ∷ rows) found =
    (number_of_place row.0 (label_by_test row.0 found.0.0) ∙ found.0.1, are_numbered rows found.1)

abbrev pub AreApartByDigits : List (Address × ℕ × Address) → Type 0
AreApartByDigits rows = AllByRecursion (λ row. (is_label row.0 ≡ true) × (stepped row.0 (pos row.1) ≡ row.2)
    × (is_label row.2 ≡ true) × (stepped row.2 (neg_ℤ (pos row.1)) ≡ row.0)) rows

pub are_apart : (rows : List (Address × ℕ × Address)) → AreApartByDigits rows → AreApart rows
are_apart [] found = found
are_apart (row ∷ rows) found =
    let there = step-stepped row.0 (pos row.1) (label_by_test row.0 found.0.0) ∙ found.0.1 in
    let back = step-stepped row.2 (neg_ℤ (pos row.1)) (label_by_test row.2 found.0.2) ∙ found.0.3 in
    ((there, back), are_apart rows found.1)
