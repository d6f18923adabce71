-- Which word joins which: forward the one with the label a step on, and backward the one with the label a step back,
-- where it begins at the very tick at which the one before it ends.
use Rattle.std.proofs.Common.{◌≡◌, ℕ, ◌==◌, true, false, ◌&&◌, Some, None, pos, neg_ℤ, refl, ap₂}
use Rattle.std.proofs.Common.{arith}
use Rattle.std.proofs.lemmas.Bool.Decides.{nat_tests}
use Rattle.flywheel.specs.declared.heard.HeardWord.{HeardWord}
use Rattle.flywheel.specs.Frames.{is_same_count, is_same_label}
use Rattle.tc_address.specs.declared.count.Count.{Count}
use Rattle.tc_address.specs.declared.count.Count.TheVariants.{C24, C25, C30, Drop30}
use Rattle.tc_address.specs.declared.direction.Direction.{Direction}
use Rattle.tc_address.specs.declared.direction.Direction.TheVariants.{Forward, Backward}
use Rattle.tc_address.specs.Label.{Address}
use Rattle.tc_address.specs.Numbering.{is_same_time, step}
use Rattle.direction_reader.specs.Consecutive.{joins}

same_number : (n : ℕ) → (n == n) ≡ true
same_number n = grind (arith, nat_tests)

same_count : (count : Count) → is_same_count count count ≡ true
same_count C24 = refl
same_count C25 = refl
same_count C30 = refl
same_count Drop30 = refl

same_time : (a : Address) → is_same_time a a ≡ true
same_time a =
    ap₂ (λ x y. x && y)
    (ap₂ (λ x y. x && y) (ap₂ (λ x y. x && y) (same_number a.hours) (same_number a.minutes)) (same_number a.seconds))
    (same_number a.frames)

pub same_label : (a : Address) → is_same_label a a ≡ true
same_label a = ap₂ (λ x y. x && y) (same_count a.count) (same_time a)

-- a word with this label that ended at a tick
abbrev heard : Direction → Address → ℕ → ℕ → HeardWord
heard direction label tick long = record { label = label; direction = direction; tick = tick; length = long }

-- a word that lasts 1,920 ticks begins at tick 5,000 and has the label a step on
next_forward : (a : Address)
    → joins (Some (heard Forward a 5_000 1_920)) (Some (heard Forward (step a (pos 1)) 6_920 1_920)) ≡ true
next_forward a = same_label (step a (pos 1))

-- backward it has the label a step back
next_backward : (a : Address)
    → joins (Some (heard Backward a 5_000 1_920)) (Some (heard Backward (step a (neg_ℤ (pos 1))) 6_920 1_920)) ≡ true
next_backward a = same_label (step a (neg_ℤ (pos 1)))

-- ---- where it begins a tick late or early, runs the other way, or where none is

a_tick_late : (a b : Address) → joins (Some (heard Forward a 5_000 1_920)) (Some (heard Forward b 6_921 1_920)) ≡ false
a_tick_late a b = refl

a_tick_early : (a b : Address) → joins (Some (heard Forward a 5_000 1_920)) (Some (heard Forward b 6_919 1_920)) ≡ false
a_tick_early a b = refl

other_way : (a b : Address) → joins (Some (heard Forward a 5_000 1_920)) (Some (heard Backward b 6_920 1_920)) ≡ false
other_way a b = refl

-- it is the length of the second word that lies between the two
longer_first : (a b : Address) → joins (Some (heard Forward a 5_000 1_900)) (Some (heard Forward b 6_900 1_920)) ≡ false
longer_first a b = refl

none_before : (a : Address) → joins None (Some (heard Forward a 6_920 1_920)) ≡ false
none_before a = refl

none_behind : (a : Address) → joins (Some (heard Forward a 5_000 1_920)) None ≡ false
none_behind a = refl
