-- Words that count on, in numbers: which labels, at which places, and what becomes of lists of words.
use Rattle.std.proofs.Common.{◌≡◌, ℕ, true, false, [], ◌∷◌, Some, None, pos, neg_ℤ, refl}
use Rattle.std.specs.Prelude.{◌&&◌, Bool}
use Rattle.flywheel.specs.declared.heard.HeardWord.{HeardWord}
use Rattle.flywheel.specs.Frames.{is_same_label}
use Rattle.ltc_word.specs.declared.word.LtcWord.{LtcWord}
use Rattle.tc_address.specs.declared.count.Count.TheVariants.{C25}
use Rattle.tc_address.specs.declared.direction.Direction.{Direction}
use Rattle.tc_address.specs.declared.direction.Direction.TheVariants.{Forward, Backward}
use Rattle.tc_address.specs.Label.{address, Address}
use Rattle.tc_address.specs.Numbering.{step}
use Rattle.direction_reader.specs.declared.event.Event.TheVariants.{Word, Lost}
use Rattle.direction_reader.specs.declared.firm_event.FirmEvent.TheVariants.{Told, Alone}
use Rattle.direction_reader.specs.Counted.{counted, counts_on, lies_behind}
use Rattle.direction_reader.specs.CountedTold.{told_behind}
use Rattle.direction_reader.proofs.NextExamples.{same_label}

and_false : (b : Bool) → b && false ≡ false
and_false true = refl
and_false false = refl

abbrev heard : Direction → Address → ℕ → HeardWord
heard direction label tick = record { label = label; direction = direction; tick = tick; length = 1_920 }

-- a word that lasts 1,920 ticks ended at tick 5,000
abbrev first : HeardWord
first = heard Forward (address C25 10 0 0 3) 5_000

abbrev next : ℕ → HeardWord
next tick = heard Forward (address C25 10 0 0 4) tick

-- ---- the place of the next frame: seven tenths of a frame behind it to thirteen

least : lies_behind first 1 (next 6_344) ≡ true
least = refl

a_tick_early : lies_behind first 1 (next 6_343) ≡ false
a_tick_early = refl

most : lies_behind first 1 (next 7_496) ≡ true
most = refl

a_tick_late : lies_behind first 1 (next 7_497) ≡ false
a_tick_late = refl

-- of the one behind it: seventeen tenths to twenty-three
least_of_two : lies_behind first 2 (next 8_264) ≡ true
least_of_two = refl

a_tick_early_of_two : lies_behind first 2 (next 8_263) ≡ false
a_tick_early_of_two = refl

most_of_two : lies_behind first 2 (next 9_416) ≡ true
most_of_two = refl

a_tick_late_of_two : lies_behind first 2 (next 9_417) ≡ false
a_tick_late_of_two = refl

-- a frame is the mean of the two lengths: behind a word of 1,920 ticks one of 2,880 ends 1,680 ticks on to 3,120
abbrev long : ℕ → HeardWord
long tick = record { label = address C25 10 0 0 4; direction = Forward; tick = tick; length = 2_880 }

least_of_the_mean : lies_behind first 1 (long 6_680) ≡ true
least_of_the_mean = refl

a_tick_late_of_the_mean : lies_behind first 1 (long 8_121) ≡ false
a_tick_late_of_the_mean = refl

-- ---- label, direction and place

-- the label a step on, at the next frame's place
counts : (a : Address) → counts_on (Some (heard Forward a 5_000)) (Some (heard Forward (step a (pos 1)) 6_920)) ≡ true
counts a = rw (same_label (step a (pos 1))) refl

-- played backward a step back
counts_back : (a : Address)
    → counts_on (Some (heard Backward a 5_000)) (Some (heard Backward (step a (neg_ℤ (pos 1))) 6_920)) ≡ true
counts_back a = rw (same_label (step a (neg_ℤ (pos 1)))) refl

-- two steps on, at the place of the one behind it
two_on : (a : Address) → counts_on (Some (heard Forward a 5_000)) (Some (heard Forward (step a (pos 2)) 8_840)) ≡ true
two_on a = rw (same_label (step a (pos 2)), and_false (is_same_label (step a (pos 1)) (step a (pos 2)))) refl

-- three frames on none counts, whatever its label
three_on : (a b : Address) → counts_on (Some (heard Forward a 5_000)) (Some (heard Forward b 10_760)) ≡ false
three_on a b =
    rw (and_false (is_same_label (step a (pos 1)) b), and_false (is_same_label (step a (pos 2)) b)) refl

-- nor before it, or the other way
before_it : (a b : Address) → counts_on (Some (heard Forward a 6_920)) (Some (heard Forward b 5_000)) ≡ false
before_it a b =
    rw (and_false (is_same_label (step a (pos 1)) b), and_false (is_same_label (step a (pos 2)) b)) refl

other_way : (a b : Address) → counts_on (Some (heard Forward a 5_000)) (Some (heard Backward b 6_920)) ≡ false
other_way a b = refl

none_before : (a : Address) → counts_on None (Some (heard Forward a 6_920)) ≡ false
none_before a = refl

none_behind : (a : Address) → counts_on (Some (heard Forward a 5_000)) None ≡ false
none_behind a = refl

-- ---- lists

-- a word without another is held, and alone at the end
one_is_held : (w : LtcWord) → told_behind None (Word Forward w 2_000 1_920 ∷ []) ≡ []
one_is_held w = refl

one_is_alone : (w : LtcWord) → counted (Word Forward w 2_000 1_920 ∷ []) ≡ Alone Forward w 2_000 1_920 ∷ []
one_is_alone w = refl

-- and so is one of the other direction, or behind a break
other_way_alone : (v w : LtcWord) → counted (Word Forward v 2_000 1_920 ∷ Word Backward w 3_920 1_920 ∷ [])
    ≡ Alone Forward v 2_000 1_920 ∷ Alone Backward w 3_920 1_920 ∷ []
other_way_alone v w = refl

a_break_is_told : (w : LtcWord) → counted (Word Forward w 2_000 1_920 ∷ Lost 90 2_900 ∷ [])
    ≡ Alone Forward w 2_000 1_920 ∷ Told (Lost 90 2_900) ∷ []
a_break_is_told w = refl
