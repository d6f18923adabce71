-- The definitions computed at labels, numbers and texts that are known from outside.
use Rattle.std.proofs.Common.{◌≡◌, ℕ, ◌<◌, length, Some, None, slice_get, pos, negsuc, false, not, refl, ◌∙◌, arith}
use Rattle.std.specs.Prelude.{codes}
use Rattle.std.specs.List.{filter}
use Rattle.tc_address.specs.declared.count.Count.TheVariants.{C25, Drop30}
use Rattle.tc_address.specs.Label.{address, is_dropped, IsLabel, second_of, minute_of}
use Rattle.tc_address.specs.Numbering.{number_of}
use Rattle.tc_address.specs.Circle.{moved, shortest_way}
use Rattle.tc_address.specs.Spelling.{text_of, label_in}
use Rattle.tc_address.proofs.OneNumber.{number_of_place}

-- SMPTE 12M, "drop frame": minute 1 has 1,798 labels, and begins with frame 2
minute_one : length (filter (λ a. not (is_dropped a)) (minute_of Drop30 0 1)) ≡ 1798
unfolding minute_of second_of
minute_one = refl

first_of_minute_one : slice_get (filter (λ a. not (is_dropped a)) (minute_of Drop30 0 1)) 0
    ≡ Some (address Drop30 0 1 0 2)
unfolding minute_of second_of
first_of_minute_one = refl

-- minute 10 and minute 0 have all of their 1,800
minute_ten : length (filter (λ a. not (is_dropped a)) (minute_of Drop30 0 10)) ≡ 1800
unfolding minute_of second_of
minute_ten = refl

minute_zero : length (filter (λ a. not (is_dropped a)) (minute_of Drop30 7 0)) ≡ 1800
unfolding minute_of second_of
minute_zero = refl

is_label_at : (h m s f : ℕ) → h < 24 → m < 60 → s < 60 → f < 30 → is_dropped (address Drop30 h m s f) ≡ false
    → IsLabel (address Drop30 h m s f)
is_label_at h m s f p q r t e = record { hours = p; minutes = q; seconds = r; frames = t; counted = e }

-- numbers of known labels
one_minute : number_of (address Drop30 0 1 0 2) ≡ 1800
one_minute = number_of_place (address Drop30 0 1 0 2)
    (is_label_at 0 1 0 2 (omega arith) (omega arith) (omega arith) (omega arith) refl) ∙ refl

ten_minutes : number_of (address Drop30 0 10 0 0) ≡ 17982
ten_minutes = number_of_place (address Drop30 0 10 0 0)
    (is_label_at 0 10 0 0 (omega arith) (omega arith) (omega arith) (omega arith) refl) ∙ refl

an_hour : number_of (address Drop30 1 0 0 0) ≡ 107892
an_hour = number_of_place (address Drop30 1 0 0 0)
    (is_label_at 1 0 0 0 (omega arith) (omega arith) (omega arith) (omega arith) refl) ∙ refl

the_last : number_of (address Drop30 23 59 59 29) ≡ 2589407
the_last = number_of_place (address Drop30 23 59 59 29)
    (is_label_at 23 59 59 29 (omega arith) (omega arith) (omega arith) (omega arith) refl) ∙ refl

-- before midnight and behind it
a_step_back : moved 2160000 0 (negsuc 0) ≡ 2159999
a_step_back = refl

a_step_forward : moved 2160000 2159999 (pos 1) ≡ 0
a_step_forward = refl

half_a_day : shortest_way 2160000 1080000 0 ≡ pos 1080000
half_a_day = refl

over_midnight : shortest_way 2160000 0 2159999 ≡ negsuc 0
over_midnight = refl

-- texts
an_hour_of_drop_frame : text_of (address Drop30 1 0 0 0) ≡ codes "01:00:00;00"
an_hour_of_drop_frame = refl

a_text_at_twenty_five : label_in C25 (codes "23:59:59:24") ≡ Some (address C25 23 59 59 24)
a_text_at_twenty_five = refl

a_wrong_separator : label_in C25 (codes "01:00:00;00") ≡ None
a_wrong_separator = refl

a_dropped_label : label_in Drop30 (codes "00:01:00;00") ≡ None
a_dropped_label = refl
