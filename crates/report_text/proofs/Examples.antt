-- Each line of the reports once, as the tables of the formats write it, each field with a value of its own.
use Rattle.std.proofs.Common.{◌≡◌, Bool, true, false, refl}
use Rattle.std.specs.Prelude.{codes}
use Rattle.std.specs.Fmt.{digits}
use Rattle.tc_address.specs.declared.count.Count.TheVariants.{C25, Drop30}
use Rattle.tc_address.specs.declared.direction.Direction.TheVariants.{Forward, Backward}
use Rattle.tc_address.specs.declared.system.System.{System}
use Rattle.tc_address.specs.declared.system.System.TheVariants.{F24, F25, F30}
use Rattle.tc_address.specs.Label.{Address, address}
use Rattle.tc_bits.specs.declared.fault.FieldFault.TheVariants.{Hours}
use Rattle.tc_bits.specs.declared.flags.Flags.{Flags}
use Rattle.tc_bits.specs.Fields.{field_values, flags}
use Rattle.ltc_word.specs.declared.word.LtcWord.{LtcWord}
use Rattle.direction_reader.specs.declared.event.Event.TheVariants.{Word, Refused, Lost}
use Rattle.direction_reader.specs.declared.firm_event.FirmEvent.TheVariants.{Told, Alone}
use Rattle.flywheel.specs.declared.frame.Frame.TheVariants.{Heard, Invented, Gone}
use Rattle.hex.specs.Hex.{encode_with}
use Rattle.interval_file.specs.declared.header.FileVersion.TheVariants.{One}
use Rattle.interval_file.specs.declared.header.IntervalHeader.{IntervalHeader}
use Rattle.report_text.specs.FrameTexts.{fly_end_line, frame_line}
use Rattle.report_text.specs.Texts.{event_line, firm_event_line, read_end_line, speed_of}

of_system : System → IntervalHeader
of_system system = record { version = One; system = system; tick_rate = 48_000 }

-- ---- the speed: a word lasts a frame at 1,000

nominal : speed_of (of_system F25) 1_920 ≡ 1_000
unfolding of_system
nominal = refl

double : speed_of (of_system F25) 960 ≡ 2_000
unfolding of_system
double = refl

a_tick_longer : speed_of (of_system F25) 1_921 ≡ 999
unfolding of_system
a_tick_longer = refl

a_tick_shorter : speed_of (of_system F25) 1_919 ≡ 1_000
unfolding of_system
a_tick_shorter = refl

at_24 : speed_of (of_system F24) 2_000 ≡ 1_000
unfolding of_system
at_24 = refl

at_30 : speed_of (of_system F30) 1_600 ≡ 1_000
unfolding of_system
at_30 = refl

-- ---- the events of a reading

word_with : Address → Flags → Bool → LtcWord
word_with label flags balanced = record { fields = field_values label flags 0xdeadbee1; balanced = balanced }

a_word : event_line (of_system F25) (Word Forward (word_with (address C25 17 18 19 20)
    (flags false true false false false) true) 2_280 1_920)
    ≡ codes "word forward 17:18:19:20 user deadbee1 flags 01000 balance 1 tick 2280 length 1920 speed 1000\n"
unfolding of_system word_with digits encode_with
a_word = refl

-- drop-frame has a semicolon; the binary group flags are in the order 0, 1, 2
a_word_backward : event_line (of_system F30) (Word Backward (word_with (address Drop30 0 1 0 2)
    (flags true false true false true) false) 9 800)
    ≡ codes "word backward 00:01:00;02 user deadbee1 flags 10101 balance 0 tick 9 length 800 speed 2000\n"
unfolding of_system word_with digits encode_with
a_word_backward = refl

a_refused_word : event_line (of_system F25) (Refused Backward Hours 77) ≡ codes "refused backward hours tick 77\n"
unfolding of_system digits
a_refused_word = refl

a_word_that_is_alone : (word : LtcWord) → firm_event_line (of_system F25) (Alone Backward word 79 8)
    ≡ codes "refused backward alone tick 79\n"
unfolding of_system digits
a_word_that_is_alone word = refl

a_told_word : firm_event_line (of_system F25) (Told (Refused Backward Hours 77))
    ≡ codes "refused backward hours tick 77\n"
unfolding of_system digits
a_told_word = refl

a_break : event_line (of_system F25) (Lost 6 78) ≡ codes "lost interval 6 tick 78\n"
unfolding of_system digits
a_break = refl

the_end : read_end_line 5 4 3 2 1 ≡ codes "end intervals 5 words 4 refused 3 lost 2 ticks 1\n"
unfolding digits
the_end = refl

-- ---- the frames of a flywheel

a_heard_frame : frame_line (Heard (address C25 10 0 0 1) Forward true 60)
    ≡ codes "heard forward 10:00:00:01 joined 1 tick 60\n"
unfolding digits
a_heard_frame = refl

the_first_frame : frame_line (Heard (address C25 10 0 0 1) Backward false 60)
    ≡ codes "heard backward 10:00:00:01 joined 0 tick 60\n"
unfolding digits
the_first_frame = refl

an_invented_frame : frame_line (Invented (address C25 10 0 0 3) Forward 2 90)
    ≡ codes "invented forward 10:00:00:03 step 2 tick 90\n"
unfolding digits
an_invented_frame = refl

no_frame_more : frame_line (Gone 91) ≡ codes "gone tick 91\n"
unfolding digits
no_frame_more = refl

the_end_of_the_frames : fly_end_line 5 4 3 2 1 ≡ codes "end intervals 5 heard 4 invented 3 gone 2 ticks 1\n"
unfolding digits
the_end_of_the_frames = refl
