-- Messages, read by the definitions.
use Rattle.std.proofs.Common.{◌≡◌, [], ◌∷◌, refl}
use Rattle.tc_address.specs.declared.count.Count.TheVariants.{C24, C25, C30, Drop30}
use Rattle.tc_address.specs.declared.direction.Direction.TheVariants.{Forward, Backward}
use Rattle.tc_address.specs.declared.label.LabelFault.TheVariants as faults
use Rattle.tc_address.specs.Label.{address}
use Rattle.mtc_reader.specs.declared.event.MtcEvent.TheVariants.{Full, Quarter, RefusedFull}
use Rattle.mtc_reader.specs.Events.{events_in}

-- a full message and eight quarter frames of 01:37:52:16 at 30
forward : events_in (0xf0 ∷ 0x7f ∷ 0x7f ∷ 0x01 ∷ 0x01 ∷ 0x61 ∷ 0x25 ∷ 0x34 ∷ 0x10 ∷ 0xf7
    ∷ 0xf1 ∷ 0x00 ∷ 0xf1 ∷ 0x11 ∷ 0xf1 ∷ 0x24 ∷ 0xf1 ∷ 0x33
    ∷ 0xf1 ∷ 0x45 ∷ 0xf1 ∷ 0x52 ∷ 0xf1 ∷ 0x61 ∷ 0xf1 ∷ 0x76 ∷ [])
    ≡ Full (address C30 1 37 52 16) 9 ∷ Quarter Forward (address C30 1 37 52 16) 25 ∷ []
forward = refl

-- seconds above 59
refused : events_in (0xf0 ∷ 0x7f ∷ 0x7f ∷ 0x01 ∷ 0x01 ∷ 0x61 ∷ 0x25 ∷ 0x3c ∷ 0x10 ∷ 0xf7 ∷ []) ≡ RefusedFull
    faults.Seconds 9 ∷ []
refused = refl

-- the eight quarter frames of 15:08:00:02 at 24, made by mido 1.2.10, backward, and a real-time byte inside the last
-- one
backward : events_in (0xf1 ∷ 0x70 ∷ 0xf1 ∷ 0x6f ∷ 0xf1 ∷ 0x50 ∷ 0xf1 ∷ 0x48 ∷ 0xf1 ∷ 0x30 ∷ 0xf1 ∷ 0x20 ∷ 0xf1 ∷ 0x10
    ∷ 0xf1 ∷ 0xf8 ∷ 0x02 ∷ [])
    ≡ Quarter Backward (address C24 15 8 0 2) 16 ∷ []
backward = refl

-- the code of each count, in bits 5 and 6 of the hours (MIDI 1.0 Detailed Specification, "full message")
count_24 : events_in (0xf0 ∷ 0x7f ∷ 0x7f ∷ 0x01 ∷ 0x01 ∷ 0x0a ∷ 0 ∷ 0 ∷ 0 ∷ 0xf7 ∷ []) ≡ Full (address C24 10 0 0 0) 9
    ∷ []
count_24 = refl

count_25 : events_in (0xf0 ∷ 0x7f ∷ 0x7f ∷ 0x01 ∷ 0x01 ∷ 0x2a ∷ 0 ∷ 0 ∷ 0 ∷ 0xf7 ∷ []) ≡ Full (address C25 10 0 0 0) 9
    ∷ []
count_25 = refl

count_30_drop : events_in (0xf0 ∷ 0x7f ∷ 0x7f ∷ 0x01 ∷ 0x01 ∷ 0x4a ∷ 0 ∷ 0 ∷ 0 ∷ 0xf7 ∷ [])
    ≡ Full (address Drop30 10 0 0 0) 9 ∷ []
count_30_drop = refl

count_30 : events_in (0xf0 ∷ 0x7f ∷ 0x7f ∷ 0x01 ∷ 0x01 ∷ 0x6a ∷ 0 ∷ 0 ∷ 0 ∷ 0xf7 ∷ []) ≡ Full (address C30 10 0 0 0) 9
    ∷ []
count_30 = refl
