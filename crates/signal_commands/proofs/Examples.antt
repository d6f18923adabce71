-- What is supposed in the promises of `mtc-read` and `pcm-ltc` can be met, and messages in bytes carry what is read.
use Rattle.std.proofs.Common.{◌≡◌, ℕ, List, [], ◌∷◌, ◌++◌, map, refl, arith}
use Rattle.std.specs.Prelude.{neg_ℤ}
use Rattle.pcm_front.specs.Samples.{samples_of}
use Rattle.tc_address.specs.declared.count.Count.TheVariants.{C30}
use Rattle.tc_address.specs.declared.direction.Direction.TheVariants.{Forward}
use Rattle.tc_address.specs.Label.{Address, IsLabel, address}
use Rattle.mtc_reader.specs.declared.event.MtcEvent.TheVariants.{Full, Quarter}
use Rattle.mtc_reader.specs.declared.message.Message.TheVariants.{QuarterFrame, FullMessage}
use Rattle.mtc_reader.specs.Spelled.{SpelledMessage, carried_by, placed}
use Rattle.signal_commands.specs.MtcRead.{IsRun, run_of}

-- ---- `mtc-read`: 01:37:52:16 at 30, forward, behind a note and before a tune request

abbrev sent : Address
sent = address C30 1 37 52 16

sent_is_a_label : IsLabel sent
sent_is_a_label = record {
  hours = omega arith;
  minutes = omega arith;
  seconds = omega arith;
  frames = omega arith;
  counted = refl;
}

it_is_a_run : IsRun 0x7f sent (sent ∷ [])
it_is_a_run = record { device_is = omega arith; first_is = sent_is_a_label; labels_are = (sent_is_a_label, tt) }

it_stands_between : 0x90 ∷ 0x40 ∷ 0x7f ∷ 0xf0 ∷ 0x7f ∷ 0x7f ∷ 0x01 ∷ 0x01 ∷ 0x61 ∷ 0x25 ∷ 0x34 ∷ 0x10 ∷ 0xf7
    ∷ 0xf1 ∷ 0x00 ∷ 0xf1 ∷ 0x11 ∷ 0xf1 ∷ 0x24 ∷ 0xf1 ∷ 0x33 ∷ 0xf1 ∷ 0x45 ∷ 0xf1 ∷ 0x52 ∷ 0xf1 ∷ 0x61 ∷ 0xf1 ∷ 0x76
    ∷ 0xf6 ∷ []
    ≡ (0x90 ∷ 0x40 ∷ 0x7f ∷ []) ++ (run_of Forward 0x7f sent (sent ∷ []) ++ 0xf6 ∷ [])
it_stands_between = refl

-- its messages, and what they carry
abbrev quarter : ℕ → SpelledMessage
quarter number = record { between = []; spelled = 0xf1 ∷ number ∷ []; message = QuarterFrame number }

abbrev its_messages : List SpelledMessage
its_messages =
    record {
      between = 0x90 ∷ 0x40 ∷ 0x7f ∷ [];
      spelled = 0xf0 ∷ 0x7f ∷ 0x7f ∷ 0x01 ∷ 0x01 ∷ 0x61 ∷ 0x25 ∷ 0x34 ∷ 0x10 ∷ 0xf7 ∷ [];
      message = FullMessage 0x61 0x25 0x34 0x10;
    }
    ∷ quarter 0x00 ∷ quarter 0x11 ∷ quarter 0x24 ∷ quarter 0x33 ∷ quarter 0x45 ∷ quarter 0x52 ∷ quarter 0x61
    ∷ quarter 0x76 ∷ []

they_carry_it : carried_by (placed 0 its_messages) ≡ Full sent 12 ∷ Quarter Forward sent 28 ∷ []
they_carry_it = refl

-- ---- `pcm-ltc`: the samples 1,000 and -1,000 turned over, each into its negative

turned_over : samples_of (0x18 ∷ 0xfc ∷ 0xe8 ∷ 0x03 ∷ []) ≡ map neg_ℤ (samples_of (0xe8 ∷ 0x03 ∷ 0x18 ∷ 0xfc ∷ []))
unfolding samples_of
turned_over = refl
