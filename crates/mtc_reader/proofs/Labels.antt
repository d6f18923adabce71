-- An address is a label, or has one first fault.
use Rattle.std.proofs.Common.{◌≡◌, false, arith}
use Rattle.std.proofs.lemmas.Bool.Decides.{nat_tests}
use Rattle.tc_address.specs.declared.label.LabelFault.{LabelFault}
use Rattle.tc_address.specs.declared.label.LabelFault.TheVariants.{Hours, Minutes, Seconds, Frames, Dropped}
use Rattle.tc_address.specs.Label.{Address, is_label, IsFirstFault}
use Rattle.mtc_reader.specs.Events.{fault_of}

pub no_label : (fault : LabelFault) (a : Address) → IsFirstFault fault a → is_label a ≡ false
no_label Hours a f = grind (arith, nat_tests)
no_label Minutes a f = grind (arith, nat_tests)
no_label Seconds a f = grind (arith, nat_tests)
no_label Frames a f = grind (arith, nat_tests)
no_label Dropped a f = grind (arith, nat_tests)

pub fault_is : (fault : LabelFault) (a : Address) → IsFirstFault fault a → fault_of a ≡ fault
fault_is Hours a f = grind (arith, nat_tests)
fault_is Minutes a f = grind (arith, nat_tests)
fault_is Seconds a f = grind (arith, nat_tests)
fault_is Frames a f = grind (arith, nat_tests)
fault_is Dropped a f = grind (arith, nat_tests)
