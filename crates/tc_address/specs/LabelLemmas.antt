-- What holds of systems and labels, for the proofs of the crates above. No promise speaks of it.
use Rattle.std.proofs.Common.{◌≡◌, ◌≤◌, true, arith}
use Rattle.std.proofs.lemmas.Bool.Decides.{nat_tests}
use Rattle.tc_address.specs.declared.system.System.{System}
use Rattle.tc_address.specs.declared.system.System.TheVariants.{F24, F25, F30}
use Rattle.tc_address.specs.Count.{rate_of}
use Rattle.tc_address.specs.Label.{Address, IsLabel, is_label}

-- a system has 30 frames a second at most
pub rate_within : (system : System) → rate_of system ≤ 30
rate_within F24 = omega arith
rate_within F25 = omega arith
rate_within F30 = omega arith

-- an address that is a label passes the test
pub label_is : (a : Address) → IsLabel a → is_label a ≡ true
label_is a l =
    let counted = l.counted in
    grind (arith, nat_tests)

-- an address that passes the test is a label
pub label_by_test : (a : Address) → is_label a ≡ true → IsLabel a
label_by_test a e = record {
  hours = grind (arith, nat_tests);
  minutes = grind (arith, nat_tests);
  seconds = grind (arith, nat_tests);
  frames = grind (arith, nat_tests);
  counted = grind (arith, nat_tests);
}
