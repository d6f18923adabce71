-- A line of `help`, as the manual has it, and a line of `number`.
use Rattle.std.proofs.Common.{◌≡◌, refl}
use Rattle.std.specs.Prelude.{codes}
use Rattle.std.specs.Fmt.{digits}
use Rattle.made_commands.specs.About.{usage_line}
use Rattle.made_commands.specs.Labels.{number_line}

a_usage : usage_line (codes "ltc-fly", codes " LIMIT [worn|rough [firm]]") ≡ codes "ltc-fly LIMIT [worn|rough [firm]]\n"
a_usage = refl

a_number : number_line 90_000 ≡ codes "90000\n"
unfolding digits
a_number = refl
