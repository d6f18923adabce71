use Rattle.std.proofs.Common.{arith, refl}
use Rattle.std.proofs.lemmas.Grind.{common_steps}
use Rattle.std.proofs.Common.{◌≡◌, true}
use Rattle.std.specs.Prelude.{nat_lt}
use Rattle.direction_reader.proofs.FirmJudges.{all_firm}
use Rattle.direction_reader.proofs.FirmWindows.{not_yet}
use Rattle.direction_reader.proofs.firm_laws.a_word_beside_another_is_told.Goals as goal

pub returns-clause-told : goal.returns-clause-told
returns-clause-told c = λ system tick k cells direction firm. rw firm (all_firm _)

pub returns-clause-first : goal.returns-clause-first
returns-clause-first c = λ cells k few. let test : nat_lt k 16 ≡ true = grind (arith, common_steps) in rw test refl

pub returns-clause-last : goal.returns-clause-last
returns-clause-last c = not_yet
