use Rattle.std.proofs.Common.{refl, lit<}
use Rattle.vitc_line.specs.Fault.{wrong_sync_pair}
use Rattle.vitc_line.proofs.OneSpelling.{spelled, check_by_sums}
use Rattle.tc_bits.specs.FieldLemmas.{said}
use Rattle.vitc_line.proofs.laws.lines_of_a_round_label.Goals as goal

pub returns-clause-zero_at_30 : goal.returns-clause-zero_at_30
unfolding wrong_sync_pair
returns-clause-zero_at_30 c =
    spelled c.fields_are_exact.ensures _ _ 0x10100401004010040100401 (lit< tt) refl
    (check_by_sums 0x10100401004010040100401 refl refl refl refl refl refl refl refl)
    (said (lit< tt) (lit< tt) (lit< tt) (lit< tt) refl refl refl refl) refl

pub returns-clause-second_field_at_30 : goal.returns-clause-second_field_at_30
unfolding wrong_sync_pair
returns-clause-second_field_at_30 c =
    spelled c.fields_are_exact.ensures _ _ 0x10900401004010840100401 (lit< tt) refl
    (check_by_sums 0x10900401004010840100401 refl refl refl refl refl refl refl refl)
    (said (lit< tt) (lit< tt) (lit< tt) (lit< tt) refl refl refl refl) refl

pub returns-clause-second_field_at_25 : goal.returns-clause-second_field_at_25
unfolding wrong_sync_pair
returns-clause-second_field_at_25 c =
    spelled c.fields_are_exact.ensures _ _ 0x10908401004010040100401 (lit< tt) refl
    (check_by_sums 0x10908401004010040100401 refl refl refl refl refl refl refl refl)
    (said (lit< tt) (lit< tt) (lit< tt) (lit< tt) refl refl refl refl) refl
