use Rattle.std.proofs.Common.{refl, lit<}
use Rattle.vitc_line.specs.Fault.{wrong_sync_pair}
use Rattle.vitc_line.proofs.OneSpelling.{spelled, check_by_sums}
use Rattle.tc_bits.specs.FieldLemmas.{said}
use Rattle.vitc_line.proofs.laws.lines_worked_out_by_hand.Goals as goal

pub returns-clause-first_at_25 : goal.returns-clause-first_at_25
unfolding wrong_sync_pair
returns-clause-first_at_25 c =
    spelled c.fields_are_exact.ensures _ _ 0x265f9725e441dbd6a16674d (lit< tt) refl
    (check_by_sums 0x265f9725e441dbd6a16674d refl refl refl refl refl refl refl refl)
    (said (lit< tt) (lit< tt) (lit< tt) (lit< tt) refl refl refl refl) refl

pub returns-clause-second_at_25 : goal.returns-clause-second_at_25
unfolding wrong_sync_pair
returns-clause-second_at_25 c =
    spelled c.fields_are_exact.ensures _ _ 0x2a9fd725e441db56a16a74d (lit< tt) refl
    (check_by_sums 0x2a9fd725e441db56a16a74d refl refl refl refl refl refl refl refl)
    (said (lit< tt) (lit< tt) (lit< tt) (lit< tt) refl refl refl refl) refl

pub returns-clause-third_at_25 : goal.returns-clause-third_at_25
unfolding wrong_sync_pair
returns-clause-third_at_25 c =
    spelled c.fields_are_exact.ensures _ _ 0x265f1725ec41db56a16e74d (lit< tt) refl
    (check_by_sums 0x265f1725ec41db56a16e74d refl refl refl refl refl refl refl refl)
    (said (lit< tt) (lit< tt) (lit< tt) (lit< tt) refl refl refl refl) refl

pub returns-clause-first_at_30 : goal.returns-clause-first_at_30
unfolding wrong_sync_pair
returns-clause-first_at_30 c =
    spelled c.fields_are_exact.ensures _ _ 0x2edf1725ec41dbd6a16674d (lit< tt) refl
    (check_by_sums 0x2edf1725ec41dbd6a16674d refl refl refl refl refl refl refl refl)
    (said (lit< tt) (lit< tt) (lit< tt) (lit< tt) refl refl refl refl) refl

pub returns-clause-second_at_30 : goal.returns-clause-second_at_30
unfolding wrong_sync_pair
returns-clause-second_at_30 c =
    spelled c.fields_are_exact.ensures _ _ 0x2a9f5725e441dbd6a16a74d (lit< tt) refl
    (check_by_sums 0x2a9f5725e441dbd6a16a74d refl refl refl refl refl refl refl refl)
    (said (lit< tt) (lit< tt) (lit< tt) (lit< tt) refl refl refl refl) refl

pub returns-clause-third_at_30 : goal.returns-clause-third_at_30
unfolding wrong_sync_pair
returns-clause-third_at_30 c =
    spelled c.fields_are_exact.ensures _ _ 0x2edf9725e441db56a16e74d (lit< tt) refl
    (check_by_sums 0x2edf9725e441db56a16e74d refl refl refl refl refl refl refl refl)
    (said (lit< tt) (lit< tt) (lit< tt) (lit< tt) refl refl refl refl) refl
