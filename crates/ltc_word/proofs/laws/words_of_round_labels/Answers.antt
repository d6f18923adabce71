use Rattle.std.proofs.Common.{refl, lit<}
use Rattle.std.specs.Int.RustNames.{count_ones}
use Rattle.ltc_word.proofs.CountedByBytes.{ones_in_bytes, even, odd}
use Rattle.ltc_word.proofs.OneSpelling.{spelled}
use Rattle.tc_bits.specs.FieldLemmas.{said}
use Rattle.ltc_word.proofs.laws.words_of_round_labels.Goals as goal

pub returns-clause-zero_at_30 : goal.returns-clause-zero_at_30
unfolding count_ones ones_in_bytes
returns-clause-zero_at_30 c =
    spelled c.fields_are_exact.ensures _ _ 0xbffc0000000008000000 (lit< tt) refl
    (said (lit< tt) (lit< tt) (lit< tt) (lit< tt) refl refl refl refl)
    (even 0xbffc0000000008000000 (lit< tt) refl)

pub returns-clause-zero_at_25 : goal.returns-clause-zero_at_25
unfolding count_ones ones_in_bytes
returns-clause-zero_at_25 c =
    spelled c.fields_are_exact.ensures _ _ 0xbffc0800000000000000 (lit< tt) refl
    (said (lit< tt) (lit< tt) (lit< tt) (lit< tt) refl refl refl refl)
    (even 0xbffc0800000000000000 (lit< tt) refl)

pub returns-clause-unbalanced : goal.returns-clause-unbalanced
unfolding count_ones ones_in_bytes
returns-clause-unbalanced c =
    spelled c.fields_are_exact.ensures _ _ 0xbffc0000000000000000 (lit< tt) refl
    (said (lit< tt) (lit< tt) (lit< tt) (lit< tt) refl refl refl refl)
    (odd 0xbffc0000000000000000 (lit< tt) refl)

pub returns-clause-one_hour : goal.returns-clause-one_hour
unfolding count_ones ones_in_bytes
returns-clause-one_hour c =
    spelled c.fields_are_exact.ensures _ _ 0xbffc0001000008000400 (lit< tt) refl
    (said (lit< tt) (lit< tt) (lit< tt) (lit< tt) refl refl refl refl)
    (even 0xbffc0001000008000400 (lit< tt) refl)
