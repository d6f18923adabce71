use Rattle.std.proofs.Common.{refl, lit<}
use Rattle.std.specs.Int.RustNames.{count_ones}
use Rattle.ltc_word.proofs.CountedByBytes.{ones_in_bytes, even, odd}
use Rattle.ltc_word.proofs.OneSpelling.{spelled}
use Rattle.tc_bits.specs.FieldLemmas.{said}
use Rattle.ltc_word.proofs.laws.words_worked_out_by_hand.Goals as goal

pub returns-clause-first_at_24 : goal.returns-clause-first_at_24
unfolding count_ones ones_in_bytes
returns-clause-first_at_24 c =
    spelled c.fields_are_exact.ensures _ _ 0xbffcf1c9ec07bda866d3 (lit< tt) refl
    (said (lit< tt) (lit< tt) (lit< tt) (lit< tt) refl refl refl refl)
    (even 0xbffcf1c9ec07bda866d3 (lit< tt) refl)

pub returns-clause-first_at_25 : goal.returns-clause-first_at_25
unfolding count_ones ones_in_bytes
returns-clause-first_at_25 c =
    spelled c.fields_are_exact.ensures _ _ 0xbffcf9c9e407bda866d3 (lit< tt) refl
    (said (lit< tt) (lit< tt) (lit< tt) (lit< tt) refl refl refl refl)
    (even 0xbffcf9c9e407bda866d3 (lit< tt) refl)

pub returns-clause-second_at_25 : goal.returns-clause-second_at_25
unfolding count_ones ones_in_bytes
returns-clause-second_at_25 c =
    spelled c.fields_are_exact.ensures _ _ 0xbffcf5c9e407b5a86ad3 (lit< tt) refl
    (said (lit< tt) (lit< tt) (lit< tt) (lit< tt) refl refl refl refl)
    (odd 0xbffcf5c9e407b5a86ad3 (lit< tt) refl)

pub returns-clause-third_at_25 : goal.returns-clause-third_at_25
unfolding count_ones ones_in_bytes
returns-clause-third_at_25 c =
    spelled c.fields_are_exact.ensures _ _ 0xbffcf1c9ec07b5a86ed3 (lit< tt) refl
    (said (lit< tt) (lit< tt) (lit< tt) (lit< tt) refl refl refl refl)
    (even 0xbffcf1c9ec07b5a86ed3 (lit< tt) refl)

pub returns-clause-first_at_30 : goal.returns-clause-first_at_30
unfolding count_ones ones_in_bytes
returns-clause-first_at_30 c =
    spelled c.fields_are_exact.ensures _ _ 0xbffcf1c9ec07bda866d3 (lit< tt) refl
    (said (lit< tt) (lit< tt) (lit< tt) (lit< tt) refl refl refl refl)
    (even 0xbffcf1c9ec07bda866d3 (lit< tt) refl)

pub returns-clause-second_at_30 : goal.returns-clause-second_at_30
unfolding count_ones ones_in_bytes
returns-clause-second_at_30 c =
    spelled c.fields_are_exact.ensures _ _ 0xbffcf5c9e407b5a86ad3 (lit< tt) refl
    (said (lit< tt) (lit< tt) (lit< tt) (lit< tt) refl refl refl refl)
    (odd 0xbffcf5c9e407b5a86ad3 (lit< tt) refl)

pub returns-clause-third_at_30 : goal.returns-clause-third_at_30
unfolding count_ones ones_in_bytes
returns-clause-third_at_30 c =
    spelled c.fields_are_exact.ensures _ _ 0xbffcf9c9e407b5a86ed3 (lit< tt) refl
    (said (lit< tt) (lit< tt) (lit< tt) (lit< tt) refl refl refl refl)
    (even 0xbffcf9c9e407b5a86ed3 (lit< tt) refl)
