use Rattle.std.proofs.Common.{refl, lit<}
use Rattle.tc_address.specs.declared.count.Count.TheVariants.{C25, C30, Drop30}
use Rattle.tc_address.specs.declared.system.System.TheVariants.{F25, F30}
use Rattle.tc_address.specs.Label.{address, IsLabel}
use Rattle.ltc_jam.specs.Word.{word_of}
use Rattle.ltc_jam.proofs.laws.words_of_round_labels_are_written_so.Goals as goal

zero_at_30 : IsLabel (address C30 0 0 0 0)
zero_at_30 = record { hours = lit< tt; minutes = lit< tt; seconds = lit< tt; frames = lit< tt; counted = refl }

zero_at_25 : IsLabel (address C25 0 0 0 0)
zero_at_25 = record { hours = lit< tt; minutes = lit< tt; seconds = lit< tt; frames = lit< tt; counted = refl }

one_hour : IsLabel (address Drop30 1 0 0 0)
one_hour = record { hours = lit< tt; minutes = lit< tt; seconds = lit< tt; frames = lit< tt; counted = refl }

-- the word of the label is the one whose bits are written out, and has one spelling
pub returns-clause-zero_at_30 : goal.returns-clause-zero_at_30
returns-clause-zero_at_30 c =
    c.spelling_is_exact.ensures.one_spelling F30 (word_of (address C30 0 0 0 0)) _ _
    (c.words_of_labels_are_spelled.ensures _ zero_at_30)
    c.words_of_round_labels.ensures.zero_at_30

pub returns-clause-zero_at_25 : goal.returns-clause-zero_at_25
returns-clause-zero_at_25 c =
    c.spelling_is_exact.ensures.one_spelling F25 (word_of (address C25 0 0 0 0)) _ _
    (c.words_of_labels_are_spelled.ensures _ zero_at_25)
    c.words_of_round_labels.ensures.zero_at_25

pub returns-clause-one_hour : goal.returns-clause-one_hour
returns-clause-one_hour c =
    c.spelling_is_exact.ensures.one_spelling F30 (word_of (address Drop30 1 0 0 0)) _ _
    (c.words_of_labels_are_spelled.ensures _ one_hour)
    c.words_of_round_labels.ensures.one_hour
