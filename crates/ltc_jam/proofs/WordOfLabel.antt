-- The word of a label has its spelling, since its flag agrees with its count.
use Rattle.std.proofs.Common.{◌^◌, ◌<◌, lit<}
use Rattle.ltc_jam.specs.WordLemmas.{flag_agrees}
use Rattle.tc_address.specs.Count.{system_with}
use Rattle.tc_address.specs.Label.{Address, IsLabel}
use Rattle.tc_bits.specs.Fields.{IsFields}
use Rattle.ltc_word.specs.declared.word.LtcWord.{LtcWord}
use Rattle.ltc_word.specs.Spelled.{spelling_of}
use Rattle.ltc_word.specs.Spelling.{Spells}
use Rattle.ltc_jam.specs.Word.{word_of}

abbrev pub EachIsSpelled : Type 0
EachIsSpelled = (word : LtcWord) → IsFields word.fields → word.fields.user < 2 ^ 32
    → Spells (system_with word.fields.label.count) word (spelling_of word)

pub word_spelled : EachIsSpelled → (label : Address) → IsLabel label
    → Spells (system_with label.count) (word_of label) (spelling_of (word_of label))
word_spelled law label valid = law (word_of label) (record { label = valid; flag = flag_agrees label.count }) (lit< tt)
