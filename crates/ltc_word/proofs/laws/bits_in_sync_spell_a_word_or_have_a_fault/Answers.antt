use Rattle.ltc_word.proofs.SpellsOrFaulty.{word_or_fault}
use Rattle.ltc_word.proofs.laws.bits_in_sync_spell_a_word_or_have_a_fault.Goals as goal

pub returns : goal.returns
returns c = word_or_fault c.fields_are_exact.ensures c.digits_are_exact.ensures.some
