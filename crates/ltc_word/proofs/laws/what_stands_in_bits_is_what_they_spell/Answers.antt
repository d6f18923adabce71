use Rattle.ltc_word.proofs.WhatStandsThere.{stands, no_fault_there, the_word_there, the_fault_there, first_there}
use Rattle.ltc_word.proofs.laws.what_stands_in_bits_is_what_they_spell.Goals as goal

pub returns-clause-word : goal.returns-clause-word
returns-clause-word c = λ system word bits s. (
  no_fault_there c.fields_are_exact.ensures c.digits_are_exact.ensures.no_fault system word bits s,
  the_word_there c.fields_are_exact.ensures c.digits_are_exact.ensures.these c.digits_are_exact.ensures.no_fault
      c.digits_are_exact.ensures.one system word bits s,
)

pub returns-clause-spells : goal.returns-clause-spells
returns-clause-spells c = stands c.fields_are_exact.ensures c.digits_are_exact.ensures.these

pub returns-clause-fault : goal.returns-clause-fault
returns-clause-fault c = the_fault_there

pub returns-clause-first : goal.returns-clause-first
returns-clause-first c = first_there
