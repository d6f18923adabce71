use Rattle.std.proofs.Common.{arith}
use Rattle.vitc_reader.proofs.AnswersExist.{an_answer}
use Rattle.vitc_reader.proofs.laws.lines_have_an_answer.Goals as goal

pub returns : goal.returns
returns c = λ system n lines valid.
    let least = valid.0 in
    an_answer c.bits_spell_a_word_or_have_a_fault.ensures system n lines (omega (arith, least))
