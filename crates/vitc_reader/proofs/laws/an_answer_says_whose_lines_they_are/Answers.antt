use Rattle.std.proofs.Common.{arith}
use Rattle.vitc_reader.proofs.LinesSaid.{answers}
use Rattle.vitc_reader.proofs.SaidLines.{LineLaws, says}
use Rattle.vitc_reader.proofs.laws.an_answer_says_whose_lines_they_are.Goals as goal

pub returns : goal.returns
returns c =
    let laws : LineLaws = record {
      spells = c.each_word_has_its_line.ensures.spells;
      one = c.spelling_is_exact.ensures.one_spelling;
    } in
    record {
      says = says laws;
      only = λ system n lines answer is.
          answers laws c.bits_spell_a_word_or_have_a_fault.ensures system n (omega (arith, is)) lines answer;
    }
