use Rattle.std.proofs.Common.{arith}
use Rattle.vitc_reader.proofs.OneAnswer.{one_answer}
use Rattle.vitc_reader.proofs.laws.lines_have_one_answer.Goals as goal

pub returns : goal.returns
returns c = λ system n lines a b valid x y.
    let least = valid.0 in
    one_answer c.spelling_is_exact.ensures.one_word c.spelling_is_exact.ensures.no_fault system n lines a b
    (omega (arith, least)) x y
