use Rattle.std.proofs.Common.{◌≡◌, Some, None, ap}
use Rattle.ltc_word.specs.declared.word.LtcWord.{LtcWord}
use Rattle.tc_c.proofs.OneWord.{as_ltc, as_vitc, means_as_ltc, one_word}
use Rattle.tc_c.proofs.word.TcWord.line_meaning.Goals as goal

-- numbers that mean a word of a line mean one of 80 bits
pub returns-in_err-word-clause-only : goal.returns-in_err-word-clause-only
returns-in_err-word-clause-only c = λ word says.
    let both : None ≡ Some (as_ltc word) = c.in_err-word.ensures.only (as_ltc word)
    (means_as_ltc c.args.self.now word says) in
    absurd cc

-- and they mean no other
pub returns-clause-only : goal.returns-clause-only
returns-clause-only c = λ word says.
    ap (λ (w : LtcWord). Some (as_vitc w))
    (one_word c.args.self.now c.in_ok-word.word (as_ltc word) c.in_ok-word.ensures.means
    (means_as_ltc c.args.self.now word says))
