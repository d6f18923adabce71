use Rattle.std.proofs.Common.{◌≡◌, ◌++◌, ◌∷◌, [], List, ℕ, get_or, ap, subst, sym, ◌∙◌, arith}
use Rattle.mtc_reader.specs.StandsFor.{StandsFor}
use Rattle.mtc_reader.proofs.OneByteMore.{first_two}
use Rattle.lemmas.specs.Lists.{first_only}
use Rattle.mtc_reader.proofs.reader.MtcReader.next.Goals as goal

-- a quarter frame
pub returns-in-241-clause-stands : goal.returns-in-241-clause-stands
returns-in-241-clause-stands c = λ front stands.
    let bytes = c.args.bytes.now in
    let status : get_or bytes 0 0 ≡ 0xf1 = omega arith in
    subst (λ (l : List ℕ). StandsFor c.both.new.self (front ++ l))
    (ap (λ (b : ℕ). b ∷ get_or bytes 1 0 ∷ []) (sym status) ∙ first_two bytes c.in-241.len_at_least)
    (c.both.ensures.stands front stands)

-- any byte
pub returns-in_default-clause-stands : goal.returns-in_default-clause-stands
returns-in_default-clause-stands c = λ front stands.
    subst (λ (l : List ℕ). StandsFor c.byte.new.self (front ++ l)) (first_only c.args.bytes.now c.requires.some)
    (c.byte.ensures.stands front stands)
