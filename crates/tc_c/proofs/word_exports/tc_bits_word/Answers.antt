use Rattle.std.proofs.Common.{ℕ, refl, subst, sym, arith}
use Rattle.tc_address.specs.declared.system.System.{System}
use Rattle.ltc_word.specs.Spelling.{Spells}
use Rattle.tc_c.specs.CWord.{number_of_bits}
use Rattle.tc_c.proofs.OneWord.{same_system}
use Rattle.tc_c.proofs.word_exports.tc_bits_word.Goals as goal

-- the system is the one that the number names, and the bits are those that were read
pub returns-in-Some-eighty-clause-reads : goal.returns-in-Some-eighty-clause-reads
returns-in-Some-eighty-clause-reads c = λ s w named below spells.
    let bits = number_of_bits c.args.bits.now in
    let here : Spells c.in-Some.system w bits =
    subst (λ (t : System). Spells t w bits) (sym (same_system _ s (c.in-Some.ensures.only s named))) spells in
    c.read_word.ensures.reads w (subst (λ (n : ℕ). Spells c.in-Some.system w n) (sym c.in-Some-eighty.ensures.is) here)

-- a bit above the 80 is set
pub returns-in-None-clause-reads : goal.returns-in-None-clause-reads
returns-in-None-clause-reads c = λ s w named below spells.
    absurd (omega (arith, below, c.in-None.ensures.none refl))
