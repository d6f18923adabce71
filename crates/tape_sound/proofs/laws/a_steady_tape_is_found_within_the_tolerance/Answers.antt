use Rattle.tape_sound.proofs.FoundIsAChain.{bits_found, found_is_a_chain}
use Rattle.tape_sound.proofs.laws.a_steady_tape_is_found_within_the_tolerance.Goals as goal

pub returns-clause-chain : goal.returns-clause-chain
returns-clause-chain c = found_is_a_chain

pub returns-clause-bits : goal.returns-clause-bits
returns-clause-bits c = bits_found
