use Rattle.tc_address.specs.Spelling.{IsGoodBelow}
use Rattle.tc_address.proofs.spelling.first_wrong_place.Given as goal

abbrev pub invariant-loop-place : goal.invariant-loop-place
invariant-loop-place l = IsGoodBelow l.count l.text l.place
