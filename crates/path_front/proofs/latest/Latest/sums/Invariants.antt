use Rattle.path_front.specs.Latest.{AreSums}
use Rattle.path_front.proofs.latest.Latest.sums.Given as goal

abbrev pub invariant-loop-place : goal.invariant-loop-place
invariant-loop-place l = AreSums l.self l.ago l.place (record { sum = l.sum; squares = l.squares })
