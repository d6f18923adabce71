-- The calls of the sources and sinks in memory, computed where a count or a number is at its edge.
use Rattle.std.proofs.Common.{◌≡◌, ◌-◌, ◌^◌, [], ◌∷◌, Ok, Err, refl, arith, lit≤}
use Rattle.tc_io.specs.declared.failed.Failed.{Failed}
use Rattle.tc_io.specs.Source.{ends_after, one_more, Rose}
use Rattle.tc_io.specs.Memory.{piece_of, after_pull, new_source, push_answer, new_sink}

-- a count stops at its last value, and a failure there still has its cause
pub the_last_count : one_more (2 ^ 64 - 1) ≡ 2 ^ 64 - 1
the_last_count = refl

pub Rose-last : Rose (2 ^ 64 - 1) (2 ^ 64 - 1)
Rose-last = lit≤ tt

-- a failure that is not counted has no cause
pub not_rose : ¬ Rose 4 4
not_rose h = omega arith

-- the pieces go round, and a piece of 0 counts as 1
pub pieces_round : piece_of (3 ∷ 0 ∷ []) 4 10 ≡ 3
pieces_round = refl

pub piece_of_nothing : piece_of (3 ∷ 0 ∷ []) 5 10 ≡ 1
piece_of_nothing = refl

-- the first call has the number 1
pub first_call : after_pull (new_source (97 ∷ []) [] (1 ∷ [])) 2
    ≡ record { left = 97 ∷ []; pieces = []; failing = 1 ∷ []; calls = 1; pulls = 0; faults = 1; ends = 0 }
first_call = refl

-- a sink without room takes an empty piece
pub nothing_fits : push_answer (new_sink 0 []) 0 ≡ Ok 0
nothing_fits = refl

-- the pull that comes to the end is counted, and each behind it; no byte into no room is no end, and no failure is
pub the_end : ends_after {E = Failed} 0 (Ok 0) 4 ≡ 1
the_end = refl

pub behind_the_end : ends_after {E = Failed} 1 (Ok 3) 4 ≡ 2
behind_the_end = refl

pub no_room : ends_after {E = Failed} 0 (Ok 0) 0 ≡ 0
no_room = refl

pub a_failure : ends_after {E = Failed} 0 (Err (record {})) 4 ≡ 0
a_failure = refl
