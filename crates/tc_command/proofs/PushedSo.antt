-- A push that failed leaves a front of what was written for a front of the input, wherever the engine had come.
use Rattle.std.proofs.Common.{ℕ, List, [], inl, inr, sym, append-nil}
use Rattle.std.specs.declared.option.Option.{Option}
use Rattle.std.specs.Io.KnownBytes.{Consumes}
use Rattle.tc_io.specs.Sink.{AppendsFront, IsFront}
use Rattle.tc_command.specs.declared.halt.Halt.{Halt}
use Rattle.tc_command.specs.declared.halt.Halt.TheVariants.{Refused, Limit}
use Rattle.tc_command.specs.declared.stop.Stop.TheVariants as stops
use Rattle.tc_command.specs.Halt.{IsHalt, stop_of}
use Rattle.tc_command.specs.Meaning.{Meaning}
use Rattle.tc_command.specs.Ran.{StoppedBefore}
use Rattle.tc_command.specs.Stops.{StopsAlong}

-- the whole is a front of itself
pub own_front : (bytes : List ℕ) → IsFront bytes bytes
own_front bytes = ([], sym (append-nil bytes))

-- at a push that failed
pub push_failed : (m : Meaning) (before left old new : Option (List ℕ)) (pulled front part : List ℕ)
    → Consumes before left pulled → IsFront front pulled → m.part front part → AppendsFront old new part
    → StoppedBefore m stops.WriteFault before left old new
push_failed m before left old new pulled front part consumed is has f =
    (pulled, f.0, consumed, f.2, inl (front, part, is, has, f.1))

-- where an engine halts it has written the part of a front
pub part_at_halt : (m : Meaning) (halt : Halt) (pulled written : List ℕ) → IsHalt m halt pulled written
    → (front : List ℕ) × IsFront front pulled × m.part front written
part_at_halt m (Refused fault) pulled written is = (pulled, own_front pulled, is.1)
part_at_halt m Limit pulled written (inl is) = (pulled, own_front pulled, is.1)
part_at_halt m Limit pulled written (inr is) = (is.0, is.1, is.3)

-- a stop where an engine halted
pub halted : (m : Meaning) (halt : Halt) (left : Option (List ℕ)) (pulled written : List ℕ)
    → IsHalt m halt pulled written → StopsAlong m (stop_of halt) left pulled written
halted m (Refused fault) left pulled written is = inl is
halted m Limit left pulled written is = is
