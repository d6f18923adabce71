-- What is left of an input behind what was pulled of it, and what follows from a stop. No promise speaks of it.
use Rattle.std.proofs.Common.{◌≡◌, ℕ, List, ◌++◌, append-nil}
use Rattle.std.proofs.Common.{inr, sym, ◌∙◌, ap}
use Rattle.std.specs.Prelude.{OnOk, OnErr, IfErr, Ok, Err, Some, None}
use Rattle.std.specs.declared.result.Result.{Result}
use Rattle.std.specs.declared.option.Option.{Option}
use Rattle.std.specs.Io.KnownBytes.{Consumes, IsAtEnd, Keeps}
use Rattle.tc_command.specs.Meaning.{Meaning}
use Rattle.tc_command.specs.declared.stop.Stop.{Stop}
use Rattle.tc_command.specs.declared.stop.Stop.TheVariants.{Refused, ReadFault, WriteFault, Limit}
use Rattle.tc_command.specs.Stops.{IsEndStop, StopsAlong}

-- what is said of a stop
pub at_err : {P : Type 0} (result : Result (Unit {0}) Stop) → P → OnErr result P
at_err (Ok done) says = tt
at_err (Err stop) says = says

-- what follows from what is said of a stop
pub if_err : {P Q : Stop → Type 0} (result : Result (Unit {0}) Stop) → IfErr result P
    → ((stop : Stop) → P stop → Q stop) → IfErr result Q
if_err (Ok done) says to = tt
if_err (Err stop) says to = to stop says

-- and of an end
pub if_ok : {P Q R : Type 0} (result : Result (Unit {0}) Stop) → OnOk result P → OnOk result Q → (P → Q → R)
    → OnOk result R
if_ok (Ok done) says also to = to says also
if_ok (Err stop) says also to = tt

-- a pull that failed took nothing
pub still_consumed : (a b c : Option (List ℕ)) (bytes : List ℕ) → Consumes a b bytes → Keeps b c → Consumes a c bytes
still_consumed None b c bytes consumed kept = tt
still_consumed (Some xs) None c bytes consumed kept = absurd consumed
still_consumed (Some xs) (Some ys) None bytes consumed kept = absurd kept
still_consumed (Some xs) (Some ys) (Some zs) bytes consumed kept = consumed ∙ ap (λ (l : List ℕ). bytes ++ l) (sym kept)

-- a stop at the end of the input is one of the stops along it
pub along_at_end : (m : Meaning) (stop : Stop) (left : Option (List ℕ)) (bytes output : List ℕ) → IsAtEnd left
    → IsEndStop m stop bytes output → StopsAlong m stop left bytes output
along_at_end m (Refused fault) left bytes output end is = inr ((λ reads. end), is)
along_at_end m ReadFault left bytes output end is = absurd is
along_at_end m WriteFault left bytes output end is = inr ((λ reads. end), is)
along_at_end m Limit left bytes output end is = absurd is

-- what was consumed is a front
pub front_of_all : (all bytes : List ℕ) (left : Option (List ℕ)) → Consumes (Some all) left bytes
    → (more : List ℕ) × (all ≡ bytes ++ more)
front_of_all all bytes None consumed = absurd consumed
front_of_all all bytes (Some more) consumed = (more, consumed)

-- and all of it at the end
pub all_at_end : (all bytes : List ℕ) (left : Option (List ℕ)) → Consumes (Some all) left bytes → IsAtEnd left
    → all ≡ bytes
all_at_end all bytes None consumed ended = absurd consumed
all_at_end all bytes (Some more) consumed ended = consumed ∙ ap (λ (l : List ℕ). bytes ++ l) ended ∙ append-nil bytes
