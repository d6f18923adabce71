-- A command is worked as its way along the input, or to the output, went.
use Rattle.std.proofs.Common.{◌≡◌, ℕ, List, [], true, refl, inr}
use Rattle.std.proofs.lemmas.Bool.{false≢true}
use Rattle.std.proofs.KnownBytes.{Consumes-nil}
use Rattle.std.specs.Prelude.{OnOk, OnErr, IfErr, Ok, Err}
use Rattle.std.specs.Io.KnownBytes.{Appends}
use Rattle.std.specs.declared.option.Option.{Option}
use Rattle.std.specs.declared.result.Result.{Result}
use Rattle.tc_io.specs.Sink.{AppendsFront}
use Rattle.tc_command.specs.declared.stop.Stop.{Stop}
use Rattle.tc_command.specs.declared.stop.Stop.TheVariants.{WriteFault}
use Rattle.tc_command.specs.Causes.{HasSourceCause, HasOutCause}
use Rattle.tc_command.specs.Ends.{SeesOneEnd}
use Rattle.tc_command.specs.Meaning.{Meaning, writes}
use Rattle.tc_command.specs.Ran.{CameToItsEnd, StoppedBefore}
use Rattle.tc_command.specs.Worked.{IsWorked}

-- one that reads
pub reads_worked : {S K : Type 0} (m : Meaning) (left : S → Option (List ℕ)) (ends pulls_failed : S → ℕ)
    (taken : K → Option (List ℕ)) (pushes_failed : K → ℕ) (source now : S) (out out_now : K)
    (result : Result (Unit {0}) Stop) → m.reads ≡ true
    → OnOk result (CameToItsEnd m (left source) (left now) (taken out) (taken out_now))
    → IfErr result (λ stop. StoppedBefore m stop (left source) (left now) (taken out) (taken out_now))
    → HasSourceCause (pulls_failed source) (pulls_failed now) result
    → SeesOneEnd (ends source) (ends now) result
    → HasOutCause (pushes_failed out) (pushes_failed out_now) result
    → IsWorked m left ends pulls_failed taken pushes_failed source now out out_now result
reads_worked m left ends pulls_failed taken pushes_failed source now out out_now result reads came stopped pulled seen
    pushed =
    record {
      ends = came;
      stops = stopped;
      source = pulled;
      out = pushed;
      once = λ none. rw reads (seen none);
      idle = λ no_input. absurd cc;
      writes = λ no_input. absurd cc;
    }

-- a failed push is no fault of the source
no_read : (count : ℕ) (result : Result (Unit {0}) Stop) → IfErr result (λ stop. stop ≡ WriteFault)
    → HasSourceCause count count result
no_read count (Ok done) why = refl
no_read count (Err stop) why = rw why refl

-- the whole text was pushed, or a front of it
text_ends : (text : List ℕ) (left old new : Option (List ℕ)) (result : Result (Unit {0}) Stop)
    → OnOk result (Appends old new text) → OnOk result (CameToItsEnd (writes text) left left old new)
text_ends text left old new (Ok done) all = (
  [],
  text,
  Consumes-nil _,
  all,
  tt,
  (λ reads. absurd (false≢true reads)),
  record { verdict = refl; unspent = λ spent. spent; end = refl },
  (refl, refl),
)
text_ends text left old new (Err stop) all = tt

text_stops : (text : List ℕ) (left old new : Option (List ℕ)) (result : Result (Unit {0}) Stop)
    → IfErr result (λ stop. stop ≡ WriteFault) → OnErr result (AppendsFront old new text)
    → IfErr result (λ stop. StoppedBefore (writes text) stop left left old new)
text_stops text left old new (Ok done) why front = tt
text_stops text left old new (Err stop) why front = (
  [],
  front.0,
  Consumes-nil _,
  front.2,
  rw why (inr (
    (λ reads. absurd (false≢true reads)),
    (record { verdict = refl; unspent = λ spent. spent; end = refl }, (_, (refl, refl), front.1)),
  )),
)

-- one that writes a text and leaves the source
pub text_worked : {S K : Type 0} (text : List ℕ) (left : S → Option (List ℕ)) (ends pulls_failed : S → ℕ)
    (taken : K → Option (List ℕ)) (pushes_failed : K → ℕ) (source : S) (out out_now : K)
    (result : Result (Unit {0}) Stop)
    → OnOk result (Appends (taken out) (taken out_now) text)
    → OnErr result (AppendsFront (taken out) (taken out_now) text)
    → IfErr result (λ stop. stop ≡ WriteFault)
    → HasOutCause (pushes_failed out) (pushes_failed out_now) result
    → IsWorked (writes text) left ends pulls_failed taken pushes_failed source source out out_now result
text_worked text left ends pulls_failed taken pushes_failed source out out_now result all front why pushed = record {
  ends = text_ends text (left source) (taken out) (taken out_now) result all;
  stops = text_stops text (left source) (taken out) (taken out_now) result why front;
  source = no_read (pulls_failed source) result why;
  out = pushed;
  once = λ none. none;
  idle = λ no_input. refl;
  writes = λ no_input. why;
}
