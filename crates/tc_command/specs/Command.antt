-- What holds of every command, whatever it reads. It is proved once for each shape of a command.
use Rattle.std.specs.Prelude.{◌≡◌, ℕ, false, IsTrue, List, [], ◌++◌, Some}
use Rattle.tc_command.specs.declared.input_fault.InputFault.{InputFault}
use Rattle.tc_io.specs.Verdict.{refused, past_limit}
use Rattle.tc_io.specs.Sink.{IsFront}
use Rattle.tc_command.specs.declared.status.Status.TheVariants as status
use Rattle.tc_command.specs.ComesFirst.{ComesFirst}
use Rattle.tc_command.specs.Meaning.{Meaning, IsInput, IsOutput}
use Rattle.tc_command.specs.WholeInput.{HasStatus}

-- what holds of the meaning of every command
pub record IsCommand (m : Meaning) : Type 0 where
  -- what is written of some bytes comes first in what is written of more, and a limit of its own that is passed stays
  -- so
  pub first : ComesFirst m
  -- all bytes have a part, and each input has an output
  pub some_part : (bytes : List ℕ) → (written : List ℕ) × m.part bytes written
  pub some_output : (input : List ℕ) → IsInput m input → (whole : List ℕ) × IsOutput m input whole
  -- and no bytes have another part, and no input another output
  pub one_part : (bytes a b : List ℕ) → m.part bytes a → m.part bytes b → a ≡ b
  pub one_output : (input a b : List ℕ) → m.output input a → m.output input b → a ≡ b
  -- a fault and the limit of its grammar stay, whatever bytes follow
  pub fault : (front rest : List ℕ) (f : InputFault) → m.verdict front ≡ refused f
      → m.verdict (front ++ rest) ≡ refused f
  pub limit : (front rest : List ℕ) → m.verdict front ≡ past_limit → m.verdict (front ++ rest) ≡ past_limit
  -- and behind these a limit of its own is not passed any more
  pub fault_unspent : (front rest : List ℕ) (f : InputFault) → m.verdict front ≡ refused f → m.spent (front ++ rest)
      → m.spent front
  pub limit_unspent : (front rest : List ℕ) → m.verdict front ≡ past_limit → m.spent (front ++ rest) → m.spent front
  -- only an input has a fault at its end
  pub ends : (bytes : List ℕ) (f : InputFault) → m.end_fault bytes ≡ Some f → IsTrue m.reads
  -- if it reads nothing, it is done on any input, and what it writes is the output of no bytes, or a front of that
  pub idle : m.reads ≡ false → (all : List ℕ) → HasStatus m all status.Done
  pub idle_part : m.reads ≡ false → (bytes a b : List ℕ) → m.part bytes a → m.output [] b → IsFront a b
  pub idle_output : m.reads ≡ false → (bytes a b : List ℕ) → m.output bytes a → m.output [] b → a ≡ b
