-- What a command takes and what it writes.
use Rattle.std.specs.Prelude.{◌≡◌, ℕ, Bool, false, IsTrue, if◌then◌else◌, List, [], Option, None}
use Rattle.std.specs.Io.KnownBytes.{IsAtEnd}
use Rattle.tc_command.specs.declared.input_fault.InputFault.{InputFault}
use Rattle.tc_io.specs.Verdict.{Verdict, good}

-- what a command takes and what it writes, as statements of the bytes pulled so far and of those written
pub record Meaning : Type 1 where
  -- it pulls an input
  pub reads : Bool
  -- what its grammar and its limit make of bytes, whatever follows them
  pub verdict : List ℕ → Verdict InputFault
  -- the fault of an input that ends with these bytes, if they are good
  pub end_fault : List ℕ → Option InputFault
  -- these bytes pass a limit of the command's own, whatever follows them
  pub spent : List ℕ → Type 0
  -- what is written of bytes before their end
  pub part : List ℕ → List ℕ → Type 0
  -- what is written of a whole input
  pub output : List ℕ → List ℕ → Type 0

-- a command that reads nothing and writes this
abbrev pub writes : List ℕ → Meaning
writes text = record {
  reads = false;
  verdict = λ bytes. good;
  end_fault = λ bytes. None;
  spent = λ bytes. ⊥;
  part = λ bytes written. written ≡ [];
  output = λ bytes written. (bytes ≡ []) × (written ≡ text);
}

-- what the bytes show, where they do not pass a limit of the command's own: that comes before a fault and before the
-- limit of the grammar
pub record Shows (m : Meaning) (verdict : Verdict InputFault) (bytes : List ℕ) : Type 0 where
  pub is : m.verdict bytes ≡ verdict
  pub unspent : ¬ m.spent bytes

-- the bytes are an input of the command
pub record IsInput (m : Meaning) (bytes : List ℕ) : Type 0 where
  pub verdict : m.verdict bytes ≡ good
  pub unspent : ¬ m.spent bytes
  pub end : m.end_fault bytes ≡ None

-- the output of a whole input; a command that reads none has one output
abbrev pub IsOutput : Meaning → List ℕ → List ℕ → Type 0
IsOutput m input whole = m.output (if m.reads then input else []) whole

-- the command is at its end where nothing is left of its input; one that reads none is at once
abbrev pub IsEnd : Meaning → Option (List ℕ) → Type 0
IsEnd m left = IsTrue m.reads → IsAtEnd left
