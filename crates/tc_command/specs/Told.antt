-- All that is claimed of a command: what it takes and what it writes, and what it promises of that.
use Rattle.std.specs.Prelude.{◌≡◌, ℕ, Bool, false, List, Option, Result}
use Rattle.tc_io.specs.Bytes.{AreBytes}
use Rattle.tc_command.specs.declared.stop.Stop.{Stop}
use Rattle.tc_command.specs.Command.{IsCommand}
use Rattle.tc_command.specs.Meaning.{Meaning, IsInput, writes}
use Rattle.tc_command.specs.Worked.{IsWorked}

-- a command: its meaning, its promise, and whether it has a limit of its own
pub record Told : Type 1 where
  pub meaning : Meaning
  -- what it promises of a run that came to its end, of the bytes that were pulled and those that were written
  pub promise : List ℕ → List ℕ → Type 0
  -- it may pass a limit of the command's own
  pub has_own_limit : Bool

-- what is told is lawful, whatever values the command was given
pub record IsLawful (t : Told) : Type 0 where
  pub command : IsCommand t.meaning
  -- the promise names the bytes: no others keep it
  pub pinned : (pulled a b : List ℕ) → t.promise pulled a → t.promise pulled b → a ≡ b
  pub unlimited : t.has_own_limit ≡ false → (input : List ℕ) → ¬ t.meaning.spent input

-- what it writes of an input keeps the promise
abbrev pub KeepsPromise : Told → Type 0
KeepsPromise t = (pulled written : List ℕ) → AreBytes pulled → IsInput t.meaning pulled
    → t.meaning.output pulled written → t.promise pulled written

-- what is told holds
pub record IsTold (t : Told) : Type 0 where
  pub lawful : IsLawful t
  pub kept : KeepsPromise t

-- it was worked as it is told, and what is told holds
pub record WorksAsTold {S K : Type 0} (t : Told) (left : S → Option (List ℕ)) (at_end pulls_failed : S → ℕ)
    (taken : K → Option (List ℕ)) (pushes_failed : K → ℕ) (before after : S) (out_before out_after : K)
    (result : Result (Unit {0}) Stop) : Type 0 where
  pub told : IsTold t
  pub worked : IsWorked t.meaning left at_end pulls_failed taken pushes_failed before after out_before out_after result

-- ---- commands of which no more is claimed

-- of a command that promises what its meaning says, where each line or interval is what the definition of a crate below
-- makes of the bytes pulled, and that has no limit of its own
abbrev pub told_by_meaning : Meaning → Told
told_by_meaning m = record { meaning = m; promise = m.output; has_own_limit = false }

-- of one that reads nothing and writes this
abbrev pub told_text : List ℕ → Told
told_text text = told_by_meaning (writes text)

-- of one that reads nothing, writes this, and promises this of it
abbrev pub told_made : List ℕ → (List ℕ → Type 0) → Told
told_made text promise = record { meaning = writes text; promise = λ pulled. promise; has_own_limit = false }
