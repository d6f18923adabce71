-- When a run ended as it has to.
use Rattle.std.specs.Prelude.{◌≡◌, ℕ, List, length, take}
use Rattle.tc_command.specs.Status.{code_of}
use Rattle.tc_conformance.specs.declared.trial.Ended.{Ended}

-- with this status, this note and this output
pub record IsEndedSo (ended : Ended) (code : ℕ) (line bytes : List ℕ) : Type 0 where
  pub status : code_of ended.status ≡ code
  pub note : ended.note.items ≡ line
  pub output : ended.output.items ≡ bytes

-- with this status, this note and any front of this output
abbrev pub IsEndedWithFront : Ended → ℕ → List ℕ → List ℕ → Type 0
IsEndedWithFront ended code line whole = IsEndedSo ended code line (take (length ended.output.items) whole)
