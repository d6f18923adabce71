-- How often a job was at the end of its input: once if it came to it, and nothing was pulled behind it.
use Rattle.std.specs.Prelude.{◌≡◌, ℕ, ◌≤◌, Bool, true, false, Result}
use Rattle.tc_command.specs.Causes.{ended_with}
use Rattle.tc_command.specs.declared.stop.Stop.{Stop}
use Rattle.tc_command.specs.declared.status.Status.{Status}
use Rattle.tc_command.specs.declared.status.Status.TheVariants.{Done, Refused, WriteFault}
use Rattle.tc_command.specs.declared.status.Status.TheVariants.{Memory}

-- how many pulls of a job that reads were at the end of its input or behind it, and none of one that reads nothing. A
-- refusal and a failed push come before the end or at it, and so does want of memory; a failed pull and a limit come
-- before it
abbrev pub EndsSeen : Bool → Status → ℕ → Type 0
EndsSeen false status ends = ends ≡ 0
EndsSeen true Done ends = ends ≡ 1
EndsSeen true Refused ends = ends ≤ 1
EndsSeen true WriteFault ends = ends ≤ 1
EndsSeen true Memory ends = ends ≤ 1
EndsSeen true status ends = ends ≡ 0

-- along a source that was not at its end before
abbrev pub SeesOneEnd : {T : Type 0} → ℕ → ℕ → Result T Stop → Type 0
SeesOneEnd before now result = before ≡ 0 → EndsSeen true (ended_with result) now
