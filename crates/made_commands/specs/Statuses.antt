-- What `help statuses` says, compared with the exit numbers and the notes.
use Rattle.std.specs.Prelude.{◌≡◌, ℕ, ◌+◌, List, [], ◌∷◌, ◌++◌, codes, if◌then◌else◌}
use Rattle.std.specs.Str.{bytes_eq}
use Rattle.tc_job.specs.declared.fault.WordsFault.{WordsFault}
use Rattle.tc_command.specs.declared.status.Status.{Status}
use Rattle.tc_command.specs.declared.stop.Stop.{Stop}
use Rattle.tc_command.specs.Notes.{stop_note, usage_note}
use Rattle.tc_command.specs.Status.{code_of, status_of, status_of_words}
use Rattle.made_commands.specs.Pages.{Row, exit_numbers}

-- an exit number, which is below 10, as a row of the table begins with it
abbrev pub number_in_row : ℕ → List ℕ
number_in_row number = (48 + number) ∷ codes "  "

-- how the notes of an exit number begin by rows of the table: by the first that begins with the number
abbrev pub note_in : ℕ → List Row → List ℕ
note_in number [] = []
note_in number (row ∷ more) = if bytes_eq row.before (number_in_row number) then row.words else note_in number more

-- how the notes of a status begin, as `help statuses` says
abbrev pub told_note : Status → List ℕ
told_note status = note_in (code_of status) exit_numbers

-- a text begins so
abbrev pub BeginsWith : List ℕ → List ℕ → Type 0
BeginsWith front text = (rest : List ℕ) × (text ≡ front ++ rest)

-- each note begins as the table says of its exit number
pub record TellTheNotes : Type 0 where
  pub stops : (stop : Stop) → BeginsWith (told_note (status_of stop)) (stop_note stop)
  pub words : (fault : WordsFault) → BeginsWith (told_note (status_of_words fault)) (usage_note fault)
