-- What `ltc-read` reports of the clean recording that `ltc-jam` writes.
use Rattle.std.specs.Prelude.{◌≡◌, ℕ, ◌≤◌, List, ◌++◌, length}
use Rattle.limits.specs.declared.recording.TheConstants.{MAX_INTERVALS}
use Rattle.ltc_jam.specs.Cells.{clean_events}
use Rattle.interval_file.specs.Recording.{recording_of}
use Rattle.tc_job.specs.declared.job.Job.TheVariants.{LtcRead}
use Rattle.tc_job.specs.Jam.{Jamming}
use Rattle.tc_command.specs.Meaning.{Meaning}
use Rattle.interval_commands.specs.LtcRead.{last_line, lines}
use Rattle.frame_commands.specs.LtcJam.{IsClean, clean_header, clean_intervals}
use Rattle.tc_top.specs.Commands.{meaning_of}

-- if the copy is within the limit of a reading, its report is a line for each of its frames, and the last line
abbrev pub IsReportedClean : Jamming → List ℕ → List ℕ → Type 0
IsReportedClean j pulled written = (clean : IsClean j (recording_of pulled) written) → (text : List ℕ)
    → length (clean_intervals j clean.frames) ≤ MAX_INTERVALS
    → Meaning.output (meaning_of LtcRead) written text
    → text ≡ lines (clean_header j clean.header) (clean_events j.cell clean.frames)
    ++ last_line (clean_intervals j clean.frames) (clean_events j.cell clean.frames)
