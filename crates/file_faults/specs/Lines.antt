-- The faults of a line file: the name of each in notes, and its byte place.
use Rattle.std.specs.Prelude.{ℕ, List}
use Rattle.file_faults.specs.declared.line_names.TheConstants as names
use Rattle.file_faults.specs.declared.lines.LineFileFault.{LineFileFault}
use Rattle.file_faults.specs.declared.lines.LineFileFault.TheVariants.{Magic, Version, System, Reserved, LineLength}
use Rattle.file_faults.specs.declared.lines.LineFileFault.TheVariants.{LineCount, RunCount, Run, Truncated}

-- the name that notes print
abbrev pub name_of : LineFileFault → List ℕ
name_of (Magic _) = names.MAGIC_NAME.now
name_of (Version _) = names.VERSION_NAME.now
name_of (System _) = names.SYSTEM_NAME.now
name_of (Reserved _) = names.RESERVED_NAME.now
name_of (LineLength _) = names.LINE_LENGTH_NAME.now
name_of (LineCount _) = names.LINE_COUNT_NAME.now
name_of (RunCount _) = names.RUN_COUNT_NAME.now
name_of (Run _) = names.RUN_NAME.now
name_of (Truncated _) = names.TRUNCATED_NAME.now

-- the byte place at which the fault stands
abbrev pub place_of : LineFileFault → ℕ
place_of (Magic place) = place
place_of (Version place) = place
place_of (System place) = place
place_of (Reserved place) = place
place_of (LineLength place) = place
place_of (LineCount place) = place
place_of (RunCount place) = place
place_of (Run place) = place
place_of (Truncated place) = place
