-- What lines of words name, worked out by hand. The numbers of a line differ, so that no two of them can change places,
-- and each range has both of its ends among the lines that are taken, and what is next to them among those that are
-- refused.
use Rattle.std.specs.Prelude.{◌≡◌, ℕ, ◌==◌, true, false, List, [], ◌∷◌, codes, Result, Ok, Err, if◌then◌else◌}
use Rattle.std.specs.List.{AllByRecursion}
use Rattle.std.specs.Result.{is_ok}
use Rattle.biphase.specs.Shape.{shape_with}
use Rattle.biphase.specs.declared.profile.Profile.TheVariants.{Normal, Worn, Rough}
use Rattle.interval_file.specs.declared.header.FileVersion.TheVariants as versions
use Rattle.label_columns.specs.declared.columns.Columns.{Columns}
use Rattle.label_columns.specs.declared.columns.Parting.{Parting}
use Rattle.label_columns.specs.declared.columns.Parting.TheVariants.{Blanks, Commas, CommasAndSemicolons}
use Rattle.label_lines.specs.declared.timebase.Timebase.TheVariants as bases
use Rattle.label_lines.specs.declared.way.Way.TheVariants as ways
use Rattle.luma_field.specs.Raster.{raster_of}
use Rattle.pcm_front.specs.declared.threshold.Threshold.TheVariants.{Fixed, Follow, Deep}
use Rattle.step_grid.specs.declared.grid.Grid.TheVariants.{Sum}
use Rattle.tc_address.specs.Label.{address}
use Rattle.tc_address.specs.declared.count.Count.TheVariants.{C24, C25, C30, Drop30}
use Rattle.tc_address.specs.declared.direction.Direction.TheVariants.{Forward, Backward}
use Rattle.tc_address.specs.declared.system.System.TheVariants.{F24, F25, F30}
use Rattle.tc_job.specs.ChaseRun.{chasing_of}
use Rattle.tc_job.specs.Jam.{jamming_of}
use Rattle.tc_job.specs.LabelRun.{label_run_of}
use Rattle.tc_job.specs.LineStripe.{line_stripe_of}
use Rattle.tc_job.specs.LoadRun.{loading_of}
use Rattle.tc_job.specs.LumaRun.{luma_reading_of}
use Rattle.tc_job.specs.PathSlicing.{path_slicing_of}
use Rattle.tc_job.specs.Slicing.{slicing_of}
use Rattle.tc_job.specs.Stripe.{stripe_of}
use Rattle.tc_job.specs.TrackPath.{track_path_of}
use Rattle.tc_job.specs.WaveSlicing.{wave_slicing_of}
use Rattle.tc_job.specs.declared.fault.WordsFault.{WordsFault}
use Rattle.tc_job.specs.declared.fault.WordsFault.TheVariants.{Command, CountOfWords, Value}
use Rattle.tc_job.specs.declared.job.Job.TheVariants as jobs
use Rattle.tc_job.specs.declared.job.Task.{Task}
use Rattle.tc_job.specs.declared.job.Task.TheVariants.{Stream, Chase}
use Rattle.tc_job.specs.declared.witness.Witness.TheVariants.{NotAsked, Asked, Consecutive, Counted}
use Rattle.forms.specs.Made.{column_run_of, length_run_of}
use Rattle.forms.specs.Named.{task_of}
use Rattle.forms.specs.Number.{Word}

-- ---- columns

abbrev pub columns_of : Parting → ℕ → ℕ → Columns
columns_of parting first last = record { parting = parting; first = first; last = last }

-- ---- a line

-- in front of the first of some words
abbrev pub in_front : ℕ → List Word → List Word
in_front byte [] = []
in_front byte (word ∷ words) = (byte ∷ word) ∷ words

-- words with a space between them
unfoldable pub between_spaces : List ℕ → List Word
between_spaces [] = [] ∷ []
between_spaces (byte ∷ more) = if byte == 0x20 then [] ∷ between_spaces more else in_front byte (between_spaces more)

-- the task of a command and the words behind it
abbrev pub task_of_words : List Word → Result Task WordsFault
task_of_words [] = Err Command
task_of_words (command ∷ words) = task_of command words

abbrev pub task_of_line : List ℕ → Result Task WordsFault
task_of_line line = task_of_words (between_spaces line)

-- ---- each command, and each word of a choice

abbrev pub named_lines : List (List ℕ × Task)
named_lines =
    (codes "ltc-read", Stream jobs.LtcRead)
    ∷ (codes "ltc-worn", Stream jobs.LtcWorn)
    ∷ (codes "ltc-rough", Stream (jobs.LtcRough NotAsked))
    ∷ (codes "ltc-rough firm", Stream (jobs.LtcRough Asked))
    ∷ (codes "ltc-rough consecutive", Stream (jobs.LtcRough Consecutive))
    ∷ (codes "ltc-rough counted", Stream (jobs.LtcRough Counted))
    ∷ (codes "ltc-fly 2 rough counted", Stream (jobs.LtcFly (record { limit = 2; profile = Rough; witness = Counted })))
    ∷ (codes "ltc-fly 2", Stream (jobs.LtcFly (record { limit = 2; profile = Normal; witness = NotAsked })))
    ∷ (codes "ltc-fly 2 worn", Stream (jobs.LtcFly (record { limit = 2; profile = Worn; witness = NotAsked })))
    ∷ (codes "ltc-fly 2 rough firm", Stream (jobs.LtcFly (record { limit = 2; profile = Rough; witness = Asked })))
    ∷ (
      codes "ltc-spans 3 rough consecutive",
      Stream (jobs.LtcSpans (record { limit = 3; profile = Rough; witness = Consecutive })),
    )
    ∷ (codes "ltc-mtc 4 worn firm", Stream (jobs.LtcMtc (record { limit = 4; profile = Worn; witness = Asked })))
    ∷ (
      codes "ltc-jam 2 24 48000 rough consecutive",
      Stream (jobs.LtcJam (jamming_of (record { limit = 2; profile = Rough; witness = Consecutive }) 24 48000)),
    )
    ∷ (codes "ltc-convert 1", Stream (jobs.LtcConvert versions.One))
    ∷ (codes "ltc-convert 2", Stream (jobs.LtcConvert versions.Two))
    ∷ (codes "pcm-ltc 24 48000 9", Stream (jobs.PcmLtc (slicing_of F24 48000 (Fixed 9) 1 1 false)))
    ∷ (codes "pcm-ltc 25 48000 9 live", Stream (jobs.PcmLtc (slicing_of F25 48000 (Fixed 9) 1 1 true)))
    ∷ (codes "pcm-ltc 30 48000 9 2 live", Stream (jobs.PcmLtc (slicing_of F30 48000 (Fixed 9) 2 1 true)))
    ∷ (codes "pcm-ltc 25 48000 9 2 follow 3", Stream (jobs.PcmLtc (slicing_of F25 48000 (Follow 27) 2 3 false)))
    ∷ (codes "pcm-ltc 25 48000 9 2 deep live", Stream (jobs.PcmLtc (slicing_of F25 48000 (Deep 9) 2 1 true)))
    ∷ (codes "pcm-ltc 25 48000 9 2 deep 3 live", Stream (jobs.PcmLtc (slicing_of F25 48000 (Deep 27) 2 3 true)))
    ∷ (codes "pcm-ltc 25 96000 250 32 path", Stream (jobs.PcmPath (path_slicing_of F25 96000 250 32 (Sum 2) 64)))
    ∷ (codes "wav-ltc 25 2 250", Stream (jobs.WavLtc (wave_slicing_of F25 2 (Follow 250) 1 false)))
    ∷ (codes "wav-ltc 25 2 250 live", Stream (jobs.WavLtc (wave_slicing_of F25 2 (Follow 250) 1 true)))
    ∷ (codes "wav-ltc 25 2 250 3 deep", Stream (jobs.WavLtc (wave_slicing_of F25 2 (Deep 750) 3 false)))
    ∷ (codes "wav-ltc 25 2 250 3 deep live", Stream (jobs.WavLtc (wave_slicing_of F25 2 (Deep 750) 3 true)))
    ∷ (codes "wav-ltc 30 2 250 path", Stream (jobs.WavPath (track_path_of F30 2 250)))
    ∷ (codes "ltc-pcm 8192", Stream (jobs.LtcPcm 8192))
    ∷ (
      codes "ltc-make 30d backward 01:02:03;04 5 400 48000",
      Stream (jobs.LtcMake (stripe_of Backward (address Drop30 1 2 3 4) 5 (shape_with 400 400 0) 48000)),
    )
    ∷ (
      codes "ltc-make 25 forward 01:02:03:04 5 400 48000 500 50",
      Stream (jobs.LtcMake (stripe_of Forward (address C25 1 2 3 4) 5 (shape_with 400 500 50) 48000)),
    )
    ∷ (codes "ltc-load 53 100", Stream (jobs.LtcLoad (loading_of 53 100)))
    ∷ (codes "mtc-read", Stream jobs.MtcRead)
    ∷ (codes "chase 24 01:02:03:04", Chase (address C24 1 2 3 4))
    ∷ (
      codes "ltc-chase 25 01:02:03:04 5 53 8",
      Stream (jobs.LtcChase (chasing_of (address C25 1 2 3 4)
          (record { limit = 5; profile = Normal; witness = NotAsked }) 53 8)),
    )
    ∷ (
      codes "ltc-chase 30 01:02:03:04 5 53 8 worn firm",
      Stream (jobs.LtcChase (chasing_of (address C30 1 2 3 4)
          (record { limit = 5; profile = Worn; witness = Asked }) 53 8)),
    )
    ∷ (codes "vitc-read", Stream jobs.VitcRead)
    ∷ (codes "luma-vitc 25 720 288 5 40", Stream (jobs.LumaVitc (luma_reading_of F25 (raster_of 720 288 5 40))))
    ∷ (codes "luma-vitc 30 720 288 5 40", Stream (jobs.LumaVitc (luma_reading_of F30 (raster_of 720 288 5 40))))
    ∷ (codes "vitc-make 25 01:02:03:04 5 1728", Stream (jobs.VitcMake (line_stripe_of (address C25 1 2 3 4) 5 1728)))
    ∷ (
      codes "vitc-make 30d 01:02:03;04 5 1728",
      Stream (jobs.VitcMake (line_stripe_of (address Drop30 1 2 3 4) 5 1728)),
    )
    ∷ (codes "number 25 01:02:03:04", Stream (jobs.Number (address C25 1 2 3 4)))
    ∷ (codes "labels 24 number", Stream (jobs.Labels (label_run_of bases.F24 ways.Number)))
    ∷ (codes "labels 25 label", Stream (jobs.Labels (label_run_of bases.F25 ways.Label)))
    ∷ (codes "labels 30 seconds", Stream (jobs.Labels (label_run_of bases.F30 ways.Seconds)))
    ∷ (codes "labels 30d plus 7", Stream (jobs.Labels (label_run_of bases.Drop30 (ways.Plus 7))))
    ∷ (codes "labels 25 minus 8", Stream (jobs.Labels (label_run_of bases.F25 (ways.Minus 8))))
    ∷ (
      codes "labels 25 since 01:02:03:04",
      Stream (jobs.Labels (label_run_of bases.F25 (ways.Since (address C25 1 2 3 4)))),
    )
    ∷ (
      codes "labels 25 column 5-8 plus 250",
      Stream (jobs.Columns (column_run_of (label_run_of bases.F25 (ways.Plus 250)) (columns_of Blanks 5 8))),
    )
    ∷ (
      codes "labels 24 ntsc csv 3 seconds",
      Stream (jobs.Columns (column_run_of (label_run_of bases.PulledDown24 ways.Seconds)
          (columns_of CommasAndSemicolons 3 3))),
    )
    ∷ (
      codes "labels 30d csv 2-4 since 01:02:03;04",
      Stream (jobs.Columns (column_run_of (label_run_of bases.Drop30 (ways.Since (address Drop30 1 2 3 4)))
          (columns_of Commas 2 4))),
    )
    ∷ (
      codes "labels 30 ntsc column 6 to 24 ntsc",
      Stream (jobs.Columns (column_run_of (label_run_of bases.PulledDown30 (ways.To bases.PulledDown24))
          (columns_of Blanks 6 6))),
    )
    ∷ (
      codes "labels 24 ntsc column 7-9 since 01:02:03:04",
      Stream (jobs.Columns (column_run_of (label_run_of bases.PulledDown24 (ways.Since (address C24 1 2 3 4)))
          (columns_of Blanks 7 9))),
    )
    ∷ (
      codes "labels 25 column 5-6 length",
      Stream (jobs.Columns (length_run_of (label_run_of bases.F25 ways.Number) (columns_of Blanks 5 6))),
    )
    ∷ (
      codes "labels 30d csv 2 length",
      Stream (jobs.Columns (length_run_of (label_run_of bases.Drop30 ways.Number) (columns_of Commas 2 2))),
    )
    ∷ (
      codes "labels 24 ntsc length",
      Stream (jobs.Columns (length_run_of (label_run_of bases.PulledDown24 ways.Number) (columns_of Blanks 1 2))),
    )
    ∷ (codes "labels 25 sum", Stream (jobs.Sum bases.F25))
    ∷ (codes "labels 30d sum", Stream (jobs.Sum bases.Drop30))
    ∷ (codes "labels 24 ntsc sum", Stream (jobs.Sum bases.PulledDown24))
    ∷ (codes "labels 30 to 24", Stream (jobs.Labels (label_run_of bases.F30 (ways.To bases.F24))))
    ∷ (codes "labels 25 to 30 ntsc", Stream (jobs.Labels (label_run_of bases.F25 (ways.To bases.PulledDown30))))
    ∷ (codes "labels 24 ntsc number", Stream (jobs.Labels (label_run_of bases.PulledDown24 ways.Number)))
    ∷ (codes "labels 30 ntsc label", Stream (jobs.Labels (label_run_of bases.PulledDown30 ways.Label)))
    ∷ (codes "labels 30 ntsc seconds", Stream (jobs.Labels (label_run_of bases.PulledDown30 ways.Seconds)))
    ∷ (codes "labels 24 ntsc plus 7", Stream (jobs.Labels (label_run_of bases.PulledDown24 (ways.Plus 7))))
    ∷ (codes "labels 24 ntsc minus 8", Stream (jobs.Labels (label_run_of bases.PulledDown24 (ways.Minus 8))))
    ∷ (
      codes "labels 24 ntsc since 01:02:03:04",
      Stream (jobs.Labels (label_run_of bases.PulledDown24 (ways.Since (address C24 1 2 3 4)))),
    )
    ∷ (codes "labels 24 ntsc to 25", Stream (jobs.Labels (label_run_of bases.PulledDown24 (ways.To bases.F25))))
    ∷ (
      codes "labels 30 ntsc to 24 ntsc",
      Stream (jobs.Labels (label_run_of bases.PulledDown30 (ways.To bases.PulledDown24))),
    )
    ∷ (codes "help", Stream jobs.Help)
    ∷ (codes "help ltc-read", Stream (jobs.HelpOf 0))
    ∷ (codes "help version", Stream (jobs.HelpOf 23))
    ∷ (codes "help statuses", Stream jobs.HelpStatuses)
    ∷ (codes "version", Stream jobs.Version)
    ∷ []

-- each of the lines names its task
abbrev pub AreNamed : List (List ℕ × Task) → Type 0
AreNamed rows = AllByRecursion (λ row. task_of_line row.0 ≡ Ok row.1) rows

-- ---- the ends of each range

abbrev pub taken_lines : List (List ℕ)
taken_lines =
    codes "ltc-fly 0" ∷ codes "ltc-fly 255" ∷ codes "ltc-jam 0 16 1" ∷ codes "ltc-jam 255 8388607 100000000"
    ∷ codes "pcm-ltc 25 1 1" ∷ codes "pcm-ltc 25 100000000 32767 1 deep 16" ∷ codes "pcm-ltc 25 1 1 64 deep 1"
    ∷ codes "pcm-ltc 25 50000000 1 2" ∷ codes "pcm-ltc 25 3500 1 64 path" ∷ codes "pcm-ltc 25 3500 32767 16 path"
    ∷ codes "wav-ltc 25 1 1" ∷ codes "wav-ltc 25 64 32767 16" ∷ codes "wav-ltc 25 64 32767 path"
    ∷ codes "ltc-pcm 1" ∷ codes "ltc-pcm 32767"
    ∷ codes "ltc-make 24 forward 23:59:59:23 1 16 1 8388607 2"
    ∷ codes "ltc-make 24 forward 23:59:59:23 1000000 8388607 100000000 16 0"
    ∷ codes "ltc-load 0 1" ∷ codes "ltc-load 18446744073709551615 100000"
    ∷ codes "ltc-chase 24 00:00:00:00 0 0 0" ∷ codes "ltc-chase 24 00:00:00:00 255 18446744073709551615 1000"
    ∷ codes "luma-vitc 25 360 1 0 1" ∷ codes "luma-vitc 25 4096 4096 4095 1" ∷ codes "luma-vitc 25 360 4096 4056 40"
    ∷ codes "vitc-make 25 00:00:00:00 1 460" ∷ codes "vitc-make 25 00:00:00:00 1000000 65535"
    ∷ codes "labels 25 plus 0" ∷ codes "labels 24 ntsc minus 4294967295"
    ∷ codes "labels 25 plus 00:00:10:07" ∷ codes "labels 30d minus 00:01:00;02"
    ∷ codes "labels 25 column 1 number" ∷ codes "labels 25 csv 4096-4096 number" ∷ codes "labels 25 column 1-4096 plus 0" ∷ []

abbrev pub AreTaken : List (List ℕ) → Type 0
AreTaken lines = AllByRecursion (λ line. is_ok (task_of_line line) ≡ true) lines

-- ---- the first fault, and what is next to the ends of a range

abbrev pub refused_lines : List (List ℕ × WordsFault)
refused_lines =
    (codes "ltc-red", Command) ∷ (codes "", Command) ∷ (codes "ltc-read x", CountOfWords)
    ∷ (codes "ltc-rough worn", Value 1) ∷ (codes "ltc-fly", CountOfWords)
    ∷ (codes "ltc-fly x worn firm 1", CountOfWords)
    ∷ (codes "ltc-fly 256 x", Value 1) ∷ (codes "ltc-fly 1 firm x", Value 2) ∷ (codes "ltc-fly 1 worn worn", Value 3)
    ∷ (codes "ltc-jam 256 15 0", Value 1) ∷ (codes "ltc-jam 1 15 0", Value 2) ∷ (codes "ltc-jam 1 8388608 1", Value 2)
    ∷ (codes "ltc-jam 1 16 0", Value 3) ∷ (codes "ltc-jam 1 16 100000001 x", Value 3)
    ∷ (codes "ltc-jam 1 16 1 x x", Value 4) ∷ (codes "ltc-jam 1 16 1 worn x", Value 5)
    ∷ (codes "ltc-convert 3", Value 1)
    ∷ (codes "pcm-ltc 30d 0 0", Value 1) ∷ (codes "pcm-ltc 25 0 0", Value 2) ∷ (codes "pcm-ltc 25 100000001 1", Value 2)
    ∷ (codes "pcm-ltc 25 1 0", Value 3) ∷ (codes "pcm-ltc 25 1 32768 0", Value 3) ∷ (codes "pcm-ltc 25 1 1 0", Value 4)
    ∷ (codes "pcm-ltc 25 1 1 65", Value 4) ∷ (codes "pcm-ltc 25 50000000 1 3", Value 4)
    ∷ (codes "pcm-ltc 25 1 1 live 2", Value 4) ∷ (codes "pcm-ltc 25 1 1 1 rough", Value 5)
    ∷ (codes "pcm-ltc 25 1 1 1 deep 17", Value 6) ∷ (codes "pcm-ltc 25 1 1 1 deep 0", Value 6)
    ∷ (codes "pcm-ltc 25 1 1 1 deep 1 1", Value 7) ∷ (codes "pcm-ltc 25 1 1 1 deep 1 live live", CountOfWords)
    ∷ (codes "pcm-ltc 25 3499 0 0 path", Value 2) ∷ (codes "pcm-ltc 25 3500 0 0 path", Value 3)
    ∷ (codes "pcm-ltc 25 3500 1 12 path", Value 4) ∷ (codes "pcm-ltc 25 3500 1 8 path", Value 4)
    ∷ (codes "pcm-ltc 25 48000 1 65 path", Value 4) ∷ (codes "pcm-ltc 25 48000 1 16 path live", Value 6)
    ∷ (codes "wav-ltc 25 0 1", Value 2) ∷ (codes "wav-ltc 25 65 1", Value 2) ∷ (codes "wav-ltc 25 1 32768 0", Value 3)
    ∷ (codes "wav-ltc 25 1 1 17", Value 4) ∷ (codes "wav-ltc 25 1 1 1 follow", Value 5)
    ∷ (codes "wav-ltc 25 1 1 1 deep deep", Value 6) ∷ (codes "wav-ltc 25 1 1 path live", Value 5)
    ∷ (codes "wav-ltc 25 1 1 2 path", Value 5) ∷ (codes "ltc-pcm 0", Value 1) ∷ (codes "ltc-pcm 32768", Value 1)
    ∷ (codes "ltc-make 29 up 1 0 0 0", Value 1) ∷ (codes "ltc-make 25 up 1 0 0 0", Value 2)
    ∷ (codes "ltc-make 25 forward 01:02:03:25 0 0 0", Value 3)
    ∷ (codes "ltc-make 25 forward 01:02:03:24 0 0 0", Value 4)
    ∷ (codes "ltc-make 25 forward 01:02:03:24 1000001 0 0", Value 4)
    ∷ (codes "ltc-make 25 forward 01:02:03:24 1 15 0", Value 5)
    ∷ (codes "ltc-make 25 forward 01:02:03:24 1 8388608 0", Value 5)
    ∷ (codes "ltc-make 25 forward 01:02:03:24 1 16 0", Value 6)
    ∷ (codes "ltc-make 25 forward 01:02:03:24 1 16 100000001", Value 6)
    ∷ (codes "ltc-make 25 forward 01:02:03:24 1 16 1 500", CountOfWords)
    ∷ (codes "ltc-make 25 forward 01:02:03:24 1 16 1 15 9", Value 7)
    ∷ (codes "ltc-make 25 forward 01:02:03:24 1 16 1 8388608 9", Value 7)
    ∷ (codes "ltc-make 25 forward 01:02:03:24 1 400 1 500 51", Value 8)
    ∷ (codes "ltc-make 25 forward 01:02:03:24 1 500 1 400 51", Value 8)
    ∷ (codes "ltc-load 18446744073709551616 0", Value 1) ∷ (codes "ltc-load 1 0", Value 2)
    ∷ (codes "ltc-load 1 100001", Value 2) ∷ (codes "chase 30d 00:01:00;00", Value 2)
    ∷ (codes "ltc-chase 25 01:02:03:24 256 x 0", Value 3) ∷ (codes "ltc-chase 25 01:02:03:24 1 x 0", Value 4)
    ∷ (codes "ltc-chase 25 01:02:03:24 1 1 1001", Value 5) ∷ (codes "ltc-chase 25 01:02:03:24 1 1 1 firm", Value 6)
    ∷ (codes "ltc-chase 25 01:02:03:24 1 1 1 worn rough", Value 7)
    ∷ (codes "luma-vitc 24 1 0 0 0", Value 1) ∷ (codes "luma-vitc 25 359 0 0 0", Value 2)
    ∷ (codes "luma-vitc 25 4097 0 0 0", Value 2) ∷ (codes "luma-vitc 25 360 0 0 0", Value 3)
    ∷ (codes "luma-vitc 25 360 4097 0 0", Value 3) ∷ (codes "luma-vitc 25 360 288 288 0", Value 4)
    ∷ (codes "luma-vitc 25 360 288 287 2", Value 5) ∷ (codes "luma-vitc 25 360 288 0 0", Value 5)
    ∷ (codes "luma-vitc 25 360 288 0 41", Value 5)
    ∷ (codes "vitc-make 24 01:02:03:04 1 460", Value 1) ∷ (codes "vitc-make 25 01:02:03:04 0 459", Value 3)
    ∷ (codes "vitc-make 25 01:02:03:04 1000001 459", Value 3) ∷ (codes "vitc-make 25 01:02:03:04 1 459", Value 4)
    ∷ (codes "vitc-make 25 01:02:03:04 1 65536", Value 4) ∷ (codes "number 25 1", Value 2)
    ∷ (codes "label 25 x", Value 2)
    ∷ (codes "labels 25", CountOfWords) ∷ (codes "labels 24 ntsc", CountOfWords) ∷ (codes "labels 29 x 1", Value 1)
    ∷ (codes "labels 25 ntsc number", Value 2) ∷ (codes "labels 30d ntsc number", Value 2)
    ∷ (codes "labels 25 x", Value 2) ∷ (codes "labels 25 x 1 2", Value 2) ∷ (codes "labels 25 x 1 2 3", CountOfWords)
    ∷ (codes "labels 24 ntsc x 1 2", Value 3) ∷ (codes "labels 24 ntsc x 1 2 3", CountOfWords)
    ∷ (codes "labels 25 number 1", CountOfWords) ∷ (codes "labels 25 plus", CountOfWords)
    ∷ (codes "labels 25 plus 4294967296", Value 3) ∷ (codes "labels 24 ntsc minus x", Value 4)
    ∷ (codes "labels 25 plus 00:00:10:25", Value 3) ∷ (codes "labels 30d minus 00:01:00;00", Value 3)
    ∷ (codes "labels 25 since 01:02:03:25", Value 3) ∷ (codes "labels 24 ntsc since 01:02:03:24", Value 4)
    ∷ (codes "labels 25 to 29", Value 3) ∷ (codes "labels 25 to 24 x", Value 4)
    ∷ (codes "labels 25 to 25 ntsc", Value 4)
    ∷ (codes "labels 25 column 0 number", Value 3) ∷ (codes "labels 25 csv 4097 number", Value 3)
    ∷ (codes "labels 25 column 5-4 number", Value 3) ∷ (codes "labels 25 column 5-4097 number", Value 3)
    ∷ (codes "labels 25 column 5- number", Value 3) ∷ (codes "labels 25 column 5", CountOfWords)
    ∷ (codes "labels 25 column 5 x", Value 4) ∷ (codes "labels 24 ntsc csv 5 x 1 2", Value 5)
    ∷ (codes "labels 25 column 5 number 1", CountOfWords) ∷ (codes "labels 25 column 5 since 01:02:03:25", Value 5)
    ∷ (codes "labels 24 ntsc csv 5 to 30d ntsc", Value 7)
    ∷ (codes "labels 25 sum 1", CountOfWords) ∷ (codes "labels 25 column 5 sum", Value 4)
    ∷ (codes "labels 24 ntsc to 30d ntsc", Value 5) ∷ (codes "help x", Value 1) ∷ (codes "help help help", CountOfWords)
    ∷ []

-- each of the lines has its fault
abbrev pub AreRefused : List (List ℕ × WordsFault) → Type 0
AreRefused rows = AllByRecursion (λ row. task_of_line row.0 ≡ Err row.1) rows
