-- What is counted, headed and refused, worked out by hand. The numbers of an example differ, so that no two of them can
-- change places.
use Rattle.std.specs.Prelude.{◌≡◌, ℕ, List, [], ◌∷◌, codes, replicate, Some, None, true, false}
use Rattle.interval_file.specs.declared.header.FileVersion.TheVariants.{One}
use Rattle.interval_file.specs.declared.header.IntervalHeader.{IntervalHeader}
use Rattle.line_file.specs.declared.header.LineHeader.{LineHeader}
use Rattle.luma_field.specs.Raster.{raster_of}
use Rattle.mtc_reader.specs.declared.event.MtcEvent.TheVariants.{Full, Quarter, RefusedFull, RefusedQuarter}
use Rattle.pcm_front.specs.declared.pace.Pace.TheVariants.{Ended, Passing}
use Rattle.pcm_front.specs.declared.threshold.Threshold.TheVariants.{Fixed, Follow, Deep}
use Rattle.pcm_front.specs.Settings.{from_crossing, from_start}
use Rattle.step_grid.specs.declared.grid.Grid.TheVariants.{Sum}
use Rattle.tc_address.specs.Label.{address}
use Rattle.tc_address.specs.declared.count.Count.TheVariants.{C25}
use Rattle.tc_address.specs.declared.direction.Direction.TheVariants.{Forward, Backward}
use Rattle.tc_address.specs.declared.label.LabelFault.TheVariants.{Hours, Frames}
use Rattle.tc_address.specs.declared.system.System.TheVariants.{F24, F25, F30}
use Rattle.tc_command.specs.declared.input_fault.InputFault.TheVariants.{HalfField, HalfSample}
use Rattle.tc_job.specs.LumaRun.{luma_reading_of}
use Rattle.tc_job.specs.PathSlicing.{path_slicing_of}
use Rattle.tc_job.specs.Slicing.{slicing_of}
use Rattle.tc_job.specs.TrackPath.{track_path_of}
use Rattle.tc_job.specs.WaveSlicing.{wave_slicing_of}
use Rattle.vitc_reader.specs.declared.field.FieldAnswer.{FieldAnswer}
use Rattle.vitc_reader.specs.declared.field.FieldAnswer.TheVariants.{NoLine, Agreed, Conflict, Nothing}
use Rattle.wave_file.specs.declared.format.Asked.{Asked}
use Rattle.wave_file.specs.declared.format.WaveFormat.{WaveFormat}
use Rattle.signal_commands.specs.LumaVitc.{cut_field, luma_header, most_pixels}
use Rattle.signal_commands.specs.MtcRead.{last_mtc_line}
use Rattle.signal_commands.specs.PcmLtc.{odd_fault, pace_for, settings_for, sliced_header}
use Rattle.signal_commands.specs.PcmPath.{path_header}
use Rattle.signal_commands.specs.VitcRead.{field_report, last_field_line}
use Rattle.signal_commands.specs.WavLtc.{asked_by, track_header, track_pace, track_settings}
use Rattle.signal_commands.specs.WavPath.{asked_for_path}

-- ---- the last lines, and the numbers of fields

-- in four bytes two labels of full messages, one of quarter frames and three refused addresses
abbrev pub AreEventsCounted : Type 0
AreEventsCounted =
    last_mtc_line (replicate 4 0xf8)
    (Full (address C25 1 2 3 4) 10 ∷ RefusedQuarter Backward Hours 11 ∷ Quarter Forward (address C25 1 2 3 4) 12
    ∷ RefusedFull Frames 13 ∷ Full (address C25 1 2 3 4) 14 ∷ RefusedFull Frames 15 ∷ [])
    ≡ codes "end bytes 4 full 2 quarter 1 refused 3\n"

-- of seven fields one agrees, two are in conflict and four say nothing
abbrev pub AreFieldsCounted : Type 0
AreFieldsCounted =
    (word other : _) (fault : _)
    → last_field_line
    (NoLine ∷ Conflict word other ∷ Agreed word ∷ Nothing fault ∷ Conflict word other ∷ NoLine ∷ NoLine ∷ [])
    ≡ codes "end fields 7 agreed 1 conflict 2 nothing 4\n"

-- the first field is field 0
abbrev pub AreFieldsNumbered : Type 0
AreFieldsNumbered =
    field_report (NoLine ∷ NoLine ∷ [])
    ≡ codes "field 0 nothing no-line\nfield 1 nothing no-line\nend fields 2 agreed 0 conflict 0 nothing 2\n"

-- ---- what is written before the first interval, or the first line

-- a tick is a piece of a sample: of sound half of one, of a track a sixteenth
pub record AreHeadersSo : Type 0 where
  pub samples : sliced_header (slicing_of F24 44_100 (Fixed 9) 2 1 false)
      ≡ record { version = One; system = F24; tick_rate = 88_200 }
  pub path : path_header (path_slicing_of F25 48_000 9 16 (Sum 2) 32)
      ≡ record { version = One; system = F25; tick_rate = 768_000 }
  pub track : track_header (wave_slicing_of F30 2 (Follow 9) 1 false)
      (record { tracks = 2; rate = 48_000; block = 4; bits = 16 })
      ≡ record { version = One; system = F30; tick_rate = 768_000 }
  pub pixels : luma_header (luma_reading_of F30 (raster_of 720 288 5 40)) ≡ record { system = F30; length = 1_840 }

-- ---- how sound is sliced, and what is asked of a file

-- the first distance of samples begins at a crossing, and that of a track at its first sample; live pieces last a
-- quarter of a frame
pub record IsSoundSlicedSo : Type 0 where
  pub samples : settings_for (slicing_of F25 48_000 (Fixed 27) 2 3 false) ≡ from_crossing 2 (Fixed 27) 3
  pub track : track_settings (wave_slicing_of F25 2 (Deep 750) 3 true) ≡ from_start 16 (Deep 750) 3
  pub ended : pace_for (slicing_of F25 48_000 (Fixed 9) 2 1 false) ≡ Ended
  pub passing : pace_for (slicing_of F25 48_000 (Fixed 9) 2 1 true) ≡ Passing 960
  pub passing_track : track_pace (wave_slicing_of F30 2 (Follow 9) 1 true)
      (record { tracks = 2; rate = 48_000; block = 4; bits = 16 }) ≡ Passing 6_400
  pub asked : asked_by (wave_slicing_of F25 2 (Follow 9) 1 false)
      ≡ record { track = 2; least_rate = 1; most_samples = 1_099_511_627_776 }
  pub asked_for_path : asked_for_path (track_path_of F24 3 9)
      ≡ record { track = 3; least_rate = 3_360; most_samples = 137_438_953_472 }

-- ---- where an input may not end

-- not inside a sample, and not inside a field: the fault is at the count of the bytes
pub record AreCutInputsRefused : Type 0 where
  pub half_a_sample : odd_fault (replicate 3 7) ≡ Some (HalfSample 3)
  pub whole_samples : odd_fault (replicate 4 7) ≡ None
  pub half_a_field : cut_field (luma_reading_of F25 (raster_of 360 2 0 1)) (replicate 1_441 7) ≡ Some (HalfField 1_441)
  pub whole_fields : cut_field (luma_reading_of F25 (raster_of 360 2 0 1)) (replicate 1_440 7) ≡ None
