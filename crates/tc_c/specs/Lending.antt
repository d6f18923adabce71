-- What the reader of a handle leaves in the handle.
use Rattle.std.specs.Borrow.{Lends, MutBor, Fml}
use Rattle.frame_wheel.specs.Wheel.{WheelState}
use Rattle.mtc_reader.specs.declared.reader.MtcReader.{MtcReader}
use Rattle.quarter_frame.specs.declared.half.Half.{Half}
use Rattle.std.specs.Prelude.{Option}
use Rattle.biphase.specs.Shape.{Shape}
use Rattle.code_maker.specs.Sound.{MadeSound}
use Rattle.sound_reader.specs.Slicer.{SlicerState}
use Rattle.sound_reader.specs.Sound.{SoundState}
use Rattle.tape_reader.specs.declared.reader.TapeReader.{TapeReader}
use Rattle.tc_c.specs.contracts.kept.KeptReader as reader
use Rattle.tc_c.specs.contracts.tape_kept.KeptTape as tape
use Rattle.tc_c.specs.contracts.wheel_kept.KeptWheel as wheel
use Rattle.tc_c.specs.contracts.mtc_reader_kept.KeptMtcReader as mtc_reader
use Rattle.tc_c.specs.contracts.mtc_reader_handle.TcMtcReader as mtc_reader_handle
use Rattle.tc_c.specs.contracts.mtc_writer_kept.KeptMtcWriter as mtc_writer
use Rattle.tc_c.specs.contracts.mtc_writer_handle.TcMtcWriter as mtc_writer_handle
use Rattle.tc_c.specs.declared.mtc_reader_handle.TcMtcReader.{TcMtcReader}
use Rattle.tc_c.specs.declared.mtc_writer_handle.TcMtcWriter.{TcMtcWriter}
use Rattle.tc_c.specs.contracts.maker_kept.KeptMaker as maker
use Rattle.tc_c.specs.contracts.maker_handle.TcMaker as maker_handle
use Rattle.tc_c.specs.contracts.slicer_kept.KeptSlicer as slicer
use Rattle.tc_c.specs.contracts.slicer_handle.TcSlicer as slicer_handle
use Rattle.tc_c.specs.declared.slicer_handle.TcSlicer.{TcSlicer}
use Rattle.tc_c.specs.contracts.sound_kept.KeptSound as sound
use Rattle.tc_c.specs.contracts.sound_handle.TcSound as sound_handle
use Rattle.tc_c.specs.declared.maker_handle.TcMaker.{TcMaker}
use Rattle.tc_c.specs.declared.sound_handle.TcSound.{TcSound}
use Rattle.tc_c.specs.declared.handle.TcReader.{TcReader}
use Rattle.tc_c.specs.declared.tape_handle.TcTape.{TcTape}
use Rattle.tc_c.specs.declared.wheel_handle.TcWheel.{TcWheel}
use Rattle.tc_c.specs.contracts.handle.TcReader as handle
use Rattle.tc_c.specs.contracts.tape_handle.TcTape as tape_handle
use Rattle.tc_c.specs.contracts.wheel_handle.TcWheel as wheel_handle

-- the handle with another state of its reader
abbrev pub with_reader : TcReader → SoundState → TcReader
with_reader handle value = record handle { value = value }

-- the handle ends with the last state of its reader
abbrev pub LendsReader : MutBor TcReader → MutBor SoundState → Fml
LendsReader s r = Lends handle.the_row reader.the_row s r (with_reader s.now)

-- the same of a tape
abbrev pub with_tape : TcTape → TapeReader → TcTape
with_tape handle value = record handle { value = value }

-- the handle ends with the last state of its reader
abbrev pub LendsTape : MutBor TcTape → MutBor TapeReader → Fml
LendsTape s r = Lends tape_handle.the_row tape.the_row s r (with_tape s.now)

-- and of a flywheel
abbrev pub with_wheel : TcWheel → WheelState → TcWheel
with_wheel handle value = record handle { value = value }

-- the handle ends with the last state of its flywheel
abbrev pub LendsWheel : MutBor TcWheel → MutBor WheelState → Fml
LendsWheel s r = Lends wheel_handle.the_row wheel.the_row s r (with_wheel s.now)

-- of a reader of MIDI Time Code
abbrev pub with_mtc_reader : TcMtcReader → MtcReader → TcMtcReader
with_mtc_reader handle value = record handle { value = value }

-- the handle ends with the last state of its reader
abbrev pub LendsMtcReader : MutBor TcMtcReader → MutBor MtcReader → Fml
LendsMtcReader s r = Lends mtc_reader_handle.the_row mtc_reader.the_row s r (with_mtc_reader s.now)

-- and of a writer of it
abbrev pub with_mtc_writer : TcMtcWriter → Option Half → TcMtcWriter
with_mtc_writer handle value = record handle { value = value }

-- the handle ends with the last state of its writer
abbrev pub LendsMtcWriter : MutBor TcMtcWriter → MutBor (Option Half) → Fml
LendsMtcWriter s r = Lends mtc_writer_handle.the_row mtc_writer.the_row s r (with_mtc_writer s.now)

-- of a maker of cells
abbrev pub with_maker : TcMaker → Shape → TcMaker
with_maker handle value = record handle { value = value }

-- the handle ends with the last state of its maker
abbrev pub LendsMaker : MutBor TcMaker → MutBor Shape → Fml
LendsMaker s r = Lends maker_handle.the_row maker.the_row s r (with_maker s.now)

-- and of a maker of sound
abbrev pub with_sound : TcSound → MadeSound → TcSound
with_sound handle value = record handle { value = value }

-- the handle ends with the last state of its maker
abbrev pub LendsSound : MutBor TcSound → MutBor MadeSound → Fml
LendsSound s r = Lends sound_handle.the_row sound.the_row s r (with_sound s.now)

-- and of a slicer of sound
abbrev pub with_slicer : TcSlicer → SlicerState → TcSlicer
with_slicer handle value = record handle { value = value }

-- the handle ends with the last state of its slicer
abbrev pub LendsSlicer : MutBor TcSlicer → MutBor SlicerState → Fml
LendsSlicer s r = Lends slicer_handle.the_row slicer.the_row s r (with_slicer s.now)
