-- The memory of a reader and of its handle.
use Rattle.std.specs.Borrow.{Fml, full_share}
use Rattle.std.specs.Ptr.{lies_at, room_at}
use base.Fml.{fsep, fex}
use denote.RawPtr.{Ptr}
use Rattle.frame_wheel.specs.Wheel.{WheelState}
use Rattle.mtc_reader.specs.declared.reader.MtcReader.{MtcReader}
use Rattle.quarter_frame.specs.declared.half.Half.{Half}
use Rattle.std.specs.Prelude.{Option}
use Rattle.biphase.specs.Shape.{Shape}
use Rattle.code_maker.specs.Sound.{MadeSound}
use Rattle.sound_reader.specs.Slicer.{SlicerState}
use Rattle.sound_reader.specs.Sound.{SoundState}
use Rattle.tape_reader.specs.declared.reader.TapeReader.{TapeReader}
use Rattle.tc_c.specs.contracts.kept.KeptReader as reader
use Rattle.tc_c.specs.contracts.handle.TcReader as handle
use Rattle.tc_c.specs.contracts.mtc_reader_kept.KeptMtcReader as mtc_reader
use Rattle.tc_c.specs.contracts.mtc_reader_handle.TcMtcReader as mtc_reader_handle
use Rattle.tc_c.specs.contracts.mtc_writer_kept.KeptMtcWriter as mtc_writer
use Rattle.tc_c.specs.contracts.mtc_writer_handle.TcMtcWriter as mtc_writer_handle
use Rattle.tc_c.specs.contracts.maker_kept.KeptMaker as maker
use Rattle.tc_c.specs.contracts.maker_handle.TcMaker as maker_handle
use Rattle.tc_c.specs.contracts.slicer_kept.KeptSlicer as slicer
use Rattle.tc_c.specs.contracts.slicer_handle.TcSlicer as slicer_handle
use Rattle.tc_c.specs.contracts.sound_kept.KeptSound as sound
use Rattle.tc_c.specs.contracts.sound_handle.TcSound as sound_handle
use Rattle.tc_c.specs.contracts.tape_kept.KeptTape as tape
use Rattle.tc_c.specs.contracts.tape_handle.TcTape as tape_handle
use Rattle.tc_c.specs.contracts.wheel_kept.KeptWheel as wheel
use Rattle.tc_c.specs.contracts.wheel_handle.TcWheel as wheel_handle

-- room for both
abbrev pub HasRoom : Ptr → Ptr → Fml
HasRoom room at = fsep (room_at reader.the_row room) (room_at handle.the_row at)

-- a handle whose reader lies in the room
abbrev pub HasReader : Ptr → Ptr → Fml
HasReader room at =
    fex SoundState (λ value. lies_at handle.the_row full_share at (record { at = room; value = value }))

-- room for a reader of a tape and its handle
abbrev pub HasTapeRoom : Ptr → Ptr → Fml
HasTapeRoom room at = fsep (room_at tape.the_row room) (room_at tape_handle.the_row at)

-- a handle whose reader of a tape lies in the room
abbrev pub HasTape : Ptr → Ptr → Fml
HasTape room at =
    fex TapeReader (λ value. lies_at tape_handle.the_row full_share at (record { at = room; value = value }))

-- room for a flywheel and its handle
abbrev pub HasWheelRoom : Ptr → Ptr → Fml
HasWheelRoom room at = fsep (room_at wheel.the_row room) (room_at wheel_handle.the_row at)

-- a handle whose flywheel lies in the room
abbrev pub HasWheel : Ptr → Ptr → Fml
HasWheel room at =
    fex WheelState (λ value. lies_at wheel_handle.the_row full_share at (record { at = room; value = value }))

-- room for a reader of MIDI Time Code and its handle
abbrev pub HasMtcReaderRoom : Ptr → Ptr → Fml
HasMtcReaderRoom room at = fsep (room_at mtc_reader.the_row room) (room_at mtc_reader_handle.the_row at)

-- a handle whose reader lies in the room
abbrev pub HasMtcReader : Ptr → Ptr → Fml
HasMtcReader room at =
    fex MtcReader (λ value. lies_at mtc_reader_handle.the_row full_share at (record { at = room; value = value }))

-- room for a writer of MIDI Time Code and its handle
abbrev pub HasMtcWriterRoom : Ptr → Ptr → Fml
HasMtcWriterRoom room at = fsep (room_at mtc_writer.the_row room) (room_at mtc_writer_handle.the_row at)

-- a handle whose writer lies in the room
abbrev pub HasMtcWriter : Ptr → Ptr → Fml
HasMtcWriter room at = fex (Option Half)
    (λ value. lies_at mtc_writer_handle.the_row full_share at (record { at = room; value = value }))

-- room for a maker of cells and its handle
abbrev pub HasMakerRoom : Ptr → Ptr → Fml
HasMakerRoom room at = fsep (room_at maker.the_row room) (room_at maker_handle.the_row at)

-- a handle whose maker lies in the room
abbrev pub HasMaker : Ptr → Ptr → Fml
HasMaker room at =
    fex Shape (λ value. lies_at maker_handle.the_row full_share at (record { at = room; value = value }))

-- room for a maker of sound and its handle
abbrev pub HasSoundRoom : Ptr → Ptr → Fml
HasSoundRoom room at = fsep (room_at sound.the_row room) (room_at sound_handle.the_row at)

-- a handle whose maker lies in the room
abbrev pub HasSound : Ptr → Ptr → Fml
HasSound room at =
    fex MadeSound (λ value. lies_at sound_handle.the_row full_share at (record { at = room; value = value }))

-- room for a slicer of sound and its handle
abbrev pub HasSlicerRoom : Ptr → Ptr → Fml
HasSlicerRoom room at = fsep (room_at slicer.the_row room) (room_at slicer_handle.the_row at)

-- a handle whose slicer lies in the room
abbrev pub HasSlicer : Ptr → Ptr → Fml
HasSlicer room at =
    fex SlicerState (λ value. lies_at slicer_handle.the_row full_share at (record { at = room; value = value }))
