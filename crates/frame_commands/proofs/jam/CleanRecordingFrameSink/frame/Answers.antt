use Rattle.std.proofs.Common.{◌∙◌, ◌++◌, ◌∷◌, [], ℕ, List, ap, append-nil}
use Rattle.ltc_jam.specs.Cells.{intervals_of_frame}
use Rattle.tc_job.specs.Jam.{Jamming}
use Rattle.frame_commands.specs.LtcJam.{clean_file}
use Rattle.frame_commands.proofs.FramesAnew.{bytes_of_one, file_grows, piece_is}
use Rattle.frame_commands.proofs.jam.CleanRecordingFrameSink.frame.Goals as goal

-- its cells were pushed
pub returns-clause-sends : goal.returns-clause-sends
returns-clause-sends g c = λ jam header frames was.
    let frame = c.args.frame.now in
    let law = c.a_clean_recording_is_written_frame_by_frame.ensures in
    let piece = c.deref-2.result.now in
    let own = c.frame_cells.ensures ∙ ap (λ (n : ℕ). intervals_of_frame n frame) c.cell.ensures.value
    ∙ ap (λ (j : Jamming). intervals_of_frame j.cell frame) was in
    let is = piece_is piece c.push_intervals.new.room.items c.new-room.result.items c.deref.result.now _
    c.deref-2.ensures.0 c.push_intervals.ensures
    c.new-room.ensures (c.deref.ensures.0 ∙ own) in (
      was,
      (
        piece,
        file_grows law jam header frames (frame ∷ [])
            ∙ ap (λ (l : List ℕ). clean_file jam header frames ++ l) (bytes_of_one jam.cell frame [] piece is
            ∙ append-nil piece),
        c.write.ensures,
      ),
    )
