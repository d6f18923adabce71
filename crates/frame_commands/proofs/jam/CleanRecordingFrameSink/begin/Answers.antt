use Rattle.std.proofs.Common.{◌≡◌, ◌∙◌, refl, subst}
use Rattle.std.specs.Prelude.{List, ℕ, []}
use Rattle.interval_file.specs.IntervalHeader.{header_bytes}
use Rattle.ltc_jam.specs.Cells.{intervals_of_lead}
use Rattle.frame_commands.specs.LtcJam.{clean_file, clean_header}
use Rattle.frame_commands.proofs.FramesAnew.{file_begins}
use Rattle.frame_commands.proofs.jam.CleanRecordingFrameSink.begin.Goals as goal

-- what comes first was pushed
pub returns-clause-begins : goal.returns-clause-begins
returns-clause-begins g c =
    let jam = c.args.jam in
    let head : c.put_bytes.new.room.items ≡ header_bytes (clean_header jam c.args.header.now) = cc in
    let first : c.deref.result.now ≡ intervals_of_lead jam.cell = cc in
    let law = c.a_clean_recording_is_written_frame_by_frame.ensures in
    let begins = file_begins law jam c.args.header.now c.put_bytes.new.room.items c.deref.result.now head first in
    let is : c.deref-2.result.now ≡ clean_file jam c.args.header.now [] = c.deref-2.ensures.0 ∙ c.push_intervals.ensures
    ∙ begins in (
      refl,
      subst (λ (l : List ℕ). g.O.Output.given c.args.out.now c.write.new.self l) is c.write.ensures,
    )
