use Rattle.ltc_jam.proofs.Steady.{frame_by_frame}
use Rattle.ltc_jam.proofs.laws.a_clean_recording_is_written_frame_by_frame.Goals as goal

pub returns : goal.returns
returns c = frame_by_frame
