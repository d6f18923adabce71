use Rattle.std.proofs.lemmas.Bool.{not-true}
use Rattle.frame_commands.proofs.NextFrame.{quiet_by}
use Rattle.frame_commands.proofs.frames.Frames.is_quiet.Goals as goal

-- nothing is due by then
pub returns : goal.returns
returns c = record {
  quiet = λ quiet. quiet_by
      (record { given = c.frames_come_in_order.ensures.given; later = c.frames_of_a_front_come_first.ensures })
      c.args.self.now.wheel c.args.until (λ words earlier given stands before. c.due.ensures.stands words earlier given
      stands before (not-true c.due.result quiet));
}
