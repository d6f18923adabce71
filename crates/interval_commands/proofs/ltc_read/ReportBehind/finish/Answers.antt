use Rattle.interval_commands.proofs.LinesGrow.{ends_with}
use Rattle.interval_commands.proofs.ltc_read.ReportBehind.finish.Goals as goal

-- the last line counts what was printed
pub returns : goal.returns
returns g c = λ profile header intervals written stands. (
  c.end_text.result.items,
  rw c.deref.ensures.0 at c.write.ensures,
  ends_with c.args.self.now profile header intervals written c.end_text.result.items stands c.end_text.ensures,
)
