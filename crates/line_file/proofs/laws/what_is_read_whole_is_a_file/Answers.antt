use Rattle.line_file.proofs.ReadWhole.{read_whole}
use Rattle.line_file.proofs.laws.what_is_read_whole_is_a_file.Goals as goal

pub returns : goal.returns
returns c = read_whole
