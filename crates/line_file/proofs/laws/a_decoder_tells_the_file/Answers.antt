use Rattle.line_file.proofs.DecoderMore.{told_good}
use Rattle.line_file.proofs.laws.a_decoder_tells_the_file.Goals as goal

pub returns : goal.returns
returns c = λ d bytes answers s. told_good d.header d.place d.fields bytes answers s
