use Rattle.wave_file.proofs.Answered.{told_taken}
use Rattle.wave_file.proofs.laws.a_decoder_tells_the_file.Goals as goal

-- within the limit the bytes say what their file says
pub returns : goal.returns
returns c = λ d bytes samples is stands.
    told_taken d.asked d.notes d.place d.stage bytes samples is.stage is.wait is.within stands
