use Rattle.wave_file.proofs.JudgedRate.{judged_rate}
use Rattle.wave_file.proofs.laws.the_rate_of_a_format_is_judged.Goals as goal

pub returns : goal.returns
returns c = judged_rate
