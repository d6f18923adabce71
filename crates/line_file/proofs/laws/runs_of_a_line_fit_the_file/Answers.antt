use Rattle.line_file.proofs.RunsFit.{stand_for_fits}
use Rattle.line_file.proofs.laws.runs_of_a_line_fit_the_file.Goals as goal

pub returns : goal.returns
returns c = λ n bits runs range stand. stand_for_fits n bits runs range stand
