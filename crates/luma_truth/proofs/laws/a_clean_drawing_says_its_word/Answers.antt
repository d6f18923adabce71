use Rattle.luma_truth.proofs.CleanDrawing.{carries_its_word, says_its_word}
use Rattle.luma_truth.proofs.laws.a_clean_drawing_says_its_word.Goals as goal

pub returns-clause-says : goal.returns-clause-says
returns-clause-says c = says_its_word

pub returns-clause-carries : goal.returns-clause-carries
returns-clause-carries c = carries_its_word
