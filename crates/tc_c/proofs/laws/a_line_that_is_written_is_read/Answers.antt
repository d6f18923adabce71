use Rattle.vitc_line.specs.Spelled.{line_of}
use Rattle.tc_c.proofs.laws.a_line_that_is_written_is_read.Goals as goal

-- the line of the word spells it, and its runs stand for it
pub returns : goal.returns
returns c =
    let lines = c.each_word_has_its_line.ensures in
    let runs = c.each_line_has_its_runs.ensures in
    record {
      line = λ numbers word n means small long. runs.line n (line_of word) long
          (lines.width word means.fields small) (lines.odd word means.fields small);
      word = λ numbers word n means small long. (
        line_of word,
        runs.stand n (line_of word) long (lines.width word means.fields small) (lines.odd word means.fields small),
        lines.spells word means.fields small,
      );
    }
