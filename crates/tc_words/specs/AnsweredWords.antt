-- What lists of words are answered, worked out by hand. A word that begins with a dash is the first fault, wherever it
-- stands; then a command that there is not, then how many words it has, and then their values.
use Rattle.std.specs.Prelude.{◌≡◌, List, [], ◌∷◌, codes, Result, Ok, Err}
use Rattle.std.specs.List.{AllByRecursion}
use Rattle.forms.specs.Number.{Word}
use Rattle.tc_job.specs.declared.fault.WordsFault.{WordsFault}
use Rattle.tc_job.specs.declared.fault.WordsFault.TheVariants.{Command, CountOfWords, Dash, Value}
use Rattle.tc_job.specs.declared.job.Job.TheVariants as jobs
use Rattle.tc_job.specs.declared.job.Task.{Task}
use Rattle.tc_job.specs.declared.job.Task.TheVariants.{Stream}
use Rattle.tc_words.specs.Words.{answer_to}

-- words, and what they are answered
abbrev pub answered_words : List (List Word × Result Task WordsFault)
answered_words =
    ([], Err Command)
    ∷ (codes "-" ∷ [], Err (Dash 0))
    ∷ (codes "--help" ∷ codes "-x" ∷ [], Err (Dash 0))
    ∷ (codes "ltc-pcm" ∷ codes "-1" ∷ [], Err (Dash 1))
    ∷ (codes "nothing" ∷ codes "-v" ∷ codes "-x" ∷ [], Err (Dash 1))
    ∷ (codes "ltc-read" ∷ codes "x" ∷ codes "-" ∷ [], Err (Dash 2))
    ∷ (codes "" ∷ [], Err Command)
    ∷ (codes "nothing-" ∷ codes "x" ∷ [], Err Command)
    ∷ (codes "ltc-read" ∷ codes "x" ∷ [], Err CountOfWords)
    ∷ (codes "ltc-pcm" ∷ codes "" ∷ [], Err (Value 1))
    ∷ (codes "ltc-fly" ∷ codes "256" ∷ codes "x" ∷ [], Err (Value 1))
    ∷ (codes "ltc-fly" ∷ codes "2" ∷ codes "x-" ∷ [], Err (Value 2))
    ∷ (codes "ltc-pcm" ∷ codes "8192" ∷ [], Ok (Stream (jobs.LtcPcm 8_192)))
    ∷ (codes "ltc-worn" ∷ [], Ok (Stream jobs.LtcWorn)) ∷ []

-- each has its answer
abbrev pub AreAnswered : List (List Word × Result Task WordsFault) → Type 0
AreAnswered rows = AllByRecursion (λ row. answer_to row.0 ≡ row.1) rows
