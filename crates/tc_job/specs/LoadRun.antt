-- What the words say of a load run.
use Rattle.std.specs.Prelude.{ℕ, ◌^◌, ◌<◌, ◌≤◌}
use Rattle.tc_job.specs.declared.load_run.TheConstants.{MAX_WORDS}

-- a seed, and how many words are made and read
pub record Loading : Type 0 where
  pub seed : ℕ
  pub words : ℕ

-- a load run, by its values
abbrev pub loading_of : ℕ → ℕ → Loading
loading_of seed words = record { seed = seed; words = words }

-- a seed of 64 bits and some words, and not too many
pub record IsLoading (l : Loading) : Type 0 where
  pub seed : l.seed < 2 ^ 64
  pub some : 1 ≤ l.words
  pub not_too_many : l.words ≤ MAX_WORDS
