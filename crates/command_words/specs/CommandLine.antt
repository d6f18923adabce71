-- The words of a command line without flags: the command, and the values after it.
use Rattle.std.specs.Prelude.{◌≡◌, ◌==◌, Bool, false, List, [], ◌∷◌, option_map, unwrap_or, codes}
use Rattle.clap.specs.Words.{Text, first_value, found_of, matched_of, raw_values}
use Rattle.clap.specs.declared.parser.matches.ArgMatches.{ArgMatches}

-- the word begins with a dash (45)
abbrev pub begins_with_dash : Text → Bool
begins_with_dash [] = false
begins_with_dash (x ∷ xs) = x == 45

-- it does not
abbrev pub NoDash : Text → Type 0
NoDash word = begins_with_dash word ≡ false

-- no word begins with a dash
abbrev pub NoDashes : List Text → Type 0
NoDashes [] = Unit {0}
NoDashes (word ∷ words) = NoDash word × NoDashes words

-- a command line that was read
pub record Line : Type 0 where
  pub command : Text
  pub values : List Text

-- its words, as they were given
abbrev pub words_of : Line → List Text
words_of line = line.command ∷ line.values

-- what clap found
abbrev pub line_of : ArgMatches → Line
line_of m = record {
  command = unwrap_or (first_value (found_of m) (codes "command")) [];
  values = unwrap_or (option_map raw_values (matched_of (found_of m) (codes "values"))) [];
}
