-- What clap is given of the command line: a required word, and any number of values.
use Rattle.std.specs.Prelude.{true, Some, codes}
use Rattle.clap.specs.Lexer.{usize_max}
use Rattle.clap.specs.Words.{App, Rule, new_app, new_rule, with_rule}
use Rattle.clap.specs.declared.builder.ArgAction.TheVariants.{Set, Append}

-- the command
abbrev pub command_rule : Rule
command_rule = record (new_rule (codes "command")) { required = true; action = Some Set }

-- the words after it
abbrev pub values_rule : Rule
values_rule = record (new_rule (codes "values")) {
  range = Some (record { start_inclusive = 0; end_inclusive = usize_max });
  action = Some Append;
}

-- all words are read, since none is the program's name, and no flag is added
abbrev pub bare : App
bare = record (new_app (codes "tc")) {
  top = record (new_app (codes "tc")).top { no_binary_name = true; disable_help_flag = true };
}

-- the command line: a command, and its values
abbrev pub command_app : App
command_app = with_rule (with_rule bare command_rule) values_rule
