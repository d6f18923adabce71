-- A walk of clap over words without a dash: the first is the command, and each other one is a value.
use Rattle.std.proofs.Common.{◌≡◌, ◌∙◌, ◌≤◌, ◌<◌, ◌^◌, ◌&&◌, ◌||◌, ℕ, Bool, true, false, refl, sym, ap, ap₂, arith}
use Rattle.std.proofs.Common.{List, [], ◌∷◌, ◌++◌, length, Some, None, append_assoc, append-nil, codes, cond}
use Rattle.std.specs.Prelude.{IsSome, option_and_then, unwrap_or}
use Rattle.std.specs.List.{fold}
use Rattle.std.specs.Str.{bytes_eq}
use Rattle.clap.specs.Lexer.{usize_max, long_of, long_of_rest, short_of, short_of_rest, strip_byte}
use Rattle.clap.specs.Walk.{Held, Row, Rule, Text, Waiting, Walk, idle, positional, trailing, value, plain_word}
use Rattle.clap.specs.Walk.{short_or_plain, long_or_other, word_met, walked, walk, walk_from, nothing_held, used}
use Rattle.clap.specs.Words.{App, HasMatchesOf, is_simple, matches_of, takes, first_of, first_value, all_of, found_of}
use Rattle.clap.specs.Words.{rows_of}
use Rattle.clap.specs.declared.parser.matches.ArgMatches.{ArgMatches}
use Rattle.clap.proofs.WalkLemmas.{first_value-rows, raw_values-rows}
use Rattle.clap.specs.Simple.{Shape, built}
use Rattle.clap.specs.Takes.{bundle_passes, built_takes, flag_word_passes, settle_passes, turn_passes, values_pass}
use Rattle.clap.specs.Takes.{walk_passes}
use Rattle.std.proofs.lemmas.Bool.{le-leb}
use Rattle.std.specs.Option.{option_map_or}
use Rattle.clap.proofs.OnLiterals.{clap_on_literals}
use Rattle.command_words.specs.Grammar.{command_rule, values_rule, command_app}
use Rattle.command_words.specs.CommandLine.{NoDash, NoDashes, line_of, words_of}

-- ---- the command line

command_app_is_simple : is_simple command_app ≡ true
unfolding clap_on_literals
command_app_is_simple = refl

abbrev top : Shape
top = (built command_app).top

-- ---- a word without a dash is no flag

no_strip : (word : Text) → NoDash word → strip_byte 45 word ≡ None
no_strip [] plain = refl
no_strip (x ∷ xs) plain = rw plain refl

-- nor is it `--`
no_end : (word : Text) → NoDash word → bytes_eq word (45 ∷ 45 ∷ []) ≡ false
no_end [] plain = refl
no_end (x ∷ xs) plain = rw plain refl

-- nor `--name`
no_long : (word : Text) → NoDash word → long_of word ≡ None
no_long word plain = ap (λ rest. option_and_then long_of_rest (option_and_then (strip_byte 45) rest))
    (no_strip word plain)

-- nor `-abc`
no_short : (word : Text) → NoDash word → short_of word ≡ None
no_short word plain = ap (option_and_then short_of_rest) (no_strip word plain)

-- so it is a plain word, whatever waits for a value
plain_met : (c : List Rule) (waiting : Waiting) (position : ℕ) (word : Text) (h : Held) → NoDash word
    → cond (bytes_eq word (45 ∷ 45 ∷ [])) (h, trailing position) (long_or_other c waiting word (long_of word) h)
    ≡ plain_word c waiting word h
plain_met c waiting position word h plain =
    ap (λ b. cond b (h, trailing position) (long_or_other c waiting word (long_of word) h)) (no_end word plain)
    ∙ ap (λ o. long_or_other c waiting word o h) (no_long word plain)
    ∙ ap (λ o. short_or_plain c waiting word o h) (no_short word plain)

plain_idle : (c : List Rule) (position : ℕ) (word : Text) (h : Held) → NoDash word
    → word_met c [] false idle position word h ≡ (h, value)
plain_idle c position word h plain = plain_met c idle position word h plain

plain_positional : (c : List Rule) (position : ℕ) (word : Text) (h : Held) → NoDash word
    → word_met c [] false positional position word h ≡ (h, value)
plain_positional c position word h plain = plain_met c positional position word h plain

-- ---- the walk

abbrev command_rows : Text → List Row
command_rows word = used
    (record command_rule { index = Some 1; range = Some (record { start_inclusive = 1; end_inclusive = 1 }) })
    (word ∷ []) []

abbrev after_command : Text → Walk
after_command word = record {
  held = record { rows = []; pending = Some (codes "command", word ∷ []); skip = 0 };
  waiting = idle;
  position = 2;
  is_trailing = false;
  stopped = None;
}

abbrev after_values : Text → List Text → Walk
after_values word values = record {
  held = record { rows = command_rows word; pending = Some (codes "values", values); skip = 0 };
  waiting = positional;
  position = 2;
  is_trailing = false;
  stopped = None;
}

-- the first word is pending for the command
first_word : (word : Text) → NoDash word → walked top.rules [] (walk_from nothing_held) word ≡ after_command word
unfolding walked
first_word word plain = rw (plain_idle top.rules 1 word nothing_held plain) refl

-- the second one settles the command and is pending for the values
first_value_word : (word v : Text) → NoDash v
    → walked top.rules [] (after_command word) v ≡ after_values word (v ∷ [])
unfolding walked
first_value_word word v plain = rw (plain_idle top.rules 2 v (after_command word).held plain) refl

-- each further one joins the values
next_value_word : (word v : Text) (values : List Text) → NoDash v
    → walked top.rules [] (after_values word values) v ≡ after_values word (values ++ v ∷ [])
unfolding walked
next_value_word word v values plain = rw (plain_positional top.rules 2 v (after_values word values).held plain) refl

-- and so do all of them
next_value_words : (word : Text) (values more : List Text) → NoDashes more
    → fold (walked top.rules []) (after_values word values) more ≡ after_values word (values ++ more)
next_value_words word values [] plain = ap (after_values word) (sym (append-nil values))
next_value_words word values (v ∷ more) plain =
    ap (λ w. fold (walked top.rules []) w more) (next_value_word word v values plain.0)
    ∙ next_value_words word (values ++ v ∷ []) more plain.1
    ∙ ap (after_values word) (append_assoc values (v ∷ []) more)

-- the walk over the whole line
all_words : (word v : Text) (more : List Text) → NoDashes (word ∷ v ∷ more)
    → walk top.rules [] nothing_held (word ∷ v ∷ more) ≡ after_values word (v ∷ more)
all_words word v more plain =
    ap (λ w. fold (walked top.rules []) (walked top.rules [] w v) more) (first_word word plain.0)
    ∙ ap (λ w. fold (walked top.rules []) w more) (first_value_word word v plain.1.0)
    ∙ next_value_words word (v ∷ []) more plain.1.1

-- the rows at its end
values_of_words : (word : Text) (values : List Text) → NoDashes (word ∷ values)
    → (first_of (codes "command") (matches_of command_app (word ∷ values)) ≡ Some word)
    × (unwrap_or (all_of (codes "values") (matches_of command_app (word ∷ values))) [] ≡ values)
values_of_words word [] plain = rw (first_word word plain.0) (refl, refl)
values_of_words word (v ∷ more) plain = rw (all_words word v more plain) (refl, refl)

-- ---- each turn passes

-- no flag is met that could be refused
flags_pass_by : (again : Bool) (word : Text) (h : Held) → NoDash word
    → (bytes_eq word (45 ∷ 45 ∷ []) || flag_word_passes top.rules again (long_of word) word h) ≡ true
flags_pass_by again word h plain =
    ap₂ (λ b o. b || flag_word_passes top.rules again o word h) (no_end word plain) (no_long word plain)
    ∙ ap (λ o. option_map_or (λ flags. bundle_passes top.rules again flags h) o true) (no_short word plain)

both : {a b : Bool} → a ≡ true → b ≡ true → (a && b) ≡ true
both p q = rw p q

turn_command : (word : Text) → NoDash word → turn_passes top [] (walk_from nothing_held) word ≡ true
turn_command word plain = both (flags_pass_by false word nothing_held plain)
    (rw (plain_idle top.rules 1 word nothing_held plain) refl)

turn_first_value : (word v : Text) → NoDash v → turn_passes top [] (after_command word) v ≡ true
turn_first_value word v plain =
    both (flags_pass_by false v (after_command word).held plain)
    (rw (plain_idle top.rules 2 v (after_command word).held plain) refl)

turn_next_value : (word v : Text) (values : List Text) → NoDash v → turn_passes top [] (after_values word values) v
    ≡ true
turn_next_value word v values plain =
    both (flags_pass_by false v (after_values word values).held plain)
    (rw (plain_positional top.rules 2 v (after_values word values).held plain) refl)

-- each turn among the values passes
turns_pass : (word : Text) (values more : List Text) → NoDashes more
    → walk_passes top [] (after_values word values) more ≡ true
unfolding walk_passes
turns_pass word values [] plain = refl
turns_pass word values (v ∷ more) plain =
    both (turn_next_value word v values plain.0)
    (rw (next_value_word word v values plain.0) (turns_pass word (values ++ v ∷ []) more plain.1))

-- ---- clap takes the words

-- any text is a value
values_accepted : (values : List Text) → values_pass values_rule values ≡ true
values_accepted [] = refl
values_accepted (v ∷ values) = values_accepted values

-- as many values as there are may settle
values_settle : (word v : Text) (values : List Text) → length (v ∷ values) ≤ usize_max
    → settle_passes top.rules false (after_values word (v ∷ values)).held ≡ true
values_settle word v values fits =
    both (le-leb 0 (length (v ∷ values)) (omega arith))
    (both (le-leb (length (v ∷ values)) usize_max fits) (values_accepted values))

one_word_passes : (word : Text) → NoDash word → built_takes (built command_app) nothing_held (word ∷ []) ≡ true
unfolding walk_passes
one_word_passes word plain = rw (first_word word plain) (both (both (turn_command word plain) refl) refl)

-- and each turn of the walk
each_turn_passes : (word v : Text) (more : List Text) → NoDashes (word ∷ v ∷ more)
    → walk_passes top [] (walk_from nothing_held) (word ∷ v ∷ more) ≡ true
unfolding walk_passes
each_turn_passes word v more plain =
    both (turn_command word plain.0)
    (rw (first_word word plain.0)
    (both (turn_first_value word v plain.1.0)
    (rw (first_value_word word v plain.1.0) (turns_pass word (v ∷ []) more plain.1.1))))

more_words_pass : (word v : Text) (more : List Text) → length (v ∷ more) ≤ usize_max → NoDashes (word ∷ v ∷ more)
    → built_takes (built command_app) nothing_held (word ∷ v ∷ more) ≡ true
more_words_pass word v more fits plain =
    rw (all_words word v more plain)
    (both (each_turn_passes word v more plain) (both (values_settle word v more fits) refl))

takes_words : (word : Text) (values : List Text) → length values ≤ usize_max → NoDashes (word ∷ values)
    → takes command_app (word ∷ values) ≡ true
takes_words word [] fits plain = both command_app_is_simple (one_word_passes word plain.0)
takes_words word (v ∷ more) fits plain = both command_app_is_simple (more_words_pass word v more fits plain)

-- ---- what was found

-- the rows of such a walk are the command and its values
line_of_words : (m : ArgMatches) (words : List Text) → 0 < length words → NoDashes words
    → rows_of (found_of m) ≡ matches_of command_app words
    → IsSome (first_value (found_of m) (codes "command")) × (words_of (line_of m) ≡ words)
line_of_words m [] some plain rows = absurd (omega arith)
line_of_words m (word ∷ values) some plain rows =
    let said = values_of_words word values plain in
    let command : first_value (found_of m) (codes "command") ≡ Some word =
    first_value-rows (found_of m) (codes "command") ∙ ap (first_of (codes "command")) rows ∙ said.0 in
    let rest : (line_of m).values ≡ values =
    ap (λ o. unwrap_or o []) (raw_values-rows (found_of m) (codes "values") ∙ ap (all_of (codes "values")) rows)
    ∙ said.1 in
    (rw command refl, ap₂ (λ w vs. w ∷ vs) (ap (λ o. unwrap_or o []) command) rest)

-- what clap finds in words without a dash is the words
pub found_line : (app : App) (m : ArgMatches) (words : List Text) → app ≡ command_app → 0 < length words
    → NoDashes words → HasMatchesOf app words m
    → IsSome (first_value (found_of m) (codes "command")) × (words_of (line_of m) ≡ words)
found_line app m words is some plain has =
    line_of_words m words some plain ((has (ap is_simple is ∙ command_app_is_simple)).0
    ∙ ap (λ a. matches_of a words) is)

-- clap takes words without a dash
pub takes_line : (app : App) (words : List Text) → app ≡ command_app → 0 < length words → length words < 2 ^ 64
    → NoDashes words → takes app words ≡ true
takes_line app [] is some fits plain = absurd (omega arith)
takes_line app (word ∷ values) is some fits plain = ap (λ a. takes a (word ∷ values)) is
    ∙ takes_words word values (omega arith) plain
