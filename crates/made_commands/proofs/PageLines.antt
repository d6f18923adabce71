-- The lines of rows: there is room for the next one if there is room for all that are left; and each page has room,
-- since all lines of the tables together have.
use Rattle.std.proofs.Common.{◌≡◌, ◌∙◌, ℕ, suc, ◌+◌, ◌<◌, ◌≤◌, Bool, true, false, List, [], ◌++◌}
use Rattle.std.proofs.Common.{length, drop, map, append_assoc, refl, None, Some, get_or, slice_get, arith}
use Rattle.std.proofs.Common.{ap, subst, sym}
use Rattle.std.specs.declared.option.Option.{Option}
use Rattle.std.specs.Prelude.{codes, nat_le, if◌then◌else◌}
use Rattle.std.specs.List.{sum_by}
use Rattle.std.specs.Option.{option_map}
use Rattle.std.specs.Str.{bytes_eq}
use Rattle.std.proofs.Math.Seq.{drop-cons}
use Rattle.std.proofs.lemmas.Bool.{leb-true}
use Rattle.std.proofs.lemmas.List.{length-append}
use Rattle.std.proofs.lemmas.List.Concat.{length-flat_map}
use Rattle.std.proofs.lemmas.List.Sums.{get_or-le-sum_by, sum_by-le-sum_by}
use Rattle.std.proofs.lemmas.Option.{get_or_from_slice_get, slice_get-get_or, slice_get-map, slice_get_past}
use Rattle.std.proofs.lemmas.Option.{slice_get_within}
use Rattle.made_commands.specs.About.{Usage, usage_line, usages}
use Rattle.made_commands.specs.Pages.{Row, examples, exit_numbers, line_of, page_at, page_in, page_lines, page_text}
use Rattle.made_commands.specs.Pages.{said, statuses_text, text_of, values}

pub a_row_fits : {X : Type 0} (topic : List ℕ) (bytes : X → Row) (rows : List X) (index : ℕ) (d : X)
    → index < length rows
    → length (line_of topic (bytes (get_or rows index d))) ≤ length (page_lines topic (map bytes (drop index rows)))
a_row_fits topic bytes rows index d lt =
    let first = line_of topic (bytes (get_or rows index d)) in
    let more = page_lines topic (map bytes (drop (suc index) rows)) in
    rw (drop-cons rows index d lt) (omega (arith, length-append first more))

-- ---- the page of a row

-- the row with the number
pub page_of_row : {X : Type 0} (bytes : X → Usage) (rows : List X) (page : ℕ) (d : X) → page < length rows
    → page_in (map bytes rows) page ≡ text_of (bytes (get_or rows page d))
page_of_row bytes rows page d within =
    ap page_at (slice_get-map bytes rows page ∙ ap (option_map bytes) (slice_get-get_or rows page d within))

-- no row has it
pub page_of_none : {X : Type 0} (bytes : X → Usage) (rows : List X) (page : ℕ) → length rows ≤ page
    → page_in (map bytes rows) page ≡ []
page_of_none bytes rows page past =
    ap page_at (slice_get-map bytes rows page ∙ ap (option_map bytes) (slice_get_past rows page past))

-- ---- the parts of a page

pub four_long : (a b c d : List ℕ) → length (a ++ b ++ c ++ d) ≡ length a + length b + length c + length d
four_long a b c d = omega (arith, length-append a b, length-append (a ++ b) c, length-append (a ++ b ++ c) d)

pub parts_long : (usage : Usage) → length (text_of usage)
    ≡ length (usage_line usage) + length (page_lines usage.0 said) + length (page_lines usage.0 values)
    + length (page_lines usage.0 examples)
parts_long usage =
    four_long (usage_line usage) (page_lines usage.0 said) (page_lines usage.0 values) (page_lines usage.0 examples)

-- parts that are put one after the other are the whole
pub joined : (start a b c d first second third last : List ℕ) → first ≡ start ++ a → second ≡ first ++ b
    → third ≡ second ++ c → last ≡ third ++ d → last ≡ start ++ (a ++ b ++ c ++ d)
joined start a b c d first second third last one two three four =
    rw (four, three, two, one)
    (rw (append_assoc start a b, append_assoc start (a ++ b) c, append_assoc start (a ++ b ++ c) d) refl)

-- ---- how long they are: the lines of a topic are no longer than those of all

-- how long the line of a row is in the page of its topic
abbrev row_long : Row → ℕ
row_long row = length row.before + length row.words + length row.behind + 1

chosen_within : (is : Bool) (line : List ℕ) → length (if is then line else []) ≤ length line
chosen_within true line = omega arith
chosen_within false line = omega arith

row_within : (topic : List ℕ) (row : Row) → length (line_of topic row) ≤ row_long row
row_within topic row =
    subst (λ (n : ℕ). length (line_of topic row) ≤ n) (four_long row.before row.words row.behind (codes "\n"))
    (chosen_within (bytes_eq row.topic topic) (row.before ++ row.words ++ row.behind ++ codes "\n"))

lines_within : (topic : List ℕ) (rows : List Row) → length (page_lines topic rows) ≤ sum_by row_long rows
lines_within topic rows =
    subst (λ (n : ℕ). n ≤ sum_by row_long rows) (sym (length-flat_map (line_of topic) rows))
    (sum_by-le-sum_by (λ (row : Row). length (line_of topic row)) row_long rows (row_within topic))

-- by the whole of a table, which is one number
table_within : (topic : List ℕ) (rows : List Row) (most : ℕ) → nat_le (sum_by row_long rows) most ≡ true
    → length (page_lines topic rows) ≤ most
table_within topic rows most short = omega (arith, lines_within topic rows, leb-true (sum_by row_long rows) most short)

said_short : nat_le (sum_by row_long said) 6144 ≡ true
unfolding said
said_short = refl

values_short : nat_le (sum_by row_long values) 7168 ≡ true
unfolding values
values_short = refl

examples_short : nat_le (sum_by row_long examples) 2048 ≡ true
unfolding examples
examples_short = refl

statuses_short : nat_le (sum_by row_long exit_numbers) 16384 ≡ true
unfolding exit_numbers
statuses_short = refl

-- the line of a row of the table of usages
abbrev usage_long : Usage → ℕ
usage_long usage = length (usage_line usage)

usages_short : nat_le (sum_by usage_long usages) 1024 ≡ true
usages_short = refl

usage_within : (table : List Usage) (page : ℕ) (usage : Usage) (most : ℕ)
    → nat_le (sum_by usage_long table) most ≡ true → slice_get table page ≡ Some usage → usage_long usage ≤ most
usage_within table page usage most short found =
    let there : usage_long usage ≤ sum_by usage_long table =
    subst (λ (u : Usage). usage_long u ≤ sum_by usage_long table) (get_or_from_slice_get table page usage usage found)
    (get_or-le-sum_by usage_long table page usage (slice_get_within table page usage found)) in
    omega (arith, there, leb-true (sum_by usage_long table) most short)

-- ---- each page has room

text_within : (usage : Usage) → length (usage_line usage) ≤ 1024 → length (text_of usage) ≤ 16384
text_within usage within = omega (
  arith,
  within,
  parts_long usage,
  table_within usage.0 said 6144 said_short,
  table_within usage.0 values 7168 values_short,
  table_within usage.0 examples 2048 examples_short,
)

found_within : (found : Option Usage) → ((usage : Usage) → found ≡ Some usage → length (text_of usage) ≤ 16384)
    → length (page_at found) ≤ 16384
found_within None fits = omega arith
found_within (Some usage) fits = fits usage refl

page_within : (table : List Usage) (page : ℕ) → nat_le (sum_by usage_long table) 1024 ≡ true
    → length (page_in table page) ≤ 16384
page_within table page short =
    found_within (slice_get table page) (λ usage found.
    text_within usage (usage_within table page usage 1024 short found))

pub page_fits : (page : ℕ) → length (page_text page) ≤ 16384
unfolding page_text
page_fits page = page_within usages page usages_short

pub statuses_fit : length statuses_text ≤ 16384
unfolding statuses_text
statuses_fit = table_within (codes "statuses") exit_numbers 16384 statuses_short
