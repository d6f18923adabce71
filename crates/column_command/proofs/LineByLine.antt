-- Each line of a text is answered by itself, and stays one line: no answer has a newline, and none is empty.
use Rattle.std.proofs.Common.{Bool, true, false, cond, nat_le, None, ◌≡◌, ◌<◌, ℕ, List, [], ◌∷◌, ◌++◌, ap, ap₂, arith}
use Rattle.std.proofs.Common.{append-nil, inl, inr, length, map, refl, subst, sym, Some}
use Rattle.std.proofs.Common.{append_assoc, ◌∙◌}
use Rattle.std.specs.Prelude.{◌⊎◌, ◌≢◌, ⊤}
use Rattle.std.specs.List.{AllByRecursion}
use Rattle.std.proofs.lemmas.Bool.{cases_eq, ne_eqb}
use Rattle.std.proofs.lemmas.List.{length-append}
use Rattle.std.proofs.lemmas.List.Folds.{flat_map-map}
use Rattle.column_command.specs.AnsweredText.{answered_part, lines_of}
use Rattle.column_command.specs.LineLemmas.{line_alone, line_first}
use Rattle.column_command.specs.Written.{answered_by, first_label, length_from, with_length, written_line}
use Rattle.column_command.specs.Written.{written_or_long}
use Rattle.column_command.specs.OnlyColumns.{AreTheLines, Change, IsAnswered, OnlyColumnsChange, becomes, was}
use Rattle.label_columns.specs.Columns.{answer_to, line_columns}
use Rattle.label_columns.specs.Parts.{Part, in_front, joined, part_of, parted, whole}
use Rattle.label_command.specs.TextLines.{IsLine}
use Rattle.label_lines.specs.declared.timebase.Timebase.{Timebase}
use Rattle.label_lines.specs.declared.way.Way.{Way}
use Rattle.std.specs.declared.option.Option.{Option}
use Rattle.label_columns.specs.declared.columns.TheConstants.{MAX_COLUMN_LINE}
use Rattle.tc_address.specs.Label.{Address}
use Rattle.tc_job.specs.declared.column_run.ColumnRun.{ColumnRun}

-- what is put in the place of a column is a line, of one byte at least
abbrev pub AnswersAreLines : Type 0
AnswersAreLines = (base : Timebase) (way : Way) (column put : List ℕ) → answer_to base way column ≡ Some put
    → IsLine put × (0 < length put)

-- ---- the lines of a text

-- the last line is ended, or it has a byte
abbrev IsLast : Part → Type 0
IsLast line = (line.end ≡ 10 ∷ []) ⊎ ((line.end ≡ []) × (0 < length line.body))

-- lines without a newline in them, each with one behind it, but the last one need not have it
AreLines : List Part → Type 0
AreLines [] = ⊤
AreLines (line ∷ []) = IsLine line.body × IsLast line
AreLines (line ∷ next ∷ lines) = IsLine line.body × (line.end ≡ 10 ∷ []) × AreLines (next ∷ lines)

ended_first : (line : Part) (lines : List Part) → IsLine line.body → line.end ≡ 10 ∷ [] → AreLines lines
    → AreLines (line ∷ lines)
unfolding AreLines
ended_first line [] is end lines = (is, inl end)
ended_first line (next ∷ more) is end lines = (is, end, lines)

byte_first : (byte : ℕ) (lines : List Part) → byte ≢ 10 → AreLines lines → AreLines (in_front byte lines)
unfolding AreLines
byte_first byte [] other lines = ((other, tt), inr (refl, omega arith))
byte_first byte (line ∷ []) other lines = ((other, lines.0), last lines.1)
  where
    last : IsLast line → IsLast (part_of (byte ∷ line.body) line.end)
    last (inl end) = inl end
    last (inr none) = inr (none.0, omega arith)
byte_first byte (line ∷ next ∷ more) other lines = ((other, lines.0), lines.1, lines.2)

lines_are : (text : List ℕ) → AreLines (lines_of text)
unfolding parted AreLines
lines_are [] = tt
lines_are (byte ∷ bytes) = elim (cases_eq byte 10) [
  | inl newline ↦
      rw newline (ended_first (part_of [] (10 ∷ [])) (lines_of bytes) tt refl (lines_are bytes))
  | inr other ↦ rw (ne_eqb byte 10 other) (byte_first byte (lines_of bytes) other (lines_are bytes))
]

-- such lines are those of their bytes
last_alone : (line : Part) → IsLine line.body → IsLast line → lines_of (joined (line ∷ [])) ≡ line ∷ []
unfolding parted
last_alone line is (inl end) =
    ap lines_of (append-nil (line.body ++ line.end) ∙ ap (λ (l : List ℕ). line.body ++ l) end)
    ∙ line_first line.body [] is ∙ ap (λ (l : List ℕ). part_of line.body l ∷ []) (sym end)
last_alone line is (inr none) = by_body line.body is none.1
  where
    by_body : (body : List ℕ) → IsLine body → 0 < length body
        → lines_of (((body ++ line.end) ++ [])) ≡ part_of body line.end ∷ []
    by_body [] is some = absurd (omega (arith, some))
    by_body (byte ∷ body) is some =
        ap lines_of (append-nil ((byte ∷ body) ++ line.end)
        ∙ ap (λ (l : List ℕ). (byte ∷ body) ++ l) none.0 ∙ append-nil (byte ∷ body))
        ∙ line_alone byte body is ∙ ap (λ (l : List ℕ). part_of (byte ∷ body) l ∷ []) (sym none.0)

joined_lines : (lines : List Part) → AreLines lines → lines_of (joined lines) ≡ lines
unfolding parted AreLines
joined_lines [] are = refl
joined_lines (line ∷ []) are = last_alone line are.0 are.1
joined_lines (line ∷ next ∷ lines) are =
    ap lines_of (ap (λ (l : List ℕ). (line.body ++ l) ++ joined (next ∷ lines)) are.1
    ∙ append_assoc line.body (10 ∷ []) (joined (next ∷ lines)))
    ∙ line_first line.body (joined (next ∷ lines)) are.0
    ∙ ap₂ (λ (l : List ℕ) (ls : List Part). part_of line.body l ∷ ls) (sym are.1) (joined_lines (next ∷ lines) are.2)

-- ---- a line with its answers

all_first : (P : ℕ → Type 0) (a b : List ℕ) → AllByRecursion P (a ++ b)
    → AllByRecursion P a × AllByRecursion P b
all_first P [] b all = (tt, all)
all_first P (x ∷ a) b all = let rest = all_first P a b all.1 in ((all.0, rest.0), rest.1)

all_of : (P : ℕ → Type 0) (a b : List ℕ) → AllByRecursion P a → AllByRecursion P b → AllByRecursion P (a ++ b)
all_of P [] b one other = other
all_of P (x ∷ a) b one other = (one.0, all_of P a b one.1 other)

abbrev Other : ℕ → Type 0
Other byte = byte ≢ 10

becomes_a_line : AnswersAreLines → (run : ColumnRun) (all : List (List ℕ)) (changes : List Change)
    → AllByRecursion (IsAnswered run 1 all) changes → IsLine (was changes) → IsLine (becomes changes)
becomes_a_line lines run all [] each is = tt
becomes_a_line lines run all (c ∷ changes) each is =
    let parts = all_first Other (c.before ++ c.column) (was changes) is in
    let front = all_first Other c.before c.column parts.0 in
    let put = lines run.labels.base run.labels.way c.column c.put each.0.answer in
    all_of Other (c.before ++ c.put) (becomes changes) (all_of Other c.before c.put front.0 put.0)
    (becomes_a_line lines run all changes each.1 parts.1)

-- it is one line still
changed_line : AnswersAreLines → (run : ColumnRun) (line written : List ℕ) → OnlyColumnsChange run line written
    → IsLine line → IsLine written
changed_line lines run line written only is =
    let parts = all_first Other (was only.changes) only.rest (subst IsLine only.bytes_are is) in
    subst IsLine (sym only.written_are)
    (all_of Other (becomes only.changes) only.rest
    (becomes_a_line lines run _ only.changes only.each parts.0) parts.1)

-- and not empty, if it was not
changed_some : AnswersAreLines → (run : ColumnRun) (line written : List ℕ) → OnlyColumnsChange run line written
    → 0 < length line → 0 < length written
changed_some lines run line written only some = go only.changes only.each only.bytes_are only.written_are
  where
    go : (changes : List Change)
        → AllByRecursion (IsAnswered run 1 (line_columns run.columns.parting line)) changes → line ≡ was changes ++ only.rest
        → written ≡ becomes changes ++ only.rest → 0 < length written
    go [] each is becoming = rw becoming (rw is at some)
    go (c ∷ changes) each is becoming =
        let put = (lines run.labels.base run.labels.way c.column c.put each.0.answer).1 in
        rw becoming (omega (
          arith,
          put,
          length-append ((c.before ++ c.put) ++ becomes changes) only.rest,
          length-append (c.before ++ c.put) (becomes changes),
          length-append c.before c.put,
        ))

-- whatever is written of it
abbrev StaysALine : List ℕ → List ℕ → Type 0
StaysALine line written = (IsLine line → IsLine written) × (0 < length line → 0 < length written)

as_it_is : (line : List ℕ) → StaysALine line line
as_it_is line = (λ is. is, λ some. some)

-- in a line with its answers only columns change
abbrev pub LinesChange : Type 0
LinesChange = (run : ColumnRun) (line : List ℕ) → OnlyColumnsChange run line (answered_by run line)

with_answers : AnswersAreLines → LinesChange → (run : ColumnRun) (line : List ℕ)
    → StaysALine line (answered_by run line)
with_answers lines changes run line = (
  changed_line lines run line (answered_by run line) (changes run line),
  changed_some lines run line (answered_by run line) (changes run line),
)

with_its_length : AnswersAreLines → LinesChange → (run : ColumnRun) (line : List ℕ) (first : Option Address)
    → StaysALine line (with_length run first line)
with_its_length lines changes run line None = as_it_is line
with_its_length lines changes run line (Some first) = with_answers lines changes (length_from run first) line

as_written : AnswersAreLines → LinesChange → (run : ColumnRun) (line : List ℕ) → StaysALine line (written_line run line)
unfolding written_line
as_written lines changes run line = by_kind run.is_length
  where
    by_kind : (is_length : Bool)
        → StaysALine line (cond is_length (with_length run (first_label run line) line) (answered_by run line))
    by_kind true = with_its_length lines changes run line (first_label run line)
    by_kind false = with_answers lines changes run line

written_or_long_stays : AnswersAreLines → LinesChange → (run : ColumnRun) (line : List ℕ)
    → StaysALine line (written_or_long run line)
written_or_long_stays lines changes run line = by_length (nat_le (length line) MAX_COLUMN_LINE)
  where
    by_length : (short : Bool) → StaysALine line (cond short (written_line run line) line)
    by_length true = as_written lines changes run line
    by_length false = as_it_is line

-- ---- all lines

answered_lines : AnswersAreLines → LinesChange
    → (run : ColumnRun) (lines : List Part) → AreLines lines → AreLines (map (answered_part run) lines)
unfolding AreLines
answered_lines lines changes run [] are = tt
answered_lines lines changes run (line ∷ []) are = (
  (written_or_long_stays lines changes run line.body).0 are.0,
  last are.1,
)
  where
    last : IsLast line → IsLast (answered_part run line)
    last (inl end) = inl end
    last (inr none) = inr (none.0, (written_or_long_stays lines changes run line.body).1 none.1)
answered_lines lines changes run (line ∷ next ∷ more) are = (
  (written_or_long_stays lines changes run line.body).0 are.0,
  are.1,
  answered_lines lines changes run (next ∷ more) are.2,
)

pub text_line_by_line : AnswersAreLines → LinesChange → (run : ColumnRun) (text : List ℕ) → AreTheLines run text
text_line_by_line lines changes run text =
    ap lines_of (sym (flat_map-map whole (answered_part run) (lines_of text)))
    ∙ joined_lines (map (answered_part run) (lines_of text))
    (answered_lines lines changes run (lines_of text) (lines_are text))
